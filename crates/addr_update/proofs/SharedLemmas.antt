-- In an update's placement each entry stands in exactly one bundle.
use Rattle.std.proofs.Common.{◌≡◌, ◌<◌, ◌≤◌, ℕ, ◌⊎◌, inl, inr, Bool, true, false, List, get_or, length, Some, None, refl, sym, ap, subst, ◌∙◌, arith}
use Rattle.std.proofs.lemmas.Bool.{false≢true}
use Rattle.std.proofs.lemmas.Cmp.{on_total, nat_list_cmp_total}
use Rattle.std.proofs.lemmas.List.Elements.{All-contains, All-from_recursion}
use Rattle.std.proofs.lemmas.Option.{slice_get_cases, slice_get_within}
use Rattle.std.specs.Cmp.{IsTotalOrder}
use Rattle.std.specs.List.{Contains, slice_get}
use Rattle.addr_base.specs.declared.ids.Guid.{Guid}
use Rattle.addr_layout.specs.Members.{IsShared}
use Rattle.addr_layout.proofs.RankLemmas.{same-some}
use Rattle.addr_pack.specs.Placement.{InBundle, IsPlaced}
use Rattle.addr_pack.specs.declared.bundles.Plan.{Plan}
use Rattle.addr_pack.specs.declared.bundles.PlanBundle.{PlanBundle}
use Rattle.addr_project.specs.declared.model.Entry.{Entry}
use Rattle.addr_project.specs.declared.model.Group.{Group}
use Rattle.addr_project.specs.Kept.{IsKept, IsKeptEntry}
use Rattle.addr_project.specs.Model.{Project}
use Rattle.addr_walks.proofs.Lists.{Contains-none, Contains-slice_get, slice_get-Contains, sorted-once}
use Rattle.addr_update.specs.declared.model.KeptBundle.{KeptBundle}
use Rattle.addr_update.specs.Moved.{IsIn, IsUnfixed}
use Rattle.addr_update.specs.Placement.{CanMove, IsUpdateBundle, IsUpdatePlan, by_name, kept_bundle, moved_bundle}

at_place : {X : Type 0} (xs : List X) (i : ℕ) → i < length xs → (x : X) × (slice_get xs i ≡ Some x)
at_place {X} xs i small = by_case (slice_get_cases xs i).1
  where
    by_case : ((x : X) × (i < length xs) × (slice_get xs i ≡ Some x) × (get_or xs i x ≡ x)) ⊎ ((length xs ≤ i) × (slice_get xs i ≡ None)) → (x : X) × (slice_get xs i ≡ Some x)
    by_case (inl (x, within, is, read)) = (x, is)
    by_case (inr (past, none)) = absurd (omega arith)

pub name-order : IsTotalOrder by_name
name-order = on_total (λ (b : PlanBundle). b.name) nat_list_cmp_total

-- an entry of a bundle whose group isn't fixed is of no fixed group
pub unfixed-entry : (p : Project) (now : Plan) → IsPlaced p now → (c : ℕ) (bundle : PlanBundle) (x : ℕ) → slice_get now.bundles c ≡ Some bundle → IsUnfixed p bundle.group → Contains bundle.entries x
    → ((a : Guid) × (g : Group) × IsIn p x a g × (g.fixed ≡ true)) → ⊥
unfixed-entry p now placed c bundle x at (g, group, free) here (a, h, (e, there, numbered, of), fixed) =
    let named = (placed.classes c bundle at).named x here in
    let entry : named.0 ≡ e = same-some named.0 e (sym named.1 ∙ there) in
    let same : g ≡ h = same-some g h (sym group ∙ (ap (slice_get p.groups) (named.2 ∙ ap (λ (y : Entry). y.group) entry) ∙ of)) in
    false≢true (sym free ∙ (ap (λ (y : Group). y.fixed) same ∙ fixed))

module _ (p : Project) (now : Plan) (kept : List KeptBundle) (moved : List ℕ) (plan : Plan) (project : IsKept p) (placed : IsPlaced p now) (can : CanMove p kept moved) (updated : IsUpdatePlan p now kept moved plan) where
  abbrev Kinds : PlanBundle → ℕ → Type 0
  Kinds bundle x = ((c : ℕ) × (slice_get now.bundles c ≡ Some bundle) × IsUnfixed p bundle.group)
      ⊎ ((Contains moved x × (bundle ≡ moved_bundle p moved)) ⊎ ((k : KeptBundle) × Contains kept k × Contains k.entries x × (bundle ≡ kept_bundle k)))

  kind-of : (b : ℕ) (bundle : PlanBundle) (x : ℕ) → slice_get plan.bundles b ≡ Some bundle → Contains bundle.entries x → Kinds bundle x
  kind-of b bundle x at here = by_kind (updated.within bundle (Contains-slice_get plan.bundles b bundle at))
    where
      by_kind : IsUpdateBundle p now kept moved bundle → Kinds bundle x
      by_kind (inl (in', free)) = let there = slice_get-Contains now.bundles bundle in' in inl (there.0, there.1, free)
      by_kind (inr (inl (some, is))) = inr (inl (subst (λ (y : PlanBundle). Contains y.entries x) is here, is))
      by_kind (inr (inr (k, in', is))) = inr (inr (k, in', subst (λ (y : PlanBundle). Contains y.entries x) is here, is))

  same-bundle : (b c : PlanBundle) (x : ℕ) → Contains b.entries x → Contains c.entries x → Kinds b x → Kinds c x → b ≡ c
  same-bundle b c x here there (inl (i, at, free)) (inl (j, also, other)) =
      let same : i ≡ j = (placed.same i j x x (b, at, here) (c, also, there)).1 (inl refl) in
      same-some b c (sym at ∙ (ap (slice_get now.bundles) same ∙ also))
  same-bundle b c x here there (inl (i, at, free)) (inr (inl (in', is))) = absurd (unfixed-entry p now placed i b x at free here (can.moves x in'))
  same-bundle b c x here there (inl (i, at, free)) (inr (inr (k, in', has, is))) = absurd (unfixed-entry p now placed i b x at free here (can.keeps k x in' has))
  same-bundle b c x here there (inr (inl (in', is))) (inl (j, at, free)) = absurd (unfixed-entry p now placed j c x at free there (can.moves x in'))
  same-bundle b c x here there (inr (inl (in', is))) (inr (inl (also, are))) = is ∙ sym are
  same-bundle b c x here there (inr (inl (in', is))) (inr (inr (k, at, has, are))) = absurd (can.apart k x at has in')
  same-bundle b c x here there (inr (inr (k, at, has, is))) (inl (j, also, free)) = absurd (unfixed-entry p now placed j c x also free there (can.keeps k x at has))
  same-bundle b c x here there (inr (inr (k, at, has, is))) (inr (inl (in', are))) = absurd (can.apart k x at has in')
  same-bundle b c x here there (inr (inr (k, at, has, is))) (inr (inr (l, also, too, are))) = is ∙ (ap kept_bundle (can.one k l x at also has too) ∙ sym are)

  in-plan : (bundle : PlanBundle) (x : ℕ) → IsUpdateBundle p now kept moved bundle → Contains bundle.entries x → (b : ℕ) × InBundle plan b x
  in-plan bundle x is here = let at = slice_get-Contains plan.bundles bundle (updated.all bundle is) in (at.0, (bundle, at.1, here))

  fixed-placed : (x : ℕ) → Contains moved x ⊎ ((k : KeptBundle) × Contains kept k × Contains k.entries x) → (b : ℕ) × InBundle plan b x
  fixed-placed x (inl here) = in-plan (moved_bundle p moved) x (inr (inl (λ none. Contains-none x (subst (λ xs. Contains xs x) none here), refl))) here
  fixed-placed x (inr (k, in', here)) = in-plan (kept_bundle k) x (inr (inr (k, in', refl))) here

  entry-placed : (x : ℕ) → x < length p.entries → (b : ℕ) × InBundle plan b x
  entry-placed x small = by_fixed group.0.fixed refl
    where
      entry : (e : Entry) × (slice_get p.entries x ≡ Some e)
      entry = at_place p.entries x small

      known : IsKeptEntry p entry.0
      known = All-contains (IsKeptEntry p) p.entries entry.0 (All-from_recursion (IsKeptEntry p) p.entries project.entries) (Contains-slice_get p.entries x entry.0 entry.1)

      group : (g : Group) × (slice_get p.groups entry.0.group ≡ Some g)
      group = at_place p.groups entry.0.group known.group

      by_fixed : (t : Bool) → group.0.fixed ≡ t → (b : ℕ) × InBundle plan b x
      by_fixed true fixed = (let asset = at_place p.assets entry.0.asset known.asset in fixed-placed x (can.each x asset.0.guid group.0 (entry.0, entry.1, (asset.0, asset.1, refl), group.1) fixed))
      by_fixed false free =
          let own = placed.each x small in
          let named = (placed.classes own.0 own.1.0 own.1.1).named x own.1.2 in
          let same : named.0 ≡ entry.0 = same-some named.0 entry.0 (sym named.1 ∙ entry.1) in
          in-plan own.1.0 x (inl (Contains-slice_get now.bundles own.0 own.1.0 own.1.1, (group.0, ap (slice_get p.groups) (named.2 ∙ ap (λ (y : Entry). y.group) same) ∙ group.1, free))) own.1.2

  within : (b x : ℕ) → InBundle plan b x → x < length p.entries
  within b x (bundle, at, here) = by_kind (kind-of b bundle x at here)
    where
      by_kind : Kinds bundle x → x < length p.entries
      by_kind (inl (c, there, free)) = let named = (placed.classes c bundle there).named x here in slice_get_within p.entries x named.0 named.1
      by_kind (inr (inl (in', is))) = let no = can.moves x in' in slice_get_within p.entries x no.2.0 no.2.1
      by_kind (inr (inr (k, in', has, is))) = let no = can.keeps k x in' has in slice_get_within p.entries x no.2.0 no.2.1

  pub shared-plan : IsShared p plan
  shared-plan = record {
    each = entry-placed;
    one = λ b c x (first, at, here) (second, also, there).
        let same = same-bundle first second x here there (kind-of b first x at here) (kind-of c second x also there) in
        sorted-once name-order plan.bundles updated.rising b c second (at ∙ ap Some same) also;
    entries = within;
  }
