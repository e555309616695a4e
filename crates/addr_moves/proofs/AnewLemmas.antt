-- Names by the GUIDs of entries: one more entry, one more bundle.
use Rattle.std.proofs.Common.{◌≡◌, ◌<◌, ◌+◌, ◌⊎◌, inl, inr, ℕ, Bool, true, false, List, [], ◌∷◌, ◌++◌, length, Option, Some, None, refl, sym, ap, subst, ◌∙◌, arith}
use Rattle.std.proofs.lemmas.Bool.{cases_order, false≢true}
use Rattle.std.proofs.lemmas.List.Elements.{Contains-append_left, Contains-push, Contains-push_cases}
use Rattle.std.proofs.lemmas.Option.{slice_get_within}
use Rattle.std.specs.List.{Contains, slice_get}
use Rattle.addr_base.specs.Ids.{digest_of}
use Rattle.addr_base.specs.declared.ids.Digest.{Digest}
use Rattle.addr_base.specs.declared.ids.Guid.{Guid}
use Rattle.addr_layout.proofs.GuidLemmas.{same-guid}
use Rattle.addr_layout.proofs.RankLemmas.{same-some}
use Rattle.addr_layout.specs.Members.{IsEntryOf}
use Rattle.addr_pack.specs.declared.bundles.Plan.{Plan}
use Rattle.addr_pack.specs.declared.bundles.PlanBundle.{PlanBundle}
use Rattle.addr_project.specs.Model.{Project}
use Rattle.addr_release.specs.Names.{digest_from}
use Rattle.addr_update.specs.Moved.{IsUnfixed}
use Rattle.addr_walks.proofs.Lists.{Contains-none}
use Rattle.addr_moves.specs.within.Anew.{AddsFree, AddsNames, AreAnew, HasFree, HasOne, IsAnewAt, IsFree}
use Rattle.addr_moves.proofs.FirstLemmas.{Puts, text-cases}
use Rattle.addr_moves.proofs.HolderLemmas.{one-asset}

pub names-none : (p : Project) (find : List ℕ → Option Digest) (name : Digest) → AddsNames p find [] name find
names-none p find name a = inr ((λ (x, here, entry). Contains-none x here), refl)

pub names-more : (p : Project) (old find new : List ℕ → Option Digest) (entries : List ℕ) (x : ℕ) (g : Guid) (key : List ℕ) (name : Digest) → IsEntryOf p x g → key ≡ g.0 → Puts find key name new
    → AddsNames p old entries name find → AddsNames p old (entries ++ x ∷ []) name new
names-more p old find new entries x g key name entry own puts before a = by_same (text-cases key a.0) (before a)
  where
    wider : HasOne p entries a → HasOne p (entries ++ x ∷ []) a
    wider (y, here, is) = (y, Contains-append_left entries (x ∷ []) y here, is)

    none-more : (key ≡ a.0 → ⊥) → (HasOne p entries a → ⊥) → HasOne p (entries ++ x ∷ []) a → ⊥
    none-more other none (y, here, is) = by_side (Contains-push_cases entries x y here)
      where
        by_side : Contains entries y ⊎ (x ≡ y) → ⊥
        by_side (inl old') = none (y, old', is)
        by_side (inr same) = other (own ∙ ap (λ (d : Guid). d.0) (one-asset p x g a entry (subst (λ n. IsEntryOf p n a) (sym same) is)))

    by_same : (key ≡ a.0) ⊎ (key ≡ a.0 → ⊥) → (HasOne p entries a × (find a.0 ≡ Some name)) ⊎ ((HasOne p entries a → ⊥) × (find a.0 ≡ old a.0))
        → (HasOne p (entries ++ x ∷ []) a × (new a.0 ≡ Some name)) ⊎ ((HasOne p (entries ++ x ∷ []) a → ⊥) × (new a.0 ≡ old a.0))
    by_same (inl same) either = inl ((x, Contains-push entries x, subst (IsEntryOf p x) (same-guid g a (sym own ∙ same)) entry), ap new (sym same) ∙ puts.0)
    by_same (inr other) (inl (has, is)) = inl (wider has, puts.1 a.0 other ∙ is)
    by_same (inr other) (inr (none, is)) = inr (none-more other none, puts.1 a.0 other ∙ is)

module _ (p : Project) (now : Plan) where
  pub anew-none : (find : List ℕ → Option Digest) → ((text : List ℕ) → find text ≡ None) → AreAnew p now 0 find
  anew-none find none a = subst (IsAnewAt p now 0 a) (sym (none a.0)) (λ c bundle (less, at, free, has). omega (arith, less))

  pass-none : (k : ℕ) (a : Guid) → ((bundle : PlanBundle) → slice_get now.bundles k ≡ Some bundle → IsUnfixed p bundle.group → HasOne p bundle.entries a → ⊥) → IsAnewAt p now k a None
      → (c : ℕ) (bundle : PlanBundle) → HasFree p now (k + 1) a c bundle → ⊥
  pass-none k a never none c bundle (less, at, free, has) = by_order (cases_order c k)
    where
      by_order : (c ≡ k) ⊎ ((c < k) ⊎ (k < c)) → ⊥
      by_order (inl same) = never bundle (ap (slice_get now.bundles) (sym same) ∙ at) free has
      by_order (inr (inl before)) = none c bundle (before, at, free, has)
      by_order (inr (inr after)) = omega (arith, less, after)

  pass : (k : ℕ) (a : Guid) (o : Option Digest) → ((bundle : PlanBundle) → slice_get now.bundles k ≡ Some bundle → IsUnfixed p bundle.group → HasOne p bundle.entries a → ⊥) → IsAnewAt p now k a o → IsAnewAt p now (k + 1) a o
  pass k a None never none = pass-none k a never none
  pass k a (Some name) never (c, bundle, (less, at, free, has), is) = (c, bundle, (omega (arith, less), at, free, has), is)

  pub anew-more : (k : ℕ) (bundle : PlanBundle) (find new : List ℕ → Option Digest) → slice_get now.bundles k ≡ Some bundle → AddsFree p find bundle new → AreAnew p now k find → AreAnew p now (k + 1) new
  anew-more k bundle find new at adds before a = by_free adds
    where
      own : (other : PlanBundle) → slice_get now.bundles k ≡ Some other → bundle ≡ other
      own other there = same-some bundle other (sym at ∙ there)

      keeps : ((other : PlanBundle) → slice_get now.bundles k ≡ Some other → IsUnfixed p other.group → HasOne p other.entries a → ⊥) → new a.0 ≡ find a.0 → IsAnewAt p now (k + 1) a (new a.0)
      keeps never same = subst (IsAnewAt p now (k + 1) a) (sym same) (pass k a (find a.0) never (before a))

      by_side : IsUnfixed p bundle.group → (HasOne p bundle.entries a × (new a.0 ≡ Some (digest_from bundle.name))) ⊎ ((HasOne p bundle.entries a → ⊥) × (new a.0 ≡ find a.0)) → IsAnewAt p now (k + 1) a (new a.0)
      by_side free (inl (has, is)) = subst (IsAnewAt p now (k + 1) a) (sym is) (k, bundle, (omega arith, at, free, has), refl)
      by_side free (inr (none, is)) = keeps (λ other there free' has. none (subst (λ (b : PlanBundle). HasOne p b.entries a) (sym (own other there)) has)) is

      by_free : (IsUnfixed p bundle.group × AddsNames p find bundle.entries (digest_from bundle.name) new) ⊎ ((IsUnfixed p bundle.group → ⊥) × ((d : Guid) → new d.0 ≡ find d.0)) → IsAnewAt p now (k + 1) a (new a.0)
      by_free (inl (free, each)) = by_side free (each a)
      by_free (inr (fixed, same)) = keeps (λ other there free has. fixed (subst (λ (b : PlanBundle). IsUnfixed p b.group) (sym (own other there)) free)) (same a)

pub adds-free : (p : Project) (old new : List ℕ → Option Digest) (bundle : PlanBundle) (t : Bool) (name : Digest) → IsFree p bundle.group t → t ≡ true → name.0 ≡ digest_of bundle.name → AddsNames p old bundle.entries name new → AddsFree p old bundle new
adds-free p old new bundle true name free is same adds = inl (free, subst (λ (d : Digest). AddsNames p old bundle.entries d new) (same-digest name (digest_from bundle.name) same) adds)
  where
    same-digest : (x y : Digest) → x.0 ≡ y.0 → x ≡ y
    same-digest x y eq = λ i. record { 0 = eq i }
adds-free p old new bundle false name free is same adds = absurd (false≢true is)
