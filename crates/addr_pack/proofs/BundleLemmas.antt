-- The bundles of a placement: how many there are, and what their names are like.
use Rattle.std.proofs.Common.{◌≡◌, ◌≢◌, ℕ, zero, suc, ◌<◌, ◌≤◌, ◌⊎◌, inl, inr, false, List, [], ◌∷◌, ◌++◌, codes, length, map, get_or, Some, nat_eq, refl, sym, ap, subst, ◌∙◌, arith, append_assoc}
use Rattle.std.proofs.lemmas.Bool.{false≢true, false_from_ne_true, cases_lt}
use Rattle.std.proofs.lemmas.Cmp.{nat_eq_equiv, nat_list_cmp_total}
use Rattle.std.proofs.lemmas.List.{length_push}
use Rattle.std.proofs.lemmas.List.Elements.{Contains-push_cases}
use Rattle.std.proofs.lemmas.Map.Keys.{IsDistinct-push}
use Rattle.std.proofs.lemmas.Map.Steps.{length-le_from_distinct_below}
use Rattle.std.proofs.lemmas.Option.{slice_get-get_or, slice_get_within}
use Rattle.std.specs.Cmp.Lexicographic.{bytes_decides}
use Rattle.std.specs.List.{Contains, IsDistinct, list_any, slice_get}
use Rattle.addr_base.specs.Escapes.{escaped, escaped_byte}
use Rattle.addr_project.specs.declared.limit.Limit.TheVariants as limit
use Rattle.addr_project.specs.declared.model.Group.{Group}
use Rattle.addr_project.specs.declared.model.Mode.{Mode}
use Rattle.addr_project.specs.declared.model.Mode.TheVariants.{Together, Separate, Label}
use Rattle.addr_project.specs.Faults.{is_reserved}
use Rattle.addr_project.specs.Kept.{IsKept}
use Rattle.addr_project.specs.Limits.{most}
use Rattle.addr_project.specs.Model.{Project}
use Rattle.addr_base.specs.declared.ids.Guid.{Guid}
use Rattle.addr_pack.specs.declared.bundles.Plan.{Plan}
use Rattle.addr_pack.specs.declared.bundles.PlanBundle.{PlanBundle}
use Rattle.addr_pack.specs.BundleNames.{beginning, BeginsWith, internal_name, moved_name}
use Rattle.addr_pack.specs.Laws.{BeginningsTell, DigitsFollow, FewBundles, GroupNames, ShortNames}
use Rattle.addr_pack.specs.Naming.{ending, name_of, IsNamed}
use Rattle.addr_pack.specs.Placement.{InBundle, IsPlaced}
use Rattle.addr_walks.proofs.MarkLemmas.{any-Contains}
use Rattle.addr_walks.proofs.Lists.{Contains-none}
use Rattle.addr_pack.proofs.DigestLemmas.{digests-fit}
use Rattle.addr_pack.proofs.ListLemmas.{holds_at, mapped_at, one_place}
use Rattle.addr_pack.proofs.NameLemmas.{digits_apart, texts_apart}

module _ (p : Project) (plan : Plan) (placed : IsPlaced p plan) where
  -- one entry of each of the first n bundles, all different
  record Chosen (n : ℕ) : Type 0 where
    pub entries : List ℕ
    pub as_many : length entries ≡ n
    pub once : IsDistinct nat_eq entries
    pub of : (x : ℕ) → Contains entries x → (b : ℕ) × (b < n) × InBundle plan b x

  chosen : (n : ℕ) → n ≤ length plan.bundles → Chosen n
  unfolding IsDistinct
  chosen zero within = record { entries = []; as_many = refl; once = tt; of = λ x here. absurd (Contains-none x here) }
  chosen (suc n) within = more (chosen n (omega arith)) (get_or plan.bundles n none) (slice_get-get_or plan.bundles n none (omega arith))
    where
      none : PlanBundle
      none = record { name = []; group = 0; kept = false; entries = [] }

      more : Chosen n → (bundle : PlanBundle) → slice_get plan.bundles n ≡ Some bundle → Chosen (suc n)
      more before bundle at = record {
        entries = before.entries ++ first.0 ∷ [];
        as_many = (let longer = length_push before.entries first.0 in let old = before.as_many in omega arith);
        once = IsDistinct-push nat_eq_equiv before.entries first.0 before.once (false_from_ne_true (list_any (nat_eq first.0) before.entries) (λ any. another (before.of first.0 (any-Contains first.0 before.entries any))));
        of = λ x here. of x (Contains-push_cases before.entries first.0 x here);
      }
        where
          first : (x : ℕ) × Contains bundle.entries x
          first = (placed.classes n bundle at).filled

          another : (b : ℕ) × (b < n) × InBundle plan b first.0 → ⊥
          another (b, below, there) = let same = (placed.same b n first.0 first.0 there (bundle, at, first.1)).1 (inl refl) in omega arith

          of : (x : ℕ) → Contains before.entries x ⊎ (first.0 ≡ x) → (b : ℕ) × (b < suc n) × InBundle plan b x
          of x (inl here) = let old = before.of x here in (old.0, (let below = old.1 in omega arith), old.2)
          of x (inr same) = (n, omega arith, subst (InBundle plan n) same (bundle, at, first.1))

  at_most : length plan.bundles ≤ length p.entries
  at_most = within (chosen (length plan.bundles) (omega arith))
    where
      below : (x : ℕ) → (b : ℕ) × (b < length plan.bundles) × InBundle plan b x → x < length p.entries
      below x (b, less, (bundle, at, here)) = let named = (placed.classes b bundle at).named x here in slice_get_within p.entries x named.0 named.1

      within : Chosen (length plan.bundles) → length plan.bundles ≤ length p.entries
      within all =
          let short = length-le_from_distinct_below all.entries (length p.entries) all.once (λ x any. below x (all.of x (any-Contains x all.entries any))) in
          let same = all.as_many in
          omega arith

  -- each bundle has an entry, which names it
  pub bundle_named : (b : ℕ) (bundle : PlanBundle) → slice_get plan.bundles b ≡ Some bundle → (x : ℕ) × IsNamed p x bundle.group bundle.name
  bundle_named b bundle at =
      let class = placed.classes b bundle at in
      (class.filled.0, class.named class.filled.0 class.filled.1)

pub few : (p : Project) → IsKept p → FewBundles p
few p kept plan placed = let many = at_most p plan placed in let bound = kept.bounds.entries in (many, omega arith)

-- an ending begins with an underscore
begun : (mode : Mode) (guid : Guid) (labels : List (List ℕ)) → (rest : List ℕ) × (ending mode guid labels ≡ 95 ∷ rest)
begun Together guid labels = (_, refl)
begun Separate guid labels = (_, refl)
begun Label guid labels = (_, refl)

named_begins : (g : Group) (guid : Guid) (labels : List (List ℕ)) (name : List ℕ) → name ≡ name_of g guid labels → BeginsWith (beginning g) name
unfolding name_of
named_begins g guid labels name is =
    let (rest, begins) = begun g.mode guid labels in
    (rest, is ∙ ap (λ (l : List ℕ). escaped g.name ++ l) begins ∙ sym (append_assoc (escaped g.name) (95 ∷ []) rest))

reserved_spelled : moved_name ≡ escaped (codes "Content Update") ++ (95 ∷ codes "assets_all")
unfolding escaped_byte
reserved_spelled = refl

-- a name that begins as those of a group do, cut where the group's name ends
cut_name : (g : Group) (name rest : List ℕ) → name ≡ beginning g ++ rest → name ≡ escaped g.name ++ (95 ∷ rest)
cut_name g name rest is = is ∙ append_assoc (escaped g.name) (95 ∷ []) rest

not_moved : (g : Group) (name : List ℕ) → is_reserved g ≡ false → BeginsWith (beginning g) name → name ≢ moved_name
not_moved g name free (rest, begins) moved =
    let cut = texts_apart g.name (codes "Content Update") (95 ∷ rest) (95 ∷ codes "assets_all") (inr (rest, refl)) (inr (codes "assets_all", refl)) (sym (cut_name g name rest begins) ∙ moved ∙ reserved_spelled) in
    false≢true (sym free ∙ (bytes_decides g.name (codes "Content Update")).1 cut.0)

pub group_names : (p : Project) → IsKept p → GroupNames p
group_names p kept plan placed b bundle at =
    let (x, (e, is, number, (a, g, asset, group, name))) = bundle_named p plan placed b bundle at in
    let begins = named_begins g a.guid e.labels bundle.name name in
    record {
      group = g;
      at = ap (slice_get p.groups) number ∙ group;
      begins = begins;
      not_moved = not_moved g bundle.name (holds_at (λ (g : Group). is_reserved g ≡ false) p.groups e.group g kept.none_reserved group) begins;
    }

pub beginnings_tell : (p : Project) → IsKept p → BeginningsTell p
beginnings_tell p kept i j g h name at other (rest, one) (more, two) =
    let cut = texts_apart g.name h.name (95 ∷ rest) (95 ∷ more) (inr (rest, refl)) (inr (more, refl)) (sym (cut_name g name rest one) ∙ cut_name h name more two) in
    kept.groups_once i j h.name (mapped_at (λ (g : Group). g.name) p.groups i g at ∙ ap Some cut.0) (mapped_at (λ (g : Group). g.name) p.groups j h other)

pub short_names : (p : Project) → ShortNames p
short_names p fit plan placed b bundle at = by_size (cases_lt (most limit.BundleName) (length bundle.name))
  where
    named : (x : ℕ) × IsNamed p x bundle.group bundle.name
    named = bundle_named p plan placed b bundle at

    by_size : (most limit.BundleName < length bundle.name) ⊎ (length bundle.name ≤ most limit.BundleName) → length bundle.name ≤ most limit.BundleName
    by_size (inl long) = absurd (fit named.0 (length bundle.name) (bundle.group, bundle.name, named.1, refl, long))
    by_size (inr short) = short

pub digits_follow : (p : Project) → DigitsFollow p
digits_follow p plan placed differ b c one other at there same =
    let digest = digits_apart (internal_name one) (internal_name other) (digests-fit one.name) (digests-fit other.name) same in
    let name = differ b c one other at there digest in
    one_place nat_list_cmp_total (map (λ (bundle : PlanBundle). bundle.name) plan.bundles) b c other.name placed.by_name
    (mapped_at (λ (bundle : PlanBundle). bundle.name) plan.bundles b one at ∙ ap Some name) (mapped_at (λ (bundle : PlanBundle). bundle.name) plan.bundles c other there)
