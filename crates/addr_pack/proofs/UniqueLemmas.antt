-- A placement has each entry in one bundle, and a project has at most one placement.
use Rattle.std.proofs.Common.{◌≡◌, ℕ, List, length, map, Some, refl, sym, ap, subst, ◌∙◌, inl}
use Rattle.std.proofs.lemmas.Cmp.{nat_list_cmp_total}
use Rattle.std.proofs.lemmas.List.{length-map}
use Rattle.std.specs.Cmp.{nat_cmp_total}
use Rattle.std.specs.List.{Contains, slice_get}
use Rattle.addr_project.specs.Model.{Project}
use Rattle.addr_pack.specs.declared.bundles.Plan.{Plan}
use Rattle.addr_pack.specs.declared.bundles.PlanBundle.{PlanBundle}
use Rattle.addr_pack.specs.Laws.{NoneTwice, OnePlacement}
use Rattle.addr_pack.specs.Naming.{IsNamed}
use Rattle.addr_pack.specs.Placement.{IsPlaced}
use Rattle.addr_walks.proofs.Lists.{Contains-slice_get, slice_get-Contains, same-sorted}
use Rattle.addr_pack.proofs.ListLemmas.{same_at, mapped_at, unmapped_at, one_place, same_places}
use Rattle.addr_pack.proofs.EntryLemmas.{within}
use Rattle.addr_pack.proofs.SameLemmas.{one_name}

pub none_twice : (p : Project) → NoneTwice p
none_twice p plan placed b c x in' other = (placed.same b c x x in' other).1 (inl refl)

abbrev names : Plan → List (List ℕ)
names plan = map (λ bundle. bundle.name) plan.bundles

-- the bundle that an entry has in a placement, which has its name and group
located : (p : Project) (b : Plan) → IsPlaced p b → (x g : ℕ) (name : List ℕ) → IsNamed p x g name
    → (j : ℕ) × (other : PlanBundle) × (slice_get b.bundles j ≡ Some other) × Contains other.entries x × (g ≡ other.group) × (name ≡ other.name)
located p b placed x g name named =
    let in' = placed.each x (within p x g name named) in
    let j = in'.0 in
    let other = in'.1.0 in
    let same = one_name p x g other.group name other.name named ((placed.classes j other in'.1.1).named x in'.1.2) in
    (j, other, in'.1.1, in'.1.2, same.0, same.1)

module _ (p : Project) (a b : Plan) (placed : IsPlaced p a) (other : IsPlaced p b) where
  -- each name of the one is a name of the other
  name_moves : (name : List ℕ) → Contains (names a) name → Contains (names b) name
  name_moves name in' =
      let at = slice_get-Contains (names a) name in' in
      let bundle = unmapped_at (λ (bundle : PlanBundle). bundle.name) a.bundles at.0 name at.1 in
      let class = placed.classes at.0 bundle.0 bundle.1 in
      let x = class.filled.0 in
      let home = located p b other x bundle.0.group bundle.0.name (class.named x class.filled.1) in
      subst (Contains (names b)) (sym home.5 ∙ bundle.2) (Contains-slice_get (names b) home.0 home.1.name (mapped_at (λ (bundle : PlanBundle). bundle.name) b.bundles home.0 home.1 home.2))

  -- bundles of one name have the same entries and one group
  entry_moves : (i j : ℕ) (one two : PlanBundle) → slice_get a.bundles i ≡ Some one → slice_get b.bundles j ≡ Some two → one.name ≡ two.name → (x : ℕ) → Contains one.entries x → Contains two.entries x
  entry_moves i j one two is at same x in' =
      let home = located p b other x one.group one.name ((placed.classes i one is).named x in') in
      let place : home.0 ≡ j = one_place nat_list_cmp_total (names b) home.0 j two.name other.by_name (mapped_at (λ (bundle : PlanBundle). bundle.name) b.bundles home.0 home.1 home.2 ∙ ap Some (sym home.5 ∙ same)) (mapped_at (λ (bundle : PlanBundle). bundle.name) b.bundles j two at) in
      let bundle : home.1 ≡ two = same_at b.bundles j home.1 two (subst (λ (k : ℕ). slice_get b.bundles k ≡ Some home.1) place home.2) at in
      subst (λ (bundle : PlanBundle). Contains bundle.entries x) bundle home.3

same_bundle : (one two : PlanBundle) → one.name ≡ two.name → one.group ≡ two.group → one.kept ≡ two.kept → one.entries ≡ two.entries → one ≡ two
same_bundle one two name group kept entries = λ i. record { name = name i; group = group i; kept = kept i; entries = entries i }

module _ (p : Project) (a b : Plan) (placed : IsPlaced p a) (other : IsPlaced p b) where
  bundles_agree : (i : ℕ) (one two : PlanBundle) → slice_get a.bundles i ≡ Some one → slice_get b.bundles i ≡ Some two → one.name ≡ two.name → one ≡ two
  bundles_agree i one two is at same =
      let first = placed.classes i one is in
      let second = other.classes i two at in
      let x = first.filled.0 in
      let moved = entry_moves p a b placed other i i one two is at same in
      let back = entry_moves p b a other placed i i two one at is (sym same) in
      let group = (one_name p x one.group two.group one.name two.name (first.named x first.filled.1) (second.named x (moved x first.filled.1))).0 in
      same_bundle one two same group (first.new ∙ sym second.new) (same-sorted nat_cmp_total one.entries two.entries first.ascending second.ascending moved back)

  names_agree : names a ≡ names b
  names_agree = same-sorted nat_list_cmp_total (names a) (names b) placed.by_name other.by_name (name_moves p a b placed other) (name_moves p b a other placed)

  sizes_agree : length a.bundles ≡ length b.bundles
  sizes_agree = sym (length-map a.bundles (λ (bundle : PlanBundle). bundle.name)) ∙ ap length names_agree ∙ length-map b.bundles (λ (bundle : PlanBundle). bundle.name)

  plans_agree : a ≡ b
  plans_agree =
      let bundles = same_places a.bundles b.bundles sizes_agree (λ i one two is at.
      let name : one.name ≡ two.name = same_at (names b) i one.name two.name (subst (λ (l : List (List ℕ)). slice_get l i ≡ Some one.name) names_agree (mapped_at (λ (bundle : PlanBundle). bundle.name) a.bundles i one is)) (mapped_at (λ (bundle : PlanBundle). bundle.name) b.bundles i two at) in
      bundles_agree i one two is at name) in
      λ i. record { bundles = bundles i }

pub one_placement : (p : Project) → OnePlacement p
one_placement p a b placed other = plans_agree p a b placed other
