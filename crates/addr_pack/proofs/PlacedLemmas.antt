-- The bundles of the classes are the placement.
use Rattle.std.proofs.Common.{◌≡◌, ℕ, ◌<◌, ◌≤◌, ◌⊎◌, ◌↔◌, List, [], ◌∷◌, length, map, get_or, Some, None, BTreeMap, String, string_bytes, Ordering, Less, refl, sym, ap, subst, ◌∙◌, inl, inr, arith, nat_cmp}
use Rattle.std.proofs.lemmas.Cmp.{nat_list_cmp_total}
use Rattle.std.proofs.lemmas.Map.Entries.{place_from_lookup, btree_map_get_place}
use Rattle.std.proofs.lemmas.Map.Text.{is_eq-slice_cmp}
use Rattle.std.proofs.lemmas.Option.{slice_get_cases}
use Rattle.std.specs.BTreeMap.{get_by_text, is_at, IsOrdered}
use Rattle.std.specs.Cmp.Lexicographic.{slice_cmp, bytes_decides}
use Rattle.std.specs.Global.{Global}
use Rattle.std.specs.List.{AllByRecursion, slice_get}
use Rattle.std.specs.List.Sorted.{IsStrictlySortedBy}
use Rattle.std.specs.Map.{keys_of}
use Rattle.std.specs.String.{string_cmp, string_cmp_total}
use Rattle.addr_project.specs.Kept.{IsKept, IsKeptEntry}
use Rattle.addr_project.specs.Model.{Project}
use Rattle.addr_pack.specs.declared.bundles.Plan.{Plan}
use Rattle.addr_pack.specs.declared.bundles.PlanBundle.{PlanBundle}
use Rattle.addr_pack.specs.declared.class.Class.{Class}
use Rattle.addr_pack.specs.Classes.{AreClasses, bundle_of}
use Rattle.addr_pack.specs.Naming.{IsNamed, name_of}
use Rattle.addr_pack.specs.Placement.{InBundle, IsClass, IsPlaced}
use Rattle.addr_pack.specs.SameBundle.{Same}
use Rattle.addr_pack.proofs.EntryLemmas.{named_from}
use Rattle.addr_pack.proofs.ListLemmas.{same_at, holds_at, mapped_at, unmapped_at, one_place}
use Rattle.addr_pack.proofs.SameLemmas.{names_tell}

all_mapped : {X Y : Type 0} (f : X → Y) (P : Y → Type 0) (xs : List X) → AllByRecursion (λ x. P (f x)) xs → AllByRecursion P (map f xs)
all_mapped f P [] all = tt
all_mapped f P (x ∷ xs) all = (all.0, all_mapped f P xs all.1)

sorted_mapped : {X Y : Type 0} (f : X → Y) (cmp : Y → Y → Ordering) (xs : List X) → IsStrictlySortedBy (λ x y. cmp (f x) (f y)) xs → IsStrictlySortedBy cmp (map f xs)
unfolding IsStrictlySortedBy
sorted_mapped f cmp [] rising = tt
sorted_mapped f cmp (x ∷ xs) rising = (all_mapped f (λ y. cmp (f x) y ≡ Less) xs rising.0, sorted_mapped f cmp xs rising.1)

names_mapped : (es : List (String Global × Class)) → map (λ bundle. bundle.name) (map bundle_of es) ≡ map string_bytes (keys_of es)
names_mapped [] = refl
names_mapped (e ∷ es) = ap (λ (l : List (List ℕ)). string_bytes e.0 ∷ l) (names_mapped es)

at_place : {X : Type 0} (xs : List X) (i : ℕ) → i < length xs → (x : X) × (slice_get xs i ≡ Some x)
at_place {X} xs i small = by_case (slice_get_cases xs i).1
  where
    by_case : ((x : X) × (i < length xs) × (slice_get xs i ≡ Some x) × (get_or xs i x ≡ x)) ⊎ ((length xs ≤ i) × (slice_get xs i ≡ None)) → (x : X) × (slice_get xs i ≡ Some x)
    by_case (inl (x, within, is, read)) = (x, is)
    by_case (inr (past, none)) = absurd (omega arith)

-- each entry of a project has a name
has_name : (p : Project) → IsKept p → (x : ℕ) → x < length p.entries → (g : ℕ) × (name : List ℕ) × IsNamed p x g name
has_name p kept x small =
    let entry = at_place p.entries x small in
    let known = holds_at (IsKeptEntry p) p.entries x entry.0 kept.entries entry.1 in
    let asset = at_place p.assets entry.0.asset known.asset in
    let group = at_place p.groups entry.0.group known.group in
    let name = name_of group.0 asset.0.guid entry.0.labels in
    (entry.0.group, name, named_from p x entry.0 name entry.1 (asset.0, group.0, asset.1, group.1, refl))

module _ (p : Project) (kept : IsKept p) (classes : BTreeMap (String Global) Class) (are : AreClasses p (length p.entries) classes) (ordered : IsOrdered string_cmp classes) where
  abbrev plan : Plan
  plan = record { bundles = map bundle_of classes.entries }

  -- what stands at a place of the map is found by its name
  found_at : (i : ℕ) (e : String Global × Class) → slice_get classes.entries i ≡ Some e → get_by_text classes (string_bytes e.0) ≡ Some e.1
  found_at i e is = btree_map_get_place string_cmp_total classes i e.0 e.1 ordered is

  -- what is found by a name stands at a place
  stands_at : (name : List ℕ) (class : Class) → get_by_text classes name ≡ Some class → (i : ℕ) × (k : String Global) × (slice_get classes.entries i ≡ Some (k, class)) × (name ≡ string_bytes k)
  stands_at name class is =
      let place = place_from_lookup (is_at (λ (k : String Global). slice_cmp nat_cmp name (string_bytes k))) classes.entries class is in
      (place.0, place.1, place.2, (bytes_decides name (string_bytes place.1)).0 (sym (is_eq-slice_cmp name (string_bytes place.1)) ∙ place.3))

  class_at : (b : ℕ) (bundle : PlanBundle) → slice_get plan.bundles b ≡ Some bundle → IsClass p bundle
  class_at b bundle is =
      let e = unmapped_at bundle_of classes.entries b bundle is in
      let class = are (string_bytes e.0.0) in
      let found = found_at b e.0 e.1 in
      subst (IsClass p) e.2 (record {
        filled = class.filled e.0.1 found;
        ascending = class.ascending e.0.1 found;
        named = λ x in'. (class.within e.0.1 found x in').1;
        new = refl;
      })

  entry_in : (x : ℕ) → x < length p.entries → (b : ℕ) × InBundle plan b x
  entry_in x small =
      let name = has_name p kept x small in
      let class = (are name.1).all x name.0 small name.2 in
      let place = stands_at name.1 class.0 class.1 in
      (place.0, (bundle_of (place.1, class.0), mapped_at bundle_of classes.entries place.0 (place.1, class.0) place.2, class.2))

  names_rise : IsStrictlySortedBy (slice_cmp nat_cmp) (map (λ bundle. bundle.name) plan.bundles)
  names_rise = subst (IsStrictlySortedBy (slice_cmp nat_cmp)) (sym (names_mapped classes.entries)) (sorted_mapped string_bytes (slice_cmp nat_cmp) (keys_of classes.entries) ordered)

  name_at : (b : ℕ) (bundle : PlanBundle) → slice_get plan.bundles b ≡ Some bundle → slice_get (map (λ bundle. bundle.name) plan.bundles) b ≡ Some bundle.name
  name_at b bundle is = mapped_at (λ (bundle : PlanBundle). bundle.name) plan.bundles b bundle is

  shares : (b c x y : ℕ) → InBundle plan b x → InBundle plan c y → (b ≡ c) ↔ Same p x y
  shares b c x y (one, is, in') (two, at, also) =
      let tell = names_tell p kept x y one.group two.group one.name two.name ((class_at b one is).named x in') ((class_at c two at).named y also) in
      let to : b ≡ c → Same p x y = λ same. tell.0 (ap (λ (bundle : PlanBundle). bundle.name) (same_at plan.bundles c one two (subst (λ (k : ℕ). slice_get plan.bundles k ≡ Some one) same is) at)) in
      let from : Same p x y → b ≡ c = λ same. one_place nat_list_cmp_total (map (λ bundle. bundle.name) plan.bundles) b c two.name names_rise (name_at b one is ∙ ap Some (tell.1 same)) (name_at c two at) in
      (to, from)

  pub placed_classes : IsPlaced p plan
  placed_classes = record {
    classes = class_at;
    each = entry_in;
    same = shares;
    by_name = names_rise;
  }
