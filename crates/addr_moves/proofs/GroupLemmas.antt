-- The project's fixed groups by name, and bundles of the state that stay.
use Rattle.std.proofs.Common.{◌≡◌, ◌<◌, ℕ, suc, Bool, true, false, List, [], ◌∷◌, length, get_or, is_some, map, Option, Some, None, refl, sym, ap, subst, ◌∙◌}
use Rattle.std.proofs.lemmas.Bool.{false≢true}
use Rattle.std.proofs.lemmas.Option.{get_or_from_slice_get, slice_get-get_or}
use Rattle.std.specs.List.{AllZip, Contains, slice_get}
use Rattle.addr_layout.proofs.RankLemmas.{same-some}
use Rattle.addr_project.proofs.OnceLemmas.{from_map, to_map}
use Rattle.addr_project.specs.Kept.{IsKept}
use Rattle.addr_project.specs.declared.model.Group.{Group}
use Rattle.addr_project.specs.Model.{Project}
use Rattle.addr_release.specs.Built.{IsFixedName}
use Rattle.addr_state.specs.declared.model.StateBundle.{StateBundle}
use Rattle.addr_walks.proofs.Lists.{Contains-map, Contains-slice_get, map-Contains, slice_get-Contains}
use Rattle.addr_moves.specs.Firsts.{AreFirsts, IsFirstAt}
use Rattle.addr_moves.specs.Stays.{StaysAs}
use Rattle.addr_moves.specs.within.Groups.{IsFixedAt}

module _ (p : Project) (kept : IsKept p) (find : List ℕ → Option ℕ) (firsts : AreFirsts (map (λ (g : Group). g.name) p.groups) find) (name : List ℕ) where
  first-at : (o : Option ℕ) → o ≡ find name → IsFirstAt (map (λ (g : Group). g.name) p.groups) name o
  first-at o is = subst (IsFirstAt (map (λ (g : Group). g.name) p.groups) name) (sym is) (firsts name)

  pub no-group : None ≡ find name → IsFixedAt p name None
  no-group is (g, here, fixed, same) = first-at None is (subst (Contains (map (λ (h : Group). h.name) p.groups)) same (Contains-map (λ (h : Group). h.name) p.groups g here))

  pub group-at : (n : ℕ) → Some n ≡ find name → (g : Group) × (slice_get p.groups n ≡ Some g) × (g.name ≡ name)
  group-at n is = from_map (λ (g : Group). g.name) p.groups n name (first-at (Some n) is).0

  pub is-fixed : (n : ℕ) (g : Group) → Some n ≡ find name → slice_get p.groups n ≡ Some g → g.fixed ≡ true → IsFixedAt p name (Some n)
  is-fixed n g is at fixed =
      let own = group-at n is in
      let same : own.0 ≡ g = same-some own.0 g (sym own.1 ∙ at) in
      (g, at, fixed, ap (λ (h : Group). h.name) (sym same) ∙ own.2)

  pub not-fixed : (n : ℕ) (g : Group) → Some n ≡ find name → slice_get p.groups n ≡ Some g → g.fixed ≡ false → IsFixedAt p name None
  not-fixed n g is at free (h, here, fixed, same) =
      let own = group-at n is in
      let there = slice_get-Contains p.groups h here in
      let number : n ≡ there.0 = kept.groups_once n there.0 name (to_map (λ (k : Group). k.name) p.groups n own.0 own.1 ∙ ap Some own.2) (to_map (λ (k : Group). k.name) p.groups there.0 h there.1 ∙ ap Some same) in
      let one : g ≡ h = same-some g h (sym at ∙ (ap (slice_get p.groups) number ∙ there.1)) in
      false≢true (sym free ∙ (ap (λ (k : Group). k.fixed) one ∙ fixed))

pub no-name : (names : List (List ℕ)) (p : Project) (fixed : List ℕ → Option ℕ) (old : StateBundle) → AreFirsts (map (λ (text : List ℕ). text) names) fixed → fixed old.group ≡ None → StaysAs names p old None
no-name names p fixed old firsts none here named = subst (IsFirstAt (map (λ (text : List ℕ). text) names) old.group) none (firsts old.group) (Contains-map (λ (text : List ℕ). text) names old.group here)

some-name : (names : List (List ℕ)) (p : Project) (fixed : List ℕ → Option ℕ) (old : StateBundle) (n : ℕ) (o : Option ℕ) → AreFirsts (map (λ (text : List ℕ). text) names) fixed → fixed old.group ≡ Some n → IsFixedAt p old.group o → StaysAs names p old o
some-name names p fixed old n None firsts there none = λ here named. none named
some-name names p fixed old n (Some m) firsts there at =
    let first : IsFirstAt (map (λ (text : List ℕ). text) names) old.group (Some n) = subst (IsFirstAt (map (λ (text : List ℕ). text) names) old.group) there (firsts old.group) in
    let from = map-Contains (λ (text : List ℕ). text) names old.group (Contains-slice_get (map (λ (text : List ℕ). text) names) n old.group first.0) in
    (subst (Contains names) from.2 from.1, at)

pub stays-as : (names : List (List ℕ)) (p : Project) (fixed : List ℕ → Option ℕ) (old : StateBundle) (o : Option ℕ) → AreFirsts (map (λ (text : List ℕ). text) names) fixed → is_some (fixed old.group) ≡ true → IsFixedAt p old.group o → StaysAs names p old o
stays-as names p fixed old o firsts there at = by_place (fixed old.group) refl there
  where
    by_place : (place : Option ℕ) → fixed old.group ≡ place → is_some place ≡ true → StaysAs names p old o
    by_place None is none = absurd (false≢true none)
    by_place (Some n) is some = some-name names p fixed old n o firsts is at

-- what was read at a place of a list
pub read-in : {X : Type 0} (xs ys : List X) (i : ℕ) (x : X) → xs ≡ ys → i < length ys → x ≡ get_or xs i x → slice_get ys i ≡ Some x
read-in xs ys i x same within read = slice_get-get_or ys i x within ∙ ap Some (sym (read ∙ ap (λ zs. get_or zs i x) same))

-- two lists side by side are as long
pub zip-long : {A B : Type 0} (R : A → B → Type 0) (xs : List A) (ys : List B) → AllZip R xs ys → length ys ≡ length xs
zip-long R [] [] zip = refl
zip-long R [] (y ∷ ys) zip = absurd zip
zip-long R (x ∷ xs) [] zip = absurd zip
zip-long R (x ∷ xs) (y ∷ ys) zip = ap suc (zip-long R xs ys zip.1)

-- what stands at a place of a list
pub same-at : {X : Type 0} (xs : List X) (i : ℕ) (x d : X) → slice_get xs i ≡ Some x → x ≡ get_or xs i d
same-at xs i x d at = sym (get_or_from_slice_get xs i x d at)
