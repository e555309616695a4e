-- What a Cab lends is what its file's objects are.
use Rattle.std.proofs.Common.{◌≡◌, Bool, true, false, cond, List, [], ◌∷◌, find, Option, Some, None, refl, ap, subst, sym, ◌∙◌, ◌⊎◌, inl, inr}
use Rattle.std.proofs.lemmas.Bool.{false≢true}
use Rattle.std.proofs.lemmas.Slice.Eq.{bytes_eq-Decides}
use Rattle.std.specs.List.{Contains}
use Rattle.std.specs.Option.{option_map}
use Rattle.addr_base.specs.Images.{Object}
use Rattle.addr_base.specs.declared.ids.Guid.{Guid}
use Rattle.addr_cab.specs.Faults.{has_guid}
use Rattle.addr_cab.specs.Lookup.{Held, object_bytes, object_with}
use Rattle.addr_cab.specs.Objects.{objects_of}
use Rattle.addr_cab.specs.declared.object.ObjectOut.{ObjectOut}
use Rattle.addr_cab.specs.declared.object.ObjectRow.{ObjectRow}
use Rattle.addr_layout.proofs.GuidLemmas.{same-guid}
use Rattle.addr_layout.proofs.RankLemmas.{same-some}
use Rattle.addr_walks.proofs.Lists.{Contains-here, Contains-later, Contains-cases, Contains-none, Contains-map, map-Contains}

find-there : {X : Type 0} (test : X → Bool) (xs : List X) (x : X) → find test xs ≡ Some x → Contains xs x × (test x ≡ true)
find-there test [] x e = absurd (cc e)
find-there {X} test (y ∷ ys) x e = by_test (test y) refl e (λ more. find-there test ys x more)
  where
    by_test : (t : Bool) → test y ≡ t → cond t (Some y) (find test ys) ≡ Some x → (find test ys ≡ Some x → Contains ys x × (test x ≡ true)) → Contains (y ∷ ys) x × (test x ≡ true)
    by_test true is found more = let same : y ≡ x = same-some y x found in (subst (Contains (y ∷ ys)) same (Contains-here y ys), sym (ap test same) ∙ is)
    by_test false is found more = let rest = more found in (Contains-later y ys x rest.0, rest.1)

pub find-none : {X : Type 0} (test : X → Bool) (xs : List X) (x : X) → find test xs ≡ None → Contains xs x → test x ≡ true → ⊥
find-none test [] x e here passes = Contains-none x here
find-none {X} test (y ∷ ys) x e here passes = by_test (test y) refl e (Contains-cases y ys x here) (λ none later. find-none test ys x none later passes)
  where
    by_test : (t : Bool) → test y ≡ t → cond t (Some y) (find test ys) ≡ None → (y ≡ x) ⊎ Contains ys x → (find test ys ≡ None → Contains ys x → ⊥) → ⊥
    by_test true is none place more = absurd (cc none)
    by_test false is none (inl same) more = false≢true (sym is ∙ (ap test same ∙ passes))
    by_test false is none (inr later) more = more none later

unfoldable pub object_of_row : Held → ObjectRow → ObjectOut
object_of_row c o = record { guid = o.guid; bytes = object_bytes c o; refs = o.refs }

-- what is lent is an object of the file
pub held-object : (c : Held) (g : Guid) (x : Object) → object_with c g.0 ≡ Some x → (o : ObjectOut) × Contains (objects_of c) o × (o.guid ≡ g) × (o.bytes ≡ x.bytes) × (o.refs ≡ x.refs)
unfolding object_of_row
held-object c g x lent = by_found (find (has_guid g.0) c.rows) refl lent
  where
    by_found : (o : Option ObjectRow) → find (has_guid g.0) c.rows ≡ o → option_map (λ (r : ObjectRow). let y : Object = record { bytes = object_bytes c r; refs = r.refs } in y) o ≡ Some x
        → (o : ObjectOut) × Contains (objects_of c) o × (o.guid ≡ g) × (o.bytes ≡ x.bytes) × (o.refs ≡ x.refs)
    by_found None is e = absurd (cc e)
    by_found (Some r) is e =
        let there = find-there (has_guid g.0) c.rows r is in
        let same = same-some (let y : Object = record { bytes = object_bytes c r; refs = r.refs } in y) x e in
        (object_of_row c r, Contains-map (object_of_row c) c.rows r there.0, same-guid r.guid g ((bytes_eq-Decides r.guid.0 g.0).0 there.1), ap (λ (y : Object). y.bytes) same, ap (λ (y : Object). y.refs) same)

-- where nothing is lent, no object has the GUID
pub no-object : (c : Held) (g : Guid) → object_with c g.0 ≡ None → (o : ObjectOut) → Contains (objects_of c) o → o.guid ≡ g → ⊥
unfolding object_of_row
no-object c g none o here guid = by_found (find (has_guid g.0) c.rows) refl none
  where
    by_found : (f : Option ObjectRow) → find (has_guid g.0) c.rows ≡ f → option_map (λ (r : ObjectRow). let y : Object = record { bytes = object_bytes c r; refs = r.refs } in y) f ≡ None → ⊥
    by_found (Some r) is e = absurd (cc e)
    by_found None is e =
        let row = map-Contains (object_of_row c) c.rows o here in
        find-none (has_guid g.0) c.rows row.0 is row.1 ((bytes_eq-Decides row.0.guid.0 g.0).1 (ap (λ (v : Guid). v.0) (ap (λ (y : ObjectOut). y.guid) row.2 ∙ guid)))
