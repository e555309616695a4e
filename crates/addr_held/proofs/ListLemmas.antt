-- Objects compared with a list of GUIDs, one after the other.
use Rattle.std.proofs.Common.{◌≡◌, ◌<◌, ◌≤◌, ◌+◌, ℕ, List, length, get_or, map, take, min, sym, ap, ◌∙◌, arith}
use Rattle.std.proofs.lemmas.List.{get_or-map, length-map, take_all, take_more_same}
use Rattle.addr_base.specs.declared.ids.Guid.{Guid}
use Rattle.addr_cab.specs.declared.object.ObjectRow.{ObjectRow}

abbrev guids : List ObjectRow → List Guid
guids xs = map (λ (o : ObjectRow). o.guid) xs

guid-at : (xs : List ObjectRow) (i : ℕ) (x : ObjectRow) (y : Guid) → i < length xs → ((d : ObjectRow) → x ≡ get_or xs i d) → get_or (guids xs) i y ≡ x.guid
guid-at xs i x y small at = get_or-map (λ (o : ObjectRow). o.guid) xs i x y small ∙ ap (λ (o : ObjectRow). o.guid) (sym (at x))

pub guids-more : (xs : List ObjectRow) (ys : List Guid) (i : ℕ) (x : ObjectRow) (y : Guid) → i < length xs → i < length ys → ((d : ObjectRow) → x ≡ get_or xs i d) → ((d : Guid) → y ≡ get_or ys i d)
    → x.guid ≡ y → take i (guids xs) ≡ take i ys → take (i + 1) (guids xs) ≡ take (i + 1) ys
guids-more xs ys i x y small within at read same sofar =
    let long : i < length (guids xs) = rw (length-map xs (λ (o : ObjectRow). o.guid)) small in
    take_more_same (guids xs) ys i y long within sofar (guid-at xs i x y small at ∙ (same ∙ read y))

pub guids-other : (xs : List ObjectRow) (ys : List Guid) (i : ℕ) (x : ObjectRow) (y : Guid) → i < length xs → ((d : ObjectRow) → x ≡ get_or xs i d) → ((d : Guid) → y ≡ get_or ys i d)
    → (x.guid ≡ y → ⊥) → guids xs ≡ ys → ⊥
guids-other xs ys i x y small at read other same = other (sym (guid-at xs i x y small at) ∙ (ap (λ (zs : List Guid). get_or zs i y) same ∙ sym (read y)))

pub guids-all : (xs : List ObjectRow) (ys : List Guid) (n : ℕ) → length xs ≡ length ys → n ≡ min (length xs) (length ys) → take n (guids xs) ≡ take n ys → guids xs ≡ ys
guids-all xs ys n long is sofar =
    let first : length (guids xs) ≤ n = rw (length-map xs (λ (o : ObjectRow). o.guid)) (omega (arith, long, is)) in
    sym (take_all n (guids xs) first) ∙ (sofar ∙ take_all n ys (omega (arith, long, is)))
