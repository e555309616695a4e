-- The rows of the objects that are written, one more at each step.
use Rattle.std.proofs.Common.{◌≡◌, ℕ, ◌+◌, ◌<◌, List, [], ◌∷◌, ◌++◌, length, get_or, take, sum_by, refl, sym, ap, ◌∙◌, append_assoc, arith, add-zero}
use Rattle.std.specs.List.{flat_map}
use Rattle.std.proofs.lemmas.List.{take_more, append-nil}
use Rattle.std.proofs.lemmas.Grind.{flat_map-append}
use Rattle.std.proofs.lemmas.List.Sums.{sum_by-cons}
use Rattle.addr_cab.specs.declared.object.ObjectOut.{ObjectOut}
use Rattle.addr_cab.specs.declared.object.ObjectRow.{ObjectRow}
use Rattle.addr_cab.specs.Written.{bytes_len, placed_at, placed}

placed_push : (at : ℕ) (os : List ObjectOut) (o : ObjectOut) → placed at (os ++ o ∷ []) ≡ placed at os ++ placed_at (at + sum_by bytes_len os) o ∷ []
placed_push at [] o = ap (λ k. placed_at k o ∷ []) (sym (add-zero at))
placed_push at (p ∷ os) o =
    let same : (at + length p.bytes) + sum_by bytes_len os ≡ at + sum_by bytes_len (p ∷ os) = omega (arith, sum_by-cons bytes_len p os) in
    ap (λ rows. placed_at at p ∷ rows) (placed_push (at + length p.bytes) os o ∙ ap (λ k. placed (at + length p.bytes) os ++ placed_at k o ∷ []) same)

pub rows_more : (text : ObjectRow → List ℕ) (old new out : List ℕ) (os : List ObjectOut) (i offset : ℕ) (o : ObjectOut) → i < length os → o ≡ get_or os i o → out ≡ old ++ flat_map text (placed 0 (take i os)) → offset ≡ sum_by bytes_len (take i os)
    → new ≡ out ++ text (placed_at offset o) → new ≡ old ++ flat_map text (placed 0 (take (i + 1) os))
rows_more text old new out os i offset o small is so_far place put =
    let so : take (i + 1) os ≡ take i os ++ o ∷ [] = take_more os i o small ∙ ap (λ p. take i os ++ p ∷ []) (sym is) in
    let rows : placed 0 (take (i + 1) os) ≡ placed 0 (take i os) ++ placed_at offset o ∷ [] =
    ap (placed 0) so ∙ (placed_push 0 (take i os) o ∙ ap (λ k. placed 0 (take i os) ++ placed_at k o ∷ []) (omega (arith, place)))
    in
    let all : flat_map text (placed 0 (take (i + 1) os)) ≡ flat_map text (placed 0 (take i os)) ++ text (placed_at offset o) =
    ap (flat_map text) rows ∙ (flat_map-append text (placed 0 (take i os)) (placed_at offset o ∷ []) ∙ ap (λ x. flat_map text (placed 0 (take i os)) ++ x) (append-nil (text (placed_at offset o))))
    in
    put ∙ (ap (λ x. x ++ text (placed_at offset o)) so_far ∙ (append_assoc old (flat_map text (placed 0 (take i os))) (text (placed_at offset o)) ∙ ap (λ x. old ++ x) (sym all)))

pub length-placed : (at : ℕ) (os : List ObjectOut) → length (placed at os) ≡ length os
length-placed at [] = refl
length-placed at (o ∷ os) = omega (arith, length-placed (at + length o.bytes) os)
