-- The two nodes of a table, and that what is read of them lies within the file.
use Rattle.std.proofs.Common.{◌≡◌, ℕ, ◌+◌, ◌≤◌, List, [], ◌∷◌, length, get_or, All, refl, subst, arith}
use Rattle.std.specs.List.{AllByRecursion}
use Rattle.addr_base.specs.declared.ids.Digest.{Digest}
use Rattle.addr_unityfs.specs.declared.bundle.NodePlace.{NodePlace}
use Rattle.addr_unityfs.specs.declared.bundle.Bundle.{Bundle}
use Rattle.addr_unityfs.specs.Format.{IsBundle}
use Rattle.addr_unityfs.proofs.Promises.{nodes_inside}
use Rattle.addr_cab.specs.declared.object.ObjectRow.{ObjectRow}
use Rattle.addr_cab.specs.Format.{AreNodes}

pub pair_of : {X : Type 0} (xs : List X) (d e : X) → length xs ≡ 2 → xs ≡ get_or xs 0 d ∷ get_or xs 1 e ∷ []
pair_of [] d e two = absurd (omega (arith, two))
pair_of (a ∷ []) d e two = absurd (omega (arith, two))
pair_of (a ∷ b ∷ []) d e two = refl
pair_of (a ∷ b ∷ c ∷ more) d e two = absurd (omega (arith, two))

pub nodes_fit : (file : List ℕ) (b : Bundle) (name : Digest) (table content : NodePlace) → IsBundle file b → AreNodes b name table content → (b.start + table.offset + table.size ≤ length file) × (b.start + content.offset + content.size ≤ length file)
nodes_fit file b name table content held n =
    let all : All (λ m. b.start + m.offset + m.size ≤ length file) (table ∷ content ∷ []) = subst (λ ns. All (λ m. b.start + m.offset + m.size ≤ length file) ns) n.nodes (nodes_inside file b held) in
    (all 0 table (omega arith), all 1 table (omega arith))

pub all_inside : (start room len : ℕ) (rows : List ObjectRow) → start + room ≤ len → AllByRecursion (λ o. o.offset + o.size ≤ room) rows → AllByRecursion (λ o. start + o.offset + o.size ≤ len) rows
all_inside start room len [] fits within = tt
all_inside start room len (o ∷ os) fits within = (omega (arith, fits, within.0), all_inside start room len os fits within.1)
