use Rattle.std.proofs.Common.{length, sym, ap, subst, ◌∙◌}
use Rattle.addr_expansion.specs.Expansion.{given}
use Rattle.addr_expansion.specs.Extents.{IsExtent}
use Rattle.addr_expansion.proofs.ExpansionLemmas.{filled_pieces, filled_none}
use Rattle.addr_expansion.proofs.expansion.fill.Goals as goal

pub returns-in-Some : goal.returns-in-Some
returns-in-Some c = λ lead holds.
    let (split, counted) = c.in-Some.ensures.cases in
    let same = filled_pieces c.args.variables.now lead c.args.text.now c.in_ok-pieces.pieces.items c.in-Some.plain.now c.in-Some.rest.now c.in_ok-pieces.ensures (sym c.deref.ensures.value ∙ split) in
    subst (IsExtent c.in_ok-filled-in-Some.filled) (sym same) (c.in_ok-filled-in-Some.ensures lead (given c.in-Some.plain.now.now) holds c.in_ok-extent-in-Some.ensures)

pub returns : goal.returns
returns c = λ lead holds.
    let same = filled_none c.args.variables.now lead c.args.text.now c.in_ok-pieces.pieces.items c.in_ok-pieces.ensures (ap length (sym c.deref.ensures.value) ∙ c.in-None.ensures.cases) in
    subst (IsExtent c.in_ok-extent-in-None.extent) (sym same) c.in_ok-extent-in-None.ensures
