use Rattle.std.proofs.Common.{◌≡◌, sym, subst, ◌∙◌}
use Rattle.addr_expansion.specs.Expansion.{given, of_name, joined, with_piece}
use Rattle.addr_expansion.specs.Extents.{IsExtent}
use Rattle.addr_expansion.proofs.ExpansionLemmas.{open_piece, closed_piece}
use Rattle.addr_expansion.proofs.expansion.add_piece.Goals as goal

pub returns-in_default : goal.returns-in_default
returns-in_default c = λ lead a holds is. open_piece (of_name c.args.variables.now lead) a c.args.piece.now c.in_default.ensures

pub returns : goal.returns
returns c = λ lead a holds is.
    let vs = c.args.variables.now in
    let piece = c.args.piece.now in
    let (name_is, plain_is, within) = c.in-Some.ensures in
    let led = c.in_ok-led.ensures a (of_name vs lead c.in-Some.name.now) is (c.named.ensures lead holds) in
    let both = c.in_ok-extent.ensures (joined a (of_name vs lead c.in-Some.name.now)) (given c.in-Some.plain.now) led c.in_ok-plain.ensures in
    let parts : joined (joined a (of_name vs lead c.in-Some.name.now)) (given c.in-Some.plain.now) ≡ with_piece (of_name vs lead) a piece =
    (λ i. joined (joined a (of_name vs lead (name_is i))) (given (plain_is i))) ∙ sym (closed_piece (of_name vs lead) a piece within) in
    subst (IsExtent c.in_ok-extent.extent) parts both
