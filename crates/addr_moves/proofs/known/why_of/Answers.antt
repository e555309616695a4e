use Rattle.std.proofs.Common.{ℕ, List, refl, subst}
use Rattle.addr_moves.specs.within.Walked.{IsClear}
use Rattle.addr_moves.proofs.HolderLemmas.{one-asset}
use Rattle.addr_moves.proofs.KnownLemmas.{clear-tells, read-start, start-below}
use Rattle.addr_moves.proofs.known.why_of.Goals as goal

pub walked-requires-clause-start : goal.walked-requires-clause-start
walked-requires-clause-start c =
    let k = c.args.known.now in
    let guid = c.guid_of-guid.result in
    start-below k.places guid c.args.m c.number_of-start.result (read-start k.places c.as_slice.result.now guid guid c.args.m c.number_of-start.result c.as_slice.ensures refl c.number_of-start.ensures)

pub returns-then-is_clear-clause-why : goal.returns-then-is_clear-clause-why
returns-then-is_clear-clause-why c = λ s now cabs bundles was r a known shared named shows entry old. (
    let p = c.args.project.now in
    let k = c.args.known.now in
    let at = read-start k.places c.as_slice.result.now c.guid_of-guid.result a c.args.m c.number_of-start.result c.as_slice.ensures (one-asset p c.args.x c.guid_of-guid.result a c.guid_of-guid.ensures entry) c.number_of-start.ensures in
    let clear = subst (λ (ns : List ℕ). IsClear ns c.number_of-start.result) c.as_slice-2.ensures (c.is_clear.ensures c.if-is_clear.true) in
    clear-tells s was r p now c.kept.ensures shared cabs shows bundles named k known a c.args.m c.number_of-start.result at clear old)

pub returns-clause-why : goal.returns-clause-why
returns-clause-why c = λ s now cabs bundles was r a known shared named shows entry old. (
    let p = c.args.project.now in
    let k = c.args.known.now in
    let at = read-start k.places c.as_slice.result.now c.guid_of-guid.result a c.args.m c.number_of-start.result c.as_slice.ensures (one-asset p c.args.x c.guid_of-guid.result a c.guid_of-guid.ensures entry) c.number_of-start.ensures in
    c.in_ok-why.ensures.why s now cabs bundles was r a c.args.m known shared named shows (c.asset_of.ensures.number a entry) old at)
