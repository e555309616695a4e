use Rattle.std.proofs.Common.{◌+◌, List, ℕ, get_or, take, subst, sym}
use Rattle.std.proofs.lemmas.List.{take_all, take_more}
use Rattle.addr_moves.specs.within.Anew.{AddsNames, name_under}
use Rattle.addr_moves.proofs.AnewLemmas.{names-more, names-none}
use Rattle.addr_moves.proofs.FirstLemmas.{puts-from}
use Rattle.addr_moves.proofs.anew.add_names.Goals as goal

pub guid_bytes-requires : goal.guid_bytes-requires
guid_bytes-requires c = c.requires c.loop-x.x-index 0 c.loop-x-test.true

pub loop-x-init : goal.loop-x-init
loop-x-init c = names-none c.args.project.now (name_under c.args.anew.now) c.args.name

pub loop-x-preserved : goal.loop-x-preserved
loop-x-preserved c =
    let p = c.args.project.now in
    let entries = c.args.entries.now in
    let i = c.loop-x.x-index in
    let x = get_or entries i 0 in
    let old = name_under c.args.anew.now in
    let new = name_under c.insert.new.self in
    let key : List ℕ = c.guid_bytes.result.now in
    subst (λ xs. AddsNames p old xs c.args.name new) (sym (take_more entries i 0 c.loop-x-test.true))
    (names-more p old (name_under c.loop-x.anew) new (take i entries) x c.guid_bytes.ensures.0 key c.args.name c.guid_bytes.ensures.1 c.guid_bytes.ensures.2 (puts-from key c.args.name c.loop-x.anew c.insert.new.self c.in_ok-insert.ensures.updates) c.loop-x.invariant)

pub returns : goal.returns
returns c = subst (λ xs. AddsNames c.args.project.now (name_under c.args.anew.now) xs c.args.name (name_under c.loop-x.anew)) (take_all c.loop-x.x-index c.args.entries.now c.loop-x-test.false) c.loop-x.invariant
