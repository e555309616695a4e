use Rattle.std.proofs.Common.{◌<◌, length, ap, subst, arith}
use Rattle.addr_layout.proofs.RankLemmas.{read-at}
use Rattle.addr_walks.specs.Rows.{Edge}
use Rattle.addr_images.specs.within.Deps.{IsRowTold}
use Rattle.addr_images.proofs.EntryLemmas.{deps-for, list-there, rows-more}
use Rattle.addr_images.proofs.entries.entries_over.Goals as goal

pub loop-x-preserved : goal.loop-x-preserved
loop-x-preserved c =
    let p = c.args.project.now in
    let plan = c.args.plan.now in
    let direct = c.args.direct.now in
    let lists = c.in_ok-deps.deps in
    let x = c.loop-x.x in
    let b = c.owner_at-b.result in
    let deps = c.index-as_slice-b.result in
    let are = deps-for plan direct lists c.requires.many c.in_ok-deps.ensures in
    let within : b < length c.as_slice.result.now = (let there = list-there p plan (Edge direct) lists are b x c.owner_at-b.ensures in let e = ap length c.as_slice.ensures in omega (arith, there, e)) in
    let at = read-at c.as_slice.result.now lists b deps c.as_slice.ensures within c.index-as_slice-b.is in
    rows-more p plan (Edge direct) lists are x b deps c.in_ok-row_told.field-0 c.loop-x.rows.items c.push.new.self.items c.owner_at-b.ensures at
    (subst (λ ds. IsRowTold p x ds c.in_ok-row_told.field-0) c.as_slice-deps.ensures c.in_ok-row_told.ensures) c.loop-x.invariant c.in_ok-push.ensures.items
