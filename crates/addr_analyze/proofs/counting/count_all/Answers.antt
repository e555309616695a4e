use Rattle.std.proofs.Common.{nat_eq, get_or, take, arith}
use Rattle.std.proofs.lemmas.Grind.{get_or_default_zero}
use Rattle.std.proofs.lemmas.List.{length-take-le}
use Rattle.std.proofs.lemmas.List.Sums.{count_by-le-length}
use Rattle.addr_analyze.proofs.counting.count_all.Goals as goal

pub overflow_add-index_mut : goal.overflow_add-index_mut
overflow_add-index_mut c =
    let members = c.args.members.now in
    let i = c.loop-n.n-index in
    let n = get_or members i 0 in
    let within = c.requires.within i 0 c.loop-n-test.true in
    let long-counts = c.args.counts.now.ok.0 in
    let room = c.requires.room n 0 (omega arith) in
    let counted = c.loop-n.invariant.counted n in
    let most = count_by-le-length (nat_eq n) (take i members) in
    let long = length-take-le i members (omega (arith, c.loop-n-test.true)) in
    let value = c.index_mut.ensures.value in
    let same = get_or_default_zero c.loop-n.counts.items n c.index_mut.result.now (let len = c.loop-n.invariant.len in let kept = c.loop-n.counts.ok.0 in omega arith) in
    omega arith
