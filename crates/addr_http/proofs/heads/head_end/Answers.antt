use Rattle.std.proofs.Math.ListN.{drop_of_length-le}
use Rattle.addr_http.proofs.HeadLemmas.{seeks_first, seeks_on, seeks_found, seeks_none}
use Rattle.addr_http.proofs.heads.head_end.Goals as goal

pub returns-then-end-gt0-clause-value : goal.returns-then-end-gt0-clause-value
returns-then-end-gt0-clause-value c = seeks_found c.loop-i.i c.end_behind-end.result c.args.bytes.now c.loop-i-test.true c.end_behind-end.ensures.value c.if-end-gt0.true c.loop-i.invariant

pub loop-i-init : goal.loop-i-init
loop-i-init c = seeks_first c.args.bytes.now

pub loop-i-preserved : goal.loop-i-preserved
loop-i-preserved c = seeks_on c.loop-i.i c.end_behind-end.result c.args.bytes.now c.loop-i-test.true c.end_behind-end.ensures.value c.if-end-gt0.false c.loop-i.invariant

pub returns-clause-value : goal.returns-clause-value
returns-clause-value c = seeks_none c.loop-i.i c.args.bytes.now (drop_of_length-le c.args.bytes.now c.loop-i-test.false) c.loop-i.invariant
