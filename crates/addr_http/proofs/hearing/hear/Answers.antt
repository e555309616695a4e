use Rattle.std.proofs.Common.{◌+◌, refl, ◌∙◌, rules, arith}
use Rattle.std.proofs.lemmas.List.{length-take}
use Rattle.addr_http.proofs.HearingLemmas.{told_first, told_cut, told_head, told_more, told_whole, told_no_more_whole}
use Rattle.addr_http.proofs.hearing.hear.Goals as goal

pub reads-init : goal.reads-init
reads-init g c = record {
  len = c.requires;
  fits = omega arith;
  last = λ h. omega (arith, h);
  reads = told_first (g.C.Conn.now c.args.conn.now).left c.args.buffer.now;
  sink = record { written = refl; sink_faults = refl };
  count = refl;
}

pub returns-then-n-eq0-clause-told : goal.returns-then-n-eq0-clause-told
returns-then-n-eq0-clause-told g c = told_cut (g.C.Conn.now c.args.conn.now).left (g.C.Conn.now c.reads.conn).left (g.C.Conn.now c.read_at.new.conn).left c.reads.buffer c.read_at.new.buffer c.reads.at c.in_ok-n.n c.reads.invariant.reads c.in_ok-n.ensures.told c.if-n-eq0.true (omega (arith, c.reads-test.true, c.reads.invariant.len))

pub returns-in-Some-clause-told : goal.returns-in-Some-clause-told
returns-in-Some-clause-told g c = told_head (g.C.Conn.now c.args.conn.now).left (g.C.Conn.now c.reads.conn).left (g.C.Conn.now c.read_at.new.conn).left c.reads.buffer c.read_at.new.buffer c.reads.at c.in_ok-n.n c.in-Some.end c.reads.invariant.reads c.in_ok-n.ensures.told c.in-Some.ensures.value (omega (arith, c.in-Some.ensures.fits, length-take (c.reads.at + c.in_ok-n.n) c.read_at.new.buffer)) (omega (arith, c.in_ok-n.ensures.fits, c.reads.invariant.len)) (omega (arith, c.read_at.auto.buffer, c.reads.invariant.len))

pub reads-preserved : goal.reads-preserved
reads-preserved g c = record {
  len = omega (arith, c.read_at.auto.buffer, c.reads.invariant.len);
  fits = omega (arith, c.in_ok-n.ensures.fits, c.reads.invariant.len);
  last = λ h. omega (arith, c.in_ok-n.ensures.last);
  reads = told_more (g.C.Conn.now c.args.conn.now).left (g.C.Conn.now c.reads.conn).left (g.C.Conn.now c.read_at.new.conn).left c.reads.buffer c.read_at.new.buffer c.reads.at c.in_ok-n.n c.reads.invariant.reads c.in_ok-n.ensures.told (search (rules));
  sink = record { written = c.in_ok-n.ensures.sink.written ∙ c.reads.invariant.sink.written; sink_faults = c.in_ok-n.ensures.sink.sink_faults ∙ c.reads.invariant.sink.sink_faults };
  count = c.in_ok-n.ensures.cause.same ∙ c.reads.invariant.count;
}

pub returns-clause-told : goal.returns-clause-told
returns-clause-told g c = told_whole (g.C.Conn.now c.args.conn.now).left (g.C.Conn.now c.reads.conn).left c.reads.buffer c.reads.at c.reads.invariant.reads (omega (arith, c.reads-test.false, c.reads.invariant.len)) c.reads.invariant.fits

pub returns-clause-no_more : goal.returns-clause-no_more
returns-clause-no_more g c = told_no_more_whole (g.C.Conn.now c.args.conn.now).left (g.C.Conn.now c.reads.conn).left c.reads.buffer c.reads.at (g.C.Conn.now c.reads.conn).last c.reads.invariant.reads (c.reads.invariant.last (omega (arith, c.reads-test.false, c.reads.invariant.len)))
