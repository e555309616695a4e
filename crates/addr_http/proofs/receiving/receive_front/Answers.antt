use Rattle.std.proofs.Common.{◌≤◌, ◌+◌, refl, ◌∙◌, arith, length}
use Rattle.addr_http.proofs.ReceivingLemmas.{tells_first, tells_more, tells_whole, tells_never, tells_full, whole_inside}
use Rattle.addr_http.proofs.receiving.receive_front.Goals as goal

pub reads-init : goal.reads-init
reads-init g c = record {
  len = c.requires.buffer;
  fields_len = c.requires.fields;
  fits = omega arith;
  told = tells_first c.args.buffer.now (g.C.Connect.now c.args.conn.now).talk;
  count = refl;
}

pub returns-in-Whole-clause-told : goal.returns-in-Whole-clause-told
returns-in-Whole-clause-told g c = tells_whole c.reads.at c.in_ok-n.n c.in-Whole.len c.in-Whole.headed c.reads.buffer c.receive_at.new.buffer (g.C.Connect.now c.args.conn.now).talk (g.C.Connect.now c.reads.conn).talk (g.C.Connect.now c.receive_at.new.conn).talk c.reads.invariant.told c.in_ok-n.ensures.told (omega (arith, c.if-n-eq0.false)) (omega (arith, c.in_ok-n.ensures.fits, c.reads.invariant.len)) c.in-Whole.ensures (omega (arith, c.in_ok-n.ensures.fits, c.receive_at.auto.buffer))

pub returns-in-Whole-clause-inside : goal.returns-in-Whole-clause-inside
returns-in-Whole-clause-inside g c =
    let fits : c.reads.at + c.in_ok-n.n ≤ length c.receive_at.new.buffer = omega (arith, c.in_ok-n.ensures.fits, c.receive_at.auto.buffer) in
    (whole_inside (c.reads.at + c.in_ok-n.n) c.in-Whole.len c.receive_at.new.buffer c.in-Whole.headed c.in-Whole.ensures fits, fits)

pub returns-in-Never-clause-told : goal.returns-in-Never-clause-told
returns-in-Never-clause-told g c = tells_never c.reads.at c.in_ok-n.n c.reads.buffer c.receive_at.new.buffer (g.C.Connect.now c.args.conn.now).talk (g.C.Connect.now c.reads.conn).talk (g.C.Connect.now c.receive_at.new.conn).talk c.reads.invariant.told c.in_ok-n.ensures.told (omega (arith, c.if-n-eq0.false)) (omega (arith, c.in_ok-n.ensures.fits, c.reads.invariant.len)) c.in-Never.ensures

pub reads-preserved : goal.reads-preserved
reads-preserved g c = record {
  len = omega (arith, c.receive_at.auto.buffer, c.reads.invariant.len);
  fields_len = omega (arith, c.look.auto.fields, c.reads.invariant.fields_len);
  fits = omega (arith, c.in_ok-n.ensures.fits, c.reads.invariant.len);
  told = tells_more c.reads.at c.in_ok-n.n c.reads.buffer c.receive_at.new.buffer (g.C.Connect.now c.args.conn.now).talk (g.C.Connect.now c.reads.conn).talk (g.C.Connect.now c.receive_at.new.conn).talk c.reads.invariant.told c.in_ok-n.ensures.told (omega (arith, c.if-n-eq0.false)) (omega (arith, c.in_ok-n.ensures.fits, c.reads.invariant.len)) c.in-More.ensures;
  count = c.in_ok-n.ensures.cause.same ∙ c.reads.invariant.count;
}

pub returns-clause-told : goal.returns-clause-told
returns-clause-told g c = tells_full c.reads.at c.reads.buffer (g.C.Connect.now c.args.conn.now).talk (g.C.Connect.now c.reads.conn).talk c.reads.invariant.told c.reads.invariant.len (omega (arith, c.reads-test.false, c.reads.invariant.len))
