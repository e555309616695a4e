use Rattle.std.proofs.Common.{◌∙◌, arith}
use Rattle.addr_http.proofs.CollectingLemmas.{collects_refused, so_far_more}
use Rattle.addr_http.proofs.collecting.collect.Goals as goal

pub pieces-preserved : goal.pieces-preserved
pieces-preserved g c =
    let told = rw c.in-Ok-Came.field-0-is at c.in-Ok-Came.ensures.told in
    let more = so_far_more g.P.Pour.took c.args.left c.args.room c.pieces.left c.pieces.room c.in-Ok-Came.n c.args.into.now c.pieces.into c.receive_piece.new.into (g.C.Connect.now c.args.conn.now).talk (g.C.Connect.now c.pieces.conn).talk (g.C.Connect.now c.receive_piece.new.conn).talk c.pieces.invariant.so_far told in
    record {
      len = omega (arith, c.receive_piece.ensures.len, c.pieces.invariant.len);
      so_far = rw (c.saturating_sub-left.ensures, c.saturating_sub-room.ensures) more;
      fixed = c.receive_piece.ensures.fixed ∙ c.pieces.invariant.fixed;
      count = c.in-Ok-Came.ensures.cause.same ∙ c.pieces.invariant.count;
    }

pub returns-in-Ok-Refused-clause-told : goal.returns-in-Ok-Refused-clause-told
returns-in-Ok-Refused-clause-told g c =
    let told = rw c.in-Ok-Refused.field-0-is at c.in-Ok-Refused.ensures.told in
    collects_refused g.P.Pour.took c.args.left c.args.room c.pieces.left c.pieces.room c.args.into.now c.pieces.into c.receive_piece.new.into (g.C.Connect.now c.args.conn.now).talk (g.C.Connect.now c.pieces.conn).talk (g.C.Connect.now c.receive_piece.new.conn).talk c.pieces.invariant.so_far told
