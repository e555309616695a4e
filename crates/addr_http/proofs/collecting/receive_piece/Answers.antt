use Rattle.std.proofs.Common.{arith, refl, take}
use Rattle.std.proofs.lemmas.List.{length-take-le}
use Rattle.addr_http.proofs.CollectingLemmas.{gave_some}
use Rattle.addr_http.proofs.collecting.receive_piece.Goals as goal

pub returns-in-Ok-pour_front-clause-told : goal.returns-in-Ok-pour_front-clause-told
returns-in-Ok-pour_front-clause-told g c = record {
  gave = take c.in-Ok.n c.receive.new.into;
  poured = take c.args.room (take c.in-Ok.n c.receive.new.into);
  pours = c.in-Ok-pour_front.ensures.ok;
  case = (length-take-le c.in-Ok.n c.receive.new.into c.in-Ok.ensures.within, omega (arith, c.if-n-eq0.false), refl);
  told = gave_some c.in-Ok.n c.receive.new.into (g.C.Connect.now c.args.conn.now).talk (g.C.Connect.now c.receive.new.self).talk c.in-Ok.ensures.receives.talk_is;
  over = tt;
}

pub returns-in-Err-pour_front-clause-told : goal.returns-in-Err-pour_front-clause-told
returns-in-Err-pour_front-clause-told g c = record {
  gave = take c.in-Ok.n c.receive.new.into;
  poured = _;
  pours = c.in-Err-pour_front.ensures.err;
  case = refl;
  told = gave_some c.in-Ok.n c.receive.new.into (g.C.Connect.now c.args.conn.now).talk (g.C.Connect.now c.receive.new.self).talk c.in-Ok.ensures.receives.talk_is;
  over = tt;
}
