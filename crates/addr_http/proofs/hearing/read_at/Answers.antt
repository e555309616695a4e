use Rattle.std.proofs.Common.{refl, arith, rules}
use Rattle.std.proofs.lemmas.Slice.{take-put_mid}
use Rattle.addr_http.proofs.HearingLemmas.{takes_at}
use Rattle.addr_http.proofs.hearing.read_at.Goals as goal

pub returns-clause-told : goal.returns-clause-told
returns-clause-told g c = takes_at c.args.at (g.C.Conn.now c.args.conn.now).left (g.C.Conn.now c.read.new.self).left c.args.buffer.now c.read.new.into _ c.read.result c.requires (search (rules)) c.read.ensures.within (take-put_mid c.args.at _ c.args.buffer.now c.read.new.into _ refl (omega (arith, c.requires))) c.read.ensures.reads.bytes
