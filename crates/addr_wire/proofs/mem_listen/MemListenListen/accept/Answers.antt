use Rattle.std.proofs.Common.{arith, refl, map, rules, add-one}
use Rattle.addr_wire.proofs.FakeLemmas.{handed, hands}
use Rattle.addr_wire.specs.MemConnections.{conn_now}
use Rattle.addr_wire.proofs.mem_listen.MemListenListen.accept.Goals as goal

pub invariant_of-self-in-Some-clause-order : goal.invariant_of-self-in-Some-clause-order
invariant_of-self-in-Some-clause-order c =
    let h = hands conn_now c.args.self.now.handed c.args.self.now.copies.items c.args.self.now.waiting.items c.in-Some.conn c.pop_front.new.self.items c.in-Some.ensures.items c.args.self.now.order in
    rw add-one h.others_are

pub invariant_of-self-in-Some-clause-within : goal.invariant_of-self-in-Some-clause-within
invariant_of-self-in-Some-clause-within c =
    let h = hands conn_now c.args.self.now.handed c.args.self.now.copies.items c.args.self.now.waiting.items c.in-Some.conn c.pop_front.new.self.items c.in-Some.ensures.items c.args.self.now.order in
    omega (arith, h.there, c.args.self.now.copies.ok.0)

pub returns-in-Some-clause-accepts : goal.returns-in-Some-clause-accepts
returns-in-Some-clause-accepts c =
    let h = hands conn_now c.args.self.now.handed c.args.self.now.copies.items c.args.self.now.waiting.items c.in-Some.conn c.pop_front.new.self.items c.in-Some.ensures.items c.args.self.now.order in
    record { lists = handed c.args.self.now.handed c.args.self.now.copies.items (conn_now c.in-Some.conn) (map conn_now c.args.self.now.finished.items) h.front; port = refl; cause = search (rules) }

pub returns-in-Some-clause-next : goal.returns-in-Some-clause-next
returns-in-Some-clause-next c =
    let h = hands conn_now c.args.self.now.handed c.args.self.now.copies.items c.args.self.now.waiting.items c.in-Some.conn c.pop_front.new.self.items c.in-Some.ensures.items c.args.self.now.order in
    rw add-one h.rest
