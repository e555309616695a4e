use Rattle.std.proofs.Common.{arith, refl, vec_capacity}
use Rattle.addr_wire.proofs.FakeLemmas.{has_room}
use Rattle.addr_wire.specs.MemConnections.{conn_now}
use Rattle.addr_wire.proofs.mem_listen.MemListenListen.finish.Goals as goal

pub push_within-requires : goal.push_within-requires
push_within-requires c =
    let room = has_room conn_now c.args.self.now.handed (vec_capacity c.args.self.now.finished) c.args.self.now.finished.items c.args.self.now.copies.items (c.requires _ refl) (omega (arith, c.args.self.now.room, c.args.self.now.copies.ok.0)) in
    omega (arith, room, c.args.self.now.finished.ok.0)
