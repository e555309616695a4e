use Rattle.std.proofs.Common.{◌≡◌, map, take}
use Rattle.addr_wire.specs.MemConnections.{conn_now}
use Rattle.addr_wire.proofs.mem_listen.copies_of.Given as goal

abbrev pub invariant-loop-conn : goal.invariant-loop-conn
invariant-loop-conn l = map conn_now l.copies.items ≡ map conn_now (take l.conn-index l.conns)
