-- A listener in memory, as its callers see it.
use Rattle.std.specs.Prelude.{ℕ, List, map, take, Some}
use Rattle.addr_base.specs.declared.fail_plan.FailPlan.{FailPlan}
use Rattle.addr_wire.specs.Connections.{ConnNow}
use Rattle.addr_wire.specs.Listeners.{Conns, ListenNow}
use Rattle.addr_wire.specs.MemConnections.{conn_now}
use Rattle.addr_wire.specs.declared.mem_listen.MemListen.{MemListen}

-- the connections that are to be accepted, those that were, and those that were finished
abbrev pub listen_lists : MemListen → Conns
listen_lists listen = record {
  accepted = map conn_now (take listen.handed listen.copies.items);
  finished = map conn_now listen.finished.items;
}

abbrev pub listen_now : MemListen → ListenNow
listen_now listen = record { port = listen.port; conns = Some (listen_lists listen); faults = listen.faults }

-- all connections, as they are handed out one after the other, and how many were
abbrev pub listen_all : MemListen → List ConnNow
listen_all listen = map conn_now listen.copies.items

abbrev pub listen_handed : MemListen → ℕ
listen_handed listen = listen.handed

-- which calls fail
abbrev pub listen_plan : MemListen → FailPlan
listen_plan listen = listen.plan
