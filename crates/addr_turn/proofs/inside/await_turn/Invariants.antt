use Rattle.std.proofs.Common.{◌≡◌, ◌%◌, []}
use Rattle.addr_turn.specs.Queue.{stage, ticket}
use Rattle.addr_turn.specs.Steps.{with_role}
use Rattle.addr_turn.proofs.inside.await_turn.Given as goal

abbrev pub invariant-loop : goal.invariant-loop
invariant-loop g l = (l.place.table_id ≡ l.fn.place.table_id) × (l.place.me.1 ≡ []) × (stage l.place.me.0.role ≡ 1) × (ticket l.place.me.0.role % 18446744073709551616 ≡ l.ticket) × (l.place.me.0 ≡ with_role l.fn.place.me.0 l.place.me.0.role)
