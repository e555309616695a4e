-- A connector in memory, as its callers see it.
use Rattle.std.specs.Prelude.{ℕ, List, take, Some}
use Rattle.addr_base.specs.declared.fail_plan.FailPlan.{FailPlan}
use Rattle.addr_wire.specs.Talks.{ConnectNow, Talk}
use Rattle.addr_wire.specs.declared.mem_connect.MemConnect.{MemConnect}

-- what each conversation gives, how much one receive brings at most, and which calls fail
abbrev pub connect_answer : MemConnect → List ℕ
connect_answer conn = conn.answer.items

abbrev pub connect_piece : MemConnect → ℕ
connect_piece conn = conn.piece

abbrev pub connect_plan : MemConnect → FailPlan
connect_plan conn = conn.plan

abbrev pub connect_talk : MemConnect → Talk
connect_talk conn = record { sent = conn.sent.items; given = take conn.at conn.answer.items; ended = conn.ended }

abbrev pub connect_now : MemConnect → ConnectNow
connect_now conn = record { talk = Some (connect_talk conn); faults = conn.faults }
