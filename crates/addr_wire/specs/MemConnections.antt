-- A connection in memory, as its callers see it.
use Rattle.std.specs.Prelude.{ℕ, List, drop, Some, Result, Ok, Err}
use Rattle.addr_base.specs.Faults.{one_more}
use Rattle.addr_base.specs.declared.fail_plan.FailPlan.{FailPlan}
use Rattle.addr_wire.specs.Connections.{ConnNow}
use Rattle.addr_wire.specs.declared.mem_conn.MemConn.{MemConn}

-- what its peer sends that wasn't read, and what was put
abbrev pub conn_left : MemConn → List ℕ
conn_left conn = drop conn.at conn.input.items

abbrev pub conn_written : MemConn → List ℕ
conn_written conn = conn.output.items

-- which of its calls fail, and how much one read brings at most
abbrev pub conn_plan : MemConn → FailPlan
conn_plan conn = conn.plan

abbrev pub conn_piece : MemConn → ℕ
conn_piece conn = conn.piece

abbrev pub conn_now : MemConn → ConnNow
conn_now conn = record {
  left = Some (conn_left conn);
  last = conn.last;
  source_faults = conn.source_faults;
  written = Some (conn_written conn);
  sink_faults = conn.sink_faults;
}

-- the count of faults after an answer: one more exactly after a refusal
abbrev pub count_after : {T E : Type 0} → ℕ → Result T E → ℕ
count_after faults (Ok done) = faults
count_after faults (Err e) = one_more faults
