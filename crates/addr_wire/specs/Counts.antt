-- Counts of faults: a call that answers Ok leaves the count as it was, and a call fails only where it rose.
use Rattle.std.specs.Prelude.{ℕ, ◌≡◌, ◌≤◌, Result, OnOk, OnErr}
use Rattle.addr_base.specs.Faults.{Rose}

pub record Counts {T E : Type 0} (old : ℕ) (result : Result T E) (new : ℕ) : Type 0 where
  pub same : OnOk result (new ≡ old)
  pub later : old ≤ new
  pub failed : OnErr result (Rose old new)
