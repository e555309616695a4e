-- Which calls of a fake fail: they are told by number, from 1 on, over all methods.
use Rattle.std.specs.Prelude.{ℕ, ◌≡◌, ◌==◌, Bool, List}
use Rattle.std.specs.List.{list_any}
use Rattle.addr_base.specs.Faults.{one_more}
use Rattle.addr_base.specs.declared.fail_plan.FailPlan.{FailPlan}

-- whether the next call is told to fail
abbrev pub fails_next : FailPlan → Bool
fails_next plan = list_any (λ number. number == one_more plan.calls) plan.fails.items

-- no call yet, and these are to fail
abbrev pub IsFresh : List ℕ → FailPlan → Type 0
IsFresh fails plan = (plan.calls ≡ 0) × (plan.fails.items ≡ fails)

-- one call was counted, and those that are to fail stay
abbrev pub IsCounted : FailPlan → FailPlan → Type 0
IsCounted old new = (new.calls ≡ one_more old.calls) × (new.fails ≡ old.fails)
