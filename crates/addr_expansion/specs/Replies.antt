-- What several texts expand to over the same variables.
use Rattle.std.specs.Prelude.{ℕ, List, map, Bool, true, false, Result, Err}
use Rattle.addr_base.specs.declared.var.Var.{Var}
use Rattle.addr_expansion.specs.declared.error.ExpandErr.{ExpandErr}
use Rattle.addr_expansion.specs.declared.error.ExpandErr.TheVariants as expanding
use Rattle.addr_expansion.specs.Expansion.{expanded}

-- the text leads to an unknown name or an open bracket
abbrev pub is_bad : Result (List ℕ) ExpandErr → Bool
is_bad (Err expanding.BadVariable) = true
is_bad _ = false

-- it leads to a variable that leads to itself, and to nothing bad
abbrev pub is_circular : Result (List ℕ) ExpandErr → Bool
is_circular (Err expanding.Cycle) = true
is_circular _ = false

-- what each variable's value expands to
abbrev pub replies : List Var → List (Result (List ℕ) ExpandErr)
replies vs = map (λ v. expanded vs v.value) vs
