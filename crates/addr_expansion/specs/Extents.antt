-- What is kept of an outcome: a text of at most 1,024 bytes whole, and of a longer one the length.
use Rattle.std.specs.Prelude.{ℕ, ◌≡◌, ◌<◌, ◌≤◌, nat_le, min, List, length, map, if◌then◌else◌, Result, Ok, Err}
use Rattle.addr_base.specs.declared.var.Var.{Var}
use Rattle.addr_expansion.specs.declared.error.ExpandErr.{ExpandErr}
use Rattle.addr_expansion.specs.declared.error.ExpandErr.TheVariants.{BadVariable, Cycle, TooLong}
use Rattle.addr_expansion.specs.declared.extent.Extent.{Extent}
use Rattle.addr_expansion.specs.declared.extent.Extent.TheVariants.{Bad, Circular, Whole, Long}
use Rattle.addr_expansion.specs.Expansion.{Outcome, bad, circular, given, end_of_lengths}

-- what is kept of an outcome
abbrev pub extent_of : Outcome → Extent
extent_of bad = Bad
extent_of circular = Circular
extent_of (given t) = if nat_le (length t) 1024 then Whole t else Long (min (length t) end_of_lengths)

-- the outcomes of which this is kept
abbrev pub IsExtent : Extent → Outcome → Type 0
IsExtent Bad o = o ≡ bad
IsExtent Circular o = o ≡ circular
IsExtent (Whole t) o = (o ≡ given t) × (length t ≤ 1024)
IsExtent (Long n) o = (t : List ℕ) × (o ≡ given t) × (1024 < length t) × (n ≡ min (length t) end_of_lengths)

-- what is kept of each variable's value
abbrev pub extents : (List ℕ → Outcome) → List Var → List Extent
extents lead vs = map (λ v. extent_of (lead v.value)) vs

-- the answer that is kept
abbrev pub answer_of : Extent → Result (List ℕ) ExpandErr
answer_of Bad = Err BadVariable
answer_of Circular = Err Cycle
answer_of (Whole t) = Ok t
answer_of (Long n) = Err (TooLong n)
