-- Spans of numbers, each by its first number and its length, and how often a number stands in some of them.
use Rattle.std.specs.Prelude.{ℕ, ◌+◌, ◌-◌, List, [], ◌∷◌, min}

-- every number of a pass is below it
abbrev pub number_bound : ℕ
number_bound = 4294967296

-- 1 where k is below m, else 0
abbrev pub below : ℕ → ℕ → ℕ
below k m = min 1 (m - k)

-- 1 where k is one of the n numbers from low on, else 0
abbrev pub in_span : ℕ → ℕ → ℕ → ℕ
in_span k low n = below k (low + n) - below k low

-- in how many of the spans k stands
abbrev pub times : ℕ → List (ℕ × ℕ) → ℕ
times k [] = 0
times k (s ∷ ss) = in_span k s.0 s.1 + times k ss

-- the span of one number, that of a pass which was met
abbrev pub single : {E : Type 0} → ℕ × List E → ℕ × ℕ
single other = (other.0, 1)
