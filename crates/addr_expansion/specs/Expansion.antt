-- Expansion: each name in square brackets stands for the expanded value of the variable of that name.
use Rattle.std.specs.Prelude.{ℕ, zero, suc, ◌-◌, ◌^◌, ◌==◌, nat_lt, nat_le, min, List, [], ◌∷◌, ◌++◌, length, Bool, if◌then◌else◌, Option, Some, None, Result, Ok, Err}
use Rattle.std.specs.List.{find, fold, slice_split, position_or_len, before_first, after_first}
use Rattle.std.specs.Option.{option_map}
use Rattle.std.specs.Str.{bytes_eq}
use Rattle.addr_base.specs.declared.var.Var.{Var}
use Rattle.addr_expansion.specs.declared.error.ExpandErr.{ExpandErr}
use Rattle.addr_expansion.specs.declared.error.ExpandErr.TheVariants.{BadVariable, Cycle, TooLong}

-- what a text leads to: an unknown name or an open bracket, else a variable that leads to itself, else its bytes
pub data Outcome : Type 0 where
  bad : Outcome
  circular : Outcome
  given : List ℕ → Outcome

-- one after the other: the worst of both, and else both
abbrev pub joined : Outcome → Outcome → Outcome
joined bad next = bad
joined circular bad = bad
joined circular circular = circular
joined circular (given b) = circular
joined (given a) bad = bad
joined (given a) circular = circular
joined (given a) (given b) = given (a ++ b)

-- a byte is `]`, which ends a name
abbrev pub closes : ℕ → Bool
closes b = b == 93

-- after what came so far, a piece that follows a `[`: a name up to the first `]`, and bytes that stand for themselves
unfoldable pub with_piece : (List ℕ → Outcome) → Outcome → List ℕ → Outcome
with_piece at before piece =
    if nat_lt (position_or_len closes piece) (length piece)
    then joined (joined before (at (before_first closes piece))) (given (after_first closes piece))
    else bad

-- the pieces of a text between its `[`, of which the first stands for itself
abbrev pub with_pieces : (List ℕ → Outcome) → List (List ℕ) → Outcome
with_pieces at [] = given []
with_pieces at (plain ∷ pieces) = fold (with_piece at) (given plain) pieces

-- what stands between the `[` of a text
abbrev pub pieces_of : List ℕ → List (List ℕ)
pieces_of text = slice_split (λ b. b == 91) text

-- the value of the variable of that name
abbrev pub value_of : List Var → List ℕ → Option (List ℕ)
value_of vs name = option_map (λ v. v.value) (find (λ v. bytes_eq v.name name) vs)

-- what a value leads to, where there is one
abbrev pub of_value : (List ℕ → Outcome) → Option (List ℕ) → Outcome
of_value lead None = bad
of_value lead (Some value) = lead value

-- what a name leads to, where each value leads to what is given
abbrev pub of_name : List Var → (List ℕ → Outcome) → List ℕ → Outcome
of_name vs lead name = of_value lead (value_of vs name)

-- what a text leads to, where each value leads to what is given
unfoldable pub filled : List Var → (List ℕ → Outcome) → List ℕ → Outcome
filled vs lead text = with_pieces (of_name vs lead) (pieces_of text)

-- what a text leads to by walks of fewer names than n; a walk of more names than there are variables meets one twice
unfoldable pub outcome_of : List Var → ℕ → List ℕ → Outcome
outcome_of vs zero text = circular
outcome_of vs (suc n) text = filled vs (outcome_of vs n) text

-- the greatest u64, at which lengths stand still
abbrev pub end_of_lengths : ℕ
end_of_lengths = 2 ^ 64 - 1

-- the answer: a text of at most 1,024 bytes, or why there is none
abbrev pub reply_to : Outcome → Result (List ℕ) ExpandErr
reply_to bad = Err BadVariable
reply_to circular = Err Cycle
reply_to (given t) = if nat_le (length t) 1024 then Ok t else Err (TooLong (min (length t) end_of_lengths))

-- the expanded text of at most 1,024 bytes, or why there is none
unfoldable pub expanded : List Var → List ℕ → Result (List ℕ) ExpandErr
expanded vs text = reply_to (outcome_of vs (suc (length vs)) text)
