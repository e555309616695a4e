-- What a text with names in brackets stands for, in walks and without rounds: each name replaced by what its variable's value
-- stands for, the texts that are bad, and the variables that lead to themselves.
use Rattle.std.specs.Prelude.{ℕ, ◌≡◌, ◌⊎◌, ◌↔◌, ◌<◌, ◌≤◌, min, List, [], ◌∷◌, ◌++◌, length, Some, None, Ok, Err}
use Rattle.std.specs.List.{Contains, position_or_len, before_first, after_first}
use Rattle.addr_base.specs.declared.var.Var.{Var}
use Rattle.addr_walks.specs.Walks.{Leads}
use Rattle.addr_expansion.specs.declared.error.ExpandErr.TheVariants.{BadVariable, Cycle, TooLong}
use Rattle.addr_expansion.specs.Expansion.{closes, pieces_of, value_of, end_of_lengths, expanded}

-- a piece between two `[` has the `]` behind its name
abbrev pub IsClosed : List ℕ → Type 0
IsClosed piece = position_or_len closes piece < length piece

-- the pieces behind the first
abbrev pub behind_first : List (List ℕ) → List (List ℕ)
behind_first [] = []
behind_first (plain ∷ pieces) = pieces

-- the text has the name in brackets
abbrev pub Names : List ℕ → List ℕ → Type 0
Names text name = (piece : List ℕ) × Contains (behind_first (pieces_of text)) piece × IsClosed piece × (before_first closes piece ≡ name)

-- the text has a `[` whose `]` is missing
abbrev pub IsOpen : List ℕ → Type 0
IsOpen text = (piece : List ℕ) × Contains (behind_first (pieces_of text)) piece × (length piece ≤ position_or_len closes piece)

-- the text has an open bracket, or the name of no variable
abbrev pub IsBad : List Var → List ℕ → Type 0
IsBad vs text = IsOpen text ⊎ ((name : List ℕ) × Names text name × (value_of vs name ≡ None))

-- the value is that of a variable which the text names
abbrev pub Follows : List Var → List ℕ → List ℕ → Type 0
Follows vs text value = (name : List ℕ) × Names text name × (value_of vs name ≡ Some value)

-- a walk from the text, each time on to the value of a variable that is named, leads to a bad text
abbrev pub LeadsToBad : List Var → List ℕ → Type 0
LeadsToBad vs text = (t : List ℕ) × Leads (Follows vs) text t × IsBad vs t

-- such a walk leads to a text that has the name
abbrev pub LeadsToName : List Var → List ℕ → List ℕ → Type 0
LeadsToName vs text name = (t : List ℕ) × Leads (Follows vs) text t × Names t name

-- the value of the variable of that name leads to the name again
abbrev pub LeadsToItself : List Var → List ℕ → Type 0
LeadsToItself vs name = (value : List ℕ) × (value_of vs name ≡ Some value) × LeadsToName vs value name

-- the text leads to a name that leads to itself
abbrev pub LeadsRound : List Var → List ℕ → Type 0
LeadsRound vs text = (name : List ℕ) × LeadsToName vs text name × LeadsToItself vs name

mutual
  -- each name in brackets is replaced by what its variable's value expands to
  pub data Expands (vs : List Var) : List ℕ → List ℕ → Type 0 where
    expands : {text out : List ℕ} (plain rest : List ℕ) (pieces : List (List ℕ)) → pieces_of text ≡ plain ∷ pieces → Replaces vs pieces rest → out ≡ plain ++ rest → Expands vs text out

  -- the same of pieces that begin with a name
  pub data Replaces (vs : List Var) : List (List ℕ) → List ℕ → Type 0 where
    no_piece : Replaces vs [] []
    next_piece : {out : List ℕ} (piece value here rest : List ℕ) (pieces : List (List ℕ)) → IsClosed piece → value_of vs (before_first closes piece) ≡ Some value
        → Expands vs value here → Replaces vs pieces rest → out ≡ here ++ (after_first closes piece ++ rest) → Replaces vs (piece ∷ pieces) out

-- the answer, case by case: each comes exactly where this holds
pub record IsMeant (vs : List Var) (text : List ℕ) : Type 0 where
  pub bad : (expanded vs text ≡ Err BadVariable) ↔ LeadsToBad vs text
  pub cycle : (expanded vs text ≡ Err Cycle) ↔ ((LeadsToBad vs text → ⊥) × LeadsRound vs text)
  pub short : (t : List ℕ) → (expanded vs text ≡ Ok t) ↔ (Expands vs text t × (length t ≤ 1024))
  pub long : (n : ℕ) → (expanded vs text ≡ Err (TooLong n)) ↔ ((t : List ℕ) × Expands vs text t × (1024 < length t) × (n ≡ min (length t) end_of_lengths))
