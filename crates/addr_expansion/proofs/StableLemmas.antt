-- After as many rounds as there are variables one round more changes nothing: each round settles another value, or none.
use Rattle.std.proofs.Common.{◌≡◌, ℕ, zero, suc, ◌+◌, ◌<◌, ◌≤◌, nat_lt, Bool, true, false, cond, List, [], ◌∷◌, length, Option, Some, None, ◌⊎◌, inl, inr, refl, sym, ap, ◌∙◌, arith}
use Rattle.std.specs.List.{AllByRecursion, find, position_or_len, before_first, after_first}
use Rattle.std.specs.Option.{option_map}
use Rattle.std.specs.Str.{bytes_eq}
use Rattle.addr_base.specs.declared.var.Var.{Var}
use Rattle.addr_expansion.specs.Expansion.{Outcome, bad, circular, given, joined, closes, with_pieces, of_value, of_name, value_of, filled, outcome_of, pieces_of}
use Rattle.addr_expansion.proofs.ExpansionLemmas.{joined-bad}
use Rattle.addr_expansion.proofs.OutcomeLemmas.{all_pieces, pieces_some, filled-pieces}

-- what is not circular stays
abbrev pub Settles : Outcome → Outcome → Type 0
Settles before now = (before ≡ circular) ⊎ (now ≡ before)

joined_settles : (a a' b b' : Outcome) → Settles a a' → Settles b b' → Settles (joined a b) (joined a' b')
joined_settles a a' bad b' (inl round) (inr same) = inr (ap (joined a') same ∙ joined-bad a' ∙ sym (joined-bad a))
joined_settles a a' circular b' (inl round) rest = inl (ap (λ o. joined o circular) round)
joined_settles a a' (given y) b' (inl round) rest = inl (ap (λ o. joined o (given y)) round)
joined_settles a a' bad b' (inl round) (inl other) = absurd (cc)
joined_settles bad a' b b' (inr same) rest = inr (ap (λ o. joined o b') same)
joined_settles circular a' b b' (inr same) (inl round) = inl (ap (joined circular) round)
joined_settles (given x) a' b b' (inr same) (inl round) = inl (ap (joined (given x)) round)
joined_settles circular a' b b' (inr first) (inr rest) = inr (λ i. joined (first i) (rest i))
joined_settles (given x) a' b b' (inr first) (inr rest) = inr (λ i. joined (first i) (rest i))

module _ (vs : List Var) (lead now : List ℕ → Outcome) (each : (t : List ℕ) → Settles (lead t) (now t)) where
  name_settles : (o : Option (List ℕ)) → Settles (of_value lead o) (of_value now o)
  name_settles None = inr refl
  name_settles (Some value) = each value

  piece_settles : (piece : List ℕ) (t : Bool) → Settles (cond t (joined (of_name vs lead (before_first closes piece)) (given (after_first closes piece))) bad) (cond t (joined (of_name vs now (before_first closes piece)) (given (after_first closes piece))) bad)
  piece_settles piece true = joined_settles _ _ _ _ (name_settles (value_of vs (before_first closes piece))) (inr refl)
  piece_settles piece false = inr refl

  pieces_settle : (pieces : List (List ℕ)) → Settles (all_pieces (of_name vs lead) pieces) (all_pieces (of_name vs now) pieces)
  pieces_settle [] = inr refl
  pieces_settle (piece ∷ pieces) = joined_settles _ _ _ _ (piece_settles piece (nat_lt (position_or_len closes piece) (length piece))) (pieces_settle pieces)

  pub filled_settles : (text : List ℕ) → Settles (filled vs lead text) (filled vs now text)
  filled_settles text =
      let (plain, pieces, split) = pieces_some text in
      elim (joined_settles (given plain) (given plain) _ _ (inr refl) (pieces_settle pieces)) [
        | inl round ↦ inl (filled-pieces vs lead text plain pieces split ∙ round)
        | inr same ↦ inr (filled-pieces vs now text plain pieces split ∙ same ∙ sym (filled-pieces vs lead text plain pieces split))
      ]

-- one round more
pub round_settles : (vs : List Var) (n : ℕ) (text : List ℕ) → Settles (outcome_of vs n text) (outcome_of vs (suc n) text)
unfolding outcome_of
round_settles vs zero text = inl refl
round_settles vs (suc n) text = filled_settles vs (outcome_of vs n) (outcome_of vs (suc n)) (round_settles vs n) text

-- the values that are still circular
abbrev one_if : Outcome → ℕ
one_if bad = 0
one_if circular = 1
one_if (given t) = 0

abbrev rounds : (List ℕ → Outcome) → List Var → ℕ
rounds lead [] = 0
rounds lead (v ∷ vs) = one_if (lead v.value) + rounds lead vs

rounds_few : (lead : List ℕ → Outcome) (vs : List Var) → rounds lead vs ≤ length vs
rounds_few lead [] = omega arith
rounds_few lead (v ∷ vs) =
    let one : one_if (lead v.value) ≤ 1 = at_most (lead v.value) in
    let few = rounds_few lead vs in
    omega arith
  where
    at_most : (o : Outcome) → one_if o ≤ 1
    at_most bad = omega arith
    at_most circular = omega arith
    at_most (given t) = omega arith

-- every value leads to the same
abbrev pub AreSame : (List ℕ → Outcome) → (List ℕ → Outcome) → List Var → Type 0
AreSame lead now vs = AllByRecursion (λ v. now v.value ≡ lead v.value) vs

module _ (lead now : List ℕ → Outcome) (each : (t : List ℕ) → Settles (lead t) (now t)) where
  one_settles : (a b : Outcome) → Settles a b → (one_if b ≤ one_if a) × ((b ≡ a) ⊎ (one_if b < one_if a))
  one_settles a b (inr same) = let equal : one_if b ≡ one_if a = ap one_if same in (omega arith, inl same)
  one_settles a bad (inl round) = let one : one_if a ≡ 1 = ap one_if round in (omega arith, inr (omega arith))
  one_settles a circular (inl round) = let one : one_if a ≡ 1 = ap one_if round in (omega arith, inl (sym round))
  one_settles a (given t) (inl round) = let one : one_if a ≡ 1 = ap one_if round in (omega arith, inr (omega arith))

  -- all values lead to what they led to, or fewer are circular
  fewer : (vs : List Var) → (rounds now vs ≤ rounds lead vs) × (AreSame lead now vs ⊎ (rounds now vs < rounds lead vs))
  fewer [] = (omega arith, inl tt)
  fewer (v ∷ vs) =
      let (le, one) = one_settles (lead v.value) (now v.value) (each v.value) in
      let (few, rest) = fewer vs in
      let all : rounds now (v ∷ vs) ≤ rounds lead (v ∷ vs) = omega arith in
      elim one [
        | inl same ↦ (elim rest [
          | inl others ↦ (all, inl (same, others))
          | inr less ↦ (all, inr (omega arith))
        ])
        | inr less ↦ (all, inr (omega arith))
      ]

-- a text leads where the values lead
same_value : (lead now : List ℕ → Outcome) (name : List ℕ) (vs : List Var) → AreSame lead now vs → (o : Option Var) → find (λ v. bytes_eq v.name name) vs ≡ o → of_value now (option_map (λ v. v.value) o) ≡ of_value lead (option_map (λ v. v.value) o)
same_value lead now name [] same o is = ap (λ (o : Option Var). of_value now (option_map (λ v. v.value) o)) (sym is) ∙ ap (λ (o : Option Var). of_value lead (option_map (λ v. v.value) o)) is
same_value lead now name (v ∷ vs) (first, rest) o is = by_test (bytes_eq v.name name) refl (same_value lead now name vs rest o)
  where
    found : Bool → Option Var
    found t = cond t (Some v) (find (λ v. bytes_eq v.name name) vs)

    by_test : (t : Bool) → bytes_eq v.name name ≡ t → (find (λ v. bytes_eq v.name name) vs ≡ o → of_value now (option_map (λ v. v.value) o) ≡ of_value lead (option_map (λ v. v.value) o))
        → of_value now (option_map (λ v. v.value) o) ≡ of_value lead (option_map (λ v. v.value) o)
    by_test true test others =
        let here : Some v ≡ o = sym (ap found test) ∙ is in
        ap (λ (o : Option Var). of_value now (option_map (λ v. v.value) o)) (sym here) ∙ first ∙ ap (λ (o : Option Var). of_value lead (option_map (λ v. v.value) o)) here
    by_test false test others = others (sym (ap found test) ∙ is)

filled_same : (vs : List Var) (lead now : List ℕ → Outcome) → AreSame lead now vs → (text : List ℕ) → filled vs now text ≡ filled vs lead text
unfolding filled
filled_same vs lead now same text = λ i. with_pieces (λ name. names name i) (pieces_of text)
  where
    names : (name : List ℕ) → of_name vs now name ≡ of_name vs lead name
    names name = same_value lead now name vs same (find (λ v. bytes_eq v.name name) vs) refl

all_same : (lead now : List ℕ → Outcome) → ((t : List ℕ) → now t ≡ lead t) → (vs : List Var) → AreSame lead now vs
all_same lead now each [] = tt
all_same lead now each (v ∷ vs) = (each v.value, all_same lead now each vs)

module _ (vs : List Var) where
  next_same : (n : ℕ) → AreSame (outcome_of vs n) (outcome_of vs (suc n)) vs → (text : List ℕ) → outcome_of vs (suc (suc n)) text ≡ outcome_of vs (suc n) text
  unfolding outcome_of
  next_same n same text = filled_same vs (outcome_of vs n) (outcome_of vs (suc n)) same text

  stays_same : (n : ℕ) → AreSame (outcome_of vs n) (outcome_of vs (suc n)) vs → AreSame (outcome_of vs (suc n)) (outcome_of vs (suc (suc n))) vs
  stays_same n same = all_same (outcome_of vs (suc n)) (outcome_of vs (suc (suc n))) (next_same n same) vs

  settled : (n : ℕ) → AreSame (outcome_of vs n) (outcome_of vs (suc n)) vs ⊎ (rounds (outcome_of vs n) vs + n ≤ length vs)
  settled zero = let few = rounds_few (outcome_of vs zero) vs in inr (omega arith)
  settled (suc n) =
      elim (settled n) [
        | inl same ↦ inl (stays_same n same)
        | inr few ↦ (elim (fewer (outcome_of vs n) (outcome_of vs (suc n)) (round_settles vs n) vs).1 [
          | inl same ↦ inl (stays_same n same)
          | inr less ↦ inr (omega arith)
        ])
      ]

  all_settled : AreSame (outcome_of vs (length vs)) (outcome_of vs (suc (length vs))) vs
  all_settled =
      elim (settled (length vs)) [
        | inl same ↦ same
        | inr few ↦ (elim (fewer (outcome_of vs (length vs)) (outcome_of vs (suc (length vs))) (round_settles vs (length vs)) vs).1 [
          | inl same ↦ same
          | inr less ↦ absurd (omega arith)
        ])
      ]

-- what a text leads to in the end
abbrev pub final : List Var → List ℕ → Outcome
final vs text = outcome_of vs (suc (length vs)) text

-- the end is what the ends of the values fill in
pub final-filled : (vs : List Var) (text : List ℕ) → filled vs (final vs) text ≡ final vs text
unfolding outcome_of
final-filled vs text = next_same vs (length vs) (all_settled vs) text
