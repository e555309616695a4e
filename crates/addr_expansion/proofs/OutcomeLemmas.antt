-- A text's outcome by its pieces: what each of them leads to, one after the other.
use Rattle.std.proofs.Common.{◌≡◌, ◌==◌, ℕ, zero, suc, ◌<◌, ◌≤◌, nat_lt, Bool, true, false, cond, List, [], ◌∷◌, ◌++◌, length, Option, Some, None, ◌⊎◌, inl, inr, refl, sym, ap, ◌∙◌, arith, append_assoc}
use Rattle.std.proofs.lemmas.Bool.Decides.{nat_tests}
use Rattle.std.proofs.lemmas.List.{append-nil}
use Rattle.std.specs.List.{Contains, fold, position_or_len, before_first, after_first, onto_first}
use Rattle.addr_base.specs.declared.var.Var.{Var}
use Rattle.addr_expansion.specs.Expansion.{Outcome, bad, circular, given, joined, closes, with_piece, with_pieces, of_value, of_name, value_of, filled, pieces_of}
use Rattle.addr_expansion.specs.Meaning.{IsClosed, IsOpen, IsBad, Names, Follows, behind_first}
use Rattle.addr_expansion.proofs.ExpansionLemmas.{joined-bad}

joined-assoc : (a b c : Outcome) → joined (joined a b) c ≡ joined a (joined b c)
joined-assoc bad b c = refl
joined-assoc circular bad c = refl
joined-assoc circular circular bad = refl
joined-assoc circular circular circular = refl
joined-assoc circular circular (given z) = refl
joined-assoc circular (given y) bad = refl
joined-assoc circular (given y) circular = refl
joined-assoc circular (given y) (given z) = refl
joined-assoc (given x) bad c = refl
joined-assoc (given x) circular bad = refl
joined-assoc (given x) circular circular = refl
joined-assoc (given x) circular (given z) = refl
joined-assoc (given x) (given y) bad = refl
joined-assoc (given x) (given y) circular = refl
joined-assoc (given x) (given y) (given z) = ap given (append_assoc x y z)

joined-none : (a : Outcome) → joined a (given []) ≡ a
joined-none bad = refl
joined-none circular = refl
joined-none (given t) = ap given (append-nil t)

-- what both lead to comes from one of them
pub joined_is_bad : (a b : Outcome) → joined a b ≡ bad → (a ≡ bad) ⊎ (b ≡ bad)
joined_is_bad bad b is = inl refl
joined_is_bad circular bad is = inr refl
joined_is_bad circular circular is = absurd (cc)
joined_is_bad circular (given y) is = absurd (cc)
joined_is_bad (given x) bad is = inr refl
joined_is_bad (given x) circular is = absurd (cc)
joined_is_bad (given x) (given y) is = absurd (cc)

pub joined_is_circular : (a b : Outcome) → joined a b ≡ circular → (a ≡ circular) ⊎ (b ≡ circular)
joined_is_circular bad b is = absurd (cc)
joined_is_circular circular b is = inl refl
joined_is_circular (given x) bad is = absurd (cc)
joined_is_circular (given x) circular is = inr refl
joined_is_circular (given x) (given y) is = absurd (cc)

pub joined_is_given : (a b : Outcome) (t : List ℕ) → joined a b ≡ given t → (x y : List ℕ) × (a ≡ given x) × (b ≡ given y) × (t ≡ x ++ y)
joined_is_given bad b t is = absurd (cc)
joined_is_given circular bad t is = absurd (cc)
joined_is_given circular circular t is = absurd (cc)
joined_is_given circular (given y) t is = absurd (cc)
joined_is_given (given x) bad t is = absurd (cc)
joined_is_given (given x) circular t is = absurd (cc)
joined_is_given (given x) (given y) t is = let same : t ≡ x ++ y = cc in (x, y, refl, refl, same)

-- what a piece that begins with a name leads to, where names lead to what is given
abbrev pub piece_outcome : (List ℕ → Outcome) → List ℕ → Outcome
piece_outcome at piece = cond (nat_lt (position_or_len closes piece) (length piece)) (joined (at (before_first closes piece)) (given (after_first closes piece))) bad

abbrev pub all_pieces : (List ℕ → Outcome) → List (List ℕ) → Outcome
all_pieces at [] = given []
all_pieces at (piece ∷ pieces) = joined (piece_outcome at piece) (all_pieces at pieces)

piece_joined : (at : List ℕ → Outcome) (a : Outcome) (piece : List ℕ) → with_piece at a piece ≡ joined a (piece_outcome at piece)
unfolding with_piece
piece_joined at a piece = by_test (nat_lt (position_or_len closes piece) (length piece))
  where
    by_test : (t : Bool) → cond t (joined (joined a (at (before_first closes piece))) (given (after_first closes piece))) bad ≡ joined a (cond t (joined (at (before_first closes piece)) (given (after_first closes piece))) bad)
    by_test true = joined-assoc a (at (before_first closes piece)) (given (after_first closes piece))
    by_test false = sym (joined-bad a)

pieces_joined : (at : List ℕ → Outcome) (a : Outcome) (pieces : List (List ℕ)) → fold (with_piece at) a pieces ≡ joined a (all_pieces at pieces)
pieces_joined at a [] = sym (joined-none a)
pieces_joined at a (piece ∷ pieces) =
    pieces_joined at (with_piece at a piece) pieces
    ∙ ap (λ b. joined b (all_pieces at pieces)) (piece_joined at a piece)
    ∙ joined-assoc a (piece_outcome at piece) (all_pieces at pieces)

first_part : (xs : List ℕ) (parts : List (List ℕ)) (x : ℕ) → (plain : List ℕ) × (pieces : List (List ℕ)) × (onto_first x parts ≡ plain ∷ pieces)
first_part xs [] x = (x ∷ [], [], refl)
first_part xs (part ∷ parts) x = (x ∷ part, parts, refl)

-- a text has a first piece, which stands for itself
pub pieces_some : (text : List ℕ) → (plain : List ℕ) × (pieces : List (List ℕ)) × (pieces_of text ≡ plain ∷ pieces)
pieces_some [] = ([], [], refl)
pieces_some (b ∷ text) = by_test (b == 91) refl
  where
    by_test : (t : Bool) → (b == 91) ≡ t → (plain : List ℕ) × (pieces : List (List ℕ)) × (pieces_of (b ∷ text) ≡ plain ∷ pieces)
    by_test true is = ([], pieces_of text, ap (λ (t : Bool). cond t ([] ∷ pieces_of text) (onto_first b (pieces_of text))) is)
    by_test false is =
        let (plain, pieces, parts) = first_part text (pieces_of text) b in
        (plain, pieces, ap (λ (t : Bool). cond t ([] ∷ pieces_of text) (onto_first b (pieces_of text))) is ∙ parts)

-- an element of a list
pub here : {X : Type 0} (x : X) (xs : List X) → Contains (x ∷ xs) x
here x xs = (0, omega arith, refl)

pub later : {X : Type 0} (y x : X) (xs : List X) → Contains xs x → Contains (y ∷ xs) x
later y x xs (k, small, at) = (suc k, omega arith, at)

module _ (at : List ℕ → Outcome) where
  pub bad_piece : (pieces : List (List ℕ)) → all_pieces at pieces ≡ bad → (piece : List ℕ) × Contains pieces piece × (piece_outcome at piece ≡ bad)
  bad_piece [] is = absurd (cc)
  bad_piece (p ∷ pieces) is =
      elim (joined_is_bad (piece_outcome at p) (all_pieces at pieces) is) [
        | inl first ↦ (p, here p pieces, first)
        | inr rest ↦ (let (piece, held, found) = bad_piece pieces rest in (piece, later p piece pieces held, found))
      ]

  pub circular_piece : (pieces : List (List ℕ)) → all_pieces at pieces ≡ circular → (piece : List ℕ) × Contains pieces piece × (piece_outcome at piece ≡ circular)
  circular_piece [] is = absurd (cc)
  circular_piece (p ∷ pieces) is =
      elim (joined_is_circular (piece_outcome at p) (all_pieces at pieces) is) [
        | inl first ↦ (p, here p pieces, first)
        | inr rest ↦ (let (piece, held, found) = circular_piece pieces rest in (piece, later p piece pieces held, found))
      ]

  -- one bad piece makes all bad
  pub all_bad : (pieces : List (List ℕ)) (piece : List ℕ) → Contains pieces piece → piece_outcome at piece ≡ bad → all_pieces at pieces ≡ bad
  all_bad [] piece (k, small, is) found = absurd (omega arith)
  all_bad (p ∷ pieces) piece (zero, small, is) found = ap (λ (x : List ℕ). joined (piece_outcome at x) (all_pieces at pieces)) is ∙ ap (λ o. joined o (all_pieces at pieces)) found
  all_bad (p ∷ pieces) piece (suc k, small, is) found =
      let less : k < length pieces = omega arith in
      ap (joined (piece_outcome at p)) (all_bad pieces piece (k, less, is) found) ∙ joined-bad (piece_outcome at p)

  -- where all are given, each is
  pub each_given : (pieces : List (List ℕ)) (t piece : List ℕ) → all_pieces at pieces ≡ given t → Contains pieces piece → (x : List ℕ) × (piece_outcome at piece ≡ given x)
  each_given [] t piece is (k, small, at_k) = absurd (omega arith)
  each_given (p ∷ pieces) t piece is (zero, small, at_k) =
      let (x, y, first, rest, whole) = joined_is_given (piece_outcome at p) (all_pieces at pieces) t is in
      (x, ap (piece_outcome at) (sym at_k) ∙ first)
  each_given (p ∷ pieces) t piece is (suc k, small, at_k) =
      let (x, y, first, rest, whole) = joined_is_given (piece_outcome at p) (all_pieces at pieces) t is in
      let less : k < length pieces = omega arith in
      each_given pieces y piece rest (k, less, at_k)

-- one piece: it is open, or its name leads to what it leads to
module _ (at : List ℕ → Outcome) (piece : List ℕ) where
  abbrev key : List ℕ
  key = before_first closes piece

  abbrev tested : Bool → Outcome
  tested t = cond t (joined (at key) (given (after_first closes piece))) bad

  pub piece_bad : piece_outcome at piece ≡ bad → (length piece ≤ position_or_len closes piece) ⊎ (IsClosed piece × (at key ≡ bad))
  piece_bad is = by_test (nat_lt (position_or_len closes piece) (length piece)) refl
    where
      by_test : (t : Bool) → nat_lt (position_or_len closes piece) (length piece) ≡ t → (length piece ≤ position_or_len closes piece) ⊎ (IsClosed piece × (at key ≡ bad))
      by_test true test =
          let closed : IsClosed piece = grind (arith, nat_tests) in
          elim (joined_is_bad (at key) (given (after_first closes piece)) (sym (ap tested test) ∙ is)) [
            | inl led ↦ inr (closed, led)
            | inr other ↦ absurd (cc other)
          ]
      by_test false test = inl (grind (arith, nat_tests))

  pub piece_circular : piece_outcome at piece ≡ circular → IsClosed piece × (at key ≡ circular)
  piece_circular is = by_test (nat_lt (position_or_len closes piece) (length piece)) refl
    where
      by_test : (t : Bool) → nat_lt (position_or_len closes piece) (length piece) ≡ t → IsClosed piece × (at key ≡ circular)
      by_test true test =
          let closed : IsClosed piece = grind (arith, nat_tests) in
          elim (joined_is_circular (at key) (given (after_first closes piece)) (sym (ap tested test) ∙ is)) [
            | inl led ↦ (closed, led)
            | inr other ↦ absurd (cc other)
          ]
      by_test false test = let none : bad ≡ circular = sym (ap tested test) ∙ is in absurd (cc)

  pub piece_given : (t : List ℕ) → piece_outcome at piece ≡ given t → IsClosed piece × ((x : List ℕ) × (at key ≡ given x) × (t ≡ x ++ after_first closes piece))
  piece_given t is = by_test (nat_lt (position_or_len closes piece) (length piece)) refl
    where
      by_test : (b : Bool) → nat_lt (position_or_len closes piece) (length piece) ≡ b → IsClosed piece × ((x : List ℕ) × (at key ≡ given x) × (t ≡ x ++ after_first closes piece))
      by_test true test =
          let closed : IsClosed piece = grind (arith, nat_tests) in
          let (x, y, led, plain, whole) = joined_is_given (at key) (given (after_first closes piece)) t (sym (ap tested test) ∙ is) in
          let same : y ≡ after_first closes piece = cc in
          (closed, (x, led, whole ∙ ap (λ z. x ++ z) same))
      by_test false test = let none : bad ≡ given t = sym (ap tested test) ∙ is in absurd (cc)

  pub closed_outcome : IsClosed piece → piece_outcome at piece ≡ joined (at key) (given (after_first closes piece))
  closed_outcome closed = let test : nat_lt (position_or_len closes piece) (length piece) ≡ true = grind (arith, nat_tests) in ap tested test

  pub open_outcome : length piece ≤ position_or_len closes piece → piece_outcome at piece ≡ bad
  open_outcome unclosed = let test : nat_lt (position_or_len closes piece) (length piece) ≡ false = grind (arith, nat_tests) in ap tested test

-- a whole text
module _ (vs : List Var) (lead : List ℕ → Outcome) (text : List ℕ) where
  pub filled-pieces : (plain : List ℕ) (pieces : List (List ℕ)) → pieces_of text ≡ plain ∷ pieces → filled vs lead text ≡ joined (given plain) (all_pieces (of_name vs lead) pieces)
  unfolding filled
  filled-pieces plain pieces split = ap (with_pieces (of_name vs lead)) split ∙ pieces_joined (of_name vs lead) (given plain) pieces

  abbrev behind : List (List ℕ)
  behind = behind_first (pieces_of text)

  pub filled-behind : (plain : List ℕ) × (filled vs lead text ≡ joined (given plain) (all_pieces (of_name vs lead) behind))
  filled-behind =
      let (plain, pieces, split) = pieces_some text in
      (plain, filled-pieces plain pieces split ∙ ap (λ ps. joined (given plain) (all_pieces (of_name vs lead) (behind_first ps))) (sym split))

  pub led_bad : (name : List ℕ) (o : Option (List ℕ)) → value_of vs name ≡ o → of_name vs lead name ≡ bad → (value_of vs name ≡ None) ⊎ ((value : List ℕ) × (value_of vs name ≡ Some value) × (lead value ≡ bad))
  led_bad name None is found = inl is
  led_bad name (Some value) is found = inr (value, is, sym (ap (of_value lead) is) ∙ found)

  pub led_circular : (name : List ℕ) (o : Option (List ℕ)) → value_of vs name ≡ o → of_name vs lead name ≡ circular → (value : List ℕ) × (value_of vs name ≡ Some value) × (lead value ≡ circular)
  led_circular name None is found = let none : bad ≡ circular = sym (ap (of_value lead) is) ∙ found in absurd (cc)
  led_circular name (Some value) is found = (value, is, sym (ap (of_value lead) is) ∙ found)

  pub led_given : (name : List ℕ) (o : Option (List ℕ)) (t : List ℕ) → value_of vs name ≡ o → of_name vs lead name ≡ given t → (value : List ℕ) × (value_of vs name ≡ Some value) × (lead value ≡ given t)
  led_given name None t is found = let none : bad ≡ given t = sym (ap (of_value lead) is) ∙ found in absurd (cc)
  led_given name (Some value) t is found = (value, is, sym (ap (of_value lead) is) ∙ found)

  -- a text that leads to a bad one is bad itself, or has the name of a variable whose value does
  pub filled_bad : filled vs lead text ≡ bad → IsBad vs text ⊎ ((value : List ℕ) × Follows vs text value × (lead value ≡ bad))
  filled_bad is =
      let (plain, parts) = filled-behind in
      elim (joined_is_bad (given plain) (all_pieces (of_name vs lead) behind) (sym parts ∙ is)) [
        | inl other ↦ absurd (cc other)
        | inr found ↦ (
            let (piece, held, bad_one) = bad_piece (of_name vs lead) behind found in
            elim (piece_bad (of_name vs lead) piece bad_one) [
              | inl unclosed ↦ inl (inl (piece, held, unclosed))
              | inr (closed, led) ↦ (elim (led_bad (before_first closes piece) (value_of vs (before_first closes piece)) refl led) [
                | inl unknown ↦ inl (inr (before_first closes piece, (piece, held, closed, refl), unknown))
                | inr (value, known, bad_value) ↦ inr (value, (before_first closes piece, (piece, held, closed, refl), known), bad_value)
              ])
            ])
      ]

  pub filled_circular : filled vs lead text ≡ circular → (name value : List ℕ) × Names text name × (value_of vs name ≡ Some value) × (lead value ≡ circular)
  filled_circular is =
      let (plain, parts) = filled-behind in
      elim (joined_is_circular (given plain) (all_pieces (of_name vs lead) behind) (sym parts ∙ is)) [
        | inl other ↦ absurd (cc other)
        | inr found ↦ (
            let (piece, held, round) = circular_piece (of_name vs lead) behind found in
            let (closed, led) = piece_circular (of_name vs lead) piece round in
            let (value, known, at) = led_circular (before_first closes piece) (value_of vs (before_first closes piece)) refl led in
            (before_first closes piece, value, (piece, held, closed, refl), known, at))
      ]

  -- a text that is given has no open bracket, and each of its names has a value that is given
  pub given_closed : (t : List ℕ) → filled vs lead text ≡ given t → IsOpen text → ⊥
  given_closed t is (piece, held, unclosed) =
      let (plain, parts) = filled-behind in
      let (x, y, first, rest, whole) = joined_is_given (given plain) (all_pieces (of_name vs lead) behind) t (sym parts ∙ is) in
      let (z, found) = each_given (of_name vs lead) behind y piece rest held in
      let none : bad ≡ given z = sym (open_outcome (of_name vs lead) piece unclosed) ∙ found in
      absurd (cc)

  pub given_named : (t name : List ℕ) → filled vs lead text ≡ given t → Names text name → (value x : List ℕ) × (value_of vs name ≡ Some value) × (lead value ≡ given x)
  given_named t name is (piece, held, closed, named) =
      let (plain, parts) = filled-behind in
      let (x, y, first, rest, whole) = joined_is_given (given plain) (all_pieces (of_name vs lead) behind) t (sym parts ∙ is) in
      let (z, found) = each_given (of_name vs lead) behind y piece rest held in
      let (w, led, parts_of) = (piece_given (of_name vs lead) piece z found).1 in
      let (value, known, at) = led_given name (value_of vs name) w refl (ap (of_name vs lead) (sym named) ∙ led) in
      (value, w, known, at)

  -- what is bad makes the text bad
  pub bad_filled : IsBad vs text → filled vs lead text ≡ bad
  bad_filled (inl (piece, held, unclosed)) =
      let (plain, parts) = filled-behind in
      parts ∙ ap (joined (given plain)) (all_bad (of_name vs lead) behind piece held (open_outcome (of_name vs lead) piece unclosed))
  bad_filled (inr (name, (piece, held, closed, named), unknown)) =
      let (plain, parts) = filled-behind in
      let led : of_name vs lead (before_first closes piece) ≡ bad = ap (of_name vs lead) named ∙ ap (of_value lead) unknown in
      let found : piece_outcome (of_name vs lead) piece ≡ bad = closed_outcome (of_name vs lead) piece closed ∙ ap (λ o. joined o (given (after_first closes piece))) led in
      parts ∙ ap (joined (given plain)) (all_bad (of_name vs lead) behind piece held found)

  pub bad_followed : (value : List ℕ) → Follows vs text value → lead value ≡ bad → filled vs lead text ≡ bad
  bad_followed value (name, (piece, held, closed, named), known) is =
      let (plain, parts) = filled-behind in
      let led : of_name vs lead (before_first closes piece) ≡ bad = ap (of_name vs lead) named ∙ ap (of_value lead) known ∙ is in
      let found : piece_outcome (of_name vs lead) piece ≡ bad = closed_outcome (of_name vs lead) piece closed ∙ ap (λ o. joined o (given (after_first closes piece))) led in
      parts ∙ ap (joined (given plain)) (all_bad (of_name vs lead) behind piece held found)
