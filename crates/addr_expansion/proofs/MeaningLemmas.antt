-- What the rounds answer is what a text with names in brackets stands for.
use Rattle.std.proofs.Common.{◌≡◌, ℕ, zero, suc, ◌<◌, ◌≤◌, min, nat_le, Bool, true, false, cond, List, [], ◌∷◌, ◌++◌, length, map, Option, Some, Result, Ok, Err, ◌⊎◌, inl, inr, refl, sym, ap, subst, ◌∙◌, arith, append_assoc}
use Rattle.std.proofs.lemmas.Bool.Decides.{nat_tests}
use Rattle.std.proofs.lemmas.List.{length-map}
use Rattle.std.specs.Cmp.Lexicographic.{bytes_decides}
use Rattle.std.specs.List.{AllByRecursion, find, before_first, after_first}
use Rattle.std.specs.Option.{option_map}
use Rattle.std.specs.Str.{bytes_eq}
use Rattle.addr_base.specs.declared.var.Var.{Var}
use Rattle.addr_walks.specs.Walks.{Leads}
use Rattle.addr_walks.specs.Walks.Leads.{stays, goes}
use Rattle.addr_expansion.specs.declared.error.ExpandErr.{ExpandErr}
use Rattle.addr_expansion.specs.declared.error.ExpandErr.TheVariants.{BadVariable, Cycle, TooLong}
use Rattle.addr_expansion.specs.Expansion.{Outcome, bad, circular, given, joined, closes, of_value, of_name, value_of, outcome_of, reply_to, expanded, end_of_lengths}
use Rattle.addr_expansion.specs.Meaning.{Names, IsBad, IsClosed, Follows, LeadsToBad, LeadsToName, LeadsRound, Expands, Replaces, IsMeant}
use Rattle.addr_expansion.specs.Meaning.Expands.{expands}
use Rattle.addr_expansion.specs.Meaning.Replaces.{no_piece, next_piece}
use Rattle.addr_expansion.proofs.OutcomeLemmas.{all_pieces, piece_outcome, pieces_some, filled-pieces, filled_bad, filled_circular, given_named, bad_filled, bad_followed, joined_is_given, piece_given, led_given, closed_outcome}
use Rattle.addr_expansion.proofs.PigeonLemmas.{Has, Repeats, pigeon}
use Rattle.addr_expansion.proofs.StableLemmas.{Settles, round_settles, final, final-filled}

-- Walks

-- a walk that begins with a step
begins : {X : Type 0} (step : X → X → Type 0) (start next end : X) → step start next → Leads step next end → Leads step start end
begins step start next end first stays = goes stays first
begins step start next end first (goes {x = x} {y = y} before last) = goes (begins step start next x first before) last

-- what holds at the end and is handed back by each step holds at the start
handed_back : {X : Type 0} (step : X → X → Type 0) (P : X → Type 0) → ((x y : X) → step x y → P y → P x) → (start end : X) → Leads step start end → P end → P start
handed_back step P back start end stays held = held
handed_back step P back start end (goes {x = x} {y = y} before last) held = handed_back step P back start x before (back x y last held)

-- what holds at the start and is handed on by each step holds at the end
handed_on : {X : Type 0} (step : X → X → Type 0) (P : X → Type 0) → ((x y : X) → step x y → P x → P y) → (start end : X) → Leads step start end → P start → P end
handed_on step P on start end stays held = held
handed_on step P on start end (goes {x = x} {y = y} before last) held = on x y last (handed_on step P on start x before held)

-- a name with a value is one of the variables' names
var_has : (some : List Var) (name value : List ℕ) → value_of some name ≡ Some value → Has (map (λ v. v.name) some) name
var_has [] name value known = absurd (cc)
var_has (v ∷ some) name value known = by_test (bytes_eq v.name name) refl (var_has some name value)
  where
    found : Bool → Option (List ℕ)
    found t = option_map (λ (w : Var). w.value) (cond t (Some v) (find (λ w. bytes_eq w.name name) some))

    by_test : (t : Bool) → bytes_eq v.name name ≡ t → (value_of some name ≡ Some value → Has (map (λ w. w.name) some) name) → (v.name ≡ name) ⊎ Has (map (λ w. w.name) some) name
    by_test true is rest = inl ((bytes_decides v.name name).0 is)
    by_test false is rest = inr (rest (sym (ap found is) ∙ known))

-- a piece whose name's value ends in a text
piece_ends : (vs : List Var) (piece value here : List ℕ) → IsClosed piece → value_of vs (before_first closes piece) ≡ Some value → final vs value ≡ given here
    → piece_outcome (of_name vs (final vs)) piece ≡ given (here ++ after_first closes piece)
piece_ends vs piece value here closed known ends =
    closed_outcome (of_name vs (final vs)) piece closed
    ∙ ap (λ o. joined o (given (after_first closes piece))) (ap (of_value (final vs)) known ∙ ends)

-- the reply of a text that is given
abbrev reply_if : List ℕ → Bool → Result (List ℕ) ExpandErr
reply_if t b = cond b (Ok t) (Err (TooLong (min (length t) end_of_lengths)))

module _ (vs : List Var) where
  -- Bad texts

  bad_walk : (n : ℕ) (text : List ℕ) → outcome_of vs n text ≡ bad → LeadsToBad vs text
  unfolding outcome_of
  bad_walk zero text is = absurd (cc)
  bad_walk (suc n) text is = by_parts (filled_bad vs (outcome_of vs n) text is) (bad_walk n)
    where
      by_parts : IsBad vs text ⊎ ((value : List ℕ) × Follows vs text value × (outcome_of vs n value ≡ bad)) → ((t : List ℕ) → outcome_of vs n t ≡ bad → LeadsToBad vs t) → LeadsToBad vs text
      by_parts (inl here) later = (text, stays, here)
      by_parts (inr (value, follows, found)) later =
          let (t, walk, end) = later value found in
          (t, begins (Follows vs) text value t follows walk, end)

  walk_bad : (text : List ℕ) → LeadsToBad vs text → final vs text ≡ bad
  walk_bad text (t, walk, end) =
      handed_back (Follows vs) (λ x. final vs x ≡ bad) (λ x y step held. sym (final-filled vs x) ∙ bad_followed vs (final vs) x y step held) text t walk
      (sym (final-filled vs t) ∙ bad_filled vs (final vs) t end)

  -- Cycles

  stays_given : (n : ℕ) (text t : List ℕ) → outcome_of vs n text ≡ given t → outcome_of vs (suc n) text ≡ given t
  stays_given n text t is = by_settled (round_settles vs n text)
    where
      by_settled : Settles (outcome_of vs n text) (outcome_of vs (suc n) text) → outcome_of vs (suc n) text ≡ given t
      by_settled (inl round) = absurd (cc)
      by_settled (inr same) = same ∙ is

  abbrev IsGiven : ℕ → List ℕ → Type 0
  IsGiven n text = (t : List ℕ) × (outcome_of vs n text ≡ given t)

  given_on : (n : ℕ) (text name value : List ℕ) → IsGiven (suc n) text → Names text name → value_of vs name ≡ Some value → IsGiven n value
  unfolding outcome_of
  given_on n text name value (t, is) named known =
      let (found, x, found_is, led) = given_named vs (outcome_of vs n) text t name is named in
      let same : found ≡ value = cc in
      (x, ap (outcome_of vs n) (sym same) ∙ led)

  -- the value of a name that is reached from a text which is given in a round is given in the round before
  given_reached : (n : ℕ) (text name value : List ℕ) → IsGiven (suc n) text → LeadsToName vs text name → value_of vs name ≡ Some value → IsGiven n value
  given_reached n text name value first (t, walk, named) known =
      let step_on : (x y : List ℕ) → Follows vs x y → IsGiven (suc n) x → IsGiven (suc n) y =
      λ x y follows held. (let (z, is) = given_on n x follows.0 y held follows.1 follows.2 in (z, stays_given n y z is)) in
      given_on n t name value (handed_on (Follows vs) (IsGiven (suc n)) step_on text t walk first) named known

  never_given : (n : ℕ) (name value : List ℕ) → value_of vs name ≡ Some value → LeadsToName vs value name → IsGiven n value → ⊥
  unfolding outcome_of
  never_given zero name value known round (t, is) = absurd (cc)
  never_given (suc n) name value known round held = never_given n name value known round (given_reached n value name value held round known)

  round_ungiven : (n : ℕ) (text : List ℕ) → LeadsRound vs text → IsGiven n text → ⊥
  unfolding outcome_of
  round_ungiven zero text around (t, is) = absurd (cc)
  round_ungiven (suc n) text (name, led, (value, known, round)) held = never_given n name value known round (given_reached n text name value held led known)

  -- names one after the other, each in the value of the one before
  abbrev Chain : List ℕ → List (List ℕ) → Type 0
  Chain text [] = Unit {0}
  Chain text (name ∷ names) = Names text name × ((value : List ℕ) × (value_of vs name ≡ Some value) × Chain value names)

  circular_chain : (n : ℕ) (text : List ℕ) → outcome_of vs n text ≡ circular → (names : List (List ℕ)) × (length names ≡ n) × Chain text names
  unfolding outcome_of
  circular_chain zero text is = ([], refl, tt)
  circular_chain (suc n) text is =
      let (name, value, named, known, round) = filled_circular vs (outcome_of vs n) text is in
      let (names, long, chain) = circular_chain n value round in
      (name ∷ names, ap suc long, (named, (value, known, chain)))

  chain_names : (names : List (List ℕ)) (text name : List ℕ) → Chain text names → Has names name → LeadsToName vs text name
  chain_names [] text name chain held = absurd held
  chain_names (k ∷ names) text name (named, (value, known, chain)) (inl same) = (text, stays, subst (Names text) same named)
  chain_names (k ∷ names) text name (named, (value, known, chain)) (inr later) =
      let (t, walk, last) = chain_names names value name chain later in
      (t, begins (Follows vs) text value t (k, named, known) walk, last)

  chain_round : (names : List (List ℕ)) (text : List ℕ) → Chain text names → Repeats names → LeadsRound vs text
  chain_round [] text chain twice = absurd twice
  chain_round (k ∷ names) text (named, (value, known, chain)) (inl later) = (k, (text, stays, named), (value, known, chain_names names value k chain later))
  chain_round (k ∷ names) text (named, (value, known, chain)) (inr twice) =
      let (name, (t, walk, last), round) = chain_round names value chain twice in
      (name, (t, begins (Follows vs) text value t (k, named, known) walk, last), round)

  chain_known : (names : List (List ℕ)) (text : List ℕ) → Chain text names → AllByRecursion (Has (map (λ v. v.name) vs)) names
  chain_known [] text chain = tt
  chain_known (k ∷ names) text (named, (value, known, chain)) = (var_has vs k value known, chain_known names value chain)

  circular_round : (text : List ℕ) → final vs text ≡ circular → LeadsRound vs text
  circular_round text is =
      let (names, long, chain) = circular_chain (suc (length vs)) text is in
      let keys : length (map (λ (v : Var). v.name) vs) ≡ length vs = length-map vs (λ (v : Var). v.name) in
      chain_round names text chain (pigeon names (map (λ (v : Var). v.name) vs) (chain_known names text chain) (omega (arith, long, keys)))

  -- Texts

  abbrev Ends : (List ℕ → Outcome) → Type 0
  Ends lead = (value t : List ℕ) → lead value ≡ given t → Expands vs value t

  given_replaces : (lead : List ℕ → Outcome) → Ends lead → (pieces : List (List ℕ)) (t : List ℕ) → all_pieces (of_name vs lead) pieces ≡ given t → Replaces vs pieces t
  given_replaces lead ends [] t is = let same : [] ≡ t = cc in subst (Replaces vs []) same no_piece
  given_replaces lead ends (piece ∷ pieces) t is =
      let (x, y, first, rest, whole) = joined_is_given (piece_outcome (of_name vs lead) piece) (all_pieces (of_name vs lead) pieces) t is in
      let (closed, (z, led, parts)) = piece_given (of_name vs lead) piece x first in
      let (value, known, at) = led_given vs lead [] (before_first closes piece) (value_of vs (before_first closes piece)) z refl led in
      next_piece piece value z y pieces closed known (ends value z at) (given_replaces lead ends pieces y rest) (whole ∙ ap (λ a. a ++ y) parts ∙ append_assoc z (after_first closes piece) y)

  given_expands : (n : ℕ) → Ends (outcome_of vs n)
  unfolding outcome_of
  given_expands zero text t is = absurd (cc)
  given_expands (suc n) text t is =
      let (plain, pieces, split) = pieces_some text in
      let (x, y, first, rest, whole) = joined_is_given (given plain) (all_pieces (of_name vs (outcome_of vs n)) pieces) t (sym (filled-pieces vs (outcome_of vs n) text plain pieces split) ∙ is) in
      let same : x ≡ plain = cc in
      expands plain y pieces split (given_replaces (outcome_of vs n) (given_expands n) pieces y rest) (whole ∙ ap (λ a. a ++ y) same)

  mutual
    expands_final : {text t : List ℕ} → Expands vs text t → final vs text ≡ given t
    expands_final {text = text} (expands plain rest pieces split replaced whole) =
        sym (final-filled vs text) ∙ filled-pieces vs (final vs) text plain pieces split ∙ ap (joined (given plain)) (replaces_final replaced) ∙ ap given (sym whole)

    replaces_final : {pieces : List (List ℕ)} {t : List ℕ} → Replaces vs pieces t → all_pieces (of_name vs (final vs)) pieces ≡ given t
    replaces_final no_piece = refl
    replaces_final (next_piece piece value here rest pieces closed known ends replaced whole) =
        (λ i. joined (piece_ends vs piece value here closed known (expands_final ends) i) (replaces_final replaced i))
        ∙ ap given (append_assoc here (after_first closes piece) rest ∙ sym whole)

-- The answer

reply_bad : (o : Outcome) → reply_to o ≡ Err BadVariable → o ≡ bad
reply_bad bad is = refl
reply_bad circular is = absurd (cc)
reply_bad (given t) is = absurd (by_test (nat_le (length t) 1024) is)
  where
    by_test : (b : Bool) → reply_if t b ≡ Err BadVariable → ⊥
    by_test true is = cc
    by_test false is = cc

reply_circular : (o : Outcome) → reply_to o ≡ Err Cycle → o ≡ circular
reply_circular bad is = absurd (cc)
reply_circular circular is = refl
reply_circular (given t) is = absurd (by_test (nat_le (length t) 1024) is)
  where
    by_test : (b : Bool) → reply_if t b ≡ Err Cycle → ⊥
    by_test true is = cc
    by_test false is = cc

reply_short : (o : Outcome) (t : List ℕ) → reply_to o ≡ Ok t → (o ≡ given t) × (length t ≤ 1024)
reply_short bad t is = absurd (cc)
reply_short circular t is = absurd (cc)
reply_short (given x) t is = by_test (nat_le (length x) 1024) refl is
  where
    by_test : (b : Bool) → nat_le (length x) 1024 ≡ b → reply_if x b ≡ Ok t → (given x ≡ given t) × (length t ≤ 1024)
    by_test true short is =
        let same : x ≡ t = cc in
        let small : length x ≤ 1024 = grind (arith, nat_tests) in
        (ap given same, subst (λ (y : List ℕ). length y ≤ 1024) same small)
    by_test false long is = absurd (cc)

reply_long : (o : Outcome) (n : ℕ) → reply_to o ≡ Err (TooLong n) → (t : List ℕ) × (o ≡ given t) × (1024 < length t) × (n ≡ min (length t) end_of_lengths)
reply_long bad n is = absurd (cc)
reply_long circular n is = absurd (cc)
reply_long (given x) n is = by_test (nat_le (length x) 1024) refl is
  where
    by_test : (b : Bool) → nat_le (length x) 1024 ≡ b → reply_if x b ≡ Err (TooLong n) → (t : List ℕ) × (given x ≡ given t) × (1024 < length t) × (n ≡ min (length t) end_of_lengths)
    by_test true short is = absurd (cc)
    by_test false long is =
        let big : 1024 < length x = grind (arith, nat_tests) in
        let number : n ≡ min (length x) end_of_lengths = cc in
        (x, refl, big, number)

short_reply : (t : List ℕ) → length t ≤ 1024 → reply_to (given t) ≡ Ok t
short_reply t small = let test : nat_le (length t) 1024 ≡ true = grind (arith, nat_tests) in ap (reply_if t) test

long_reply : (t : List ℕ) (n : ℕ) → 1024 < length t → n ≡ min (length t) end_of_lengths → reply_to (given t) ≡ Err (TooLong n)
long_reply t n big number =
    let test : nat_le (length t) 1024 ≡ false = grind (arith, nat_tests) in
    ap (reply_if t) test ∙ ap (λ (k : ℕ). Err (TooLong k)) (sym number)

not_circular : (vs : List Var) (text : List ℕ) → final vs text ≡ circular → LeadsToBad vs text → ⊥
not_circular vs text is leads = let bad_one : final vs text ≡ bad = walk_bad vs text leads in cc

round_circular : (vs : List Var) (text : List ℕ) (o : Outcome) → final vs text ≡ o → (LeadsToBad vs text → ⊥) → LeadsRound vs text → final vs text ≡ circular
round_circular vs text bad is good round = absurd (good (bad_walk vs (suc (length vs)) text is))
round_circular vs text circular is good round = is
round_circular vs text (given t) is good round = absurd (round_ungiven vs (suc (length vs)) text round (t, is))

pub meant : (vs : List Var) (text : List ℕ) → IsMeant vs text
unfolding expanded
meant vs text = record {
  bad = (λ is. bad_walk vs (suc (length vs)) text (reply_bad (final vs text) is), λ leads. ap reply_to (walk_bad vs text leads));
  cycle = (
    λ is. (let round = reply_circular (final vs text) is in (not_circular vs text round, circular_round vs text round)),
    λ both. ap reply_to (round_circular vs text (final vs text) refl both.0 both.1),
  );
  short = λ t. (
    λ is. (let (found, small) = reply_short (final vs text) t is in (given_expands vs (suc (length vs)) text t found, small)),
    λ both. ap reply_to (expands_final vs both.0) ∙ short_reply t both.1,
  );
  long = λ n. (
    λ is. (let (t, found, big, number) = reply_long (final vs text) n is in (t, given_expands vs (suc (length vs)) text t found, big, number)),
    λ all. ap reply_to (expands_final vs all.1) ∙ long_reply all.0 n all.2 all.3,
  );
}
