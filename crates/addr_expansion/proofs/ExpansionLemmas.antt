-- Expansion in rounds: what is kept of an outcome, a name's value in the table, and one piece more.
use Rattle.std.proofs.Common.{◌≡◌, ℕ, zero, suc, ◌+◌, ◌<◌, ◌≤◌, min, nat_le, nat_lt, Bool, true, false, cond, List, [], ◌∷◌, ◌++◌, length, map, Option, Some, None, Bor, MatchOption, slice_get, refl, sym, ap, ◌∙◌, arith, length-append, add-one}
use Rattle.std.proofs.lemmas.Bool.Decides.{nat_tests}
use Rattle.std.proofs.lemmas.List.Folds.{find_at}
use Rattle.std.specs.List.{find, fold, position, position_or_len, before_first, after_first}
use Rattle.std.specs.Option.{option_map, option_copied}
use Rattle.std.specs.Str.{bytes_eq}
use Rattle.addr_base.specs.declared.var.Var.{Var}
use Rattle.addr_expansion.specs.declared.extent.Extent.{Extent}
use Rattle.addr_expansion.specs.declared.extent.Extent.TheVariants.{Bad, Circular, Whole, Long}
use Rattle.addr_expansion.specs.Expansion.{Outcome, bad, circular, given, joined, closes, with_piece, with_pieces, of_value, of_name, end_of_lengths, outcome_of, filled, pieces_of}
use Rattle.addr_expansion.specs.Extents.{extent_of, extents, IsExtent}

given_extent : (t : List ℕ) (b : Bool) → nat_le (length t) 1024 ≡ b → IsExtent (extent_of (given t)) (given t)
given_extent t true short = rw short (refl, grind (arith, nat_tests))
given_extent t false long = rw long (t, refl, grind (arith, nat_tests), refl)

-- what is kept of an outcome is its extent
pub is_extent : (o : Outcome) → IsExtent (extent_of o) o
is_extent bad = refl
is_extent circular = refl
is_extent (given t) = given_extent t (nat_le (length t) 1024) refl

whole_extent : (t : List ℕ) → length t ≤ 1024 → Whole t ≡ extent_of (given t)
whole_extent t short = let small : nat_le (length t) 1024 ≡ true = grind (arith, nat_tests) in rw small

long_extent : (t : List ℕ) (n : ℕ) → 1024 < length t → n ≡ min (length t) end_of_lengths → Long n ≡ extent_of (given t)
long_extent t n long is = let big : nat_le (length t) 1024 ≡ false = grind (arith, nat_tests) in rw (big, is)

-- an extent is what is kept of its outcome
pub extent_is : (e : Extent) (o : Outcome) → IsExtent e o → e ≡ extent_of o
extent_is Bad o is = ap extent_of (sym is)
extent_is Circular o is = ap extent_of (sym is)
extent_is (Whole t) o (is, short) = whole_extent t short ∙ ap extent_of (sym is)
extent_is (Long n) o (t, is, long, number) = long_extent t n long number ∙ ap extent_of (sym is)

pub extents-same : (f g : List ℕ → Outcome) → ((t : List ℕ) → f t ≡ g t) → (vs : List Var) → extents f vs ≡ extents g vs
extents-same f g same [] = refl
extents-same f g same (v ∷ vs) = λ i. extent_of (same v.value i) ∷ extents-same f g same vs i

pub outcome-none : (vs : List Var) (t : List ℕ) → circular ≡ outcome_of vs zero t
unfolding outcome_of
outcome-none vs t = refl

pub outcome-more : (vs : List Var) (n : ℕ) (t : List ℕ) → filled vs (outcome_of vs n) t ≡ outcome_of vs (n + 1) t
unfolding outcome_of
outcome-more vs n t = ap (λ (k : ℕ). outcome_of vs k t) (sym (add-one n))

-- a piece with a name, and one with an open bracket
pub open_piece : (at : List ℕ → Outcome) (a : Outcome) (p : List ℕ) → position_or_len closes p ≡ length p → with_piece at a p ≡ bad
unfolding with_piece
open_piece at a p none = let past : nat_lt (position_or_len closes p) (length p) ≡ false = grind (arith, nat_tests) in rw past

pub closed_piece : (at : List ℕ → Outcome) (a : Outcome) (p : List ℕ) → position_or_len closes p < length p → with_piece at a p ≡ joined (joined a (at (before_first closes p))) (given (after_first closes p))
unfolding with_piece
closed_piece at a p some = let within : nat_lt (position_or_len closes p) (length p) ≡ true = grind (arith, nat_tests) in rw within

-- the first variable of a name by its place
find_position : (test : Var → Bool) (vs : List Var) (b : Bool) → nat_lt (position_or_len test vs) (length vs) ≡ b → (n : ℕ) → position test vs ≡ Some n → find test vs ≡ slice_get vs n
find_position test vs true within n is =
    let here : Some (position_or_len test vs) ≡ Some n = sym (ap (λ (c : Bool). cond c (Some (position_or_len test vs)) None) within) ∙ is in
    let same : position_or_len test vs ≡ n = cc in
    find_at test vs ∙ ap (slice_get vs) same
find_position test vs false past n is =
    let none : None ≡ Some n = sym (ap (λ (c : Bool). cond c (Some (position_or_len test vs)) None) past) ∙ is in
    absurd (cc)

slice_get_extents : (lead : List ℕ → Outcome) (vs : List Var) (n : ℕ) → slice_get (extents lead vs) n ≡ option_map (λ v. extent_of (lead v.value)) (slice_get vs n)
slice_get_extents lead [] n = refl
slice_get_extents lead (v ∷ vs) zero = refl
slice_get_extents lead (v ∷ vs) (suc n) = slice_get_extents lead vs n

slice_get_past : (vs : List Var) (n : ℕ) → length vs ≤ n → slice_get vs n ≡ None
slice_get_past [] n past = refl
slice_get_past (v ∷ vs) zero past = absurd (omega arith)
slice_get_past (v ∷ vs) (suc n) past = slice_get_past vs n (omega arith)

module _ (vs : List Var) (lead : List ℕ → Outcome) (name : List ℕ) where
  abbrev test : Var → Bool
  test v = bytes_eq v.name name

  by_found : (r : Option (Bor Extent)) (o : Option Var) → find test vs ≡ o → option_copied r ≡ option_map (λ v. extent_of (lead v.value)) o → MatchOption r (of_name vs lead name ≡ bad) (λ e. e.now ≡ extent_of (of_name vs lead name))
  by_found None None found is = ap (λ (o : Option Var). of_value lead (option_map (λ v. v.value) o)) found
  by_found None (Some v) found is = absurd (cc)
  by_found (Some e) None found is = absurd (cc)
  by_found (Some e) (Some v) found is =
      let same : e.now ≡ extent_of (lead v.value) = cc in
      same ∙ ap (λ (o : Option Var). extent_of (of_value lead (option_map (λ v. v.value) o))) (sym found)

  -- the table's place of a name is what its value leads to
  pub named_some : (table : List Extent) (at : ℕ) (r : Option (Bor Extent)) → position test vs ≡ Some at → option_copied r ≡ slice_get table at → table ≡ extents lead vs
      → MatchOption r (of_name vs lead name ≡ bad) (λ e. e.now ≡ extent_of (of_name vs lead name))
  named_some table at r is here holds =
      by_found r (slice_get vs at) (find_position test vs (nat_lt (position_or_len test vs) (length vs)) refl at is)
      (here ∙ ap (λ (t : List Extent). slice_get t at) holds ∙ slice_get_extents lead vs at)

  by_past : (b : Bool) → nat_lt (position_or_len test vs) (length vs) ≡ b → position test vs ≡ None → find test vs ≡ None
  by_past true within is =
      let some : Some (position_or_len test vs) ≡ None = sym (ap (λ (c : Bool). cond c (Some (position_or_len test vs)) None) within) ∙ is in
      absurd (cc)
  by_past false past is = find_at test vs ∙ slice_get_past vs (position_or_len test vs) (grind (arith, nat_tests))

  pub named_none : position test vs ≡ None → of_name vs lead name ≡ bad
  named_none is = ap (λ (o : Option Var). of_value lead (option_map (λ v. v.value) o)) (by_past (nat_lt (position_or_len test vs) (length vs)) refl is)

pub joined-bad : (a : Outcome) → joined a bad ≡ bad
joined-bad bad = refl
joined-bad circular = refl
joined-bad (given t) = refl

-- a long text and another
pub long_joined : (end n m total : ℕ) (a b : Outcome) → (x : List ℕ) → a ≡ given x → 1024 < length x → n ≡ min (length x) end
    → (y : List ℕ) → b ≡ given y → m ≡ min (length y) end → total ≡ min (n + m) end
    → (z : List ℕ) × (joined a b ≡ given z) × (1024 < length z) × (total ≡ min (length z) end)
long_joined end n m total a b x a_is long n_is y b_is m_is total_is =
    let len : length (x ++ y) ≡ length x + length y = length-append x y in
    (x ++ y, (λ i. joined (a_is i) (b_is i)), omega arith, omega arith)

-- a short text and a long one
pub short_joined : (end m total : ℕ) (t : List ℕ) (b : Outcome) → (y : List ℕ) → b ≡ given y → 1024 < length y → m ≡ min (length y) end → total ≡ min (m + length t) end
    → (z : List ℕ) × (joined (given t) b ≡ given z) × (1024 < length z) × (total ≡ min (length z) end)
short_joined end m total t b y b_is long m_is total_is =
    let len : length (t ++ y) ≡ length t + length y = length-append t y in
    (t ++ y, ap (joined (given t)) b_is, omega arith, omega arith)

-- a text by its pieces
pub filled_pieces : (vs : List Var) (lead : List ℕ → Outcome) (text : List ℕ) (items : List (Bor (List ℕ))) (plain : Bor (List ℕ)) (rest : List (Bor (List ℕ)))
    → map (λ p. p.now) items ≡ pieces_of text → items ≡ plain ∷ rest → filled vs lead text ≡ fold (with_piece (of_name vs lead)) (given plain.now) (map (λ p. p.now) rest)
unfolding filled
filled_pieces vs lead text items plain rest pieces split = ap (with_pieces (of_name vs lead)) (sym pieces ∙ ap (map (λ (p : Bor (List ℕ)). p.now)) split)

pub filled_none : (vs : List Var) (lead : List ℕ → Outcome) (text : List ℕ) (items : List (Bor (List ℕ))) → map (λ p. p.now) items ≡ pieces_of text → length items ≡ 0 → filled vs lead text ≡ given []
unfolding filled
filled_none vs lead text [] pieces none = ap (with_pieces (of_name vs lead)) (sym pieces)
filled_none vs lead text (p ∷ items) pieces none = absurd (omega arith)
