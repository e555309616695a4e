-- A state that keeps the rules passes the tests.
use Rattle.std.proofs.Common.{◌≡◌, ◌⊎◌, inl, inr, ℕ, suc, ◌-◌, true, List, [], ◌∷◌, ◌++◌, length, map, Some, option_map, refl, ap, subst, ◌∙◌, arith, nat_cmp, length-append, Less}
use Rattle.std.proofs.lemmas.Bool.{and_from}
use Rattle.std.proofs.lemmas.List.Elements.{Contains-append_cases}
use Rattle.std.specs.Cmp.Lexicographic.{slice_cmp}
use Rattle.std.specs.List.{Contains, slice_get}
use Rattle.std.specs.List.Sorted.{IsStrictlySortedBy}
use Rattle.std.specs.Ordering.{is_lt}
use Rattle.addr_base.specs.declared.ids.Guid.{Guid}
use Rattle.addr_state.specs.declared.model.State.{State}
use Rattle.addr_state.specs.declared.model.StateBundle.{StateBundle}
use Rattle.addr_state.specs.Sound.{IsWellFormed, EntriesOnce, IsSound}
use Rattle.addr_state.specs.Rules.{is_above, has_texts, last_name, entries_of, keeps_rules}
use Rattle.addr_state.specs.within.Kept.{PassesTests, rows_keep}
use Rattle.addr_state.proofs.SoundTests.{texts_good, lists_good, texts_up}
use Rattle.addr_state.proofs.RowLemmas.{entries_none, entries_more}

last_snoc : (before : List StateBundle) (b : StateBundle) → slice_get (before ++ b ∷ []) (length (before ++ b ∷ []) - 1) ≡ Some b
last_snoc before b = let n : length (before ++ b ∷ []) - 1 ≡ length before = omega (arith, length-append before (b ∷ [])) in rw n (at before)
  where
    at : (xs : List StateBundle) → slice_get (xs ++ b ∷ []) (length xs) ≡ Some b
    at [] = refl
    at (x ∷ xs) = at xs

pub last_is : (before : List StateBundle) (b : StateBundle) → last_name (before ++ b ∷ []) ≡ Some b.name
last_is before b = ap (option_map (λ (c : StateBundle). c.name)) (last_snoc before b)

-- the bundles behind those before
pub record AreBehind (before bs : List StateBundle) : Type 0 where
  pub formed : (i : ℕ) (b : StateBundle) → slice_get bs i ≡ Some b → IsWellFormed b
  pub first : (b : StateBundle) (rest : List StateBundle) → bs ≡ b ∷ rest → is_above b.name (last_name before) ≡ true
  pub rise : IsStrictlySortedBy (slice_cmp nat_cmp) (map (λ b. b.name) bs)
  pub new : (i : ℕ) (b : StateBundle) (g : Guid) → slice_get bs i ≡ Some b → Contains b.entries g → Contains (entries_of before) g → ⊥
  pub once : EntriesOnce bs

first_above : (x y : List ℕ) (ys : List (List ℕ)) → IsStrictlySortedBy (slice_cmp nat_cmp) (x ∷ y ∷ ys) → slice_cmp nat_cmp x y ≡ Less
unfolding IsStrictlySortedBy
first_above x y ys rise = rise.0.0

tail : (before : List StateBundle) (b : StateBundle) (bs : List StateBundle) → AreBehind before (b ∷ bs) → AreBehind (before ++ b ∷ []) bs
unfolding IsStrictlySortedBy
tail before b bs are = record {
  formed = λ i c is. are.formed (suc i) c is;
  first = λ c rest is. above c rest is;
  rise = are.rise.1;
  new = λ i c g is here there. by_either i c g is here (Contains-append_cases (entries_of before) b.entries g (subst (λ (gs : List Guid). Contains gs g) (entries_more before b) there));
  once = λ i j c d g less at_i at_j in_c in_d. are.once (suc i) (suc j) c d g (omega (arith, less)) at_i at_j in_c in_d;
}
  where
    above : (c : StateBundle) (rest : List StateBundle) → bs ≡ c ∷ rest → is_above c.name (last_name (before ++ b ∷ [])) ≡ true
    above c rest is =
        let rise : IsStrictlySortedBy (slice_cmp nat_cmp) (b.name ∷ c.name ∷ map (λ (d : StateBundle). d.name) rest) = subst (λ (ds : List StateBundle). IsStrictlySortedBy (slice_cmp nat_cmp) (b.name ∷ map (λ (d : StateBundle). d.name) ds)) is are.rise in
        ap (is_above c.name) (last_is before b) ∙ ap is_lt (first_above b.name c.name (map (λ (d : StateBundle). d.name) rest) rise)

    by_either : (i : ℕ) (c : StateBundle) (g : Guid) → slice_get bs i ≡ Some c → Contains c.entries g → Contains (entries_of before) g ⊎ Contains b.entries g → ⊥
    by_either i c g is here (inl there) = are.new (suc i) c g is here there
    by_either i c g is here (inr there) = are.once 0 (suc i) b c g (omega arith) refl is there here

rows_behind : (before bs : List StateBundle) → AreBehind before bs → rows_keep before bs ≡ true
unfolding rows_keep
rows_behind before [] are = refl
rows_behind before (b ∷ bs) are =
    and_from (keeps_rules before b) _
    (and_from (has_texts (last_name before) b) _ (texts_good (last_name before) b (are.formed 0 b refl) (are.first b bs refl)) (lists_good (entries_of before) b (are.formed 0 b refl) (λ g here there. are.new 0 b g refl here there)))
    (rows_behind (before ++ b ∷ []) bs (tail before b bs are))

nothing : (g : Guid) → Contains (entries_of []) g → ⊥
nothing g there = let none : Contains [] g = subst (λ (gs : List Guid). Contains gs g) entries_none there in omega (arith, none.1)

pub sound_passes : (s : State) → IsSound s → PassesTests s
sound_passes s p = record {
  few = p.few;
  fixed = texts_up s.fixed p.fixed_rise;
  rows = rows_behind [] s.bundles (record {
    formed = p.formed;
    first = λ b rest is. refl;
    rise = p.names_rise;
    new = λ i b g is here there. nothing g there;
    once = p.once;
  });
}
