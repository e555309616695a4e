-- Values read one after the other, as the loop does.
use Rattle.std.proofs.Common.{◌≡◌, ℕ, ◌+◌, ◌≤◌, ◌<◌, Bool, List, [], ◌∷◌, ◌++◌, length, get_or, drop, nat_le, Option, Some, None, Result, Ok, Err, refl, sym, ap, subst, ◌∙◌, option_and_then, length-append, append-nil, true, false, arith}
use Rattle.std.proofs.lemmas.List.{drop_more, drop_all}
use Rattle.std.proofs.lemmas.List.Concat.{flat_map-append}
use Rattle.std.proofs.lemmas.Bool.Decides.{nat_tests}
use Rattle.std.specs.BTreeSet.{BTreeSet}
use Rattle.std.specs.List.{flat_map}
use Rattle.serde_json.specs.Data.{Data, Items}
use Rattle.serde_json.specs.Find.{as_array}
use Rattle.serde_json.specs.View.{view, items_view}
use Rattle.serde_json.specs.declared.value.Value.{Value}
use Rattle.addr_base.specs.declared.ids.Guid.{Guid}
use Rattle.addr_state.specs.declared.error.StateErr.{StateErr}
use Rattle.addr_state.specs.declared.model.StateBundle.{StateBundle}
use Rattle.addr_state.specs.Reading.{only_if, few_items, items_count, row_read, rows_read}
use Rattle.addr_state.specs.Rules.{entries_of}
use Rattle.addr_state.specs.within.Seen.{HasGuids}
use Rattle.addr_reading.specs.Steps.{◌>>=◌}

-- ---- how many

pub count_view : (vs : List Value) → items_count (items_view vs) ≡ length vs
count_view [] = refl
count_view (v ∷ vs) = let more = count_view vs in omega arith

few : Items → Option Items
few ds = only_if (nat_le (items_count ds) 65536) ds

pub few_found : (found : Option Data) (vs : List Value) → option_and_then as_array found ≡ Some (items_view vs) → option_and_then few_items found ≡ only_if (nat_le (length vs) 65536) (items_view vs)
few_found None vs is = absurd cc
few_found (Some d) vs is = ap (λ (o : Option Items). option_and_then (λ ds. only_if (nat_le (items_count ds) 65536) ds) o) is ∙ ap (λ (n : ℕ). only_if (nat_le n 65536) (items_view vs)) (count_view vs)

pub few_missing : (found : Option Data) → option_and_then as_array found ≡ None → option_and_then few_items found ≡ None
few_missing None is = refl
few_missing (Some d) is = ap (λ (o : Option Items). option_and_then (λ ds. only_if (nat_le (items_count ds) 65536) ds) o) is

pub le_true : (m n : ℕ) → m ≤ n → nat_le m n ≡ true
le_true m n small = grind (arith, nat_tests)

le_false : (m n : ℕ) → n < m → nat_le m n ≡ false
le_false m n large = grind (arith, nat_tests)

pub few_true : (vs : List Value) → length vs ≤ 65536 → only_if (nat_le (length vs) 65536) (items_view vs) ≡ Some (items_view vs)
few_true vs small = ap (λ (t : Bool). only_if t (items_view vs)) (le_true (length vs) 65536 small)

pub few_false : (vs : List Value) → 65536 < length vs → only_if (nat_le (length vs) 65536) (items_view vs) ≡ None
few_false vs large = ap (λ (t : Bool). only_if t (items_view vs)) (le_false (length vs) 65536 large)

-- ---- row after row

first : (before : List StateBundle) (vs : List Value) (i : ℕ) (v : Value) → i < length vs → rows_read before (items_view (drop i vs)) ≡ (row_read before (view (get_or vs i v)) >>= (λ b. rows_read (before ++ b ∷ []) (items_view (drop (i + 1) vs))))
unfolding rows_read
first before vs i v small = ap (λ (ws : List Value). rows_read before (items_view ws)) (drop_more vs i v small)

-- one more row that is a bundle
pub row_found : (before : List StateBundle) (vs : List Value) (i : ℕ) (v : Value) (b : StateBundle) (all : Result (List StateBundle) StateErr) → i < length vs → row_read before (view (get_or vs i v)) ≡ Ok b
    → rows_read before (items_view (drop i vs)) ≡ all → rows_read (before ++ b ∷ []) (items_view (drop (i + 1) vs)) ≡ all
row_found before vs i v b all small is so_far = sym (first before vs i v small ∙ ap (λ (r : Result StateBundle StateErr). r >>= (λ c. rows_read (before ++ c ∷ []) (items_view (drop (i + 1) vs)))) is) ∙ so_far

-- a row that is none
pub row_bad : (before : List StateBundle) (vs : List Value) (i : ℕ) (v : Value) (e : StateErr) (all : Result (List StateBundle) StateErr) → i < length vs → row_read before (view (get_or vs i v)) ≡ Err e
    → rows_read before (items_view (drop i vs)) ≡ all → all ≡ Err e
row_bad before vs i v e all small is so_far = sym so_far ∙ (first before vs i v small ∙ ap (λ (r : Result StateBundle StateErr). r >>= (λ c. rows_read (before ++ c ∷ []) (items_view (drop (i + 1) vs)))) is)

pub rows_done : (before : List StateBundle) (vs : List Value) (i : ℕ) (all : Result (List StateBundle) StateErr) → length vs ≤ i → rows_read before (items_view (drop i vs)) ≡ all → all ≡ Ok before
unfolding rows_read
rows_done before vs i all past so_far = sym so_far ∙ ap (λ (ws : List Value). rows_read before (items_view ws)) (drop_all i vs past)

pub entries_none : entries_of [] ≡ []
unfolding entries_of
entries_none = refl

pub entries_more : (bs : List StateBundle) (b : StateBundle) → entries_of (bs ++ b ∷ []) ≡ entries_of bs ++ b.entries
unfolding entries_of
entries_more bs b = flat_map-append (λ (c : StateBundle). c.entries) bs (b ∷ []) ∙ ap (λ (gs : List Guid). flat_map (λ (c : StateBundle). c.entries) bs ++ gs) (append-nil b.entries)

-- ---- the loop's steps

pub row_at : (seen before : List StateBundle) (v w : Value) (r : Result StateBundle StateErr) → seen ≡ before → v ≡ w → row_read seen (view v) ≡ r → row_read before (view w) ≡ r
row_at seen before v w r same is read = ap (row_read before) (ap view (sym is)) ∙ (ap (λ (bs : List StateBundle). row_read bs (view v)) (sym same) ∙ read)

pub one_longer : (old new : List StateBundle) (b : StateBundle) (i : ℕ) → new ≡ old ++ b ∷ [] → length old ≡ i → length new ≡ i + 1
one_longer old new b i is so_far = let more = length-append old (b ∷ []) in let all = ap length is in omega arith

pub seen_more : (earlier : BTreeSet Guid) (old new : List StateBundle) (b : StateBundle) (gs : List Guid) → new ≡ old ++ b ∷ [] → gs ≡ b.entries → HasGuids earlier (entries_of old ++ gs) → HasGuids earlier (entries_of new)
seen_more earlier old new b gs is same has = subst (HasGuids earlier) (ap (λ (hs : List Guid). entries_of old ++ hs) same ∙ sym (entries_more old b) ∙ ap entries_of (sym is)) has
