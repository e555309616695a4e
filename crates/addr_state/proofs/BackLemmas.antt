-- What is written for a state reads back as it.
use Rattle.std.proofs.Common.{◌≡◌, ℕ, ◌≤◌, Bool, true, false, nat_le, List, [], ◌∷◌, ◌++◌, length, map, Option, Some, Result, Ok, refl, sym, ap, ◌∙◌, append_assoc, append-nil, arith, All}
use Rattle.std.specs.Str.{IsUtf8}
use Rattle.std.proofs.lemmas.Bool.{and_parts}
use Rattle.std.proofs.lemmas.List.{length-map}
use Rattle.std.proofs.lemmas.List.Elements.{All-head, All-tail}
use Rattle.serde_json.specs.Data.{Data, string, array, depth}
use Rattle.serde_json.specs.Read.{read, max_depth}
use Rattle.serde_json.specs.View.{items_of}
use Rattle.serde_json.specs.Written.{has_float}
use Rattle.addr_base.specs.Ids.{Are16Bytes}
use Rattle.addr_base.specs.declared.ids.Guid.{Guid}
use Rattle.addr_state.specs.declared.error.StateErr.{StateErr}
use Rattle.addr_state.specs.declared.error.StateErr.TheVariants.{Json, Row}
use Rattle.addr_state.specs.declared.model.State.{State}
use Rattle.addr_state.specs.declared.model.StateBundle.{StateBundle}
use Rattle.addr_state.specs.Reading.{only_if, guids_of, bundle_read, row_read, rows_read, items_count, few_items, fixed_of, value_read, state_read}
use Rattle.addr_state.specs.Rules.{keeps_rules, texts_ascend}
use Rattle.addr_state.specs.within.Kept.{AreGuids, HasIds, PassesTests, rows_keep}
use Rattle.addr_reading.specs.Steps.{◌>>=◌, or_fault}
use Rattle.addr_state.specs.Written.{guids_tree, bundle_members, bundle_tree, state_tree}
use Rattle.addr_json.specs.Members.{guid_in}
use Rattle.addr_json.specs.Trees.{guid_tree, texts_tree}
use Rattle.addr_json.proofs.DigitLemmas.{digest_back, guid_back}
use Rattle.addr_json.proofs.BackLemmas.{items_back, texts_back, plain_items, shallow_items}
use Rattle.addr_json.proofs.TreeLemmas.{tree_good}
use Rattle.addr_state.proofs.RowLemmas.{le_true}

-- ---- lists

guids_back : (guids : List Guid) → AreGuids guids → guids_of (guids_tree guids) ≡ Some guids
guids_back guids are = items_back guid_in guid_tree (λ g. Are16Bytes g.0) guid_back guids are

-- ---- bundles

bundle_back : (fault : StateErr) (b : StateBundle) → HasIds b → bundle_read fault (bundle_members b) ≡ Ok b
unfolding bundle_read
bundle_back fault b ids = rw (digest_back b.digest ids.digest, guids_back b.entries ids.entries, guids_back b.objects ids.objects) refl

row_back : (before : List StateBundle) (b : StateBundle) → HasIds b → keeps_rules before b ≡ true → row_read before (bundle_tree b) ≡ Ok b
unfolding row_read
row_back before b ids keeps =
    ap (λ (r : Result StateBundle StateErr). r >>= (λ c. or_fault (Row (length before)) (only_if (keeps_rules before c) c))) (bundle_back (Row (length before)) b ids)
    ∙ ap (λ (t : Bool). or_fault (Row (length before)) (only_if t b)) keeps

rows_back : (before bs : List StateBundle) → All HasIds bs → rows_keep before bs ≡ true → rows_read before (items_of (map bundle_tree bs)) ≡ Ok (before ++ bs)
unfolding rows_read rows_keep
rows_back before [] ids keep = ap Ok (sym (append-nil before))
rows_back before (b ∷ bs) ids keep =
    let parts = and_parts (keeps_rules before b) (rows_keep (before ++ b ∷ []) bs) keep in
    ap (λ (r : Result StateBundle StateErr). r >>= (λ c. rows_read (before ++ c ∷ []) (items_of (map bundle_tree bs)))) (row_back before b (All-head HasIds b bs ids) parts.0)
    ∙ (rows_back (before ++ b ∷ []) bs (All-tail HasIds b bs ids) parts.1 ∙ ap Ok (append_assoc before (b ∷ []) bs))

-- ---- the state

count_items : (ds : List Data) → items_count (items_of ds) ≡ length ds
count_items [] = refl
count_items (d ∷ ds) = let more = count_items ds in omega arith

few_back : (bs : List StateBundle) → length bs ≤ 65536 → few_items (array (items_of (map bundle_tree bs))) ≡ Some (items_of (map bundle_tree bs))
few_back bs few =
    ap (λ (n : ℕ). only_if (nat_le n 65536) (items_of (map bundle_tree bs))) (count_items (map bundle_tree bs) ∙ length-map bs bundle_tree)
    ∙ ap (λ (t : Bool). only_if t (items_of (map bundle_tree bs))) (le_true (length bs) 65536 few)

fixed_back : (texts : List (List ℕ)) → texts_ascend texts ≡ true → fixed_of (texts_tree texts) ≡ Some texts
fixed_back texts ascend = rw (texts_back texts) (ap (λ (t : Bool). only_if t texts) ascend)

value_back : (s : State) → PassesTests s → All HasIds s.bundles → value_read (state_tree s) ≡ Ok s
unfolding value_read
value_back s sound ids = rw (few_back s.bundles sound.few, fixed_back s.fixed sound.fixed, rows_back [] s.bundles ids sound.rows) refl

pub state_back : (bytes : List ℕ) (s : State) → PassesTests s → All HasIds s.bundles → IsUtf8 bytes → read bytes ≡ Some (state_tree s) → state_read bytes ≡ Ok s
unfolding state_read
state_back bytes s sound ids utf8 is = ap (λ (t : Option Data). or_fault Json t >>= value_read) (tree_good bytes (state_tree s) utf8 is) ∙ value_back s sound ids

-- ---- no value nests deep, and none has a float

bundle_plain : (b : StateBundle) → has_float (bundle_tree b) ≡ false
bundle_plain b = rw (plain_items guid_tree (λ x. refl) b.entries, plain_items guid_tree (λ x. refl) b.objects)

pub state_plain : (s : State) → has_float (state_tree s) ≡ false
state_plain s = rw (plain_items bundle_tree bundle_plain s.bundles, plain_items string (λ x. refl) s.fixed)

bundle_shallow : (b : StateBundle) → depth (bundle_tree b) ≤ 2
bundle_shallow b =
    let e = shallow_items guid_tree 0 (λ x. omega arith) b.entries in
    let o = shallow_items guid_tree 0 (λ x. omega arith) b.objects in
    omega arith

pub state_shallow : (s : State) → depth (state_tree s) ≤ max_depth
state_shallow s =
    let b = shallow_items bundle_tree 2 bundle_shallow s.bundles in
    let f = shallow_items string 0 (λ x. omega arith) s.fixed in
    omega arith
