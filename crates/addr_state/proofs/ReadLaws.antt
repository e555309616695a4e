-- A state that is read passes the tests.
use Rattle.std.proofs.Common.{◌≡◌, ℕ, ◌≤◌, Bool, true, false, nat_le, List, [], ◌∷◌, ◌++◌, length, Option, Some, None, Ok, refl, sym, ap, subst, ◌∙◌, append_assoc, append-nil, option_and_then, codes, arith}
use Rattle.std.proofs.lemmas.Bool.{and_from, leb-true}
use Rattle.serde_json.specs.Data.{Data, Items, no_items, item}
use Rattle.serde_json.specs.Find.{as_array, as_object, as_str, get_member}
use Rattle.addr_state.specs.declared.error.StateErr.TheVariants.{Json, Member, Row}
use Rattle.addr_state.specs.declared.model.State.{State}
use Rattle.addr_state.specs.declared.model.StateBundle.{StateBundle}
use Rattle.addr_reading.proofs.StepLaws.{bind_ok, or_fault_ok}
use Rattle.addr_json.specs.Members.{required, list_of, tree_of}
use Rattle.addr_state.specs.Reading.{only_if, bundle_read, row_read, rows_read, items_count, few_items, fixed_of, version_of, value_read, state_read}
use Rattle.addr_state.specs.Rules.{keeps_rules, texts_ascend}
use Rattle.addr_state.specs.within.Kept.{PassesTests, rows_keep}
use Rattle.addr_reading.specs.Steps.{or_fault}

-- ---- steps taken apart

only_if_some : {A : Type 0} (t : Bool) (x y : A) → only_if t x ≡ Some y → (t ≡ true) × (x ≡ y)
only_if_some true x y is = let same : x ≡ y = cc in (refl, same)
only_if_some false x y is = absurd cc

then_some : {A B : Type 0} (o : Option A) (f : A → Option B) (y : B) → option_and_then f o ≡ Some y → (x : A) × (o ≡ Some x) × (f x ≡ Some y)
then_some (Some x) f y is = (x, refl, is)
then_some None f y is = absurd cc

-- ---- bundles

row_keeps : (before : List StateBundle) (d : Data) (b : StateBundle) → row_read before d ≡ Ok b → keeps_rules before b ≡ true
unfolding row_read
row_keeps before d b is =
    let ms = bind_ok (or_fault (Row (length before)) (as_object d)) _ b is in
    let step = bind_ok (bundle_read (Row (length before)) ms.0) (λ c. or_fault (Row (length before)) (only_if (keeps_rules before c) c)) b ms.2 in
    let both = only_if_some (keeps_rules before step.0) step.0 b (or_fault_ok (Row (length before)) (only_if (keeps_rules before step.0) step.0) b step.2) in
    subst (λ (c : StateBundle). keeps_rules before c ≡ true) both.1 both.0

pub record AreKept (before : List StateBundle) (ds : Items) (bs : List StateBundle) : Type 0 where
  pub rest : List StateBundle
  pub is : bs ≡ before ++ rest
  pub keep : rows_keep before rest ≡ true
  pub count : length rest ≡ items_count ds

rows_kept : (before : List StateBundle) (ds : Items) (bs : List StateBundle) → rows_read before ds ≡ Ok bs → AreKept before ds bs
unfolding rows_read rows_keep
rows_kept before no_items bs is = let same : before ≡ bs = cc in record { rest = []; is = sym same ∙ sym (append-nil before); keep = refl; count = refl }
rows_kept before (item d ds) bs is =
    let step = bind_ok (row_read before d) (λ b. rows_read (before ++ b ∷ []) ds) bs is in
    let more = rows_kept (before ++ step.0 ∷ []) ds bs step.2 in
    record {
      rest = step.0 ∷ more.rest;
      is = more.is ∙ append_assoc before (step.0 ∷ []) more.rest;
      keep = and_from (keeps_rules before step.0) (rows_keep (before ++ step.0 ∷ []) more.rest) (row_keeps before d step.0 step.1) more.keep;
      count = (let c = more.count in omega arith);
    }

-- ---- the state

few_said : (found : Option Data) (ds : Items) → option_and_then few_items found ≡ Some ds → items_count ds ≤ 65536
few_said found ds is =
    let d = then_some found few_items ds is in
    let a = then_some (as_array d.0) (λ es. only_if (nat_le (items_count es) 65536) es) ds d.2 in
    let both = only_if_some (nat_le (items_count a.0) 65536) a.0 ds a.2 in
    subst (λ (es : Items). items_count es ≤ 65536) both.1 (leb-true (items_count a.0) 65536 both.0)

fixed_said : (found : Option Data) (ts : List (List ℕ)) → option_and_then fixed_of found ≡ Some ts → texts_ascend ts ≡ true
fixed_said found ts is =
    let d = then_some found fixed_of ts is in
    let a = then_some (list_of as_str d.0) (λ us. only_if (texts_ascend us) us) ts d.2 in
    let both = only_if_some (texts_ascend a.0) a.0 ts a.2 in
    subst (λ (us : List (List ℕ)). texts_ascend us ≡ true) both.1 both.0

value_passes : (tree : Data) (s : State) → value_read tree ≡ Ok s → PassesTests s
unfolding value_read
value_passes tree s is =
    let ms = bind_ok (or_fault Member (as_object tree)) _ s is in
    let rows = bind_ok (or_fault Member (required few_items (codes "bundles") ms.0)) _ s ms.2 in
    let fixed = bind_ok (or_fault Member (required fixed_of (codes "fixed") ms.0)) _ s rows.2 in
    let version = bind_ok (or_fault Member (required version_of (codes "version") ms.0)) _ s fixed.2 in
    let bundles = bind_ok (rows_read [] rows.0) _ s version.2 in
    let kept = rows_kept [] rows.0 bundles.0 bundles.1 in
    let made : State = record { bundles = bundles.0; fixed = fixed.0 } in
    let same : made ≡ s = (let e = bundles.2 in cc) in
    let few = few_said (get_member (codes "bundles") ms.0) rows.0 (or_fault_ok Member (required few_items (codes "bundles") ms.0) rows.0 rows.1) in
    let up = fixed_said (get_member (codes "fixed") ms.0) fixed.0 (or_fault_ok Member (required fixed_of (codes "fixed") ms.0) fixed.0 fixed.1) in
    let so : PassesTests made = record { few = subst (λ (n : ℕ). n ≤ 65536) (sym (ap length kept.is ∙ kept.count)) few; fixed = up; rows = subst (λ (bs : List StateBundle). rows_keep [] bs ≡ true) (sym kept.is) kept.keep } in
    subst PassesTests same so

pub state_passes : (bytes : List ℕ) (s : State) → state_read bytes ≡ Ok s → PassesTests s
unfolding state_read
state_passes bytes s is = let tree = bind_ok (or_fault Json (tree_of bytes)) _ s is in value_passes tree.0 s tree.2
