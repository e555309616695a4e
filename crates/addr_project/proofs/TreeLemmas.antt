-- What a tree without a fault is known for: GUIDs of 16 bytes, labels that ascend, variables of different names, texts that
-- are not too long, and a version.
use Rattle.std.proofs.Common.{◌≡◌, ℕ, ◌≤◌, ◌&&◌, nat_le, length, arith, Bool, true, false, cond, List, [], ◌∷◌, map, Option, Some, None, refl, sym, ap, subst, ◌∙◌, nat_cmp}
use Rattle.std.proofs.lemmas.Bool.{false≢true}
use Rattle.std.proofs.lemmas.Bool.Decides.{nat_tests}
use Rattle.std.specs.Prelude.{codes}
use Rattle.std.specs.Cmp.Lexicographic.{slice_cmp}
use Rattle.std.specs.List.{AllByRecursion, filter_map, cons_option}
use Rattle.std.specs.List.Sorted.{IsStrictlySortedBy}
use Rattle.std.specs.Option.{is_none, option_map, unwrap_or}
use Rattle.toml.specs.Data.{Data, string, table, array, Members, get_member}
use Rattle.addr_base.specs.Ids.{Are16Bytes}
use Rattle.addr_base.specs.declared.ids.Guid.{Guid}
use Rattle.addr_base.specs.declared.var.Var.{Var}
use Rattle.addr_walks.specs.Once.{AreOnce}
use Rattle.addr_project.specs.declared.error.ProjectErr.TheVariants.{BadField}
use Rattle.addr_project.specs.declared.limit.Part.TheVariants as part
use Rattle.addr_project.specs.declared.model.Group.{Group}
use Rattle.addr_project.specs.declared.model.Mode.{Mode}
use Rattle.addr_project.specs.declared.rows.AssetRow.{AssetRow}
use Rattle.addr_project.specs.declared.rows.EntryRow.{EntryRow}
use Rattle.addr_project.specs.declared.rows.ProjectFile.{ProjectFile}
use Rattle.addr_project.specs.Kept.{IsKeptVar, IsText}
use Rattle.addr_project.specs.Faults.{head_fault, row_fault, tree_fault, bad_variable, unless_some}
use Rattle.addr_project_rows.specs.Variables.{variable_from, variable_of, is_bad_variable}
use Rattle.addr_project_rows.specs.Fields.{or_default, first_bad, guid_of, is_name, is_version, is_within, items_list, all_of, list_of, labels_of, most_name, most_text, text_of, text_where, ascending}
use Rattle.addr_project_rows.specs.Firsts.{first_where}
use Rattle.addr_project.specs.Rows.{asset_of, asset_row_from, entry_of, entry_row_from, group_from, group_of, rows, file_of}
use Rattle.addr_project_rows.proofs.GuidLemmas.{guid_bytes}
use Rattle.addr_project_rows.proofs.LabelLemmas.{ascending-all, ascending-sorted, nil-sorted}
use Rattle.addr_project.proofs.OnceLemmas.{none-parts, once_from}
use Rattle.addr_project_rows.proofs.VariableLemmas.{named, same_firsts, each-stands}

-- what holds of each row holds of all that are read
module _ {A : Type 0} (P : A → Type 0) (read : Data → Option A) (each : (d : Data) (a : A) → read d ≡ Some a → P a) where
  all_rows : (ds : List Data) → AllByRecursion P (filter_map read ds)
  all_rows [] = tt
  all_rows (d ∷ ds) = by_row (read d) refl (all_rows ds)
    where
      by_row : (o : Option A) → read d ≡ o → AllByRecursion P (filter_map read ds) → AllByRecursion P (cons_option o (filter_map read ds))
      by_row None is rest = rest
      by_row (Some a) is rest = (each d a is, rest)

-- GUIDs

guid_member : (o : Option Data) (guid : Guid) → or_default guid_of None o ≡ Some guid → Are16Bytes guid.0
guid_member None guid is = absurd (cc)
guid_member (Some (string s)) guid is = guid_bytes s guid is
guid_member (Some _) guid is = absurd (cc)

asset_guid : (g : Option Guid) (k f : Option (List ℕ)) (r : Option (List Guid)) (row : AssetRow) → asset_row_from g k f r ≡ Some row → g ≡ Some row.guid
asset_guid (Some guid) (Some kind) (Some file) (Some refs) row is =
    let same : record { guid = guid; kind = kind; file = file; refs = refs } ≡ row = cc in
    ap (λ (a : AssetRow). Some a.guid) same
asset_guid None k f r row is = absurd (cc)
asset_guid (Some guid) None f r row is = absurd (cc)
asset_guid (Some guid) (Some kind) None r row is = absurd (cc)
asset_guid (Some guid) (Some kind) (Some file) None row is = absurd (cc)

row_guid : (d : Data) (row : AssetRow) → asset_of d ≡ Some row → Are16Bytes row.guid.0
row_guid (table ms) row is = guid_member (get_member (codes "guid") ms) row.guid (asset_guid _ _ _ _ row is)
row_guid _ row is = absurd (cc)

-- Labels

abbrev AreSorted : List (List ℕ) → Type 0
AreSorted labels = IsStrictlySortedBy (slice_cmp nat_cmp) labels

label_list : (o : Option (List (List ℕ))) (labels : List (List ℕ)) → option_map ascending o ≡ Some labels → AreSorted labels
label_list None labels is = absurd (cc)
label_list (Some texts) labels is =
    let same : ascending texts ≡ labels = cc in
    subst AreSorted same (ascending-sorted texts)

label_member : (o : Option Data) (labels : List (List ℕ)) → or_default labels_of (Some []) o ≡ Some labels → AreSorted labels
label_member None labels is =
    let same : [] ≡ labels = cc in
    subst AreSorted same nil-sorted
label_member (Some d) labels is = label_list (list_of text_of d) labels is

entry_labels : (g : Option Guid) (k a : Option (List ℕ)) (l : Option (List (List ℕ))) (row : EntryRow) → entry_row_from g k a l ≡ Some row → l ≡ Some row.labels
entry_labels (Some guid) (Some group) (Some address) (Some labels) row is =
    let same : record { guid = guid; group = group; address = address; labels = labels } ≡ row = cc in
    ap (λ (e : EntryRow). Some e.labels) same
entry_labels None k a l row is = absurd (cc)
entry_labels (Some guid) None a l row is = absurd (cc)
entry_labels (Some guid) (Some group) None l row is = absurd (cc)
entry_labels (Some guid) (Some group) (Some address) None row is = absurd (cc)

row_labels : (d : Data) (row : EntryRow) → entry_of d ≡ Some row → AreSorted row.labels
row_labels (table ms) row is = label_member (get_member (codes "labels") ms) row.labels (entry_labels _ _ _ _ row is)
row_labels _ row is = absurd (cc)

-- Texts

within : (low high : ℕ) (s : List ℕ) → is_within low high s ≡ true → (low ≤ length s) × (length s ≤ high)
within low high s is = by_tests (nat_le low (length s)) (nat_le (length s) high) refl refl is
  where
    by_tests : (t u : Bool) → nat_le low (length s) ≡ t → nat_le (length s) high ≡ u → (t && u) ≡ true → (low ≤ length s) × (length s ≤ high)
    by_tests true true least greatest both = (grind (arith, nat_tests), grind (arith, nat_tests))
    by_tests true false least greatest both = absurd (false≢true both)
    by_tests false u least greatest both = absurd (false≢true both)

are_text : (s : List ℕ) → is_within 1 most_text s ≡ true → IsText s
are_text s is = let (least, greatest) = within 1 most_text s is in record { filled = omega arith; short = greatest }

-- a text that stands for itself passes its test
good_text : (test : List ℕ → Bool) (d : Data) (t : List ℕ) → text_where test d ≡ Some t → test t ≡ true
good_text test (string s) t is = by_test (test s) refl is
  where
    by_test : (b : Bool) → test s ≡ b → cond b (Some s) None ≡ Some t → test t ≡ true
    by_test true good found = let same : s ≡ t = cc in ap test (sym same) ∙ good
    by_test false bad found = absurd (cc)
good_text test _ t is = absurd (cc)

good_member : (test : List ℕ → Bool) (o : Option Data) (t : List ℕ) → or_default (text_where test) None o ≡ Some t → test t ≡ true
good_member test None t is = absurd (cc)
good_member test (Some d) t is = good_text test d t is

-- an address and labels that are texts
pub record AreSpelled (address : List ℕ) (labels : List (List ℕ)) : Type 0 where
  pub address_is : IsText address
  pub labels_are : AllByRecursion IsText labels

text_rows : (ds : List Data) (o : Option (List (List ℕ))) → o ≡ cond (is_none (first_bad text_of ds)) (Some (filter_map text_of ds)) None → (texts : List (List ℕ)) → o ≡ Some texts → AllByRecursion IsText texts
text_rows ds o is texts some = by_test (is_none (first_bad text_of ds)) (sym is ∙ some)
  where
    by_test : (t : Bool) → cond t (Some (filter_map text_of ds)) None ≡ Some texts → AllByRecursion IsText texts
    by_test true found =
        let same : filter_map text_of ds ≡ texts = cc in
        subst (AllByRecursion IsText) same (all_rows IsText text_of (λ d t good. are_text t (good_text (is_within 1 most_text) d t good)) ds)
    by_test false none = absurd (cc)

text_list : (d : Data) (texts : List (List ℕ)) → list_of text_of d ≡ Some texts → AllByRecursion IsText texts
unfolding all_of
text_list (array ds) texts is = text_rows (items_list ds) (list_of text_of (array ds)) refl texts is
text_list _ texts is = absurd (cc)

label_texts : (o : Option (List (List ℕ))) → ((texts : List (List ℕ)) → o ≡ Some texts → AllByRecursion IsText texts) → (labels : List (List ℕ)) → option_map ascending o ≡ Some labels → AllByRecursion IsText labels
label_texts None each labels is = absurd (cc)
label_texts (Some texts) each labels is =
    let same : ascending texts ≡ labels = cc in
    subst (AllByRecursion IsText) same (ascending-all IsText texts (each texts refl))

label_members : (o : Option Data) (labels : List (List ℕ)) → or_default labels_of (Some []) o ≡ Some labels → AllByRecursion IsText labels
label_members None labels is = let same : [] ≡ labels = cc in subst (AllByRecursion IsText) same tt
label_members (Some d) labels is = label_texts (list_of text_of d) (text_list d) labels is

asset_kind : (g : Option Guid) (k f : Option (List ℕ)) (r : Option (List Guid)) (row : AssetRow) → asset_row_from g k f r ≡ Some row → k ≡ Some row.kind
asset_kind (Some guid) (Some kind) (Some file) (Some refs) row is =
    let same : record { guid = guid; kind = kind; file = file; refs = refs } ≡ row = cc in
    ap (λ (a : AssetRow). Some a.kind) same
asset_kind _ _ _ _ row is = absurd (cc)

row_kind : (d : Data) (row : AssetRow) → asset_of d ≡ Some row → IsText row.kind
row_kind (table ms) row is = are_text row.kind (good_member (is_within 1 most_text) (get_member (codes "type") ms) row.kind (asset_kind _ _ _ _ row is))
row_kind _ row is = absurd (cc)

entry_address : (g : Option Guid) (k a : Option (List ℕ)) (l : Option (List (List ℕ))) (row : EntryRow) → entry_row_from g k a l ≡ Some row → a ≡ Some row.address
entry_address (Some guid) (Some group) (Some address) (Some labels) row is =
    let same : record { guid = guid; group = group; address = address; labels = labels } ≡ row = cc in
    ap (λ (e : EntryRow). Some e.address) same
entry_address _ _ _ _ row is = absurd (cc)

row_texts : (d : Data) (row : EntryRow) → entry_of d ≡ Some row → AreSpelled row.address row.labels
row_texts (table ms) row is = record {
  address_is = are_text row.address (good_member (is_within 1 most_text) (get_member (codes "address") ms) row.address (entry_address _ _ _ _ row is));
  labels_are = label_members (get_member (codes "labels") ms) row.labels (entry_labels _ _ _ _ row is);
}
row_texts _ row is = absurd (cc)

group_name : (n : Option (List ℕ)) (m : Option Mode) (f r : Option Bool) (g : Group) → group_from n m f r ≡ Some g → n ≡ Some g.name
group_name (Some name) (Some mode) (Some fixed) (Some remote) g is =
    let same : record { name = name; mode = mode; fixed = fixed; remote = remote } ≡ g = cc in
    ap (λ (h : Group). Some h.name) same
group_name _ _ _ _ g is = absurd (cc)

row_group : (d : Data) (g : Group) → group_of d ≡ Some g → IsText g.name
row_group (table ms) g is = are_text g.name (good_member (is_within 1 most_text) (get_member (codes "name") ms) g.name (group_name _ _ _ _ g is))
row_group _ g is = absurd (cc)

variable_parts : (n value : Option (List ℕ)) (v : Var) → variable_from n value ≡ Some v → (n ≡ Some v.name) × (value ≡ Some v.value)
variable_parts (Some name) (Some value) v is =
    let same : record { name = name; value = value } ≡ v = cc in
    (ap (λ (w : Var). Some w.name) same, ap (λ (w : Var). Some w.value) same)
variable_parts _ _ v is = absurd (cc)

-- the first of two tests holds
front-test : (a b : Bool) → (a && b) ≡ true → a ≡ true
front-test true b is = refl
front-test false b is = absurd (false≢true is)

row_variable : (d : Data) (v : Var) → variable_of d ≡ Some v → IsKeptVar v
row_variable (table ms) v is =
    let (name, value) = variable_parts _ _ v is in
    let (least, greatest) = within 1 most_name v.name (front-test _ _ (good_member is_name (get_member (codes "name") ms) v.name name)) in
    let (none, short) = within 0 most_text v.value (good_member (is_within 0 most_text) (get_member (codes "value") ms) v.value value) in
    record { filled = omega arith; name = greatest; value = short }
row_variable _ v is = absurd (cc)

pub version_text : (s : List ℕ) → is_version s ≡ true → IsText s
version_text s is = are_text s (front-test _ _ is)

-- Variables

variables_differ : (ds : List Data) → bad_variable ds ≡ None → AreOnce (named ds)
variables_differ ds none = once_from (named ds) (sym (same_firsts [] ds refl (each-stands ds first (first_bad variable_of ds) refl)) ∙ first)
  where
    map_none : (o : Option ℕ) → option_map (BadField part.Variable) o ≡ None → o ≡ None
    map_none None is = refl
    map_none (Some n) is = absurd (cc)

    first : first_where is_bad_variable ds ≡ None
    first = map_none (first_where is_bad_variable ds) none

-- Version

text_good : (test : List ℕ → Bool) (s : List ℕ) (t : Bool) → test s ≡ t → unless_some part.Project (cond (test s) (Some s) None) ≡ None → test (unwrap_or (cond (test s) (Some s) None) []) ≡ true
text_good test s true is none = ap (λ b. test (unwrap_or (cond b (Some s) None) [])) is ∙ is
text_good test s false is none =
    let fault : Some (BadField part.Project 0) ≡ None = sym (ap (λ b. unless_some part.Project (cond b (Some s) None)) is) ∙ none in
    absurd (cc)

version_good : (o : Option Data) → unless_some part.Project (or_default (text_where is_version) (Some (codes "2021.3.0f1")) o) ≡ None
    → is_version (unwrap_or (or_default (text_where is_version) (Some (codes "2021.3.0f1")) o) []) ≡ true
version_good None none = refl
version_good (Some (string s)) none = text_good is_version s (is_version s) refl none
version_good (Some _) none = absurd (cc)

-- what a file is known for
pub record AreGoodRows (f : ProjectFile) : Type 0 where
  pub guids : AllByRecursion (λ row. Are16Bytes row.guid.0) f.assets
  pub labels : AllByRecursion (λ row. IsStrictlySortedBy (slice_cmp nat_cmp) row.labels) f.entries
  pub variables : AreOnce (map (λ v. v.name) f.variables)
  pub version : is_version f.version ≡ true
  pub names : AllByRecursion IsKeptVar f.variables
  pub groups : AllByRecursion (λ g. IsText g.name) f.groups
  pub kinds : AllByRecursion (λ row. IsText row.kind) f.assets
  pub texts : AllByRecursion (λ row. AreSpelled row.address row.labels) f.entries

pub good_rows : (tree : Members) → tree_fault tree ≡ None → AreGoodRows (file_of tree)
unfolding tree_fault head_fault row_fault file_of
good_rows tree none =
    let fields = none-parts _ _ (none-parts _ _ none).0 in
    let variables = none-parts _ _ fields.1 in
    record {
      guids = all_rows (λ (row : AssetRow). Are16Bytes row.guid.0) asset_of row_guid (rows (codes "asset") tree);
      labels = all_rows (λ (row : EntryRow). AreSorted row.labels) entry_of row_labels (rows (codes "entry") tree);
      variables = variables_differ (rows (codes "variable") tree) variables.0;
      version = version_good (get_member (codes "version") tree) (none-parts _ _ fields.0).0;
      names = all_rows IsKeptVar variable_of row_variable (rows (codes "variable") tree);
      groups = all_rows (λ (g : Group). IsText g.name) group_of row_group (rows (codes "group") tree);
      kinds = all_rows (λ (row : AssetRow). IsText row.kind) asset_of row_kind (rows (codes "asset") tree);
      texts = all_rows (λ (row : EntryRow). AreSpelled row.address row.labels) entry_of row_texts (rows (codes "entry") tree);
    }
