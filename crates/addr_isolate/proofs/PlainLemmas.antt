-- What a project file without a fault has: texts, truth values, and lists of texts, none of them deep.
use Rattle.std.proofs.Common.{◌≡◌, ℕ, ◌+◌, Bool, cond, List, [], ◌∷◌, ◌++◌, length, Option, Some, None, IfSome, refl, sym, ap, ◌∙◌, arith}
use Rattle.std.specs.List.{AllByRecursion, filter_map}
use Rattle.std.specs.Option.{is_none, option_and_then, option_map, option_or, unwrap_or}
use Rattle.std.specs.Prelude.{codes}
use Rattle.toml.specs.Data.{Data, Items, no_items, item, string, boolean, array, table, Members, no_members, as_bool, as_table, get_member, has_valid_dates, items_have_valid_dates}
use Rattle.addr_base.specs.declared.ids.Guid.{Guid}
use Rattle.addr_project.specs.declared.error.ProjectErr.TheVariants.{BadField}
use Rattle.addr_project.specs.declared.limit.Part.{Part}
use Rattle.addr_project.specs.declared.limit.Part.TheVariants as part
use Rattle.addr_project.specs.declared.model.Mode.{Mode}
use Rattle.addr_project.specs.Faults.{bad_row, bad_variable, head_fault, row_fault, tree_fault, unless_some}
use Rattle.addr_project.specs.Modes.{mode_of}
use Rattle.addr_project.specs.Rows.{asset_of, asset_row_from, entry_of, entry_row_from, group_from, group_of, profile, profile_of, profile_text, rows, rows_at, version_of}
use Rattle.addr_project.proofs.OnceLemmas.{none-parts}
use Rattle.addr_project_rows.specs.Fields.{all_of, ascending, first_bad, guid_of, is_bad, items_list, labels_of, list_of, or_default, text_of, text_where}
use Rattle.addr_project_rows.specs.Firsts.{first_from, first_where, number_if}
use Rattle.addr_project_rows.specs.Variables.{is_bad_variable, variable_from, variable_of}
use Rattle.addr_project_rows.proofs.VariableLemmas.{each-stands}
use Rattle.addr_isolate.specs.Document.{asset_names, entry_names, group_names, profile_names, variable_names}
use Rattle.addr_isolate.specs.Shallow.{AreShallowAt, IsPlain, IsShallow, IsShallowRow}
use Rattle.addr_isolate.proofs.SetLemmas.{both}

-- ---- what stands for something

-- a value is there
abbrev pub Stands : {A : Type 0} → Option A → Type 0
Stands {A} o = (a : A) × (o ≡ Some a)

pub unless-stands : {A : Type 0} (p : Part) (o : Option A) → unless_some p o ≡ None → Stands o
unless-stands p None none = absurd (cc)
unless-stands p (Some a) none = (a, refl)

none_from_map : {A B : Type 0} (f : A → B) (o : Option A) → option_map f o ≡ None → o ≡ None
none_from_map f None is = refl
none_from_map f (Some x) is = absurd (cc)

each-good : {A : Type 0} (read : Data → Option A) (before ds : List Data) → first_from (number_if (λ b d. is_bad read d)) before ds ≡ None → AllByRecursion (λ d. Stands (read d)) ds
unfolding first_from
each-good read before [] none = tt
each-good read before (d ∷ ds) none = by_row (read d) refl (each-good read (before ++ d ∷ []) ds)
  where
    by_row : (o : Option _) → read d ≡ o → (first_from (number_if (λ b e. is_bad read e)) (before ++ d ∷ []) ds ≡ None → AllByRecursion (λ e. Stands (read e)) ds) → AllByRecursion (λ e. Stands (read e)) (d ∷ ds)
    by_row None is later =
        let found : Some (length before) ≡ None = sym (ap (λ o. option_or (cond (is_none o) (Some (length before)) None) (first_from (number_if (λ b e. is_bad read e)) (before ++ d ∷ []) ds)) is) ∙ none in
        absurd (cc)
    by_row (Some a) is later = ((a, is), later (sym (ap (λ o. option_or (cond (is_none o) (Some (length before)) None) (first_from (number_if (λ b e. is_bad read e)) (before ++ d ∷ []) ds)) is) ∙ none))

pub good-rows : {A : Type 0} (p : Part) (read : Data → Option A) (ds : List Data) → bad_row p read ds ≡ None → AllByRecursion (λ d. Stands (read d)) ds
good-rows p read ds none = each-good read [] ds (none_from_map (BadField p) (first_bad read ds) none)

pub good-variables : (ds : List Data) → bad_variable ds ≡ None → AllByRecursion (λ d. Stands (variable_of d)) ds
good-variables ds none =
    let first = none_from_map (BadField part.Variable) (first_where is_bad_variable ds) none in
    each-good variable_of [] ds (each-stands ds first (first_bad variable_of ds) refl)

all-map : {X : Type 0} (P Q : X → Type 0) → ((x : X) → P x → Q x) → (xs : List X) → AllByRecursion P xs → AllByRecursion Q xs
all-map P Q takes [] all = tt
all-map P Q takes (x ∷ xs) all = (takes x all.0, all-map P Q takes xs all.1)

-- ---- members

flat : (n : ℕ) (s : List ℕ) → IsShallow n (string s)
flat n s = record { deep = omega arith; dates = refl }

text-data : (n : ℕ) (test : List ℕ → Bool) (d : Data) → Stands (text_where test d) → IsShallow n d
text-data n test (string s) good = flat n s
text-data n test (boolean b) good = absurd (cc good.1)
text-data n test d good = absurd (cc good.1)

pub text-member : (n : ℕ) (test : List ℕ → Bool) (default : Option (List ℕ)) (o : Option Data) → Stands (or_default (text_where test) default o) → IfSome o (IsShallow n)
text-member n test default None good = tt
text-member n test default (Some d) good = text-data n test d good

guid-data : (n : ℕ) (d : Data) → Stands (guid_of d) → IsShallow n d
guid-data n (string s) good = flat n s
guid-data n d good = absurd (cc good.1)

guid-member : (n : ℕ) (o : Option Data) → Stands (or_default guid_of None o) → IfSome o (IsShallow n)
guid-member n None good = tt
guid-member n (Some d) good = guid-data n d good

bool-member : (n : ℕ) (default : Option Bool) (o : Option Data) → Stands (or_default as_bool default o) → IfSome o (IsShallow n)
bool-member n default None good = tt
bool-member n default (Some (boolean b)) good = record { deep = omega arith; dates = refl }
bool-member n default (Some d) good = absurd (cc good.1)

mode-member : (n : ℕ) (default : Option Mode) (o : Option Data) → Stands (or_default mode_of default o) → IfSome o (IsShallow n)
mode-member n default None good = tt
mode-member n default (Some (string s)) good = flat n s
mode-member n default (Some d) good = absurd (cc good.1)

items-shallow : (n : ℕ) (ds : Items) → AllByRecursion (IsShallow n) (items_list ds) → IsShallow (n + 1) (array ds)
items-shallow n no_items all = record { deep = omega arith; dates = refl }
items-shallow n (item d ds) all =
    let rest = items-shallow n ds all.1 in
    let first = all.0.deep in
    let deep = rest.deep in
    record { deep = omega (arith, first, deep); dates = both (has_valid_dates d) (items_have_valid_dates ds) all.0.dates rest.dates }

all-read : {A : Type 0} (read : Data → Option A) (ds : List Data) → Stands (all_of read ds) → AllByRecursion (λ d. Stands (read d)) ds
unfolding all_of
all-read read ds good = by_bad (first_bad read ds) refl
  where
    by_bad : (o : Option ℕ) → first_bad read ds ≡ o → AllByRecursion (λ d. Stands (read d)) ds
    by_bad None is = each-good read [] ds is
    by_bad (Some k) is =
        let none : None ≡ Some good.0 = sym (ap (λ o. cond (is_none o) (Some (filter_map read ds)) None) is) ∙ good.1 in
        absurd (cc)

list-data : {A : Type 0} (read : Data → Option A) → ((d : Data) → Stands (read d) → IsShallow 0 d) → (d : Data) → Stands (list_of read d) → IsShallow 1 d
list-data read flat-each (array ds) good = items-shallow 0 ds (all-map (λ d. Stands (read d)) (IsShallow 0) flat-each (items_list ds) (all-read read (items_list ds) good))
list-data read flat-each (string s) good = absurd (cc good.1)
list-data read flat-each d good = absurd (cc good.1)

refs-member : (o : Option Data) → Stands (or_default (list_of guid_of) (Some []) o) → IfSome o (IsShallow 1)
refs-member None good = tt
refs-member (Some d) good = list-data guid_of (guid-data 0) d good

map-stands : {A B : Type 0} (f : A → B) (o : Option A) → Stands (option_map f o) → Stands o
map-stands f None good = absurd (cc good.1)
map-stands f (Some a) good = (a, refl)

labels-member : (o : Option Data) → Stands (or_default labels_of (Some []) o) → IfSome o (IsShallow 1)
labels-member None good = tt
labels-member (Some d) good = list-data text_of (λ e. text-data 0 _ e) d (map-stands ascending (list_of text_of d) good)

-- ---- rows

variable-parts : (n value : Option (List ℕ)) → Stands (variable_from n value) → Stands n × Stands value
variable-parts (Some name) (Some value) good = ((name, refl), (value, refl))
variable-parts None value good = absurd (cc good.1)
variable-parts (Some name) None good = absurd (cc good.1)

variable-row : (d : Data) → Stands (variable_of d) → IsShallowRow 1 variable_names d
variable-row (table ms) good =
    let parts = variable-parts _ _ good in
    (text-member 1 _ None (get_member (codes "name") ms) parts.0, (text-member 1 _ None (get_member (codes "value") ms) parts.1, tt))
variable-row d good = absurd (cc good.1)

group-parts : (n : Option (List ℕ)) (m : Option Mode) (f r : Option Bool) → Stands (group_from n m f r) → Stands n × (Stands m × (Stands f × Stands r))
group-parts (Some n) (Some m) (Some f) (Some r) good = ((n, refl), ((m, refl), ((f, refl), (r, refl))))
group-parts _ _ _ _ good = absurd (cc good.1)

group-row : (d : Data) → Stands (group_of d) → IsShallowRow 1 group_names d
group-row (table ms) good =
    let parts = group-parts _ _ _ _ good in
    (text-member 1 _ None (get_member (codes "name") ms) parts.0, (mode-member 1 _ (get_member (codes "mode") ms) parts.1.0, (bool-member 1 _ (get_member (codes "fixed") ms) parts.1.1.0, (bool-member 1 _ (get_member (codes "remote") ms) parts.1.1.1, tt))))
group-row d good = absurd (cc good.1)

asset-parts : (g : Option Guid) (k f : Option (List ℕ)) (r : Option (List Guid)) → Stands (asset_row_from g k f r) → Stands g × (Stands k × (Stands f × Stands r))
asset-parts (Some g) (Some k) (Some f) (Some r) good = ((g, refl), ((k, refl), ((f, refl), (r, refl))))
asset-parts _ _ _ _ good = absurd (cc good.1)

asset-row : (d : Data) → Stands (asset_of d) → IsShallowRow 1 asset_names d
asset-row (table ms) good =
    let parts = asset-parts _ _ _ _ good in
    (guid-member 1 (get_member (codes "guid") ms) parts.0, (text-member 1 _ None (get_member (codes "type") ms) parts.1.0, (text-member 1 _ None (get_member (codes "file") ms) parts.1.1.0, (refs-member (get_member (codes "refs") ms) parts.1.1.1, tt))))
asset-row d good = absurd (cc good.1)

entry-parts : (g : Option Guid) (k a : Option (List ℕ)) (l : Option (List (List ℕ))) → Stands (entry_row_from g k a l) → Stands g × (Stands k × (Stands a × Stands l))
entry-parts (Some g) (Some k) (Some a) (Some l) good = ((g, refl), ((k, refl), ((a, refl), (l, refl))))
entry-parts _ _ _ _ good = absurd (cc good.1)

entry-row : (d : Data) → Stands (entry_of d) → IsShallowRow 1 entry_names d
entry-row (table ms) good =
    let parts = entry-parts _ _ _ _ good in
    (guid-member 1 (get_member (codes "guid") ms) parts.0, (text-member 1 _ None (get_member (codes "group") ms) parts.1.0, (text-member 1 _ None (get_member (codes "address") ms) parts.1.1.0, (labels-member (get_member (codes "labels") ms) parts.1.1.1, tt))))
entry-row d good = absurd (cc good.1)

-- ---- the file

-- what a file without a fault in its fields has
pub record HasGoodFields (tree : Members) : Type 0 where
  pub version : Stands (version_of tree)
  pub section : Stands (profile_of tree)
  pub variable_rows : Stands (rows_at (codes "variable") tree)
  pub group_rows : Stands (rows_at (codes "group") tree)
  pub asset_rows : Stands (rows_at (codes "asset") tree)
  pub entry_rows : Stands (rows_at (codes "entry") tree)
  pub local : Stands (profile_text (codes "local") (profile tree))
  pub remote : Stands (profile_text (codes "remote") (profile tree))
  pub variables : bad_variable (rows (codes "variable") tree) ≡ None
  pub groups : bad_row part.Group group_of (rows (codes "group") tree) ≡ None
  pub assets : bad_row part.Asset asset_of (rows (codes "asset") tree) ≡ None
  pub entries : bad_row part.Entry entry_of (rows (codes "entry") tree) ≡ None

pub good-fields : (tree : Members) → tree_fault tree ≡ None → HasGoodFields tree
unfolding tree_fault head_fault row_fault
good-fields tree none =
    let fields = none-parts _ _ (none-parts _ _ none).0 in
    let h0 = none-parts _ _ fields.0 in
    let h1 = none-parts _ _ h0.1 in
    let h2 = none-parts _ _ h1.1 in
    let h3 = none-parts _ _ h2.1 in
    let h4 = none-parts _ _ h3.1 in
    let h5 = none-parts _ _ h4.1 in
    let h6 = none-parts _ _ h5.1 in
    let h7 = none-parts _ _ h6.1 in
    let r0 = none-parts _ _ fields.1 in
    let r1 = none-parts _ _ r0.1 in
    let r2 = none-parts _ _ r1.1 in
    let r3 = none-parts _ _ r2.1 in
    record {
      version = unless-stands part.Project (version_of tree) h0.0;
      section = unless-stands part.Project (profile_of tree) h1.0;
      variable_rows = unless-stands part.Project (rows_at (codes "variable") tree) h2.0;
      group_rows = unless-stands part.Project (rows_at (codes "group") tree) h3.0;
      asset_rows = unless-stands part.Project (rows_at (codes "asset") tree) h4.0;
      entry_rows = unless-stands part.Project (rows_at (codes "entry") tree) h5.0;
      local = unless-stands part.Profile (profile_text (codes "local") (profile tree)) h6.0;
      remote = unless-stands part.Profile (profile_text (codes "remote") (profile tree)) h7.0;
      variables = r0.0;
      groups = r1.0;
      assets = r2.0;
      entries = r3.0;
    }

profile-member : (o : Option Data) → Stands (profile_text (codes "local") (unwrap_or (or_default as_table (Some no_members) o) no_members))
    → Stands (profile_text (codes "remote") (unwrap_or (or_default as_table (Some no_members) o) no_members)) → IfSome (option_and_then as_table o) (AreShallowAt 2 profile_names)
profile-member None local remote = tt
profile-member (Some (table ms)) local remote = (text-member 2 _ _ (get_member (codes "local") ms) local, (text-member 2 _ _ (get_member (codes "remote") ms) remote, tt))
profile-member (Some d) local remote = tt

pub plain : (tree : Members) → HasGoodFields tree → IsPlain tree
plain tree good = record {
  version = text-member 3 _ _ (get_member (codes "version") tree) good.version;
  profile = profile-member (get_member (codes "profile") tree) good.local good.remote;
  variables = all-map _ _ variable-row (rows (codes "variable") tree) (good-variables _ good.variables);
  groups = all-map _ _ group-row (rows (codes "group") tree) (good-rows part.Group group_of _ good.groups);
  assets = all-map _ _ asset-row (rows (codes "asset") tree) (good-rows part.Asset asset_of _ good.assets);
  entries = all-map _ _ entry-row (rows (codes "entry") tree) (good-rows part.Entry entry_of _ good.entries);
}
