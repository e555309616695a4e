-- A folder whose project file got the group of the duplicates stands for the isolated project.
use Rattle.std.proofs.Common.{◌≡◌, ◌≢◌, ℕ, zero, suc, ◌+◌, ◌≤◌, Bool, true, false, not, cond, codes, List, [], ◌∷◌, ◌++◌, length, map, Option, Some, None, Ok, Err, refl, sym, ap, subst, ◌∙◌, arith}
use Rattle.std.proofs.lemmas.Bool.{and_parts, false≢true}
use Rattle.std.proofs.lemmas.Cmp.{nat_list_cmp_total}
use Rattle.std.proofs.lemmas.List.{append_cancel_left, length-map, map-append}
use Rattle.std.proofs.lemmas.List.Elements.{All-contains, All-from_recursion}
use Rattle.std.specs.Cmp.Lexicographic.{bytes_decides, slice_cmp}
use Rattle.std.specs.List.{AllByRecursion, Contains, cons_option, filter_map, list_all, slice_get}
use Rattle.std.specs.Option.{is_some, option_map, option_or, unwrap_or}
use Rattle.std.specs.Ordering.{nat_cmp}
use Rattle.std.specs.Str.{bytes_eq}
use Rattle.toml.specs.Data.{Data, Members, string, table, get_member}
use Rattle.addr_base.specs.Files.{IsPut}
use Rattle.addr_base.specs.Ids.{Are16Bytes, hex_of}
use Rattle.addr_base.specs.declared.files.MemFile.{MemFile}
use Rattle.addr_base.specs.declared.ids.Guid.{Guid}
use Rattle.addr_expansion.specs.Expansion.{expanded}
use Rattle.addr_pack.specs.declared.bundles.Plan.{Plan}
use Rattle.addr_project.specs.declared.error.ProjectErr.{ProjectErr}
use Rattle.addr_project.specs.declared.error.ProjectErr.TheVariants.{DuplicateGuid, UnknownGroup}
use Rattle.addr_project.specs.declared.limit.Limit.TheVariants as limit
use Rattle.addr_project.specs.declared.limit.Part.TheVariants as part
use Rattle.addr_project.specs.declared.model.Asset.{Asset}
use Rattle.addr_project.specs.declared.model.Group.{Group}
use Rattle.addr_project.specs.declared.rows.AssetRow.{AssetRow}
use Rattle.addr_project.specs.declared.rows.EntryRow.{EntryRow}
use Rattle.addr_project.specs.declared.rows.ProjectFile.{ProjectFile}
use Rattle.addr_project.specs.Faults.{entry_guids, file_fault, guids_of, key_fault, lacks_group, link_fault, names_of, tree_fault}
use Rattle.addr_project.specs.Kept.{IsKept}
use Rattle.addr_project.specs.Limits.{most}
use Rattle.addr_project.specs.Model.{Project}
use Rattle.addr_project.specs.Reading.{ProjectOf, asset_fault, asset_from, bytes_of, entry_from, path, place, project_of, reply_after, reply_of_file, reply_of_tree, text_given, tree_of, unless_fault}
use Rattle.addr_project.specs.Rows.{asset_of, asset_row_from, file_of, rows}
use Rattle.addr_project.proofs.KeyLemmas.{among-there, there-among}
use Rattle.addr_project.proofs.OnceLemmas.{from_map, known_at, none-parts, once_from, to_map}
use Rattle.addr_project.proofs.ReadLemmas.{file-good, folder-tree, tree-good}
use Rattle.addr_project_rows.specs.Fields.{are_free, is_file_name, is_first_free, is_part, is_within, most_text, or_default, parts_of, text_where}
use Rattle.addr_project_rows.specs.Firsts.{first_from, is_among, number_if, place_of}
use Rattle.addr_project_rows.proofs.FirstLemmas.{first_from-append}
use Rattle.addr_project_rows.proofs.KeyLemmas.{among_place}
use Rattle.addr_walks.specs.Once.{AreOnce}
use Rattle.addr_walks.proofs.Lists.{Contains-here, Contains-later, Contains-slice_get, sorted-map, sorted-once}
use Rattle.addr_analyze.specs.declared.duplicate.Duplicate.{Duplicate}
use Rattle.addr_analyze.specs.Duplicates.{AreDuplicates, by_guid}
use Rattle.addr_analyze.specs.Isolation.{IsFreeName, entry_in, group_named, isolated_in, numbered_name}
use Rattle.addr_isolate.specs.Document.{IsWithEntries}
use Rattle.addr_isolate.proofs.FaultLemmas.{IsRoom, fails-all, file-stays, none-repeats}
use Rattle.addr_isolate.proofs.FileLemmas.{entry_made, fields-stay, file-is, file_with}
use Rattle.addr_isolate.proofs.PlainLemmas.{good-fields}

none-both : {A : Type 0} (a b : Option A) → a ≡ None → b ≡ None → option_or a b ≡ None
none-both None b first rest = rest
none-both (Some x) b first rest = absurd (cc)

-- ---- the files of assets

good-text : (test : List ℕ → Bool) (d : Data) (t : List ℕ) → text_where test d ≡ Some t → test t ≡ true
good-text test (string s) t is = by_test (test s) refl is
  where
    by_test : (b : Bool) → test s ≡ b → cond b (Some s) None ≡ Some t → test t ≡ true
    by_test true good found = let same : s ≡ t = cc in ap test (sym same) ∙ good
    by_test false bad found = absurd (cc)
good-text test _ t is = absurd (cc)

good-member : (test : List ℕ → Bool) (o : Option Data) (t : List ℕ) → or_default (text_where test) None o ≡ Some t → test t ≡ true
good-member test None t is = absurd (cc)
good-member test (Some d) t is = good-text test d t is

asset-file : (g : Option Guid) (k f : Option (List ℕ)) (r : Option (List Guid)) (row : AssetRow) → asset_row_from g k f r ≡ Some row → f ≡ Some row.file
asset-file (Some guid) (Some kind) (Some file) (Some refs) row is =
    let same : record { guid = guid; kind = kind; file = file; refs = refs } ≡ row = cc in
    ap (λ (a : AssetRow). Some a.file) same
asset-file _ _ _ _ row is = absurd (cc)

row-file : (d : Data) (row : AssetRow) → asset_of d ≡ Some row → is_file_name row.file ≡ true
row-file (table ms) row is = good-member is_file_name (get_member (codes "file") ms) row.file (asset-file _ _ _ _ row is)
row-file _ row is = absurd (cc)

all-good : (ds : List Data) → AllByRecursion (λ (row : AssetRow). is_file_name row.file ≡ true) (filter_map asset_of ds)
all-good [] = tt
all-good (d ∷ ds) = by_row (asset_of d) refl (all-good ds)
  where
    by_row : (o : Option AssetRow) → asset_of d ≡ o → AllByRecursion (λ (row : AssetRow). is_file_name row.file ≡ true) (filter_map asset_of ds)
        → AllByRecursion (λ (row : AssetRow). is_file_name row.file ≡ true) (cons_option o (filter_map asset_of ds))
    by_row None is rest = rest
    by_row (Some a) is rest = (row-file d a is, rest)

-- no asset's file is the project file
pub other-file : (name : List ℕ) → is_file_name name ≡ true → name ≢ codes "project.toml"
other-file name good same =
    let free = (and_parts (list_all is_part (parts_of name)) (is_first_free (parts_of name)) (and_parts (is_within 1 most_text name) (are_free (parts_of name)) good).1).1 in
    false≢true (ap (λ n. is_first_free (parts_of n)) (sym same) ∙ free)

module _ (files after : List MemFile) (folder text : List ℕ) (put : IsPut (path folder (codes "project.toml")) text files after) where
  bytes-stay : (row : AssetRow) → is_file_name row.file ≡ true → bytes_of after folder row ≡ bytes_of files folder row
  bytes-stay row good = put.1 (path folder row.file) (λ same. other-file row.file good (append_cancel_left (codes "/") _ _ (append_cancel_left folder _ _ same)))

  contents-stay : (assets : List AssetRow) → AllByRecursion (λ (row : AssetRow). is_file_name row.file ≡ true) assets → map (bytes_of after folder) assets ≡ map (bytes_of files folder) assets
  contents-stay [] all = refl
  contents-stay (row ∷ assets) all = λ i. bytes-stay row all.0 i ∷ contents-stay assets all.1 i

  assets-stay : (assets : List AssetRow) → AllByRecursion (λ (row : AssetRow). is_file_name row.file ≡ true) assets
      → map (λ row. asset_from row (bytes_of after folder row)) assets ≡ map (λ row. asset_from row (bytes_of files folder row)) assets
  assets-stay [] all = refl
  assets-stay (row ∷ assets) all = λ i. asset_from row (bytes-stay row all.0 i) ∷ assets-stay assets all.1 i

-- ---- places

some-number : (o : Option ℕ) → is_some o ≡ true → (n : ℕ) × (o ≡ Some n)
some-number None is = absurd (false≢true is)
some-number (Some n) is = (n, refl)

none-number : (o : Option ℕ) → is_some o ≡ false → o ≡ None
none-number None is = refl
none-number (Some n) is = absurd (false≢true (sym is))

place-front : (names more : List (List ℕ)) (key : List ℕ) → is_among names key ≡ true → place (names ++ more) key ≡ place names key
place-front names more key there =
    let (n, is) = some-number (place_of names key) (sym (among_place names key) ∙ there) in
    let all = first_from-append (number_if (λ b k. bytes_eq k key)) [] names more in
    ap (λ o. unwrap_or o 0) (all ∙ ap (λ o. option_or o (first_from (number_if (λ b k. bytes_eq k key)) names more)) is) ∙ sym (ap (λ o. unwrap_or o 0) is)

place-last : (names : List (List ℕ)) (key : List ℕ) → is_among names key ≡ false → place (names ++ key ∷ []) key ≡ length names
unfolding first_from
place-last names key fresh =
    let none = none-number (place_of names key) (sym (among_place names key) ∙ fresh) in
    let all = first_from-append (number_if (λ b k. bytes_eq k key)) [] names (key ∷ []) in
    ap (λ o. unwrap_or o 0) (all ∙ ap (λ o. option_or o (first_from (number_if (λ b k. bytes_eq k key)) names (key ∷ []))) none ∙ ap (λ b. option_or (cond b (Some (length names)) None) None) ((bytes_decides key key).1 refl))

place-at : (keys : List (List ℕ)) → AreOnce keys → (n : ℕ) (key : List ℕ) → slice_get keys n ≡ Some key → place keys key ≡ n
place-at keys once n key at =
    let there = there-among key keys (Contains-slice_get keys n key at) in
    once (place keys key) n key (known_at keys key there) at

-- ---- names

content-apart : (name : List ℕ) (n : ℕ) → name ≡ numbered_name n → bytes_eq name (codes "Content Update") ≡ false
content-apart name zero is = ap (λ t. bytes_eq t (codes "Content Update")) is
content-apart name (suc n) is = ap (λ t. bytes_eq t (codes "Content Update")) is

not-among : (names : List (List ℕ)) (key : List ℕ) → ¬ Contains names key → is_among names key ≡ false
not-among names key none = by_test (is_among names key) refl
  where
    by_test : (b : Bool) → is_among names key ≡ b → is_among names key ≡ false
    by_test true is = absurd (none (among-there key names is))
    by_test false is = is

-- ---- duplicates

map-twice : (found : List Duplicate) → map (λ (g : Guid). g.0) (map (λ (d : Duplicate). d.guid) found) ≡ map (λ (d : Duplicate). d.guid.0) found
map-twice [] = refl
map-twice (d ∷ ds) = ap (λ ks. d.guid.0 ∷ ks) (map-twice ds)

guids-once : (p : Project) (plan : Plan) (found : List Duplicate) → AreDuplicates p plan found → AreOnce (map (λ (g : Guid). g.0) (map (λ (d : Duplicate). d.guid) found))
guids-once p plan found are =
    subst AreOnce (sym (map-twice found))
    (sorted-once nat_list_cmp_total (map (λ (d : Duplicate). d.guid.0) found) (sorted-map by_guid (slice_cmp nat_cmp) (λ (d : Duplicate). d.guid.0) found (λ x y here there less. less) are.rising))

each-of : {X : Type 0} (P : X → Type 0) (xs : List X) → ((x : X) → Contains xs x → P x) → AllByRecursion P xs
each-of P [] each = tt
each-of P (x ∷ xs) each = (each x (Contains-here x xs), each-of P xs (λ y here. each y (Contains-later x xs y here)))

all-of-map : {X Y : Type 0} (P : Y → Type 0) (f : X → Y) (xs : List X) → AllByRecursion (λ x. P (f x)) xs → AllByRecursion P (map f xs)
all-of-map P f [] all = tt
all-of-map P f (x ∷ xs) all = (all.0, all-of-map P f xs all.1)

none_from_map : {A B : Type 0} (f : A → B) (o : Option A) → option_map f o ≡ None → o ≡ None
none_from_map f None is = refl
none_from_map f (Some x) is = absurd (cc)

not-false : (b : Bool) → not b ≡ false → b ≡ true
not-false true is = refl
not-false false is = absurd (false≢true (sym is))

module _ (f : ProjectFile) (files : List MemFile) (folder : List ℕ) (plan : Plan) (name : List ℕ) (found : List Duplicate) (good : file_fault f ≡ None)
    (are : AreDuplicates (project_of f files folder) plan found) where
  abbrev p : Project
  p = project_of f files folder

  abbrev guids : List Guid
  guids = map (λ (d : Duplicate). d.guid) found

  assets-once : AreOnce (guids_of f.assets)
  unfolding file_fault key_fault
  assets-once =
      let names = none-parts _ _ (none-parts _ _ (none-parts _ _ good).1).0 in
      once_from (guids_of f.assets) (none_from_map (DuplicateGuid part.Asset) _ (none-parts _ _ names.0).0)

  grouped : AllByRecursion (λ e. lacks_group (names_of f.groups) e ≡ false) f.entries
  unfolding file_fault link_fault
  grouped =
      let names = none-parts _ _ (none-parts _ _ (none-parts _ _ good).1).0 in
      fails-all (lacks_group (names_of f.groups)) f.entries (none_from_map UnknownGroup _ (none-parts _ _ names.1).0)

  -- where a duplicate stands
  placed : (d : Duplicate) → Contains found d → slice_get (guids_of f.assets) d.asset ≡ Some d.guid.0
  unfolding project_of
  placed d here =
      let is = are.within d here in
      let (row, at, made) = from_map (λ row. asset_from row (bytes_of files folder row)) f.assets d.asset is.asset is.at in
      to_map (λ (r : AssetRow). r.guid.0) f.assets d.asset row at ∙ ap Some (ap (λ (a : Asset). a.guid.0) made ∙ sym (ap (λ (g : Guid). g.0) is.guid))

  apart : (d : Duplicate) → Contains found d → is_among (entry_guids f.entries) d.guid.0 ≡ false
  unfolding project_of
  apart d here = not-among (entry_guids f.entries) d.guid.0 (λ there. (
      let is = are.within d here in
      let at = known_at (entry_guids f.entries) d.guid.0 (there-among d.guid.0 (entry_guids f.entries) there) in
      let x = place (entry_guids f.entries) d.guid.0 in
      let (row, row-at, same) = from_map (λ (e : EntryRow). e.guid.0) f.entries x d.guid.0 at in
      let number : place (guids_of f.assets) row.guid.0 ≡ d.asset = ap (place (guids_of f.assets)) same ∙ place-at (guids_of f.assets) assets-once d.asset d.guid.0 (placed d here) in
      is.implicit (x, (entry_from (guids_of f.assets) (names_of f.groups) row, to_map (entry_from (guids_of f.assets) (names_of f.groups)) f.entries x row row-at, (is.asset, ap (slice_get p.assets) number ∙ is.at, refl)))))

  room-for : length f.groups + 1 ≤ most limit.Groups → length f.entries + length found ≤ most limit.Entries → IsFreeName f.groups name → IsRoom f name guids
  room-for groups entries free = record {
    groups = groups;
    entries = (let long = length-map found (λ (d : Duplicate). d.guid) in omega (arith, long, entries));
    fresh = not-among (names_of f.groups) name free.free;
    free = content-apart name free.number free.is;
    once = none-repeats _ (guids-once p plan found are);
    apart = subst (AllByRecursion (λ y. is_among (entry_guids f.entries) y ≡ false)) (sym (map-twice found)) (all-of-map (λ y. is_among (entry_guids f.entries) y ≡ false) (λ (d : Duplicate). d.guid.0) found (each-of _ found apart));
    named = all-of-map (λ (g : Guid). is_among (guids_of f.assets) g.0 ≡ true) (λ (d : Duplicate). d.guid) found (each-of _ found (λ d here. there-among d.guid.0 (guids_of f.assets) (Contains-slice_get (guids_of f.assets) d.asset d.guid.0 (placed d here))));
  }

  names-more : names_of (f.groups ++ group_named name ∷ []) ≡ names_of f.groups ++ name ∷ []
  names-more = map-append (λ (g : Group). g.name) f.groups (group_named name ∷ [])

  old-entries : (es : List EntryRow) → AllByRecursion (λ e. lacks_group (names_of f.groups) e ≡ false) es
      → map (entry_from (guids_of f.assets) (names_of (f.groups ++ group_named name ∷ []))) es ≡ map (entry_from (guids_of f.assets) (names_of f.groups)) es
  old-entries [] all = refl
  old-entries (e ∷ es) all =
      let group : place (names_of (f.groups ++ group_named name ∷ [])) e.group ≡ place (names_of f.groups) e.group =
      ap (λ ns. place ns e.group) names-more ∙ place-front (names_of f.groups) (name ∷ []) e.group (not-false _ all.0) in
      λ i. record { asset = place (guids_of f.assets) e.guid.0; group = group i; address = e.address; labels = e.labels } ∷ old-entries es all.1 i

  new-entries : is_among (names_of f.groups) name ≡ false → (ds : List Duplicate) → ((d : Duplicate) → Contains ds d → slice_get (guids_of f.assets) d.asset ≡ Some d.guid.0)
      → map (entry_from (guids_of f.assets) (names_of (f.groups ++ group_named name ∷ []))) (map (entry_made name) (map (λ (d : Duplicate). d.guid) ds)) ≡ map (entry_in (length f.groups)) ds
  new-entries fresh [] at = refl
  new-entries fresh (d ∷ ds) at =
      let asset = place-at (guids_of f.assets) assets-once d.asset d.guid.0 (at d (Contains-here d ds)) in
      let group = ap (λ ns. place ns name) names-more ∙ place-last (names_of f.groups) name fresh ∙ length-map f.groups (λ (g : Group). g.name) in
      λ i. record { asset = asset i; group = group i; address = hex_of d.guid.0; labels = [] } ∷ new-entries fresh ds (λ e here. at e (Contains-later d ds e here)) i

  pub project-is : (after : List MemFile) (text : List ℕ) → IsPut (path folder (codes "project.toml")) text files after → AllByRecursion (λ (row : AssetRow). is_file_name row.file ≡ true) f.assets
      → is_among (names_of f.groups) name ≡ false → project_of (file_with f name guids) after folder ≡ isolated_in p name found
  unfolding project_of
  project-is after text put rows-good fresh = λ i. record {
    version = f.version;
    local = text_given (expanded f.variables f.local);
    remote = text_given (expanded f.variables f.remote);
    variables = f.variables;
    groups = f.groups ++ group_named name ∷ [];
    assets = assets-stay files after folder text put f.assets rows-good i;
    entries = (map-append (entry_from (guids_of f.assets) (names_of (f.groups ++ group_named name ∷ []))) f.entries (map (entry_made name) guids)
        ∙ (λ j. old-entries f.entries grouped j ++ new-entries fresh found placed j)) i;
  }

-- ---- the folder

-- a document that stands for a project has no fault
pub good-tree : (files : List MemFile) (folder : List ℕ) (tree : Members) (p : Project) → reply_of_tree files folder (Some tree) ≡ Ok p → (tree_fault tree ≡ None) × (reply_of_file files folder (file_of tree) ≡ Ok p)
good-tree files folder tree p is = by_fault (tree_fault tree) refl
  where
    by_fault : (o : Option ProjectErr) → tree_fault tree ≡ o → (tree_fault tree ≡ None) × (reply_of_file files folder (file_of tree) ≡ Ok p)
    by_fault None none = (none, sym (ap (λ o. reply_after o (reply_of_file files folder (file_of tree))) none) ∙ is)
    by_fault (Some fault) some = absurd (let bad : Err fault ≡ Ok p = sym (ap (λ o. reply_after o (reply_of_file files folder (file_of tree))) some) ∙ is in cc bad)

good-file : (files : List MemFile) (folder : List ℕ) (f : ProjectFile) (p : Project) → reply_of_file files folder f ≡ Ok p → (asset_fault (map (bytes_of files folder) f.assets) ≡ None) × (project_of f files folder ≡ p)
unfolding reply_of_file
good-file files folder f p is = by_fault (asset_fault (map (bytes_of files folder) f.assets)) refl
  where
    by_fault : (o : Option ProjectErr) → asset_fault (map (bytes_of files folder) f.assets) ≡ o → (asset_fault (map (bytes_of files folder) f.assets) ≡ None) × (project_of f files folder ≡ p)
    by_fault None none = (none, (let same : Ok (project_of f files folder) ≡ Ok p = sym (ap (λ o. unless_fault o (project_of f files folder)) none) ∙ is in cc same))
    by_fault (Some fault) some = absurd (let bad : Err fault ≡ Ok p = sym (ap (λ o. unless_fault o (project_of f files folder)) some) ∙ is in cc bad)

rows-good : (tree : Members) → AllByRecursion (λ (row : AssetRow). is_file_name row.file ≡ true) (file_of tree).assets
unfolding file_of
rows-good tree = all-good (rows (codes "asset") tree)

-- what is asked of the name and of how many there are
pub record IsRoomFor (p : Project) (name : List ℕ) (found : List Duplicate) : Type 0 where
  pub free : IsFreeName p.groups name
  pub text : is_within 1 most_text name ≡ true
  pub groups : length p.groups + 1 ≤ most limit.Groups
  pub entries : length p.entries + length found ≤ most limit.Entries

entries-as-many : (f : ProjectFile) (files : List MemFile) (folder : List ℕ) → length (project_of f files folder).entries ≡ length f.entries
unfolding project_of
entries-as-many f files folder = length-map f.entries (entry_from (guids_of f.assets) (names_of f.groups))

module _ (files after : List MemFile) (folder text : List ℕ) (old new : Members) (plan : Plan) (name : List ℕ) (found : List Duplicate)
    (none : tree_fault old ≡ None) (is : IsWithEntries old name (map (λ (d : Duplicate). d.guid) found) new) (reads : tree_of text ≡ Some new)
    (put : IsPut (path folder (codes "project.toml")) text files after) where
  abbrev made : Project
  made = project_of (file_of old) files folder

  sixteen : IsKept made → AreDuplicates made plan found → AllByRecursion (λ (g : Guid). Are16Bytes g.0) (map (λ (d : Duplicate). d.guid) found)
  sixteen kept are = all-of-map (λ (g : Guid). Are16Bytes g.0) (λ (d : Duplicate). d.guid) found (each-of _ found (λ d here. (
      let duplicate = are.within d here in
      subst (λ (g : Guid). Are16Bytes g.0) (sym duplicate.guid) (All-contains (λ (a : Asset). Are16Bytes a.guid.0) made.assets duplicate.asset (All-from_recursion _ made.assets kept.guids) (Contains-slice_get made.assets d.asset duplicate.asset duplicate.at)))))

  stands : IsKept made → AreDuplicates made plan found → IsRoomFor made name found → asset_fault (map (bytes_of files folder) (file_of old).assets) ≡ None → ProjectOf after folder (isolated_in made name found)
  unfolding tree_fault project_of
  stands kept are room there =
      let f = file_of old in
      let file-none = (none-parts _ _ none).1 in
      let fields = good-fields old none in
      let bytes = sixteen kept are in
      let as_many = entries-as-many f files folder in
      let fits = room.entries in
      let fits-room = room-for f files folder plan name found file-none are room.groups (omega (arith, as_many, fits)) room.free in
      let file = file-is old new name (map (λ (d : Duplicate). d.guid) found) is fields room.text bytes in
      let new-none : tree_fault new ≡ None = none-both _ _ (fields-stay old new name (map (λ (d : Duplicate). d.guid) found) is fields room.text bytes) (ap file_fault file ∙ file-stays f name (map (λ (d : Duplicate). d.guid) found) fits-room file-none) in
      let contents : asset_fault (map (bytes_of after folder) f.assets) ≡ None = ap asset_fault (contents-stay files after folder text put f.assets (rows-good old)) ∙ there in
      folder-tree after folder text (Some new) put.0 reads
      ∙ tree-good after folder new new-none
      ∙ ap (reply_of_file after folder) file
      ∙ file-good after folder (file_with f name (map (λ (d : Duplicate). d.guid) found)) contents
      ∙ ap Ok (project-is f files folder plan name found file-none are after text put (rows-good old) (not-among (names_of f.groups) name room.free.free))

  pub isolates : (p : Project) → reply_of_tree files folder (Some old) ≡ Ok p → IsKept p → AreDuplicates p plan found → IsRoomFor p name found → ProjectOf after folder (isolated_in p name found)
  isolates p read kept are room =
      let parts = good-file files folder (file_of old) p (good-tree files folder old p read).1 in
      subst (λ (q : Project). ProjectOf after folder (isolated_in q name found)) parts.1
      (stands (subst IsKept (sym parts.1) kept) (subst (λ (q : Project). AreDuplicates q plan found) (sym parts.1) are) (subst (λ (q : Project). IsRoomFor q name found) (sym parts.1) room) parts.0)
