-- What the document with one group and its entries more says: the same file with that group and these entries.
use Rattle.std.proofs.Common.{◌≡◌, ℕ, nat_le, ◌&&◌, true, false, cond, List, [], ◌∷◌, ◌++◌, length, map, Option, Some, None, refl, sym, ap, ◌∙◌, arith}
use Rattle.std.proofs.lemmas.List.{append-nil}
use Rattle.std.proofs.lemmas.List.Elements.{filter_map-append}
use Rattle.std.specs.List.{AllByRecursion, AllZip, cons_option, filter_map}
use Rattle.std.specs.Option.{is_none, option_map, option_or, unwrap_or}
use Rattle.std.specs.Prelude.{codes}
use Rattle.hex.proofs.HexLemmas.{length-encode_with}
use Rattle.hex.specs.Hex.{lower_digits}
use Rattle.toml.specs.Data.{Data, table, Members, no_members, as_bool, as_table, get_member}
use Rattle.addr_base.specs.Ids.{Are16Bytes, hex_of}
use Rattle.addr_base.specs.declared.ids.Guid.{Guid}
use Rattle.addr_project.specs.declared.error.ProjectErr.TheVariants.{BadField}
use Rattle.addr_project.specs.declared.limit.Part.{Part}
use Rattle.addr_project.specs.declared.limit.Part.TheVariants as part
use Rattle.addr_project.specs.declared.model.Mode.TheVariants.{Together}
use Rattle.addr_project.specs.declared.rows.EntryRow.{EntryRow}
use Rattle.addr_project.specs.declared.rows.ProjectFile.{ProjectFile}
use Rattle.addr_project.specs.Faults.{bad_row, bad_variable, field_fault, head_fault, row_fault, unless_some}
use Rattle.addr_project.specs.Modes.{mode_of}
use Rattle.addr_project.specs.Rows.{asset_of, asset_row_from, entry_of, entry_row_from, file_of, group_from, group_of, profile, profile_of, profile_text, rows, rows_at, version_of}
use Rattle.addr_project_rows.specs.Fields.{guid_from, guid_of, is_bad, is_file_name, is_name, is_version, is_within, labels_of, list_of, most_text, or_default, text_of, text_where}
use Rattle.addr_project_rows.specs.Firsts.{first_from, first_where, is_among, number_if}
use Rattle.addr_project_rows.specs.Variables.{is_bad_variable, variable_from, variable_of}
use Rattle.addr_project_rows.proofs.GuidLemmas.{parsed}
use Rattle.addr_project_rows.proofs.Lists.{items_list_of}
use Rattle.addr_project_rows.proofs.VariableLemmas.{same_firsts}
use Rattle.addr_isolate.specs.Document.{IsWithEntries, KeepsRow, KeepsTable, asset_names, entry_names, entry_row, group_names, group_row, profile_names, rows_member, variable_names}
use Rattle.addr_isolate.proofs.PlainLemmas.{HasGoodFields, Stands, good-rows, good-variables}

-- ---- rows with the members that the format has are read as before

group-same : (d e : Data) → KeepsRow group_names d e → group_of e ≡ group_of d
group-same (table ms) e (new, is, keeps) =
    ap group_of is
    ∙ (λ i. group_from (or_default text_of None (keeps (codes "name") i)) (or_default mode_of (Some Together) (keeps (codes "mode") i)) (or_default as_bool (Some false) (keeps (codes "fixed") i)) (or_default as_bool (Some false) (keeps (codes "remote") i)))
group-same d e same = ap group_of same

variable-same : (d e : Data) → KeepsRow variable_names d e → variable_of e ≡ variable_of d
variable-same (table ms) e (new, is, keeps) =
    ap variable_of is
    ∙ (λ i. variable_from (or_default (text_where is_name) None (keeps (codes "name") i)) (or_default (text_where (is_within 0 most_text)) None (keeps (codes "value") i)))
variable-same d e same = ap variable_of same

asset-same : (d e : Data) → KeepsRow asset_names d e → asset_of e ≡ asset_of d
asset-same (table ms) e (new, is, keeps) =
    ap asset_of is
    ∙ (λ i. asset_row_from (or_default guid_of None (keeps (codes "guid") i)) (or_default text_of None (keeps (codes "type") i)) (or_default (text_where is_file_name) None (keeps (codes "file") i)) (or_default (list_of guid_of) (Some []) (keeps (codes "refs") i)))
asset-same d e same = ap asset_of same

entry-same : (d e : Data) → KeepsRow entry_names d e → entry_of e ≡ entry_of d
entry-same (table ms) e (new, is, keeps) =
    ap entry_of is
    ∙ (λ i. entry_row_from (or_default guid_of None (keeps (codes "guid") i)) (or_default text_of None (keeps (codes "group") i)) (or_default text_of None (keeps (codes "address") i)) (or_default labels_of (Some []) (keeps (codes "labels") i)))
entry-same d e same = ap entry_of same

module _ {A : Type 0} (read : Data → Option A) (names : List (List ℕ)) (each : (d e : Data) → KeepsRow names d e → read e ≡ read d) where
  read-same : (ds es : List Data) → AllZip (KeepsRow names) ds es → filter_map read es ≡ filter_map read ds
  read-same [] [] zip = refl
  read-same [] (e ∷ es) zip = absurd zip
  read-same (d ∷ ds) [] zip = absurd zip
  read-same (d ∷ ds) (e ∷ es) zip = ap (λ o. cons_option o (filter_map read es)) (each d e zip.0) ∙ ap (cons_option (read d)) (read-same ds es zip.1)

  stand-same : (ds es : List Data) → AllZip (KeepsRow names) ds es → AllByRecursion (λ d. Stands (read d)) ds → AllByRecursion (λ d. Stands (read d)) es
  stand-same [] [] zip all = tt
  stand-same [] (e ∷ es) zip all = absurd zip
  stand-same (d ∷ ds) [] zip all = absurd zip
  stand-same (d ∷ ds) (e ∷ es) zip all = ((all.0.0, each d e zip.0 ∙ all.0.1), stand-same ds es zip.1 all.1)

none-bad : {A : Type 0} (read : Data → Option A) (before ds : List Data) → AllByRecursion (λ d. Stands (read d)) ds → first_from (number_if (λ b d. is_bad read d)) before ds ≡ None
unfolding first_from
none-bad read before [] all = refl
none-bad read before (d ∷ ds) all =
    ap (λ o. option_or (cond (is_none o) (Some (length before)) None) (first_from (number_if (λ b e. is_bad read e)) (before ++ d ∷ []) ds)) all.0.1
    ∙ none-bad read (before ++ d ∷ []) ds all.1

none-rows : {A : Type 0} (p : Part) (read : Data → Option A) (ds : List Data) → AllByRecursion (λ d. Stands (read d)) ds → bad_row p read ds ≡ None
none-rows p read ds all = ap (option_map (BadField p)) (none-bad read [] ds all)

all-join : {X : Type 0} (P : X → Type 0) (xs ys : List X) → AllByRecursion P xs → AllByRecursion P ys → AllByRecursion P (xs ++ ys)
all-join P [] ys first rest = rest
all-join P (x ∷ xs) ys first rest = (first.0, all-join P xs ys first.1 rest)

none_from_map : {A B : Type 0} (f : A → B) (o : Option A) → option_map f o ≡ None → o ≡ None
none_from_map f None is = refl
none_from_map f (Some x) is = absurd (cc)

-- variables that read the same are bad at the same places
none-variables : (ds es : List Data) → filter_map variable_of es ≡ filter_map variable_of ds → AllByRecursion (λ d. Stands (variable_of d)) ds → AllByRecursion (λ d. Stands (variable_of d)) es → bad_variable ds ≡ None → bad_variable es ≡ None
none-variables ds es same all also none =
    let here = same_firsts [] ds refl (none-bad variable_of [] ds all) in
    let there = same_firsts [] es refl (none-bad variable_of [] es also) in
    ap (option_map (BadField part.Variable)) (there ∙ ap (λ vs. first_from (number_if is_among) [] (map (λ v. v.name) vs)) same ∙ sym here ∙ none_from_map (BadField part.Variable) (first_where is_bad_variable ds) none)

-- ---- arrays

rows-there : (key : List ℕ) (tree : Members) (ds : List Data) → get_member key tree ≡ rows_member ds → rows_at key tree ≡ Some ds
rows-there key tree [] is = rw is refl
rows-there key tree (d ∷ ds) is = rw is (ap Some (items_list_of (d ∷ ds)))

-- ---- new rows

group-made : (name : List ℕ) → is_within 1 most_text name ≡ true → group_of (group_row name) ≡ Some (record { name = name; mode = Together; fixed = false; remote = false })
group-made name good = λ i. group_from (cond (good i) (Some name) None) (Some Together) (Some false) (Some false)

abbrev pub entry_made : List ℕ → Guid → EntryRow
entry_made group guid = record { guid = guid; group = group; address = hex_of guid.0; labels = [] }

spelled : (guid : Guid) → Are16Bytes guid.0 → guid_from (hex_of guid.0) ≡ Some guid
spelled guid bytes = sym (parsed (hex_of guid.0) (Some guid) (bytes, refl))

digits-text : (guid : Guid) → Are16Bytes guid.0 → is_within 1 most_text (hex_of guid.0) ≡ true
digits-text guid bytes =
    let twice = length-encode_with lower_digits guid.0 in
    let sixteen = bytes.sixteen in
    let long : length (hex_of guid.0) ≡ 32 = omega (arith, twice, sixteen) in
    λ i. nat_le 1 (long i) && nat_le (long i) 255

entry-made : (group : List ℕ) (guid : Guid) → is_within 1 most_text group ≡ true → Are16Bytes guid.0 → entry_of (entry_row group guid) ≡ Some (entry_made group guid)
entry-made group guid good bytes =
    λ i. entry_row_from (spelled guid bytes i) (cond (good i) (Some group) None) (cond (digits-text guid bytes i) (Some (hex_of guid.0)) None) (Some [])

module _ (group : List ℕ) (good : is_within 1 most_text group ≡ true) where
  entries-made : (guids : List Guid) → AllByRecursion (λ g. Are16Bytes g.0) guids → filter_map entry_of (map (entry_row group) guids) ≡ map (entry_made group) guids
  entries-made [] all = refl
  entries-made (g ∷ gs) all = ap (λ o. cons_option o (filter_map entry_of (map (entry_row group) gs))) (entry-made group g good all.0) ∙ ap (λ es. entry_made group g ∷ es) (entries-made gs all.1)

  entries-stand : (guids : List Guid) → AllByRecursion (λ g. Are16Bytes g.0) guids → AllByRecursion (λ d. Stands (entry_of d)) (map (entry_row group) guids)
  entries-stand [] all = tt
  entries-stand (g ∷ gs) all = ((entry_made group g, entry-made group g good all.0), entries-stand gs all.1)

-- ---- faults

none-both : {A : Type 0} (a b : Option A) → a ≡ None → b ≡ None → option_or a b ≡ None
none-both None b first rest = rest
none-both (Some x) b first rest = absurd (cc)

unless-none : {A : Type 0} (p : Part) (o : Option A) → Stands o → unless_some p o ≡ None
unless-none p None stands = absurd (cc stands.1)
unless-none p (Some a) stands = refl

-- ---- the profile

profile-same : (o n : Option Data) → Stands (or_default as_table (Some no_members) o) → KeepsTable profile_names o n
    → Stands (or_default as_table (Some no_members) n)
    × (profile_text (codes "local") (unwrap_or (or_default as_table (Some no_members) n) no_members) ≡ profile_text (codes "local") (unwrap_or (or_default as_table (Some no_members) o) no_members))
    × (profile_text (codes "remote") (unwrap_or (or_default as_table (Some no_members) n) no_members) ≡ profile_text (codes "remote") (unwrap_or (or_default as_table (Some no_members) o) no_members))
profile-same None n good none = rw none ((no_members, refl), refl, refl)
profile-same (Some (table ms)) n good (kept, is, keeps) =
    rw is ((kept, refl), ap (or_default text_of (Some (codes "local"))) (keeps (codes "local")), ap (or_default text_of (Some (codes "remote"))) (keeps (codes "remote")))
profile-same (Some d) n good keeps = absurd (cc good.1)

-- ---- the file

-- the file with a group of this name, and in it an entry of each GUID
abbrev pub file_with : ProjectFile → List ℕ → List Guid → ProjectFile
file_with f group guids = record {
  version = f.version;
  local = f.local;
  remote = f.remote;
  variables = f.variables;
  groups = f.groups ++ record { name = group; mode = Together; fixed = false; remote = false } ∷ [];
  assets = f.assets;
  entries = f.entries ++ map (entry_made group) guids;
}

module _ (old new : Members) (group : List ℕ) (guids : List Guid) (is : IsWithEntries old group guids new) (fields : HasGoodFields old) (good : is_within 1 most_text group ≡ true) (bytes : AllByRecursion (λ g. Are16Bytes g.0) guids) where
  version-is : version_of new ≡ version_of old
  version-is = ap (or_default (text_where is_version) (Some (codes "2021.3.0f1"))) is.version

  variables-at : rows_at (codes "variable") new ≡ Some (is.variables.0 ++ [])
  variables-at = rows-there (codes "variable") new _ is.variables.2

  groups-at : rows_at (codes "group") new ≡ Some (is.groups.0 ++ group_row group ∷ [])
  groups-at = rows-there (codes "group") new _ is.groups.2

  assets-at : rows_at (codes "asset") new ≡ Some (is.assets.0 ++ [])
  assets-at = rows-there (codes "asset") new _ is.assets.2

  entries-at : rows_at (codes "entry") new ≡ Some (is.entries.0 ++ map (entry_row group) guids)
  entries-at = rows-there (codes "entry") new _ is.entries.2

  kept-variables : AllByRecursion (λ d. Stands (variable_of d)) (is.variables.0 ++ [])
  kept-variables = all-join (λ d. Stands (variable_of d)) is.variables.0 [] (stand-same variable_of variable_names variable-same (rows (codes "variable") old) is.variables.0 is.variables.1 (good-variables _ fields.variables)) tt

  variables-are : filter_map variable_of (is.variables.0 ++ []) ≡ filter_map variable_of (rows (codes "variable") old)
  variables-are = ap (filter_map variable_of) (append-nil is.variables.0) ∙ read-same variable_of variable_names variable-same (rows (codes "variable") old) is.variables.0 is.variables.1

  groups-are : filter_map group_of (is.groups.0 ++ group_row group ∷ []) ≡ filter_map group_of (rows (codes "group") old) ++ record { name = group; mode = Together; fixed = false; remote = false } ∷ []
  groups-are =
      filter_map-append group_of is.groups.0 (group_row group ∷ [])
      ∙ ap (λ gs. gs ++ filter_map group_of (group_row group ∷ [])) (read-same group_of group_names group-same (rows (codes "group") old) is.groups.0 is.groups.1)
      ∙ ap (λ o. filter_map group_of (rows (codes "group") old) ++ cons_option o []) (group-made group good)

  assets-are : filter_map asset_of (is.assets.0 ++ []) ≡ filter_map asset_of (rows (codes "asset") old)
  assets-are = ap (filter_map asset_of) (append-nil is.assets.0) ∙ read-same asset_of asset_names asset-same (rows (codes "asset") old) is.assets.0 is.assets.1

  entries-are : filter_map entry_of (is.entries.0 ++ map (entry_row group) guids) ≡ filter_map entry_of (rows (codes "entry") old) ++ map (entry_made group) guids
  entries-are =
      filter_map-append entry_of is.entries.0 (map (entry_row group) guids)
      ∙ ap (λ es. es ++ filter_map entry_of (map (entry_row group) guids)) (read-same entry_of entry_names entry-same (rows (codes "entry") old) is.entries.0 is.entries.1)
      ∙ ap (λ es. filter_map entry_of (rows (codes "entry") old) ++ es) (entries-made group good guids bytes)

  pub file-is : file_of new ≡ file_with (file_of old) group guids
  unfolding file_of
  file-is =
      let section = profile-same (get_member (codes "profile") old) (get_member (codes "profile") new) fields.section is.profile in
      λ i. record {
        version = unwrap_or (version-is i) [];
        local = unwrap_or (section.1 i) [];
        remote = unwrap_or (section.2 i) [];
        variables = (ap (λ o. filter_map variable_of (unwrap_or o [])) variables-at ∙ variables-are) i;
        groups = (ap (λ o. filter_map group_of (unwrap_or o [])) groups-at ∙ groups-are) i;
        assets = (ap (λ o. filter_map asset_of (unwrap_or o [])) assets-at ∙ assets-are) i;
        entries = (ap (λ o. filter_map entry_of (unwrap_or o [])) entries-at ∙ entries-are) i;
      }

  pub fields-stay : field_fault new ≡ None
  unfolding head_fault row_fault
  fields-stay =
      let section = profile-same (get_member (codes "profile") old) (get_member (codes "profile") new) fields.section is.profile in
      let variables = none-variables (rows (codes "variable") old) (is.variables.0 ++ []) variables-are (good-variables _ fields.variables) kept-variables fields.variables in
      let groups = none-rows part.Group group_of (is.groups.0 ++ group_row group ∷ []) (all-join _ is.groups.0 (group_row group ∷ []) (stand-same group_of group_names group-same (rows (codes "group") old) is.groups.0 is.groups.1 (good-rows part.Group group_of _ fields.groups)) ((_, group-made group good), tt)) in
      let assets = none-rows part.Asset asset_of (is.assets.0 ++ []) (all-join _ is.assets.0 [] (stand-same asset_of asset_names asset-same (rows (codes "asset") old) is.assets.0 is.assets.1 (good-rows part.Asset asset_of _ fields.assets)) tt) in
      let entries = none-rows part.Entry entry_of (is.entries.0 ++ map (entry_row group) guids) (all-join _ is.entries.0 (map (entry_row group) guids) (stand-same entry_of entry_names entry-same (rows (codes "entry") old) is.entries.0 is.entries.1 (good-rows part.Entry entry_of _ fields.entries)) (entries-stand group good guids bytes)) in
      none-both _ _
      (none-both _ _ (unless-none part.Project (version_of new) (fields.version.0, version-is ∙ fields.version.1))
      (none-both _ _ (unless-none part.Project (profile_of new) section.0)
      (none-both _ _ (unless-none part.Project (rows_at (codes "variable") new) (_, variables-at))
      (none-both _ _ (unless-none part.Project (rows_at (codes "group") new) (_, groups-at))
      (none-both _ _ (unless-none part.Project (rows_at (codes "asset") new) (_, assets-at))
      (none-both _ _ (unless-none part.Project (rows_at (codes "entry") new) (_, entries-at))
      (none-both _ _ (unless-none part.Profile (profile_text (codes "local") (profile new)) (fields.local.0, section.1 ∙ fields.local.1))
      (none-both _ _ (unless-none part.Profile (profile_text (codes "remote") (profile new)) (fields.remote.0, section.2 ∙ fields.remote.1)) refl))))))))
      (none-both _ _ (ap (λ o. bad_variable (unwrap_or o [])) variables-at ∙ variables)
      (none-both _ _ (ap (λ o. bad_row part.Group group_of (unwrap_or o [])) groups-at ∙ groups)
      (none-both _ _ (ap (λ o. bad_row part.Asset asset_of (unwrap_or o [])) assets-at ∙ assets)
      (none-both _ _ (ap (λ o. bad_row part.Entry entry_of (unwrap_or o [])) entries-at ∙ entries) refl))))
