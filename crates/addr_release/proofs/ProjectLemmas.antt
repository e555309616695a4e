-- The puts of a release leave the project file and the files of assets as they were: no file of an asset may have a name that
-- a release gives.
use Rattle.std.proofs.Common.{◌≡◌, ◌≢◌, ℕ, Bool, true, false, cond, not, ◌==◌, ◌||◌, codes, List, [], ◌∷◌, ◌++◌, get_or, map, take, Option, Some, None, refl, sym, ap, ap₂, ◌∙◌, ◌⊎◌, inl, inr, arith}
use Rattle.std.proofs.lemmas.Bool.{and_parts, false≢true}
use Rattle.std.proofs.lemmas.List.Elements.{All-contains, All-from_recursion}
use Rattle.std.specs.List.{AllByRecursion, Contains, cons_option, filter_map, list_all, onto_first, slice_split}
use Rattle.std.specs.Str.{bytes_eq}
use Rattle.toml.specs.Data.{Data, Members, string, table, get_member}
use Rattle.addr_base.specs.Files.{file_at}
use Rattle.addr_base.specs.declared.files.MemFile.{MemFile}
use Rattle.addr_base.specs.declared.ids.Guid.{Guid}
use Rattle.addr_locate.proofs.NumberLemmas.{or_true}
use Rattle.addr_project.specs.Faults.{tree_fault}
use Rattle.addr_project.specs.Model.{Project}
use Rattle.addr_project.specs.Reading.{asset_fault, asset_from, bytes_of, path, project_of, reply_after, reply_of_bytes, reply_of_file, reply_of_folder, reply_of_tree, tree_of, unless_fault}
use Rattle.addr_project.specs.Rows.{asset_of, asset_row_from, file_of, rows}
use Rattle.addr_project.specs.declared.model.Asset.{Asset}
use Rattle.addr_project.specs.declared.rows.AssetRow.{AssetRow}
use Rattle.addr_project_rows.specs.Fields.{are_free, is_file_name, is_first_free, is_part, is_taken, is_within, most_text, or_default, parts_of, text_where}
use Rattle.addr_state.specs.Files.{side_folder}
use Rattle.addr_walks.proofs.Lists.{Contains-here, Contains-later}
use Rattle.addr_release.specs.Built.{Release, ReleaseBundle}
use Rattle.addr_release.specs.Laws.{AreNamed}
use Rattle.addr_release.specs.Names.{digest_from, state_file}
use Rattle.addr_release.specs.Puts.{IsAfter, bundle_put, catalogue_put, content_puts, hash_put, puts_of, state_put}
use Rattle.addr_release.proofs.ContentLemmas.{behind-cases}
use Rattle.addr_release.proofs.NameLemmas.{bytes-apart, content-cases, name_of, path-same}
use Rattle.addr_release.proofs.PutLemmas.{after-same, take-within}

-- ---- the files of assets

good-text : (test : List ℕ → Bool) (d : Data) (t : List ℕ) → text_where test d ≡ Some t → test t ≡ true
good-text test (string s) t is = by_test (test s) refl is
  where
    by_test : (b : Bool) → test s ≡ b → cond b (Some s) None ≡ Some t → test t ≡ true
    by_test true good found = let same : s ≡ t = cc in ap test (sym same) ∙ good
    by_test false bad found = absurd (cc)
good-text test _ t is = absurd (cc)

good-member : (test : List ℕ → Bool) (o : Option Data) (t : List ℕ) → or_default (text_where test) None o ≡ Some t → test t ≡ true
good-member test None t is = absurd (cc)
good-member test (Some d) t is = good-text test d t is

asset-file : (g : Option Guid) (k f : Option (List ℕ)) (r : Option (List Guid)) (row : AssetRow) → asset_row_from g k f r ≡ Some row → f ≡ Some row.file
asset-file (Some guid) (Some kind) (Some file) (Some refs) row is =
    let same : record { guid = guid; kind = kind; file = file; refs = refs } ≡ row = cc in
    ap (λ (a : AssetRow). Some a.file) same
asset-file _ _ _ _ row is = absurd (cc)

row-file : (d : Data) (row : AssetRow) → asset_of d ≡ Some row → is_file_name row.file ≡ true
row-file (table ms) row is = good-member is_file_name (get_member (codes "file") ms) row.file (asset-file _ _ _ _ row is)
row-file _ row is = absurd (cc)

abbrev HasGoodName : AssetRow → Type 0
HasGoodName row = is_file_name row.file ≡ true

all-good : (ds : List Data) → AllByRecursion HasGoodName (filter_map asset_of ds)
all-good [] = tt
all-good (d ∷ ds) = by_row (asset_of d) refl (all-good ds)
  where
    by_row : (o : Option AssetRow) → asset_of d ≡ o → AllByRecursion HasGoodName (filter_map asset_of ds) → AllByRecursion HasGoodName (cons_option o (filter_map asset_of ds))
    by_row None is rest = rest
    by_row (Some a) is rest = (row-file d a is, rest)

row-good : (tree : Members) (row : AssetRow) → Contains (file_of tree).assets row → is_file_name row.file ≡ true
unfolding file_of
row-good tree row here = All-contains HasGoodName (file_of tree).assets row (All-from_recursion HasGoodName (file_of tree).assets (all-good (rows (codes "asset") tree))) here

-- ---- names that a release gives

name-free : (s : List ℕ) → is_file_name s ≡ true → is_first_free (parts_of s) ≡ true
name-free s good = (and_parts (list_all is_part (parts_of s)) (is_first_free (parts_of s)) (and_parts (is_within 1 most_text s) (are_free (parts_of s)) good).1).1

side-taken : (remote : Bool) (rest : List ℕ) → is_first_free (parts_of (side_folder remote ++ rest)) ≡ false
side-taken false rest = refl
side-taken true rest = refl

state-front : (part : List ℕ) → is_taken (codes "state_" ++ part) ≡ true
state-front part = or_true (bytes_eq (codes "state_" ++ part) (codes "local") || bytes_eq (codes "state_" ++ part) (codes "remote") || bytes_eq (codes "state_" ++ part) (codes "cache") || bytes_eq (codes "state_" ++ part) (codes "project.toml"))

state-taken : (rest : List ℕ) → is_first_free (parts_of (codes "state_" ++ rest)) ≡ false
state-taken rest = by_parts (slice_split (λ (b : ℕ). b == 47) rest)
  where
    by_parts : (parts : List (List ℕ)) → is_first_free (onto_first 115 (onto_first 116 (onto_first 97 (onto_first 116 (onto_first 101 (onto_first 95 parts)))))) ≡ false
    by_parts [] = ap not (state-front [])
    by_parts (part ∷ parts) = ap not (state-front part)

-- a name below the folder that a project's files don't have
pub record IsBeside (n : List ℕ) : Type 0 where
  pub taken : is_first_free (parts_of n) ≡ false
  pub other : codes "project.toml" ≢ n

side-beside : (remote : Bool) (rest : List ℕ) → IsBeside (side_folder remote ++ rest)
side-beside remote rest = record { taken = side-taken remote rest; other = apart remote }
  where
    apart : (b : Bool) → codes "project.toml" ≢ side_folder b ++ rest
    apart false e = bytes-apart 108 112 (omega arith) (sym (ap (λ (xs : List ℕ). get_or xs 0 0) e))
    apart true e = bytes-apart 112 114 (omega arith) (ap (λ (xs : List ℕ). get_or xs 0 0) e)

state-beside_project : (rest : List ℕ) → IsBeside (codes "state_" ++ rest)
state-beside_project rest = record { taken = state-taken rest; other = λ e. bytes-apart 112 115 (omega arith) (ap (λ (xs : List ℕ). get_or xs 0 0) e) }

map-same : {X Y : Type 0} (f g : X → Y) (xs : List X) → ((x : X) → Contains xs x → f x ≡ g x) → map f xs ≡ map g xs
map-same f g [] each = refl
map-same f g (x ∷ xs) each = let head = each x (Contains-here x xs) in let tail = map-same f g xs (λ y here. each y (Contains-later x xs y here)) in ap₂ (λ y ys. y ∷ ys) head tail

module _ (folder : List ℕ) (r : Release) (are : AreNamed r.bundles) where
  -- each put has such a name
  put-beside : (f : MemFile) → Contains (puts_of folder r) f → (n : List ℕ) × (f.name ≡ path folder n) × IsBeside n
  put-beside f here = by_case (behind-cases folder (content_puts folder r) r.catalogue f here)
    where
      by_content : ((made : ReleaseBundle) × Contains r.bundles made × (bundle_put folder made ≡ f)) ⊎ (state_put folder r.state_bytes ≡ f) → (n : List ℕ) × (f.name ≡ path folder n) × IsBeside n
      by_content (inl (made, within, is)) = (side_folder made.remote ++ made.row.key, sym (ap name_of is), side-beside made.remote made.row.key)
      by_content (inr is) = (state_file (Some (digest_from r.state_bytes)), sym (ap name_of is), state-beside_project _)

      by_case : Contains (content_puts folder r) f ⊎ ((catalogue_put folder r.catalogue ≡ f) ⊎ (hash_put folder r.catalogue ≡ f)) → (n : List ℕ) × (f.name ≡ path folder n) × IsBeside n
      by_case (inl within) = by_content (content-cases folder r are f within)
      by_case (inr (inl same)) = (side_folder true ++ codes "catalog_main.json", sym (ap name_of same), side-beside true (codes "catalog_main.json"))
      by_case (inr (inr same)) = (side_folder true ++ codes "catalog_main.hash", sym (ap name_of same), side-beside true (codes "catalog_main.hash"))

  module _ (k : ℕ) (old new : List MemFile) (after : IsAfter (take k (puts_of folder r)) old new) where
    stays : (s : List ℕ) → ((n : List ℕ) → IsBeside n → s ≢ n) → file_at (path folder s) new ≡ file_at (path folder s) old
    stays s apart = after-same (take k (puts_of folder r)) old new after (path folder s) beside
      where
        beside : (f : MemFile) → Contains (take k (puts_of folder r)) f → f.name ≢ path folder s
        beside f here named =
            let put = put-beside f (take-within k (puts_of folder r) f here) in
            apart put.0 put.2 (path-same folder s put.0 (sym named ∙ put.1))

    row-stays : (tree : Members) (row : AssetRow) → Contains (file_of tree).assets row → bytes_of new folder row ≡ bytes_of old folder row
    row-stays tree row here = stays row.file apart
      where
        apart : (n : List ℕ) → IsBeside n → row.file ≢ n
        apart n is same = false≢true (sym is.taken ∙ (ap (λ s. is_first_free (parts_of s)) (sym same) ∙ name-free row.file (row-good tree row here)))

    same-project : (tree : Members) → project_of (file_of tree) new folder ≡ project_of (file_of tree) old folder
    unfolding project_of
    same-project tree =
        let f = file_of tree in
        let assets : map (λ row. asset_from row (bytes_of new folder row)) f.assets ≡ map (λ row. asset_from row (bytes_of old folder row)) f.assets =
        map-same (λ row. asset_from row (bytes_of new folder row)) (λ row. asset_from row (bytes_of old folder row)) f.assets (λ row here. ap (asset_from row) (row-stays tree row here)) in
        ap (λ (as' : List Asset). let p : Project = record (project_of f old folder) { assets = as' } in p) assets

    same-file : (tree : Members) → reply_of_file new folder (file_of tree) ≡ reply_of_file old folder (file_of tree)
    unfolding reply_of_file
    same-file tree =
        let contents : map (bytes_of new folder) (file_of tree).assets ≡ map (bytes_of old folder) (file_of tree).assets = map-same (bytes_of new folder) (bytes_of old folder) (file_of tree).assets (row-stays tree) in
        ap₂ (λ (cs : List (Option (List ℕ))) (p : Project). unless_fault (asset_fault cs) p) contents (same-project tree)

    -- the folder stands for what it stood for
    pub same-folder : reply_of_folder new folder ≡ reply_of_folder old folder
    unfolding reply_of_folder
    same-folder = ap (reply_of_bytes new folder) (stays (codes "project.toml") (λ n is. is.other)) ∙ by_bytes (file_at (path folder (codes "project.toml")) old)
      where
        by_tree : (o : Option Members) → reply_of_tree new folder o ≡ reply_of_tree old folder o
        by_tree None = refl
        by_tree (Some tree) = ap (reply_after (tree_fault tree)) (same-file tree)

        by_bytes : (o : Option (List ℕ)) → reply_of_bytes new folder o ≡ reply_of_bytes old folder o
        by_bytes None = refl
        by_bytes (Some bytes) = by_tree (tree_of bytes)
