-- Names of files in a set: what holds of each name, and of one more.
use Rattle.std.proofs.Common.{◌≡◌, ℕ, Bool, true, false, ◌&&◌, ◌||◌, List, [], ◌∷◌, length, Option, Some, None, Bor, refl, sym, ap, subst, ◌∙◌, nat_cmp, Ordering, Less, Equal, Greater}
use Rattle.std.proofs.lemmas.Bool.{false≢true}
use Rattle.std.proofs.lemmas.Map.Lookups.{exact_bytes}
use Rattle.std.specs.BTreeMap.{is_at}
use Rattle.std.specs.BTreeSet.{BTreeSet, insert_key, contains_by}
use Rattle.std.specs.Cmp.Lexicographic.{slice_cmp}
use Rattle.std.specs.List.{AllByRecursion, list_any}
use Rattle.std.specs.Ordering.{is_eq}
use Rattle.std.specs.Option.{is_some, option_or}
use Rattle.addr_base.specs.declared.files.MemFile.{MemFile}
use Rattle.addr_base.specs.Files.{file_at}
use Rattle.addr_project.specs.Reading.{path, over_after}
use Rattle.addr_project.specs.Loading.{Adds}
use Rattle.addr_project.specs.declared.loaded.Loaded.{Loaded}
use Rattle.addr_project.specs.declared.rows.AssetRow.{AssetRow}
use Rattle.addr_project.specs.declared.error.ProjectErr.{ProjectErr}

-- the folder has a file of that name
abbrev pub has_file : List MemFile → List ℕ → List ℕ → Bool
has_file files folder name = is_some (file_at (path folder name) files)

-- it has a file of each name
abbrev pub AreThere : List MemFile → List ℕ → List (Bor (List ℕ)) → Type 0
AreThere files folder names = AllByRecursion (λ name. has_file files folder name.now ≡ true) names

all-inserted : {K : Type 0} (P : K → Type 0) (cmp : K → K → Ordering) (keys : List K) (key : K) → P key → AllByRecursion P keys → AllByRecursion P (insert_key cmp keys key)
all-inserted P cmp [] key here all = (here, tt)
all-inserted P cmp (k ∷ keys) key here (first, rest) = by_order (all-inserted P cmp keys key here rest) (cmp key k) refl
  where
    by_order : AllByRecursion P (insert_key cmp keys key) → (o : Ordering) → cmp key k ≡ o → AllByRecursion P (insert_key cmp (k ∷ keys) key)
    by_order later Less is = rw is (here, (first, rest))
    by_order later Equal is = rw is (first, rest)
    by_order later Greater is = rw is (first, later)

equal : (o : Ordering) → is_eq o ≡ true → o ≡ Equal
equal Less is = absurd (false≢true is)
equal Equal is = refl
equal Greater is = absurd (false≢true is)

contained : (P : List ℕ → Type 0) (name : List ℕ) (keys : List (Bor (List ℕ))) → AllByRecursion (λ key. P key.now) keys → list_any (is_at (λ key. slice_cmp nat_cmp name key.now)) keys ≡ true → P name
contained P name [] all is = absurd (false≢true is)
contained P name (k ∷ keys) (first, rest) is = by_test (contained P name keys rest) (is_eq (slice_cmp nat_cmp name k.now)) refl
  where
    by_test : (list_any (is_at (λ key. slice_cmp nat_cmp name key.now)) keys ≡ true → P name) → (t : Bool) → is_eq (slice_cmp nat_cmp name k.now) ≡ t → P name
    by_test later true same = subst P (sym (exact_bytes name k.now (equal (slice_cmp nat_cmp name k.now) same))) first
    by_test later false other = later (sym (ap (λ b. b || list_any (is_at (λ key. slice_cmp nat_cmp name key.now)) keys) other) ∙ is)

pub there-more : (files : List MemFile) (folder : List ℕ) (names : List (Bor (List ℕ))) (name : Bor (List ℕ)) → has_file files folder name.now ≡ true → AreThere files folder names
    → AreThere files folder (insert_key (λ x y. slice_cmp nat_cmp x.now y.now) names name)
there-more files folder names name here all = all-inserted (λ n. has_file files folder n.now ≡ true) (λ x y. slice_cmp nat_cmp x.now y.now) names name here all

pub there-seen : (files : List MemFile) (folder : List ℕ) (seen : BTreeSet (Bor (List ℕ))) (name : List ℕ) → AreThere files folder seen.keys → contains_by (λ key. slice_cmp nat_cmp name key.now) seen ≡ true
    → (bytes : List ℕ) × (file_at (path folder name) files ≡ Some bytes)
there-seen files folder seen name all is = found (file_at (path folder name) files) refl (contained (λ n. has_file files folder n ≡ true) name seen.keys all is)
  where
    found : (o : Option (List ℕ)) → file_at (path folder name) files ≡ o → is_some (file_at (path folder name) files) ≡ true → (bytes : List ℕ) × (file_at (path folder name) files ≡ Some bytes)
    found None none some = absurd (false≢true (sym (ap is_some none) ∙ some))
    found (Some bytes) here some = (bytes, here)

-- where a size has passed a limit, one more file changes nothing
pub adds-none : (loaded : Loaded) (row : AssetRow) (bytes : List ℕ) (fault : ProjectErr) → loaded.over ≡ Some fault → Adds loaded row bytes loaded
adds-none loaded row bytes fault is = (is ∙ sym (ap (λ o. option_or o (over_after loaded.total (length bytes))) is), λ none. absurd (cc (none, is)))

-- both tests hold
pub both : (a b : Bool) → (a && b) ≡ true → (a ≡ true) × (b ≡ true)
both true b is = (refl, is)
both false b is = absurd (false≢true is)

pub there-is : {A : Type 0} (o : Option A) → is_some o ≡ true → (x : A) × (o ≡ Some x)
there-is None some = absurd (false≢true some)
there-is (Some x) some = (x, refl)
