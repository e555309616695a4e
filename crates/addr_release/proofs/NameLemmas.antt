-- Names of a release's files: which puts have different ones.
use Rattle.std.proofs.Common.{◌≡◌, ◌≢◌, ℕ, zero, suc, ◌+◌, ◌<◌, ◌≤◌, Bool, true, false, List, [], ◌∷◌, ◌++◌, length, map, codes, get_or, take, Some, refl, sym, ap, subst, ◌∙◌, ◌⊎◌, inl, inr, arith, append_assoc, length-append}
use Rattle.std.proofs.lemmas.List.{append_cancel_left, map-append}
use Rattle.std.proofs.lemmas.List.Elements.{Contains-append_cases}
use Rattle.std.specs.List.{Contains, slice_get}
use Rattle.addr_base.specs.Ids.{Are16Bytes, hex_of}
use Rattle.addr_base.specs.declared.files.MemFile.{MemFile}
use Rattle.addr_base.specs.declared.ids.Digest.{Digest}
use Rattle.addr_project.specs.Reading.{path}
use Rattle.addr_project.proofs.OnceLemmas.{to_map, from_map}
use Rattle.addr_state.specs.Files.{file_name, side_folder}
use Rattle.addr_state.proofs.NameBytes.{digits_len, file_len}
use Rattle.addr_walks.specs.Once.{AreOnce}
use Rattle.addr_walks.proofs.Lists.{Contains-cases, Contains-none, Contains-slice_get, map-Contains, slice_get-push_cases}
use Rattle.addr_release.specs.Built.{Release, ReleaseBundle}
use Rattle.addr_release.specs.Laws.{AreNamed, IsContent, NamesOnce, with_catalogue}
use Rattle.addr_release.specs.Names.{catalogue_path, digest_from, hash_path, side_path, state_file, state_path}
use Rattle.addr_release.specs.Puts.{bundle_put, catalogue_put, content_puts, hash_put, puts_of, state_put}

-- ---- lists

-- what stands before tails of one length
pub front-same : (m n s t : List ℕ) → length s ≡ length t → m ++ s ≡ n ++ t → m ≡ n
front-same [] [] s t long e = refl
front-same [] (y ∷ n) s t long e = let all : length s ≡ length (y ∷ (n ++ t)) = ap length e in let parts = length-append n t in absurd (omega (arith, all, parts, long))
front-same (x ∷ m) [] s t long e = let all : length (x ∷ (m ++ s)) ≡ length t = ap length e in let parts = length-append m s in absurd (omega (arith, all, parts, long))
front-same (x ∷ m) (y ∷ n) s t long e =
    let tail : m ++ s ≡ n ++ t = cc in
    let rest : m ≡ n = front-same m n s t long tail in
    cc

pub once-push : {X : Type 0} (xs : List X) (x : X) → AreOnce xs → (Contains xs x → ⊥) → AreOnce (xs ++ x ∷ [])
once-push xs x once apart i j y here there = by_case (slice_get-push_cases xs x i y here) (slice_get-push_cases xs x j y there)
  where
    by_case : (slice_get xs i ≡ Some y) ⊎ ((i ≡ length xs) × (x ≡ y)) → (slice_get xs j ≡ Some y) ⊎ ((j ≡ length xs) × (x ≡ y)) → i ≡ j
    by_case (inl a) (inl b) = once i j y a b
    by_case (inl a) (inr (b, same)) = absurd (apart (subst (Contains xs) (sym same) (Contains-slice_get xs i y a)))
    by_case (inr (a, same)) (inl b) = absurd (apart (subst (Contains xs) (sym same) (Contains-slice_get xs j y b)))
    by_case (inr (a, one)) (inr (b, two)) = a ∙ sym b

pub take-at : {X : Type 0} (k : ℕ) (xs : List X) (x : X) → Contains (take k xs) x → (i : ℕ) × (i < k) × (slice_get xs i ≡ Some x)
take-at zero xs x here = absurd (Contains-none x here)
take-at (suc k) [] x here = absurd (Contains-none x here)
take-at (suc k) (y ∷ xs) x here = by_case (Contains-cases y (take k xs) x here) (λ later. take-at k xs x later)
  where
    by_case : (y ≡ x) ⊎ Contains (take k xs) x → (Contains (take k xs) x → (i : ℕ) × (i < k) × (slice_get xs i ≡ Some x)) → (i : ℕ) × (i < suc k) × (slice_get (y ∷ xs) i ≡ Some x)
    by_case (inl same) more = (0, omega arith, ap Some same)
    by_case (inr later) more = let at = more later in let below : at.0 < k = at.1 in (suc at.0, omega (arith, below), at.2)

-- ---- names

pub path-same : (folder a b : List ℕ) → path folder a ≡ path folder b → a ≡ b
path-same folder a b e = append_cancel_left (codes "/") a b (append_cancel_left folder (codes "/" ++ a) (codes "/" ++ b) e)

pub bytes-apart : (a b : ℕ) → a < b → a ≡ b → ⊥
bytes-apart a b less same = omega (arith, less, same)

sides-apart : (x y : List ℕ) → side_folder false ++ x ≡ side_folder true ++ y → ⊥
sides-apart x y e = bytes-apart 108 114 (omega arith) (ap (λ (xs : List ℕ). get_or xs 0 0) e)

pub side-same : (a b : Bool) (x y : List ℕ) → side_folder a ++ x ≡ side_folder b ++ y → (a ≡ b) × (x ≡ y)
side-same false false x y e = (refl, append_cancel_left (codes "local/") x y e)
side-same true true x y e = (refl, append_cancel_left (codes "remote/") x y e)
side-same false true x y e = absurd (sides-apart x y e)
side-same true false x y e = absurd (sides-apart y x (sym e))

-- a state's file stands on no side
pub state-apart : (digest : Digest) (remote : Bool) (x : List ℕ) → state_file (Some digest) ≢ side_folder remote ++ x
state-apart digest false x e = bytes-apart 108 115 (omega arith) (sym (ap (λ (xs : List ℕ). get_or xs 0 0) e))
state-apart digest true x e = bytes-apart 114 115 (omega arith) (sym (ap (λ (xs : List ℕ). get_or xs 0 0) e))

pub key-long : (name : List ℕ) (digest : Digest) → Are16Bytes digest.0 → length (file_name name digest) ≡ length name + 40
key-long name digest sixteen = file_len name (hex_of digest.0) (codes ".bundle") (digits_len digest.0 sixteen.sixteen) refl

-- names of files tell the names of bundles
pub key-name : (m n : List ℕ) (d e : Digest) → Are16Bytes d.0 → Are16Bytes e.0 → file_name m d ≡ file_name n e → m ≡ n
key-name m n d e is_d is_e same =
    let one = digits_len d.0 is_d.sixteen in
    let two = digits_len e.0 is_e.sixteen in
    let left = length-append (hex_of d.0) (codes ".bundle") in
    let right = length-append (hex_of e.0) (codes ".bundle") in
    front-same m n (95 ∷ (hex_of d.0 ++ codes ".bundle")) (95 ∷ (hex_of e.0 ++ codes ".bundle")) (omega (arith, one, two, left, right)) same

short-apart : (remote : Bool) (key short : List ℕ) → 40 ≤ length key → length short ≡ 17 → side_folder remote ++ key ≢ side_folder true ++ short
short-apart remote key short long is e =
    let parts = side-same remote true key short e in
    let lengths : length key ≡ length short = ap length parts.1 in
    omega (arith, lengths, long, is)

-- a bundle's put is none of the catalogue and of the hash
pub bundle-apart : (folder : List ℕ) (remote : Bool) (key : List ℕ) → 40 ≤ length key → (side_path folder remote key ≢ catalogue_path folder) × (side_path folder remote key ≢ hash_path folder)
bundle-apart folder remote key long = (
  λ e. short-apart remote key (codes "catalog_main.json") long refl (path-same folder (side_folder remote ++ key) (codes "remote/catalog_main.json") e),
  λ e. short-apart remote key (codes "catalog_main.hash") long refl (path-same folder (side_folder remote ++ key) (codes "remote/catalog_main.hash") e),
)

-- and so is a state's
pub state-beside : (folder : List ℕ) (digest : Digest) → (state_path folder (Some digest) ≢ catalogue_path folder) × (state_path folder (Some digest) ≢ hash_path folder)
state-beside folder digest = (
  λ e. state-apart digest true (codes "catalog_main.json") (path-same folder (state_file (Some digest)) (codes "remote/catalog_main.json") e),
  λ e. state-apart digest true (codes "catalog_main.hash") (path-same folder (state_file (Some digest)) (codes "remote/catalog_main.hash") e),
)

endings-apart : codes "remote/catalog_main.json" ≢ codes "remote/catalog_main.hash"
endings-apart e = bytes-apart 104 106 (omega arith) (sym (ap (λ (xs : List ℕ). get_or xs 20 0) e))

pub hash-beside : (folder : List ℕ) → catalogue_path folder ≢ hash_path folder
hash-beside folder e = endings-apart (path-same folder (codes "remote/catalog_main.json") (codes "remote/catalog_main.hash") e)

-- ---- puts of a release

abbrev pub name_of : MemFile → List ℕ
name_of put = put.name

module _ (folder : List ℕ) (bundles : List ReleaseBundle) (are : AreNamed bundles) where
  -- a bundle's key is long
  pub long-at : (made : ReleaseBundle) → Contains bundles made → 40 ≤ length made.row.key
  long-at made here =
      let named = are.named made here in
      let long : length made.row.key ≡ length named.0 + 40 = ap length named.3 ∙ key-long named.0 named.1 named.2 in
      omega (arith, long)

  -- bundles of one key are one
  pub one-key : (i j : ℕ) (x y : ReleaseBundle) → slice_get bundles i ≡ Some x → slice_get bundles j ≡ Some y → x.row.key ≡ y.row.key → i ≡ j
  one-key i j x y here there same = are.once i j y.row.key (to_map (λ (made : ReleaseBundle). made.row.key) bundles i x here ∙ ap Some same) (to_map (λ (made : ReleaseBundle). made.row.key) bundles j y there)

  pub bundle-puts-once : AreOnce (map name_of (map (bundle_put folder) bundles))
  bundle-puts-once i j name here there =
      let first = from_map name_of (map (bundle_put folder) bundles) i name here in
      let second = from_map name_of (map (bundle_put folder) bundles) j name there in
      let one = from_map (bundle_put folder) bundles i first.0 first.1 in
      let two = from_map (bundle_put folder) bundles j second.0 second.1 in
      let names : name_of (bundle_put folder one.0) ≡ name_of (bundle_put folder two.0) = ap name_of one.2 ∙ (first.2 ∙ (sym second.2 ∙ sym (ap name_of two.2))) in
      let keys = side-same one.0.remote two.0.remote one.0.row.key two.0.row.key (path-same folder (side_folder one.0.remote ++ one.0.row.key) (side_folder two.0.remote ++ two.0.row.key) names) in
      one-key i j one.0 two.0 one.1 two.1 keys.1

  -- a put of a bundle is that of one
  pub bundle-of-put : (put : MemFile) → Contains (map (bundle_put folder) bundles) put → (made : ReleaseBundle) × Contains bundles made × (bundle_put folder made ≡ put)
  bundle-of-put put here = map-Contains (bundle_put folder) bundles put here

  pub bundles-content : IsContent folder (map (bundle_put folder) bundles)
  bundles-content put here =
      let made = bundle-of-put put here in
      let apart = bundle-apart folder made.0.remote made.0.row.key (long-at made.0 made.1) in
      (λ e. apart.0 (ap name_of made.2 ∙ e), λ e. apart.1 (ap name_of made.2 ∙ e))

-- content of different names has them with a catalogue and its hash behind it too
pub with-once : (folder : List ℕ) (content : List MemFile) (bytes : List ℕ) → NamesOnce content → IsContent folder content → NamesOnce (with_catalogue folder content bytes)
with-once folder content bytes once apart = subst AreOnce (sym shape) (once-push (map name_of content ++ catalogue_path folder ∷ []) (hash_path folder) (once-push (map name_of content) (catalogue_path folder) once no_catalogue) no_hash)
  where
    shape : map name_of (with_catalogue folder content bytes) ≡ (map name_of content ++ catalogue_path folder ∷ []) ++ hash_path folder ∷ []
    shape = map-append name_of content (catalogue_put folder bytes ∷ hash_put folder bytes ∷ []) ∙ sym (append_assoc (map name_of content) (catalogue_path folder ∷ []) (hash_path folder ∷ []))

    no_catalogue : Contains (map name_of content) (catalogue_path folder) → ⊥
    no_catalogue here = let put = map-Contains name_of content (catalogue_path folder) here in (apart put.0 put.1).0 put.2

    no_hash : Contains (map name_of content ++ catalogue_path folder ∷ []) (hash_path folder) → ⊥
    no_hash here = by_case (Contains-append_cases (map name_of content) (catalogue_path folder ∷ []) (hash_path folder) here)
      where
        by_last : (catalogue_path folder ≡ hash_path folder) ⊎ Contains [] (hash_path folder) → ⊥
        by_last (inl same) = hash-beside folder same
        by_last (inr none) = Contains-none (hash_path folder) none

        by_case : Contains (map name_of content) (hash_path folder) ⊎ Contains (catalogue_path folder ∷ []) (hash_path folder) → ⊥
        by_case (inl here) = let put = map-Contains name_of content (hash_path folder) here in (apart put.0 put.1).1 put.2
        by_case (inr last) = by_last (Contains-cases (catalogue_path folder) [] (hash_path folder) last)

module _ (folder : List ℕ) (r : Release) (are : AreNamed r.bundles) where
  abbrev state : MemFile
  state = state_put folder r.state_bytes

  pub content-cases : (put : MemFile) → Contains (content_puts folder r) put → ((made : ReleaseBundle) × Contains r.bundles made × (bundle_put folder made ≡ put)) ⊎ (state_put folder r.state_bytes ≡ put)
  content-cases put here = by_case (Contains-append_cases (map (bundle_put folder) r.bundles) (state ∷ []) put here)
    where
      by_case : Contains (map (bundle_put folder) r.bundles) put ⊎ Contains (state ∷ []) put → ((made : ReleaseBundle) × Contains r.bundles made × (bundle_put folder made ≡ put)) ⊎ (state_put folder r.state_bytes ≡ put)
      by_case (inl here) = inl (bundle-of-put folder r.bundles are put here)
      by_case (inr last) = by_last (Contains-cases state [] put last)
        where
          by_last : (state ≡ put) ⊎ Contains [] put → ((made : ReleaseBundle) × Contains r.bundles made × (bundle_put folder made ≡ put)) ⊎ (state_put folder r.state_bytes ≡ put)
          by_last (inl same) = inr same
          by_last (inr none) = absurd (Contains-none put none)

  pub release-content : IsContent folder (content_puts folder r)
  release-content put here = by_case (content-cases put here)
    where
      by_case : ((made : ReleaseBundle) × Contains r.bundles made × (bundle_put folder made ≡ put)) ⊎ (state_put folder r.state_bytes ≡ put) → (put.name ≢ catalogue_path folder) × (put.name ≢ hash_path folder)
      by_case (inl (made, here, is)) = let apart = bundle-apart folder made.remote made.row.key (long-at folder r.bundles are made here) in (λ e. apart.0 (ap name_of is ∙ e), λ e. apart.1 (ap name_of is ∙ e))
      by_case (inr is) = let apart = state-beside folder (digest_from r.state_bytes) in (λ e. apart.0 (ap name_of is ∙ e), λ e. apart.1 (ap name_of is ∙ e))

  content-once : NamesOnce (content_puts folder r)
  content-once = subst AreOnce (sym (map-append name_of (map (bundle_put folder) r.bundles) (state ∷ []))) (once-push (map name_of (map (bundle_put folder) r.bundles)) (name_of state) (bundle-puts-once folder r.bundles are) apart)
    where
      apart : Contains (map name_of (map (bundle_put folder) r.bundles)) (name_of state) → ⊥
      apart here =
          let put = map-Contains name_of (map (bundle_put folder) r.bundles) (name_of state) here in
          let made = bundle-of-put folder r.bundles are put.0 put.1 in
          state-apart (digest_from r.state_bytes) made.0.remote made.0.row.key
          (path-same folder (state_file (Some (digest_from r.state_bytes))) (side_folder made.0.remote ++ made.0.row.key) (sym (ap name_of made.2 ∙ put.2)))

  pub release-once : NamesOnce (puts_of folder r)
  release-once = with-once folder (content_puts folder r) r.catalogue content-once release-content
