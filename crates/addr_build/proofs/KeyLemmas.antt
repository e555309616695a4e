-- Names of a release's puts: the keys of two bundles differ, and a state stands beside them.
use Rattle.std.proofs.Common.{◌≡◌, ◌≢◌, ℕ, suc, ◌<◌, Bool, true, false, List, [], ◌∷◌, ◌++◌, length, map, codes, Some, refl, sym, ap, ◌∙◌, arith, length-append}
use Rattle.std.proofs.lemmas.Cmp.{nat_list_cmp_total}
use Rattle.std.proofs.lemmas.List.{append_cancel_left}
use Rattle.std.proofs.lemmas.Option.{slice_get_within}
use Rattle.std.specs.List.{AllByRecursion, slice_get}
use Rattle.addr_base.specs.Ids.{Are16Bytes, hex_of}
use Rattle.addr_base.specs.declared.files.MemFile.{MemFile}
use Rattle.addr_base.specs.declared.ids.Digest.{Digest}
use Rattle.addr_pack.proofs.DigestLemmas.{digests-fit}
use Rattle.addr_pack.specs.Placement.{IsPlaced}
use Rattle.addr_pack.specs.declared.bundles.Plan.{Plan}
use Rattle.addr_pack.specs.declared.bundles.PlanBundle.{PlanBundle}
use Rattle.addr_project.proofs.OnceLemmas.{to_map}
use Rattle.addr_project.specs.Model.{Project}
use Rattle.addr_project.specs.Reading.{path}
use Rattle.addr_state.proofs.NameBytes.{digits_len}
use Rattle.addr_state.specs.Files.{file_name, side_folder}
use Rattle.addr_walks.proofs.Lists.{sorted-once}
use Rattle.addr_walks.specs.Once.{AreOnce}
use Rattle.addr_walks.specs.Places.{EachAt}
use Rattle.addr_release.specs.Built.{IsBundleOf, ReleaseBundle}
use Rattle.addr_release.specs.Names.{digest_from, state_file}
use Rattle.addr_release.specs.Puts.{bundle_put, bundle_tests, state_test}
use Rattle.addr_build.proofs.EndLemmas.{Apart}
use Rattle.addr_build.specs.Making.{IsKeyed}

front-same : (m n s t : List ℕ) → length s ≡ length t → m ++ s ≡ n ++ t → m ≡ n
front-same [] [] s t long e = refl
front-same [] (y ∷ n) s t long e = let all : length s ≡ length (y ∷ (n ++ t)) = ap length e in let parts = length-append n t in absurd (omega (arith, all, parts, long))
front-same (x ∷ m) [] s t long e = let all : length (x ∷ (m ++ s)) ≡ length t = ap length e in let parts = length-append m s in absurd (omega (arith, all, parts, long))
front-same (x ∷ m) (y ∷ n) s t long e =
    let tail : m ++ s ≡ n ++ t = cc in
    let rest : m ≡ n = front-same m n s t long tail in
    cc

-- names of files tell the names of bundles
key-name : (m n : List ℕ) (d e : Digest) → Are16Bytes d.0 → Are16Bytes e.0 → file_name m d ≡ file_name n e → m ≡ n
key-name m n d e is_d is_e same =
    let one = digits_len d.0 is_d.sixteen in
    let two = digits_len e.0 is_e.sixteen in
    let left = length-append (hex_of d.0) (codes ".bundle") in
    let right = length-append (hex_of e.0) (codes ".bundle") in
    front-same m n (95 ∷ (hex_of d.0 ++ codes ".bundle")) (95 ∷ (hex_of e.0 ++ codes ".bundle")) (omega (arith, one, two, left, right)) same

path-same : (folder a b : List ℕ) → path folder a ≡ path folder b → a ≡ b
path-same folder a b e = append_cancel_left (codes "/") a b (append_cancel_left folder (codes "/" ++ a) (codes "/" ++ b) e)

first-of : List ℕ → ℕ
first-of [] = 0
first-of (x ∷ xs) = x

sides-apart : (x y : List ℕ) → side_folder false ++ x ≡ side_folder true ++ y → ⊥
unfolding first-of
sides-apart x y e = let first : 108 ≡ 114 = ap first-of e in omega (arith, first)

side-key : (a b : Bool) (x y : List ℕ) → side_folder a ++ x ≡ side_folder b ++ y → x ≡ y
side-key false false x y e = append_cancel_left (codes "local/") x y e
side-key true true x y e = append_cancel_left (codes "remote/") x y e
side-key false true x y e = absurd (sides-apart x y e)
side-key true false x y e = absurd (sides-apart y x (sym e))

state-apart : (digest : Digest) (remote : Bool) (x : List ℕ) → side_folder remote ++ x ≡ state_file (Some digest) → ⊥
unfolding first-of
state-apart digest false x e = let first : 108 ≡ 115 = ap first-of e in omega (arith, first)
state-apart digest true x e = let first : 114 ≡ 115 = ap first-of e in omega (arith, first)

-- bundles of different numbers have different keys
abbrev pub KeysApart : (ℕ → ReleaseBundle → Type 0) → Type 0
KeysApart is_bundle = (b c : ℕ) (x y : ReleaseBundle) → is_bundle b x → is_bundle c y → b < c → x.row.key ≢ y.row.key

-- keys of one number alone are equal, where the names of a placement differ
pub keyed-once : (plan : Plan) → AreOnce (map (λ (b : PlanBundle). b.name) plan.bundles) → (b c : ℕ) (x y : List ℕ) → IsKeyed plan b x → IsKeyed plan c y → x ≡ y → b ≡ c
keyed-once plan once b c x y one two same =
    let names = key-name one.bundle.name two.bundle.name one.digest two.digest one.fits two.fits (sym one.is ∙ same ∙ two.is) in
    once b c two.bundle.name
    (to_map (λ (b : PlanBundle). b.name) plan.bundles b one.bundle one.at ∙ ap Some names) (to_map (λ (b : PlanBundle). b.name) plan.bundles c two.bundle two.at)

pub keyed-apart : (plan : Plan) (is_bundle : ℕ → ReleaseBundle → Type 0) → AreOnce (map (λ (b : PlanBundle). b.name) plan.bundles)
    → ((b : ℕ) (made : ReleaseBundle) → is_bundle b made → IsKeyed plan b made.row.key) → KeysApart is_bundle
keyed-apart plan is_bundle once keyed b c x y one two less same =
    let number = keyed-once plan once b c x.row.key y.row.key (keyed b x one) (keyed c y two) same in
    omega (arith, less, number)

-- so those of a full build
pub built-apart : (p : Project) (plan : Plan) → IsPlaced p plan → KeysApart (IsBundleOf p plan)
built-apart p plan placed = keyed-apart plan (IsBundleOf p plan) (sorted-once nat_list_cmp_total (map (λ (b : PlanBundle). b.name) plan.bundles) placed.by_name)
    (λ b made is. record { bundle = is.bundle; at = is.at; digest = digest_from made.file; fits = digests-fit made.file; is = is.told.key })

all-puts : (folder : List ℕ) (P : MemFile → Type 0) (xs : List ReleaseBundle) → ((k : ℕ) (x : ReleaseBundle) → slice_get xs k ≡ Some x → P (bundle_put folder x)) → AllByRecursion P (map (bundle_put folder) xs)
all-puts folder P [] holds = tt
all-puts folder P (x ∷ xs) holds = (holds 0 x refl, all-puts folder P xs (λ k y at. holds (suc k) y at))

module _ (is_bundle : ℕ → ReleaseBundle → Type 0) (keys : KeysApart is_bundle) (folder : List ℕ) (bundles : List ReleaseBundle) (each : EachAt is_bundle bundles) where
  -- the puts of earlier bundles have no name that is tested for a later one
  pub bundle-apart : (made : ReleaseBundle) → is_bundle (length bundles) made → (n : ℕ) → Apart folder (map (bundle_put folder) bundles) (bundle_tests n made)
  bundle-apart made is n = (on false, (on true, tt))
    where
      on : (side : Bool) → AllByRecursion (λ f. f.name ≢ path folder (side_folder side ++ made.row.key)) (map (bundle_put folder) bundles)
      on side = all-puts folder (λ f. f.name ≢ path folder (side_folder side ++ made.row.key)) bundles (λ k x at same.
          keys k (length bundles) x made (each k x at) is (slice_get_within bundles k x at)
          (side-key x.remote side x.row.key made.row.key (path-same folder (side_folder x.remote ++ x.row.key) (side_folder side ++ made.row.key) same)))

-- and none that is tested for the state
pub state-beside : (folder : List ℕ) (bundles : List ReleaseBundle) (n : ℕ) (bytes : List ℕ) → Apart folder (map (bundle_put folder) bundles) (state_test n bytes ∷ [])
state-beside folder bundles n bytes = (
  all-puts folder (λ f. f.name ≢ path folder (state_file (Some (digest_from bytes)))) bundles (λ k x at same.
      state-apart (digest_from bytes) x.remote x.row.key (path-same folder (side_folder x.remote ++ x.row.key) (state_file (Some (digest_from bytes))) same)),
  tt,
)
