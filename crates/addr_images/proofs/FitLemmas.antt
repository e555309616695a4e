-- The rows of a release meet what a locator asks of rows.
use Rattle.std.proofs.Common.{◌≡◌, ◌<◌, ◌≤◌, ◌^◌, ◌*◌, ℕ, zero, suc, Bool, true, false, ◌&&◌, ◌||◌, ◌==◌, not, nat_lt, List, [], ◌∷◌, ◌++◌, codes, length, map, take, sum_by, Some, refl, ap, subst, sym, ◌∙◌, ◌⊎◌, inl, inr, arith, length-append}
use Rattle.std.specs.Prelude.{IsTrue}
use Rattle.std.specs.List.{AllZip, Contains, list_all, list_any}
use Rattle.std.specs.Str.{bytes_eq}
use Rattle.std.proofs.lemmas.Bool.{false≢true, eqb-true}
use Rattle.std.proofs.lemmas.Bool.Decides.{nat_tests}
use Rattle.std.proofs.lemmas.Cmp.{nat_list_cmp_total}
use Rattle.std.proofs.lemmas.List.Concat.{length-flat_map}
use Rattle.std.proofs.lemmas.List.Sums.{sum_by-cons}
use Rattle.std.proofs.lemmas.Option.{slice_get_within}
use Rattle.std.proofs.lemmas.Slice.Eq.{bytes_eq-Decides}
use Rattle.hex.proofs.HexLemmas.{length-encode_with}
use Rattle.hex.specs.Hex.{lower_digits}
use Rattle.addr_base.specs.Ids.{digest_of, hex_of}
use Rattle.addr_base.specs.declared.ids.BundleNo.{BundleNo}
use Rattle.addr_base.specs.declared.ids.Digest.{Digest}
use Rattle.addr_base.specs.declared.ids.Guid.{Guid}
use Rattle.addr_catalog.proofs.FewLemmas.{twice-texts_once}
use Rattle.addr_layout.specs.Members.{HasEntry}
use Rattle.addr_locate.specs.Rows.{has_sound_deps, has_dep, are_bundles, keys_of, no_repeats, no_text_twice, rows_of}
use Rattle.addr_locate.specs.declared.rows.BundleRow.{BundleRow}
use Rattle.addr_locate.specs.declared.rows.PlainAsset.{PlainAsset}
use Rattle.addr_locate.proofs.PlainLemmas.{few_keys_of}
use Rattle.addr_locate.proofs.TextLemmas.{length-texts_once-le}
use Rattle.addr_pack.specs.Placement.{IsPlaced}
use Rattle.addr_pack.specs.declared.bundles.Plan.{Plan}
use Rattle.addr_pack.specs.declared.bundles.PlanBundle.{PlanBundle}
use Rattle.addr_pack.proofs.DigestLemmas.{digests-fit}
use Rattle.addr_project.specs.declared.model.Entry.{Entry}
use Rattle.addr_project.specs.Kept.{IsKept}
use Rattle.addr_project.proofs.OnceLemmas.{from_map, to_map}
use Rattle.addr_project.specs.Model.{Project}
use Rattle.addr_release.specs.Built.{IsEntryRowAs}
use Rattle.addr_release.specs.Names.{digest_from}
use Rattle.addr_state.specs.Files.{file_name}
use Rattle.addr_walks.specs.Closure.{IsDeps}
use Rattle.addr_walks.specs.Once.{AreOnce}
use Rattle.addr_walks.specs.Rows.{AreBelow, Edge}
use Rattle.addr_walks.specs.Walks.{Leads}
use Rattle.addr_walks.specs.Walks.Leads.{stays, goes}
use Rattle.addr_walks.proofs.ClosureLemmas.{deps-begin-once}
use Rattle.addr_walks.proofs.Lists.{Contains-here, Contains-later, Contains-cases, slice_get-Contains, sorted-once}
use Rattle.addr_images.specs.States.{AreBundleRows}
use Rattle.addr_images.proofs.EntryLemmas.{each-once}
use Rattle.addr_images.proofs.SizeLemmas.{any-some}
use Rattle.addr_images.proofs.ToldLemmas.{zip-long}
use Rattle.addr_images.proofs.WritingLemmas.{all-at}

-- ---- keys of bundles

cut-name : (n m t u : List ℕ) → n ++ t ≡ m ++ u → length t ≡ length u → n ≡ m
cut-name n m t u same long =
    let left = length-append n t in
    let right = length-append m u in
    let whole = ap length same in
    let names : length n ≡ length m = omega (arith, left, right, whole, long) in
    sym (take-append-left n t) ∙ (ap (λ xs. take (length n) xs) same ∙ (ap (λ k. take k (m ++ u)) names ∙ take-append-left m u))
  where
    take-append-left : (xs ys : List ℕ) → take (length xs) (xs ++ ys) ≡ xs
    take-append-left [] ys = refl
    take-append-left (x ∷ xs) ys = ap (λ zs. x ∷ zs) (take-append-left xs ys)

-- files of different bundles have different names
pub key-names : (n m : List ℕ) (d e : Digest) → length d.0 ≡ length e.0 → file_name n d ≡ file_name m e → n ≡ m
key-names n m d e long same =
    let hex-d = length-encode_with lower_digits d.0 in
    let hex-e = length-encode_with lower_digits e.0 in
    let tail-d = length-append (hex_of d.0) (codes ".bundle") in
    let tail-e = length-append (hex_of e.0) (codes ".bundle") in
    cut-name n m (95 ∷ (hex_of d.0 ++ codes ".bundle")) (95 ∷ (hex_of e.0 ++ codes ".bundle")) same (omega (arith, hex-d, hex-e, long, tail-d, tail-e))

there-text : (text : List ℕ) (ts : List (List ℕ)) → list_any (λ u. bytes_eq u text) ts ≡ true → Contains ts text
there-text text ts passes =
    let found = any-some (λ (u : List ℕ). bytes_eq u text) ts passes in
    subst (Contains ts) ((bytes_eq-Decides found.0 text).0 found.2) found.1

-- texts that stand at one place each stand once
pub once-no-twice : (ts : List (List ℕ)) → AreOnce ts → no_text_twice ts ≡ true
once-no-twice [] once = refl
once-no-twice (t ∷ ts) once = both (list_any (λ u. bytes_eq u t) ts) refl (once-no-twice ts (λ i j x here there. less (once (suc i) (suc j) x here there)))
  where
    less : {i j : ℕ} → suc i ≡ suc j → i ≡ j
    less e = omega arith

    both : (b : Bool) → list_any (λ u. bytes_eq u t) ts ≡ b → no_text_twice ts ≡ true → (not b && no_text_twice ts) ≡ true
    both false is rest = rest
    both true is rest = (let at = slice_get-Contains ts t (there-text t ts is) in absurd (let clash : zero ≡ suc at.0 = once zero (suc at.0) t refl at.1 in omega arith))

-- no two bundles of a full build have one key
pub keys-apart : (p : Project) (plan : Plan) (rows : List BundleRow) → IsPlaced p plan → AreBundleRows p plan rows → AreOnce (map (λ (b : BundleRow). b.key) rows)
keys-apart p plan rows placed are i j x here there =
    let first = from_map (λ (b : BundleRow). b.key) rows i x here in
    let second = from_map (λ (b : BundleRow). b.key) rows j x there in
    let one = are.each i first.0 first.1 in
    let two = are.each j second.0 second.1 in
    let left = ap (λ (r : BundleRow). r.key) (sym one.2) in
    let right = ap (λ (r : BundleRow). r.key) (sym two.2) in
    let long : length (digest_of one.0.file) ≡ length (digest_of two.0.file) = (digests-fit one.0.file).sixteen ∙ sym (digests-fit two.0.file).sixteen in
    let names : one.1.bundle.name ≡ two.1.bundle.name = key-names one.1.bundle.name two.1.bundle.name (digest_from one.0.file) (digest_from two.0.file) long (sym one.1.told.key ∙ (sym left ∙ (first.2 ∙ (sym second.2 ∙ (right ∙ two.1.told.key))))) in
    sorted-once nat_list_cmp_total (map (λ (b : PlanBundle). b.name) plan.bundles) placed.by_name i j two.1.bundle.name
    (to_map (λ (b : PlanBundle). b.name) plan.bundles i one.1.bundle one.1.at ∙ ap Some names) (to_map (λ (b : PlanBundle). b.name) plan.bundles j two.1.bundle two.1.at)

-- ---- dependencies

all-below : (count : ℕ) (ds : List BundleNo) → ((n : ℕ) → Contains (map (λ (d : BundleNo). d.0) ds) n → n < count) → are_bundles count ds ≡ true
all-below count [] below = refl
all-below count (d ∷ ds) below =
    let here : nat_lt d.0 count ≡ true = (let less = below d.0 (Contains-here d.0 (map (λ (e : BundleNo). e.0) ds)) in grind (arith, nat_tests, less)) in
    let rest = all-below count ds (λ n among. below n (Contains-later d.0 (map (λ (e : BundleNo). e.0) ds) n among)) in
    rw (here, rest)

number-there : (n : ℕ) (ds : List BundleNo) → list_any (λ (c : BundleNo). c.0 == n) ds ≡ true → Contains (map (λ (d : BundleNo). d.0) ds) n
number-there n [] any = absurd (false≢true any)
number-there n (d ∷ ds) any = by_test (d.0 == n) refl any (λ more. number-there n ds more)
  where
    by_test : (t : Bool) → (d.0 == n) ≡ t → (t || list_any (λ (c : BundleNo). c.0 == n) ds) ≡ true → (list_any (λ (c : BundleNo). c.0 == n) ds ≡ true → Contains (map (λ (e : BundleNo). e.0) ds) n) → Contains (map (λ (e : BundleNo). e.0) (d ∷ ds)) n
    by_test true is any more = subst (Contains (map (λ (e : BundleNo). e.0) (d ∷ ds))) (eqb-true d.0 n is) (Contains-here d.0 (map (λ (e : BundleNo). e.0) ds))
    by_test false is any more = Contains-later d.0 (map (λ (e : BundleNo). e.0) ds) n (more any)

once-no-repeat : (ds : List BundleNo) → AreOnce (map (λ (d : BundleNo). d.0) ds) → no_repeats ds ≡ true
once-no-repeat [] once = refl
once-no-repeat (d ∷ ds) once = both (list_any (λ (c : BundleNo). c.0 == d.0) ds) refl (once-no-repeat ds (λ i j x here there. less (once (suc i) (suc j) x here there)))
  where
    less : {i j : ℕ} → suc i ≡ suc j → i ≡ j
    less e = omega arith

    both : (b : Bool) → list_any (λ (c : BundleNo). c.0 == d.0) ds ≡ b → no_repeats ds ≡ true → (not b && no_repeats ds) ≡ true
    both false is rest = rest
    both true is rest = (let at = slice_get-Contains (map (λ (e : BundleNo). e.0) ds) d.0 (number-there d.0 ds is) in absurd (let clash : zero ≡ suc at.0 = once zero (suc at.0) d.0 refl at.1 in omega arith))

all-from-zip : {A B : Type 0} (R : A → B → Type 0) (test : B → Bool) → ((x : A) (y : B) → R x y → test y ≡ true) → (xs : List A) (ys : List B) → AllZip R xs ys → list_all test ys ≡ true
all-from-zip R test each [] [] zipped = refl
all-from-zip R test each [] (y ∷ ys) zipped = absurd zipped
all-from-zip R test each (x ∷ xs) [] zipped = absurd zipped
all-from-zip R test each (x ∷ xs) (y ∷ ys) zipped = rw (each x y zipped.0, all-from-zip R test each xs ys zipped.1)

module _ (p : Project) (plan : Plan) (direct : List (List ℕ)) (many : length direct ≡ length plan.bundles) (below : AreBelow direct (length direct)) where
  led-below : (b c : ℕ) → b < length plan.bundles → Leads (Edge direct) b c → c < length plan.bundles
  led-below b c within stays = within
  led-below b c within (goes {x = x} before last) = (let less = below.each x c last in omega (arith, less, many))

  sound-deps : (b : ℕ) (g : Guid) (ds : List BundleNo) → HasEntry p plan b g → IsDeps (Edge direct) b (map (λ d. d.0) ds) → has_sound_deps (length plan.bundles) ds ≡ true
  sound-deps b g ds has deps = rw (filled ds deps.1, all-below (length plan.bundles) ds inside, once-no-repeat ds (deps-begin-once (Edge direct) b (map (λ (d : BundleNo). d.0) ds) deps).1)
    where
      filled : (es : List BundleNo) → map (λ (d : BundleNo). d.0) es ≡ b ∷ deps.0 → has_dep es ≡ true
      filled [] e = absurd (cc e)
      filled (d ∷ es) e = grind (arith, nat_tests)

      inside : (n : ℕ) → Contains (map (λ (d : BundleNo). d.0) ds) n → n < length plan.bundles
      inside n here = by_case (Contains-cases b deps.0 n (subst (λ xs. Contains xs n) deps.1 here))
        where
          start : b < length plan.bundles
          start = slice_get_within plan.bundles b has.1.0 has.1.1

          by_case : (b ≡ n) ⊎ Contains deps.0 n → n < length plan.bundles
          by_case (inl same) = subst (λ k. k < length plan.bundles) same start
          by_case (inr rest) = led-below b n start (deps.2.within n rest).1

  pub all-sound : (assets : List PlainAsset) → AllZip (IsEntryRowAs p plan (Edge direct)) p.entries assets → IsTrue (list_all (λ a. has_sound_deps (length plan.bundles) a.deps) assets)
  all-sound assets zipped = all-from-zip (IsEntryRowAs p plan (Edge direct)) (λ a. has_sound_deps (length plan.bundles) a.deps) (λ e a row. sound-deps row.bundle row.asset.guid a.deps row.has row.deps) p.entries assets zipped

-- ---- keys of entries

few-sum : (f : PlainAsset → ℕ) (R : Entry → PlainAsset → Type 0) (es : List Entry) (rows : List PlainAsset) → ((e : Entry) (a : PlainAsset) → Contains es e → R e a → f a ≤ 34) → AllZip R es rows → sum_by f rows ≤ 34 * length rows
few-sum f R [] [] each zipped = omega arith
few-sum f R [] (a ∷ rows) each zipped = absurd zipped
few-sum f R (e ∷ es) [] each zipped = absurd zipped
few-sum f R (e ∷ es) (a ∷ rows) each zipped =
    let here = each e a (Contains-here e es) zipped.0 in
    let more = few-sum f R es rows (λ d b among. each d b (Contains-later e es d among)) zipped.1 in
    let one = sum_by-cons f a rows in
    omega (arith, here, more, one)

module _ (p : Project) (plan : Plan) (needs : ℕ → ℕ → Type 0) (assets : List PlainAsset) (zipped : AllZip (IsEntryRowAs p plan needs) p.entries assets) where
  pub all-once : IsTrue (list_all (λ a. no_text_twice a.keys) assets)
  all-once = all-from-zip (IsEntryRowAs p plan needs) (λ a. no_text_twice a.keys)
      (λ e a row. ap no_text_twice (row.keys ∙ each-once (e.address ∷ hex_of row.asset.guid.0 ∷ e.labels)) ∙ twice-texts_once (e.address ∷ hex_of row.asset.guid.0 ∷ e.labels)) p.entries assets zipped

  pub few-keys : IsKept p → length (keys_of assets) < 2 ^ 32
  few-keys kept =
      let all = few_keys_of assets in
      let flat = length-flat_map (λ (a : PlainAsset). a.keys) assets in
      let sum = few-sum (λ a. length a.keys) (IsEntryRowAs p plan needs) p.entries assets each zipped in
      let long = zip-long (IsEntryRowAs p plan needs) p.entries assets zipped in
      let few = kept.bounds.entries in
      omega (arith, all, flat, sum, long, few)
    where
      each : (e : Entry) (a : PlainAsset) → Contains p.entries e → IsEntryRowAs p plan needs e a → length a.keys ≤ 34
      each e a among row =
          let texts = e.address ∷ hex_of row.asset.guid.0 ∷ e.labels in
          let same = ap length (row.keys ∙ each-once texts) in
          let less = length-texts_once-le texts in
          let labels = all-at (λ (d : Entry). length d.labels ≤ 32) p.entries kept.bounds.labels e among in
          omega (arith, same, less, labels)

  pub few-rows : IsKept p → length assets < 2 ^ 32
  few-rows kept = let long = zip-long (IsEntryRowAs p plan needs) p.entries assets zipped in let few = kept.bounds.entries in omega (arith, long, few)

pub rows-bundles : (bundles : List BundleRow) (assets : List PlainAsset) → (rows_of bundles assets).bundles ≡ bundles
unfolding rows_of
rows-bundles bundles assets = refl
