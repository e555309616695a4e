-- The bundles of an update's placement: kept ones are the state's, and the others are made as a build makes them.
use Rattle.std.proofs.Common.{◌≡◌, ℕ, suc, ◌<◌, Bool, true, false, get_or, List, [], ◌∷◌, Result, Ok, Err, length, map, Option, Some, None, refl, sym, ap, subst, ◌∙◌, ◌⊎◌, inl, inr, arith}
use Rattle.std.proofs.lemmas.Cmp.{nat_list_cmp_total}
use Rattle.std.proofs.lemmas.Option.{slice_get-get_or, slice_get_past}
use Rattle.std.specs.Cmp.Lexicographic.{slice_cmp}
use Rattle.std.specs.List.{AllZip, Contains, slice_get}
use Rattle.std.specs.Ordering.{nat_cmp}
use Rattle.std.specs.Prelude.{IfOk, IfSome}
use Rattle.addr_base.specs.Files.{Store, file_at}
use Rattle.addr_base.specs.Ids.{Are16Bytes}
use Rattle.addr_base.specs.declared.files.MemFile.{MemFile}
use Rattle.addr_build.specs.Making.{IsKeyed, IsMade, PutsOne}
use Rattle.addr_build.specs.declared.bundles.PutBundle.{PutBundle}
use Rattle.addr_build.specs.declared.error.PutErr.{PutErr}
use Rattle.addr_build.proofs.LaidLemmas.{puts-as}
use Rattle.addr_build.proofs.KeyLemmas.{KeysApart, keyed-apart, keyed-once}
use Rattle.addr_build.proofs.PutLemmas.{if-told, told-at}
use Rattle.addr_held.specs.Opening.{HoldsRelease, was_of}
use Rattle.addr_held.specs.declared.release.Release.{Release}
use Rattle.addr_images.specs.Sides.{group_side, side_at}
use Rattle.addr_layout.specs.KeptBundles.{IsNewAt}
use Rattle.addr_locate.specs.declared.rows.BundleRow.{BundleRow}
use Rattle.addr_needs.specs.Numbers.{IsNumberOf}
use Rattle.addr_pack.proofs.DigestLemmas.{digests-fit}
use Rattle.addr_pack.specs.declared.bundles.PlanBundle.{PlanBundle}
use Rattle.addr_project.proofs.OnceLemmas.{from_map, to_map}
use Rattle.addr_project.specs.Reading.{path}
use Rattle.addr_release.specs.Built.{ReleaseBundle}
use Rattle.addr_release.specs.Names.{digest_from}
use Rattle.addr_state.specs.Files.{file_name}
use Rattle.addr_state.specs.declared.model.StateBundle.{StateBundle}
use Rattle.addr_update.specs.After.{IsBundleAfter, IsKeptBundle, IsNewBundle, IsOldAt, IsRowOfOld, IsSideOf}
use Rattle.addr_update.specs.Intact.{IsIntact}
use Rattle.addr_update.specs.Moved.{Update}
use Rattle.addr_update.specs.Placement.{IsUpdateBundle, by_name}
use Rattle.addr_walks.specs.Once.{AreOnce}
use Rattle.addr_walks.specs.Places.{EachAt}
use Rattle.addr_walks.proofs.Lists.{Contains-slice_get, slice_get-Contains, sorted-map, sorted-once}
use Rattle.addr_walks.proofs.Zips.{zip-left}
use Rattle.addr_patch.specs.declared.preparing.Prepared.{Prepared}
use Rattle.addr_patch.specs.within.Preparing.{IsPrepared}
use Rattle.addr_patch.specs.within.Putting.{AreThere, IsPutBundle, Stands}
use Rattle.addr_catalog.proofs.ReadKeyLemmas.{there_is}
use Rattle.addr_layout.proofs.SharedLemmas.{all-new}

pub zip-lengths : {X Y : Type 0} (R : X → Y → Type 0) (xs : List X) (ys : List Y) → AllZip R xs ys → length xs ≡ length ys
zip-lengths R [] [] each = refl
zip-lengths R [] (y ∷ ys) each = absurd each
zip-lengths R (x ∷ xs) [] each = absurd each
zip-lengths R (x ∷ xs) (y ∷ ys) (here, later) = ap suc (zip-lengths R xs ys later)

module _ (u : Update) (made : Prepared) (is : IsPrepared u made) where
  pub plan-once : AreOnce (map (λ (b : PlanBundle). b.name) made.plan.bundles)
  plan-once = sorted-once nat_list_cmp_total (map (λ (b : PlanBundle). b.name) made.plan.bundles)
      (sorted-map by_name (slice_cmp nat_cmp) (λ (b : PlanBundle). b.name) made.plan.bundles (λ x y here there less. less) is.updated.rising)

  pub keys-apart : (folder : List ℕ) (old : Store) → KeysApart (IsPutBundle u made.plan folder old)
  keys-apart folder old = keyed-apart made.plan (IsPutBundle u made.plan folder old) plan-once (λ b bundle put. put.keyed)

  -- a bundle of the placement, as one of the three kinds
  kind-of : (b : ℕ) (bundle : PlanBundle) → slice_get made.plan.bundles b ≡ Some bundle → IsUpdateBundle u.project u.now is.kept is.moved bundle
  kind-of b bundle at = is.updated.within bundle (Contains-slice_get made.plan.bundles b bundle at)

  -- the number of a kept bundle
  kept-number : (b : ℕ) (bundle : PlanBundle) → slice_get made.plan.bundles b ≡ Some bundle → bundle.kept ≡ true → (number : Option ℕ) → IsNumberOf u.state.bundles bundle number
      → (m : ℕ) × (number ≡ Some m) × IsOldAt u made.plan b m
  kept-number b bundle at kept number told = by_kind (kind-of b bundle at)
    where
      by_kind : IsUpdateBundle u.project u.now is.kept is.moved bundle → (m : ℕ) × (number ≡ Some m) × IsOldAt u made.plan b m
      by_kind (inl (here, unfixed)) =
          let place = slice_get-Contains u.now.bundles bundle here in
          absurd (let new = all-new u.project u.now is.placed place.0 bundle place.1 in cc (sym kept ∙ new))
      by_kind (inr (inl (some, same))) = absurd (cc (sym kept ∙ ap (λ (x : PlanBundle). x.kept) same))
      by_kind (inr (inr (k, here, same))) =
          let (m, old, stays) = is.split.bundles k here in
          let name : bundle.name ≡ old.name = ap (λ (x : PlanBundle). x.name) same ∙ stays.name in
          (m, (told m).1 (kept, (old, stays.stays.0, sym name)), record { bundle = bundle; at = at; kept = kept; old = old; stays = stays.stays; name = name })

  -- a bundle that has a number is the state's with it
  pub old-at : (b m : ℕ) → slice_get made.olds b ≡ Some (Some m) → b < length made.plan.bundles → IsOldAt u made.plan b m
  old-at b m numbered within =
      let (bundle, at) = there_is made.plan.bundles b within in
      let (number, place, told) = zip-left (IsNumberOf u.state.bundles) made.plan.bundles made.olds is.olds b bundle at in
      let same : number ≡ Some m = (let e : Some number ≡ Some (Some m) = sym place ∙ numbered in cc e) in
      let (n, is_n, old) = kept-number b bundle at ((told m).0 same).0 number told in
      subst (IsOldAt u made.plan b) (let e : Some n ≡ Some m = sym is_n ∙ same in cc e) old

  -- one that has none is new
  pub new-at : (b : ℕ) → slice_get made.olds b ≡ Some None → b < length made.plan.bundles → IsNewAt made.plan b
  new-at b numbered within =
      let (bundle, at) = there_is made.plan.bundles b within in
      let (number, place, told) = zip-left (IsNumberOf u.state.bundles) made.plan.bundles made.olds is.olds b bundle at in
      let none : number ≡ None = (let e : Some number ≡ Some None = sym place ∙ numbered in cc e) in
      (bundle, at, by_test bundle at number told none bundle.kept refl)
    where
      by_test : (bundle : PlanBundle) → slice_get made.plan.bundles b ≡ Some bundle → (number : Option ℕ) → IsNumberOf u.state.bundles bundle number → number ≡ None → (kept : Bool) → bundle.kept ≡ kept → bundle.kept ≡ false
      by_test bundle at number told none true kept = let (n, is_n, old) = kept-number b bundle at kept number told in absurd (cc (sym none ∙ is_n))
      by_test bundle at number told none false kept = kept

  -- the side of a new bundle
  side-of : (b : ℕ) (bundle : PlanBundle) (remote : Bool) → slice_get made.plan.bundles b ≡ Some bundle → bundle.kept ≡ false → remote ≡ side_at u.project bundle.group → IsSideOf u.project bundle.group remote
  side-of b bundle remote at new side = by_kind (kind-of b bundle at)
    where
      by_kind : IsUpdateBundle u.project u.now is.kept is.moved bundle → IsSideOf u.project bundle.group remote
      by_kind (inl (here, (group, grouped, unfixed))) = inl (group, grouped, side ∙ ap group_side grouped)
      by_kind (inr (inl (some, same))) =
          let past : bundle.group ≡ length u.project.groups = ap (λ (x : PlanBundle). x.group) same in
          inr (past, side ∙ ap group_side (ap (slice_get u.project.groups) past ∙ slice_get_past u.project.groups (length u.project.groups) (omega arith)))
      by_kind (inr (inr (k, here, same))) = absurd (cc (sym new ∙ ap (λ (x : PlanBundle). x.kept) same))

  pub olds-many : length made.olds ≡ length made.plan.bundles
  olds-many = sym (zip-lengths (IsNumberOf u.state.bundles) made.plan.bundles made.olds is.olds)

  -- what stands at a place of the numbers
  pub number-at : (xs : List (Option ℕ)) (b : ℕ) (number : Option ℕ) → xs ≡ made.olds → b < length made.plan.bundles → get_or xs b None ≡ number → slice_get made.olds b ≡ Some number
  number-at xs b number same within told =
      let many = olds-many in
      let below : b < length xs = (let long = ap length same in omega (arith, within, many, long)) in
      ap (λ ys. slice_get ys b) (sym same) ∙ (slice_get-get_or xs b None below ∙ ap Some told)

  -- ---- bundles that are put

  pub put-new : (folder : List ℕ) (old : Store) (b : ℕ) → IsNewAt made.plan b → (bundle : ReleaseBundle) → IsMade u.project made.plan b bundle → IsPutBundle u made.plan folder old b bundle
  put-new folder old b (own, at, new) bundle of = record {
    keyed = record { bundle = of.bundle; at = of.at; digest = digest_from bundle.file; fits = digests-fit bundle.file; is = of.told.key };
    after = λ files told. inl (record { bundle = of.bundle; at = of.at; new = fresh; side = side-of b of.bundle bundle.remote of.at fresh of.side; is = of.is; told = of.told });
  }
    where
      fresh : of.bundle.kept ≡ false
      fresh = ap (λ (x : PlanBundle). x.kept) (let e : Some of.bundle ≡ Some own = sym of.at ∙ at in let same : of.bundle ≡ own = cc e in same) ∙ new

  pub put-kept : (folder : List ℕ) (now : Store) (b m : ℕ) → (at : IsOldAt u made.plan b m) → (row : BundleRow) → IsRowOfOld at.old row → Are16Bytes at.old.digest.0
      → (bundle : ReleaseBundle) → Stands at.old row now folder b bundle → IsPutBundle u made.plan folder now b bundle
  put-kept folder now b m at row told fits bundle stands = record {
    keyed = record { bundle = at.bundle; at = at.at; digest = at.old.digest; fits = fits; is = ap (λ (r : BundleRow). r.key) stands.row ∙ told.key ∙ ap (λ n. file_name n at.old.digest) (sym at.name) };
    after = λ files is_told. inr (record { number = m; is = at; side = stands.side; file = stands.file files is_told; told = subst (IsRowOfOld at.old) (sym stands.row) told });
  }

  pub kept-step : (folder : List ℕ) (now new : Store) (b m : ℕ) → (at : IsOldAt u made.plan b m) → (row : BundleRow) (r : Result PutBundle PutErr) → IsRowOfOld at.old row → Are16Bytes at.old.digest.0
      → ((k : ℕ) → IfSome now.files (λ files. (file : List ℕ) × (file_at (path folder at.old.file) files ≡ Some file)) → PutsOne (Stands at.old row now folder) folder k now new r)
      → IfSome now.files (AreThere u.state folder) → PutsOne (IsPutBundle u made.plan folder now) folder b now new r
  kept-step folder now new b m at row r told fits puts there =
      puts-as (Stands at.old row now folder) (IsPutBundle u made.plan folder now) folder b now new r (put-kept folder now b m at row told fits)
      (puts b (if-told now.files _ (λ files is_told. told-at now.files (AreThere u.state folder) files is_told there m at.old at.stays.0)))

  pub kept-keyed : (b m : ℕ) → (at : IsOldAt u made.plan b m) → (row : BundleRow) (r : Result PutBundle PutErr) → IsRowOfOld at.old row → Are16Bytes at.old.digest.0 → IfOk r (λ one. one.row ≡ row) → IfOk r (λ one. IsKeyed made.plan b one.row.key)
  kept-keyed b m at row (Ok one) told fits same = record {
    bundle = at.bundle;
    at = at.at;
    digest = at.old.digest;
    fits = fits;
    is = ap (λ (r : BundleRow). r.key) same ∙ told.key ∙ ap (λ n. file_name n at.old.digest) (sym at.name);
  }
  kept-keyed b m at row (Err e) told fits same = tt

  -- the row of a bundle of the state
  pub row-at : (m : ℕ) (old : StateBundle) → slice_get u.state.bundles m ≡ Some old → (row : BundleRow) × (slice_get made.rows m ≡ Some row) × IsRowOfOld old row
  row-at m old at = zip-left IsRowOfOld u.state.bundles made.rows is.rows m old at

  -- a bundle that is put after others is one over the files before these, where what was there stays
  pub put-before : (folder : List ℕ) (first now : Store) (b : ℕ) → ((files : List MemFile) → first.files ≡ Some files → AreThere u.state folder files
      × ((mid : List MemFile) × (now.files ≡ Some mid) × ((name bytes : List ℕ) → file_at name files ≡ Some bytes → file_at name mid ≡ Some bytes)))
      → (bundle : ReleaseBundle) → IsPutBundle u made.plan folder now b bundle → IsPutBundle u made.plan folder first b bundle
  put-before folder first now b stay bundle put = record {
    keyed = put.keyed;
    after = λ files told. (let (there, (mid, at, stays)) = stay files told in by_kind files mid there stays (put.after mid at));
  }
    where
      by_kind : (files mid : List MemFile) → AreThere u.state folder files → ((name bytes : List ℕ) → file_at name files ≡ Some bytes → file_at name mid ≡ Some bytes)
          → IsBundleAfter u made.plan mid folder b bundle → IsBundleAfter u made.plan files folder b bundle
      by_kind files mid there stays (inl new) = inl new
      by_kind files mid there stays (inr kept) =
          let (file, at) = there kept.number kept.is.old kept.is.stays.0 in
          let same : file ≡ bundle.file = (let e : Some file ≡ Some bundle.file = sym (stays (path folder kept.is.old.file) file at) ∙ kept.file in cc e) in
          inr (record { number = kept.number; is = kept.is; side = kept.side; file = at ∙ ap Some same; told = kept.told })

  -- rows of bundles that are put have different keys
  pub rows-once : (folder : List ℕ) (old : Store) (bundles : List ReleaseBundle) (rows : List BundleRow) → EachAt (IsPutBundle u made.plan folder old) bundles → rows ≡ map (λ (m : ReleaseBundle). m.row) bundles
      → AreOnce (map (λ (row : BundleRow). row.key) rows)
  rows-once folder old bundles rows each told i j key here there =
      let (one, one-at, one-key) = from_map (λ (row : BundleRow). row.key) rows i key here in
      let (two, two-at, two-key) = from_map (λ (row : BundleRow). row.key) rows j key there in
      let (x, x-at, x-row) = from_map (λ (m : ReleaseBundle). m.row) bundles i one (subst (λ rs. slice_get rs i ≡ Some one) told one-at) in
      let (y, y-at, y-row) = from_map (λ (m : ReleaseBundle). m.row) bundles j two (subst (λ rs. slice_get rs j ≡ Some two) told two-at) in
      keyed-once made.plan plan-once i j x.row.key y.row.key (each i x x-at).keyed (each j y y-at).keyed
      (ap (λ (r : BundleRow). r.key) x-row ∙ (one-key ∙ (sym two-key ∙ sym (ap (λ (r : BundleRow). r.key) y-row))))

-- the files of a release's bundles are there
pub held-there : (r : Release) (folder : List ℕ) (o : Option (List MemFile)) → IfSome o (λ files. HoldsRelease files folder r) → IfSome o (AreThere r.state folder)
held-there r folder None held = tt
held-there r folder (Some files) held = λ m old at. (let w = zip-left (IsIntact files folder) r.state.bundles (was_of r) held.intact m old at in (w.2.file, w.2.there))
