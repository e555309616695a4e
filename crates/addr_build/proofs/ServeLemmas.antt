-- What readers find while a build is under way: the old release, or the new one.
use Rattle.std.proofs.Common.{◌≡◌, ◌+◌, ◌<◌, ◌≤◌, ℕ, Bool, true, false, nat_le, List, [], ◌∷◌, ◌++◌, length, map, take, Some, refl, sym, ap, subst, ◌∙◌, ◌⊎◌, inl, inr, arith}
use borrow.Author.Tests.{leb-true, leb-false}
use Rattle.std.proofs.lemmas.List.{append-nil, length-append, length-map, length-take-le, take-take}
use Rattle.std.proofs.lemmas.List.Elements.{Contains-push}
use Rattle.std.specs.List.{Contains}
use Rattle.addr_base.specs.Files.{SameStore, Store}
use Rattle.addr_base.specs.declared.files.MemFile.{MemFile}
use Rattle.addr_pack.specs.declared.bundles.Plan.{Plan}
use Rattle.addr_project.specs.Kept.{IsKept}
use Rattle.addr_project.specs.Model.{Project}
use Rattle.addr_project.specs.Reading.{ProjectOf}
use Rattle.addr_walks.proofs.Lists.{Contains-cases, Contains-none}
use Rattle.addr_release.specs.Built.{IsReleaseIn, IsReleaseOf, Release, ReleaseBundle}
use Rattle.addr_release.specs.Laws.{AreNamed, AreThere, Keeps}
use Rattle.addr_release.specs.Names.{catalogue_path}
use Rattle.addr_release.specs.Puts.{AreUntaken, IsAfter, NoneTaken, Test, all_bundle_tests, bundle_put, catalogue_put, content_puts, hash_put, puts_of, state_put, tests_of}
use Rattle.addr_release.proofs.BuiltLemmas.{listed-held, listed-shows, listed-sound, listed-there}
use Rattle.addr_release.proofs.ContentLemmas.{keeps-free}
use Rattle.addr_release.proofs.NameLemmas.{bundles-content, release-content, take-at}
use Rattle.addr_release.proofs.OwnLemmas.{are-named, made-named}
use Rattle.addr_release.proofs.PutLemmas.{after-same, take-front, take-within}
use Rattle.addr_release.proofs.StayLemmas.{FindsFree, content-finds, content-stays, resolves-on, untaken-bundle, untaken-content, untaken-whole}
use Rattle.addr_release.proofs.TestLemmas.{none-free, none-stays}
use Rattle.addr_build.specs.After.{HasOld, Serves}
use Rattle.addr_build.specs.Moments.{AtEachMoment, IsDuring, LaysSome, Passes}
use Rattle.addr_build.specs.Outcomes.{IsWithin}
use Rattle.addr_build.specs.Release.{IsBegunIn}

-- ---- moments are as after some first puts

-- the files are as after some of the first k puts
abbrev pub AfterSome : List MemFile → ℕ → List MemFile → List MemFile → Type 0
AfterSome puts k old files = (i : ℕ) × (i ≤ k) × IsAfter (take i puts) old files

some-of : (puts : List MemFile) (k i : ℕ) (old files : List MemFile) → k ≤ length puts → i ≤ length (take k puts) → IsAfter (take i (take k puts)) old files → AfterSome puts k old files
some-of puts k i old files within few after =
    let long : length (take k puts) ≡ k = length-take-le k puts within in
    let less : i ≤ k = omega (arith, few, long) in
    (i, less, subst (λ ps. IsAfter ps old files) (take-take i k puts less) after)

passed-after : (puts : List MemFile) (k : ℕ) (old : List MemFile) (n : ℕ) (ms : List (List MemFile)) (end : List MemFile) → k ≤ length puts → Passes (take k puts) old n ms end
    → ((files : List MemFile) → Contains ms files → AfterSome puts k old files) × AfterSome puts k old end
passed-after puts k old n [] end within (i, from, few, after) = (λ files here. absurd (Contains-none files here), some-of puts k i old end within few after)
passed-after puts k old n (m ∷ ms) end within (i, from, small, during, rest) =
    let later = passed-after puts k old i ms end within rest in
    (λ files here. by_case files (Contains-cases m ms files here) later.0, later.1)
  where
    by_during : IsDuring (take k puts) i old m → AfterSome puts k old m
    by_during (inl at) = some-of puts k i old m within (omega (arith, small)) at
    by_during (inr at) = some-of puts k (i + 1) old m within (omega (arith, small)) at

    by_case : (files : List MemFile) → (m ≡ files) ⊎ Contains ms files → ((files : List MemFile) → Contains ms files → AfterSome puts k old files) → AfterSome puts k old files
    by_case files (inl same) later = subst (AfterSome puts k old) same (by_during during)
    by_case files (inr more) later = later files more

-- ---- what holds after some first puts of a build

module _ (folder : List ℕ) (old files : List MemFile) where
  -- puts that find no other bytes, none of them the catalogue's or the hash's, leave the old release
  old-serves : (puts : List MemFile) → ((f : MemFile) → Contains puts f → FindsFree folder old f) → ((f : MemFile) → Contains puts f → f.name ≡ catalogue_path folder → ⊥) → IsAfter puts old files → HasOld folder old files
  old-serves puts free beside after =
      let same = after-same puts old files after (catalogue_path folder) beside in
      record { catalogue = same; resolves = resolves-on folder old files same (content-finds folder puts old files free after) }

  old-keeps : (puts : List MemFile) → ((f : MemFile) → Contains puts f → FindsFree folder old f) → IsAfter puts old files → Keeps folder old files
  old-keeps puts free after name bytes apart beside there = content-stays folder puts old files free after name bytes there

  -- so do the puts of first bundles
  module _ (bundles : List ReleaseBundle) (are : AreNamed bundles) (k : ℕ) (untaken : AreUntaken old folder k (all_bundle_tests bundles)) (i : ℕ) (few : i ≤ k) (after : IsAfter (take i (map (bundle_put folder) bundles)) old files) where
    free : (f : MemFile) → Contains (take i (map (bundle_put folder) bundles)) f → FindsFree folder old f
    free f here =
        let at = take-at i (map (bundle_put folder) bundles) f here in
        untaken-bundle folder bundles old k at.0 f untaken (let less = at.1 in omega (arith, less, few)) at.2

    beside : (f : MemFile) → Contains (take i (map (bundle_put folder) bundles)) f → f.name ≡ catalogue_path folder → ⊥
    beside f here = (bundles-content folder bundles are f (take-within i (map (bundle_put folder) bundles) f here)).0

    pub bundles-serve : HasOld folder old files
    bundles-serve = old-serves (take i (map (bundle_put folder) bundles)) free beside after

    pub bundles-keep : Keeps folder old files
    bundles-keep = old-keeps (take i (map (bundle_put folder) bundles)) free after

module _ (folder : List ℕ) (old files : List MemFile) (p : Project) (kept : IsKept p) (read : ProjectOf old folder p) (plan : Plan) (within : IsWithin p plan) where
  -- the whole release
  module _ (r : Release) (is : IsReleaseIn p plan r) (k : ℕ) (untaken : AreUntaken old folder k (tests_of r)) (i : ℕ) (few : i ≤ k) (after : IsAfter (take i (puts_of folder r)) old files) where
    whole : IsReleaseOf p r
    whole = (plan, within.placed.placed, is)

    named : AreNamed r.bundles
    named = are-named p r whole

    many : length (content_puts folder r) ≡ length r.bundles + 1
    many = length-append (map (bundle_put folder) r.bundles) (state_put folder r.state_bytes ∷ []) ∙ ap (λ n. n + 1) (length-map r.bundles (bundle_put folder))

    -- up to the catalogue's put
    module _ (early : i ≤ length (content_puts folder r)) where
      content : (f : MemFile) → Contains (take i (puts_of folder r)) f → Contains (content_puts folder r) f
      content f here = take-front i (content_puts folder r) (catalogue_put folder r.catalogue ∷ hash_put folder r.catalogue ∷ []) f early here

      early-free : (f : MemFile) → Contains (take i (puts_of folder r)) f → FindsFree folder old f
      early-free f here =
          let at = take-at i (puts_of folder r) f here in
          untaken-content folder r named old k untaken at.0 f (let less = at.1 in omega (arith, less, few)) at.2 (content f here)

      early-serves : Serves folder old files
      early-serves = inl (old-serves folder old files (take i (puts_of folder r)) early-free (λ f here. (release-content folder r named f (content f here)).0) after)

      early-keeps : Keeps folder old files
      early-keeps = old-keeps folder old files (take i (puts_of folder r)) early-free after

    -- from there on
    module _ (late : length (content_puts folder r) < i) where
      none : NoneTaken old folder r
      none = untaken-whole folder r named old k untaken (omega (arith, late, few, many))

      still : NoneTaken files folder r
      still = none-stays folder r named i old files none after

      listed : AreThere (content_puts folder r ++ catalogue_put folder r.catalogue ∷ []) files
      listed = listed-there folder r named i old files late after

      late-serves : Serves folder old files
      late-serves = inr (record {
        project = p;
        read = read;
        release = r;
        is = whole;
        catalogue = listed (catalogue_put folder r.catalogue) (Contains-push (content_puts folder r) (catalogue_put folder r.catalogue));
        shows = λ differ. listed-shows p plan kept within.placed.placed r folder files whole still listed (differ plan within.placed.placed);
        sound = λ differ. listed-sound p plan kept within.placed.placed r folder files whole still listed (differ plan within.placed.placed);
        held = listed-held p plan kept within.placed.placed r folder files whole still listed;
      })

      late-keeps : Keeps folder old files
      late-keeps = keeps-free folder (content_puts folder r) r.catalogue i old files (none-free folder r old named none) after

    by_place : (t : Bool) → nat_le i (length (content_puts folder r)) ≡ t → Serves folder old files × Keeps folder old files
    by_place true is = let early = leb-true i (length (content_puts folder r)) is in (early-serves early, early-keeps early)
    by_place false is = let late = leb-false i (length (content_puts folder r)) is in (late-serves late, late-keeps late)

    release-holds : Serves folder old files × Keeps folder old files
    release-holds = by_place (nat_le i (length (content_puts folder r))) refl

  pub begun-holds : (puts : List MemFile) (tests : List Test) (k : ℕ) → IsBegunIn p plan folder puts tests → AreUntaken old folder k tests → AfterSome puts k old files → Serves folder old files × Keeps folder old files
  begun-holds puts tests k (inl (bundles, each, same, told)) untaken (i, few, after) =
      let tested = subst (AreUntaken old folder k) told untaken in
      let at = subst (λ ps. IsAfter (take i ps) old files) same after in
      let are = made-named p plan bundles within.placed.placed each in
      (inl (bundles-serve folder old files bundles are k tested i few at), bundles-keep folder old files bundles are k tested i few at)
  begun-holds puts tests k (inr (r, is, same, told)) untaken (i, few, after) =
      release-holds r is k (subst (AreUntaken old folder k) told untaken) i few (subst (λ ps. IsAfter (take i ps) old files) same after)

-- ---- at each moment

-- what holds of no change holds where nothing changed
pub moments-same : (holds : List MemFile → List MemFile → Type 0) (old new : Store) → ((files : List MemFile) → holds files files) → SameStore old new → AtEachMoment holds old new
moments-same holds old new stays same = record {
  passed = [];
  past = same.past ∙ sym (append-nil old.past);
  each = λ before files is here. absurd (Contains-none files here);
  last = λ before is. (before, same.files ∙ is, stays before);
}

pub moments-some : (holds : List MemFile → List MemFile → Type 0) (puts : List MemFile) (k : ℕ) (old new : Store) → k ≤ length puts → LaysSome (take k puts) old new
    → ((before files : List MemFile) → old.files ≡ Some before → AfterSome puts k before files → holds before files) → AtEachMoment holds old new
moments-some holds puts k old new within some gives = record {
  passed = some.passed;
  past = some.past;
  each = λ before files is here. (let (after, now, passes) = some.told before is in gives before files is ((passed-after puts k before 0 some.passed after within passes).0 files here));
  last = λ before is. (let (after, now, passes) = some.told before is in (after, now, gives before after is (passed-after puts k before 0 some.passed after within passes).1));
}

-- a folder serves and keeps what it has
pub serves-same : (folder : List ℕ) (files : List MemFile) → Serves folder files files
serves-same folder files = inl (record { catalogue = refl; resolves = λ key shown is. is })

pub keeps-same : (folder : List ℕ) (files : List MemFile) → Keeps folder files files
keeps-same folder files name bytes apart beside there = there
