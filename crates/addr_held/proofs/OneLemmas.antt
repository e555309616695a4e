-- Files have one answer: one release, or one first thing that is wrong.
use Rattle.std.proofs.Common.{◌≡◌, ◌<◌, ◌⊎◌, ℕ, zero, suc, List, [], ◌∷◌, take, Some, None, inl, inr, refl, sym, ap, ap₂, subst, ◌∙◌, arith}
use Rattle.std.proofs.lemmas.Bool.{cases_order}
use Rattle.std.specs.List.{AllZip, slice_get}
use Rattle.std.specs.Prelude.{Result, Ok, Err}
use Rattle.addr_base.specs.Files.{file_at}
use Rattle.addr_base.specs.declared.files.MemFile.{MemFile}
use Rattle.addr_catalog.specs.Catalogue.{catalogue_read}
use Rattle.addr_catalog.specs.declared.catalogue.Catalogue.{Catalogue}
use Rattle.addr_catalog.specs.declared.error.CatErr.{CatErr}
use Rattle.addr_held.specs.Laws.{HasOneAnswer, IsTold, Seen, ShowsRelease, seen}
use Rattle.addr_held.specs.Opening.{OpensRelease}
use Rattle.addr_held.specs.declared.error.HeldErr.{HeldErr}
use Rattle.addr_held.specs.declared.error.HeldErr.TheVariants.{NoRelease, BadCatalogue, BadRelease, DepotFault, NoMemory}
use Rattle.addr_held.specs.declared.release.Release.{Release}
use Rattle.addr_held.proofs.FaultLemmas.{NeverBoth, either-one, fault-one, intact-apart, intact-one, ok-err, same-err, same-ok, state-apart, state-one, told-one, with-one}
use Rattle.addr_layout.specs.Laws.{AtMostOne}
use Rattle.addr_layout.proofs.RankLemmas.{same-some}
use Rattle.addr_release.specs.Held.{HasDigest}
use Rattle.addr_release.specs.Names.{catalogue_path, state_file, state_path}
use Rattle.addr_release.specs.Opened.{Opened}
use Rattle.addr_resolve.specs.Laws.{AreFiles}
use Rattle.addr_resolve.proofs.OnceLemmas.{Meant, OneCab}
use Rattle.addr_state.specs.Reading.{state_read}
use Rattle.addr_state.specs.declared.model.State.{State}
use Rattle.addr_state.specs.declared.model.StateBundle.{StateBundle}
use Rattle.addr_update.specs.Intact.{IsFileFault, IsFirstFault, IsIntact, IsStateFault}
use Rattle.addr_update.specs.declared.model.NotIntact.{NotIntact}
use Rattle.addr_walks.proofs.Zips.{zip-left}

-- what stands at a place stands there in a longer beginning, too
get-take : {A : Type 0} (xs : List A) (n k : ℕ) (x : A) → k < n → slice_get xs k ≡ Some x → slice_get (take n xs) k ≡ Some x
get-take [] n k x less at = absurd (cc at)
get-take (y ∷ ys) zero k x less at = absurd (omega (arith, less))
get-take (y ∷ ys) (suc n) zero x less at = at
get-take (y ∷ ys) (suc n) (suc k) x less at = get-take ys n k x (omega (arith, less)) at

-- partners that are determined make one list
pub zip-one : {A B : Type 0} (R : A → B → Type 0) → ((x : A) → AtMostOne (R x)) → (xs : List A) → AtMostOne (AllZip R xs)
zip-one R each [] [] [] first second = refl
zip-one R each [] [] (z ∷ zs) first second = absurd second
zip-one R each [] (y ∷ ys) zs first second = absurd first
zip-one R each (x ∷ xs) [] zs first second = absurd first
zip-one R each (x ∷ xs) (y ∷ ys) [] first second = absurd second
zip-one R each (x ∷ xs) (y ∷ ys) (z ∷ zs) first second = let here = each x y z first.0 second.0 in let rest = zip-one R each xs ys zs first.1 second.1 in cc

none-some : {A : Type 0} (x : A) → None ≡ Some x → ⊥
none-some x same = absurd (cc same)

module _ (meant : Meant) (one : OneCab) (never : NeverBoth) (files : List MemFile) (folder : List ℕ) (are : AreFiles files) where
  -- ---- the bundles of a state

  module _ (s : State) where
    -- bundles up to a number that are intact, and one before it that isn't
    not-earlier : (n k : ℕ) (old : StateBundle) (why : NotIntact) (before : List Opened) → k < n → slice_get s.bundles k ≡ Some old → AllZip (IsIntact files folder) (take n s.bundles) before → IsFileFault files folder old why → ⊥
    not-earlier n k old why before less at intact fault =
        let beside = zip-left (IsIntact files folder) (take n s.bundles) before intact k old (get-take s.bundles n k old less at) in
        intact-apart meant one never files folder are old beside.0 beside.2 why fault

    not-intact : (was : List Opened) (name : List ℕ) (why : NotIntact) → AllZip (IsIntact files folder) s.bundles was → IsFirstFault s files folder name why → ⊥
    not-intact was name why intact first =
        let beside = zip-left (IsIntact files folder) s.bundles was intact first.number first.old first.at in
        intact-apart meant one never files folder are first.old beside.0 beside.2 why first.fault

    first-one : (name other : List ℕ) (why also : NotIntact) → IsFirstFault s files folder name why → IsFirstFault s files folder other also → (name ≡ other) × (why ≡ also)
    first-one name other why also x y = by_order (cases_order x.number y.number)
      where
        by_order : (x.number ≡ y.number) ⊎ ((x.number < y.number) ⊎ (y.number < x.number)) → (name ≡ other) × (why ≡ also)
        by_order (inl same) =
            let old : x.old ≡ y.old = same-some x.old y.old (sym x.at ∙ (ap (slice_get s.bundles) same ∙ y.at)) in
            (x.named ∙ (ap (λ (o : StateBundle). o.file) old ∙ sym y.named), fault-one meant one never files folder are y.old why also (subst (λ (o : StateBundle). IsFileFault files folder o why) old x.fault) y.fault)
        by_order (inr (inl less)) = absurd (not-earlier y.number x.number x.old why y.before less x.at y.intact x.fault)
        by_order (inr (inr less)) = absurd (not-earlier x.number y.number y.old also x.before less y.at x.intact y.fault)

  -- ---- answers, kind by kind

  abbrev Answer : Type 0
  Answer = Result Seen HeldErr

  abbrev refused : HeldErr → Answer
  refused e = Err e

  abbrev NoCatalogue : Answer → Type 0
  NoCatalogue a = (file_at (catalogue_path folder) files ≡ None) × (a ≡ refused (NoRelease (catalogue_path folder)))

  abbrev FaultyCatalogue : List ℕ → Answer → Type 0
  FaultyCatalogue bytes a = (fault : CatErr) × (catalogue_read bytes ≡ Err fault) × (a ≡ refused (BadCatalogue fault))

  abbrev NoState : Catalogue → Answer → Type 0
  NoState c a = (file_at (state_path folder c.state) files ≡ None) × (a ≡ refused (NoRelease (state_path folder c.state)))

  abbrev FaultyState : Catalogue → List ℕ → Answer → Type 0
  FaultyState c kept a = (why : NotIntact) × IsStateFault kept c.state why × (a ≡ refused (BadRelease (state_file c.state) why))

  abbrev FaultyBundle : State → Answer → Type 0
  FaultyBundle s a = (f : List ℕ × NotIntact) × IsFirstFault s files folder f.0 f.1 × (a ≡ refused (BadRelease f.0 f.1))

  abbrev Whole : Catalogue → State → Answer → Type 0
  Whole c s a = (was : List Opened) × AllZip (IsIntact files folder) s.bundles was × (a ≡ Ok (record { catalogue = c; state = s; was = was }))

  abbrev OfBundles : Catalogue → State → Answer → Type 0
  OfBundles c s a = FaultyBundle s a ⊎ Whole c s a

  abbrev IsState : Catalogue → List ℕ → State → Type 0
  IsState c kept s = (state_read kept ≡ Ok s) × HasDigest kept c.state

  abbrev OfState : Catalogue → List ℕ → Answer → Type 0
  OfState c kept a = (s : State) × IsState c kept s × OfBundles c s a

  abbrev OfKept : Catalogue → List ℕ → Answer → Type 0
  OfKept c kept a = FaultyState c kept a ⊎ OfState c kept a

  abbrev FromState : Catalogue → Answer → Type 0
  FromState c a = (kept : List ℕ) × (file_at (state_path folder c.state) files ≡ Some kept) × OfKept c kept a

  abbrev OfCatalogue : Catalogue → Answer → Type 0
  OfCatalogue c a = NoState c a ⊎ FromState c a

  abbrev FromRead : List ℕ → Answer → Type 0
  FromRead bytes a = (c : Catalogue) × (catalogue_read bytes ≡ Ok c) × OfCatalogue c a

  abbrev OfBytes : List ℕ → Answer → Type 0
  OfBytes bytes a = FaultyCatalogue bytes a ⊎ FromRead bytes a

  abbrev FromCatalogue : Answer → Type 0
  FromCatalogue a = (bytes : List ℕ) × (file_at (catalogue_path folder) files ≡ Some bytes) × OfBytes bytes a

  abbrev OfFolder : Answer → Type 0
  OfFolder a = NoCatalogue a ⊎ FromCatalogue a

  -- ---- each kind has one answer

  bundles-one : (c : Catalogue) (s : State) → AtMostOne (OfBundles c s)
  bundles-one c s = either-one (FaultyBundle s) (Whole c s)
      (with-one (λ f. IsFirstFault s files folder f.0 f.1) (λ f a. a ≡ refused (BadRelease f.0 f.1)) (λ f g x y. let same = first-one s f.0 g.0 f.1 g.1 x y in ap₂ (λ name why. (name, why)) same.0 same.1) (λ f is x y a b. a ∙ sym b))
      (with-one (AllZip (IsIntact files folder) s.bundles) (λ was a. a ≡ Ok (record { catalogue = c; state = s; was = was })) (zip-one (IsIntact files folder) (λ old x y first second. intact-one meant one never files folder are old x first y second) s.bundles) (λ was is x y a b. a ∙ sym b))
      (λ x y fault whole. not-intact s whole.0 fault.0.0 fault.0.1 whole.1 fault.1)

  kept-one : (c : Catalogue) (kept : List ℕ) → AtMostOne (OfKept c kept)
  kept-one c kept = either-one (FaultyState c kept) (OfState c kept)
      (with-one (IsStateFault kept c.state) (λ why a. a ≡ refused (BadRelease (state_file c.state) why)) (state-one kept c.state) (λ why is x y a b. a ∙ sym b))
      (with-one (IsState c kept) (OfBundles c) (λ s t x y. same-ok s t x.0 y.0) (λ s is. bundles-one c s))
      (λ x y fault whole. state-apart kept c.state fault.0 fault.1 whole.0 whole.1.0 whole.1.1)

  catalogue-one : (c : Catalogue) → AtMostOne (OfCatalogue c)
  catalogue-one c = either-one (NoState c) (FromState c) (told-one _ (refused (NoRelease (state_path folder c.state))))
      (with-one (λ kept. file_at (state_path folder c.state) files ≡ Some kept) (OfKept c) (λ k l x y. same-some k l (sym x ∙ y)) (λ kept there. kept-one c kept))
      (λ x y none some. none-some some.0 (sym none.0 ∙ some.1))

  bytes-one : (bytes : List ℕ) → AtMostOne (OfBytes bytes)
  bytes-one bytes = either-one (FaultyCatalogue bytes) (FromRead bytes)
      (with-one (λ fault. catalogue_read bytes ≡ Err fault) (λ fault a. a ≡ refused (BadCatalogue fault)) (λ e f x y. same-err e f x y) (λ fault is x y a b. a ∙ sym b))
      (with-one (λ c. catalogue_read bytes ≡ Ok c) OfCatalogue (λ c d x y. same-ok c d x y) (λ c read. catalogue-one c))
      (λ x y fault read. ok-err read.0 fault.0 read.1 fault.1)

  folder-one : AtMostOne OfFolder
  folder-one = either-one NoCatalogue FromCatalogue (told-one _ (refused (NoRelease (catalogue_path folder))))
      (with-one (λ bytes. file_at (catalogue_path folder) files ≡ Some bytes) OfBytes (λ b d x y. same-some b d (sym x ∙ y)) (λ bytes there. bytes-one bytes))
      (λ x y none some. none-some some.0 (sym none.0 ∙ some.1))

  -- ---- what files show is of these kinds

  kind-of : (a : Answer) → ShowsRelease files folder a → OfFolder a
  kind-of (Ok r) (held, intact) = inr (held.bytes, held.there, inr (r.catalogue, held.read, inr (held.kept, held.kept_there, inr (r.state, (held.kept_read, held.digest), inr (r.was, intact, refl)))))
  kind-of (Err (NoRelease name)) (inl (is, none)) = inl (none, ap (λ n. refused (NoRelease n)) is)
  kind-of (Err (NoRelease name)) (inr (c, (bytes, there, read), is, none)) = inr (bytes, there, inr (c, read, inl (none, ap (λ n. refused (NoRelease n)) is)))
  kind-of (Err (BadCatalogue fault)) (bytes, there, read) = inr (bytes, there, inl (fault, read, refl))
  kind-of (Err (BadRelease name why)) (c, (bytes, there, read), (kept, kept_there, inl (is, fault))) =
      inr (bytes, there, inr (c, read, inr (kept, kept_there, inl (why, fault, ap (λ n. refused (BadRelease n why)) is))))
  kind-of (Err (BadRelease name why)) (c, (bytes, there, read), (kept, kept_there, inr (s, kept_read, digest, first))) =
      inr (bytes, there, inr (c, read, inr (kept, kept_there, inr (s, (kept_read, digest), inl ((name, why), first, refl)))))
  kind-of (Err DepotFault) is = absurd is
  kind-of (Err NoMemory) is = absurd is

  pub one-shown : AtMostOne (ShowsRelease files folder)
  one-shown a b first second = folder-one a b (kind-of a first) (kind-of b second)

  -- ---- and so is what opening answers

  shown-by : (x : Result Release HeldErr) → OpensRelease files folder x → IsTold x → ShowsRelease files folder (seen x)
  shown-by (Ok r) is told = (is.held, is.intact)
  shown-by (Err (NoRelease name)) is told = is
  shown-by (Err (BadCatalogue fault)) is told = is
  shown-by (Err (BadRelease name why)) is told = is
  shown-by (Err DepotFault) is told = absurd told
  shown-by (Err NoMemory) is told = absurd told

  pub one-answer : HasOneAnswer files folder
  one-answer x y first second told also = one-shown (seen x) (seen y) (shown-by x first told) (shown-by y second also)
