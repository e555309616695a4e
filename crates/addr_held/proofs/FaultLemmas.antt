-- A file has one first fault, and an intact one none; what determines an answer, kind by kind.
use Rattle.std.proofs.Common.{◌≡◌, ◌≢◌, ◌<◌, ◌^◌, ◌⊎◌, ℕ, List, [], ◌∷◌, length, map, Option, Some, None, inl, inr, refl, sym, ap, ap₂, subst, ◌∙◌}
use Rattle.std.specs.Prelude.{Result, Ok, Err}
use Rattle.addr_base.specs.Files.{file_at}
use Rattle.addr_base.specs.Ids.{digest_of}
use Rattle.addr_base.specs.declared.files.MemFile.{MemFile}
use Rattle.addr_base.specs.declared.ids.Digest.{Digest as Sum}
use Rattle.addr_cab.specs.Lookup.{HasFault, HasNoTable}
use Rattle.addr_cab.specs.Faults.{table_read}
use Rattle.addr_cab.specs.Objects.{HoldsCab, IsCab}
use Rattle.addr_cab.specs.declared.error.CabErr.{CabErr}
use Rattle.addr_cab.specs.declared.error.CabErr.TheVariants.{Nodes}
use Rattle.addr_cab.specs.declared.object.ObjectOut.{ObjectOut}
use Rattle.addr_layout.specs.Laws.{AtMostOne}
use Rattle.addr_layout.proofs.RankLemmas.{same-some}
use Rattle.addr_project.specs.Reading.{path}
use Rattle.addr_release.specs.Held.{HasDigest}
use Rattle.addr_release.specs.Names.{digest_from}
use Rattle.addr_release.specs.Opened.{Opened}
use Rattle.addr_resolve.specs.Laws.{AreFiles}
use Rattle.addr_resolve.specs.Opening.{IsBadTable}
use Rattle.addr_resolve.proofs.OnceLemmas.{Meant, OneCab}
use Rattle.addr_state.specs.Numbers.{fault_number}
use Rattle.addr_state.specs.Reading.{state_read}
use Rattle.addr_state.specs.declared.error.StateErr.{StateErr}
use Rattle.addr_state.specs.declared.model.State.{State as Contents}
use Rattle.addr_state.specs.declared.model.StateBundle.{StateBundle}
use Rattle.addr_unityfs.specs.Faults.{bundle_read}
use Rattle.addr_unityfs.specs.Format.{AreBytes, IsBundle, node_bytes}
use Rattle.addr_unityfs.specs.declared.bundle.Bundle.{Bundle}
use Rattle.addr_unityfs.specs.declared.bundle.NodePlace.{NodePlace}
use Rattle.addr_unityfs.specs.declared.error.FsErr.{FsErr}
use Rattle.addr_update.specs.Intact.{IsFileFault, IsIntact, IsStateFault, IsThere}
use Rattle.addr_update.specs.declared.model.NotIntact.{NotIntact}
use Rattle.addr_update.specs.declared.model.NotIntact.TheVariants.{Missing, State, Size, Digest, Fs, Cab, Objects}
use Rattle.addr_held.proofs.ByteLemmas.{same-digest}

-- ---- what determines an answer

-- one of two kinds that exclude each other
pub either-one : {A : Type 0} (P Q : A → Type 0) → AtMostOne P → AtMostOne Q → ((x y : A) → P x → Q y → ⊥) → AtMostOne (λ x. P x ⊎ Q x)
either-one P Q p q apart x y (inl a) (inl b) = p x y a b
either-one P Q p q apart x y (inl a) (inr b) = absurd (apart x y a b)
either-one P Q p q apart x y (inr a) (inl b) = absurd (apart y x b a)
either-one P Q p q apart x y (inr a) (inr b) = q x y a b

-- by something that is itself determined
pub with-one : {A B : Type 0} (K : B → Type 0) (R : B → A → Type 0) → AtMostOne K → ((b : B) → K b → AtMostOne (R b)) → AtMostOne (λ x. (b : B) × K b × R b x)
with-one K R k r x y (b, is, here) (c, also, there) = r b is x y here (subst (λ z. R z y) (sym (k b c is also)) there)

pub same-ok : {A E : Type 0} {r : Result A E} (x y : A) → r ≡ Ok x → r ≡ Ok y → x ≡ y
same-ok x y is also = let same = sym is ∙ also in cc same

pub same-err : {A E : Type 0} {r : Result A E} (x y : E) → r ≡ Err x → r ≡ Err y → x ≡ y
same-err x y is also = let same = sym is ∙ also in cc same

pub ok-err : {A E : Type 0} {r : Result A E} (x : A) (e : E) → r ≡ Ok x → r ≡ Err e → ⊥
ok-err x e is also = let same = sym is ∙ also in absurd (cc same)

pub told-one : {A : Type 0} (P : Type 0) (a : A) → AtMostOne (λ x. P × (x ≡ a))
told-one P a x y (p, is) (q, are) = is ∙ sym are

pub given-one : {A : Type 0} (P : Type 0) (Q : A → Type 0) → AtMostOne Q → AtMostOne (λ x. P × Q x)
given-one P Q one x y (p, here) (q, there) = one x y here there

-- ---- the objects of a file

abbrev pub NeverBoth : Type 0
NeverBoth = (file : List ℕ) (b : Bundle) (e : CabErr) (name : Sum) (objects : List ObjectOut) → length file < 2 ^ 63 → IsBundle file b → HasFault file b e → IsCab file b name objects → ⊥

same-fault : (file : List ℕ) (b : Bundle) (e f : CabErr) → HasFault file b e → HasFault file b f → e ≡ f
same-fault file b e f x y =
    let nodes : x.table ∷ x.content ∷ [] ≡ y.table ∷ y.content ∷ [] = sym x.nodes.nodes ∙ y.nodes.nodes in
    let table : x.table ≡ y.table = cc nodes in
    let content : x.content ≡ y.content = cc nodes in
    let first : table_read y.content.size (node_bytes file b x.table) ≡ Err f = subst (λ (t : NodePlace). table_read y.content.size (node_bytes file b t) ≡ Err f) (sym table) y.fault_is in
    let reads : table_read x.content.size (node_bytes file b x.table) ≡ Err f = subst (λ (t : NodePlace). table_read t.size (node_bytes file b x.table) ≡ Err f) (sym content) first in
    same-err e f x.fault_is reads

-- ---- the faults of a file that is there, kind by kind

module _ (file : List ℕ) (old : StateBundle) where
  abbrev pub OtherSize : NotIntact → Type 0
  OtherSize why = (length file ≢ old.size) × (why ≡ Size old.size (length file))

  abbrev pub OtherDigest : NotIntact → Type 0
  OtherDigest why = (digest_from file ≢ old.digest) × (why ≡ Digest old.digest (digest_from file))

  abbrev pub NoBundle : NotIntact → Type 0
  NoBundle why = (e : FsErr) × (bundle_read file ≡ Err e) × (why ≡ Fs e)

  abbrev pub NoTable : NotIntact → Type 0
  NoTable why = (e : CabErr) × IsBadTable file e × (why ≡ Cab e)

  abbrev pub OtherObjects : NotIntact → Type 0
  OtherObjects why = ((cab : Sum) × (objects : List ObjectOut) × HoldsCab file cab objects × (map (λ o. o.guid) objects ≢ old.objects)) × (why ≡ Objects)

  abbrev pub Read : NotIntact → Type 0
  Read why = NoTable why ⊎ OtherObjects why

  abbrev pub Summed : NotIntact → Type 0
  Summed why = (digest_of file ≡ old.digest.0) × (NoBundle why ⊎ Read why)

  abbrev pub Sized : NotIntact → Type 0
  Sized why = (length file ≡ old.size) × (OtherDigest why ⊎ Summed why)

  abbrev pub InFile : NotIntact → Type 0
  InFile why = OtherSize why ⊎ Sized why

-- ---- one file

module _ (meant : Meant) (one : OneCab) (never : NeverBoth) (file : List ℕ) (bytes : AreBytes file) (short : length file < 2 ^ 63) where
  is-bundle : (b : Bundle) → bundle_read file ≡ Ok b → IsBundle file b
  is-bundle b read = (meant file b bytes short).1 read

  pub bad-one : AtMostOne (IsBadTable file)
  bad-one e f (b, b-read, how) (d, d-read, also) = by_kinds how (subst (λ (w : Bundle). ((f ≡ Nodes) × HasNoTable w) ⊎ HasFault file w f) (sym (same-ok b d b-read d-read)) also)
    where
      by_kinds : ((e ≡ Nodes) × HasNoTable b) ⊎ HasFault file b e → ((f ≡ Nodes) × HasNoTable b) ⊎ HasFault file b f → e ≡ f
      by_kinds (inl (is, none)) (inl (are, lacks)) = is ∙ sym are
      by_kinds (inl (is, none)) (inr fault) = absurd (none fault.name fault.table fault.content fault.nodes)
      by_kinds (inr fault) (inl (are, lacks)) = absurd (lacks fault.name fault.table fault.content fault.nodes)
      by_kinds (inr fault) (inr other) = same-fault file b e f fault other

  pub bad-apart : (e : CabErr) (cab : Sum) (objects : List ObjectOut) → IsBadTable file e → HoldsCab file cab objects → ⊥
  bad-apart e cab objects (b, b-read, how) (d, d-read, holds) = by_kind how (subst (λ (w : Bundle). IsCab file w cab objects) (sym (same-ok b d b-read d-read)) holds)
    where
      by_kind : ((e ≡ Nodes) × HasNoTable b) ⊎ HasFault file b e → IsCab file b cab objects → ⊥
      by_kind (inl (is, none)) here = none cab here.table here.content here.nodes
      by_kind (inr fault) here = never file b e cab objects short (is-bundle b b-read) fault here

  pub holds-one : (cab other : Sum) (objects others : List ObjectOut) → HoldsCab file cab objects → HoldsCab file other others → objects ≡ others
  holds-one cab other objects others (b, b-read, holds) (d, d-read, also) =
      let again : IsCab file b other others = subst (λ (w : Bundle). IsCab file w other others) (sym (same-ok b d b-read d-read)) also in
      (one file b cab other objects others short (is-bundle b b-read) holds again).1

  pub not-read : (e : FsErr) (cab : Sum) (objects : List ObjectOut) → bundle_read file ≡ Err e → HoldsCab file cab objects → ⊥
  not-read e cab objects none (b, read, holds) = ok-err b e read none

  module _ (old : StateBundle) where
    no-bundle-one : AtMostOne (NoBundle file old)
    no-bundle-one = with-one (λ e. bundle_read file ≡ Err e) (λ e why. why ≡ Fs e) (λ e f x y. same-err e f x y) (λ e is x y a b. a ∙ sym b)

    read-one : AtMostOne (Read file old)
    read-one = either-one (NoTable file old) (OtherObjects file old) (with-one (IsBadTable file) (λ e why. why ≡ Cab e) bad-one (λ e is x y a b. a ∙ sym b)) (told-one _ Objects)
        (λ x y table objects. bad-apart table.0 objects.0.0 objects.0.1 table.1 objects.0.2)

    not-both : (x y : NotIntact) → NoBundle file old x → Read file old y → ⊥
    not-both x y (e, none, is) (inl (f, (b, read, how), are)) = ok-err b e read none
    not-both x y (e, none, is) (inr ((cab, objects, holds, other), are)) = not-read e cab objects none holds

    summed-one : AtMostOne (λ why. NoBundle file old why ⊎ Read file old why)
    summed-one = either-one (NoBundle file old) (Read file old) no-bundle-one read-one not-both

    sized-one : AtMostOne (λ why. OtherDigest file old why ⊎ Summed file old why)
    sized-one = either-one (OtherDigest file old) (Summed file old) (told-one _ (Digest old.digest (digest_from file))) (given-one _ _ summed-one) (λ x y other same. other.0 (same-digest (digest_from file) old.digest same.0))

    pub in-file-one : AtMostOne (InFile file old)
    in-file-one = either-one (OtherSize file old) (Sized file old) (told-one _ (Size old.size (length file))) (given-one _ _ sized-one) (λ x y other same. other.0 same.0)

-- ---- the faults of a bundle

module _ (meant : Meant) (one : OneCab) (never : NeverBoth) (files : List MemFile) (folder : List ℕ) (are : AreFiles files) (old : StateBundle) where
  abbrev NoFile : NotIntact → Type 0
  NoFile why = (file_at (path folder old.file) files ≡ None) × (why ≡ Missing)

  abbrev OfFile : NotIntact → Type 0
  OfFile why = (file : List ℕ) × IsThere files folder old file × InFile file old why

  kinds : (why : NotIntact) → IsFileFault files folder old why → NoFile why ⊎ OfFile why
  kinds Missing none = inl (none, refl)
  kinds (State n) fault = absurd fault
  kinds (Size said found) (file, there, is, are, other) = inr (file, there, inl ((λ same. other (are ∙ (same ∙ sym is))), ap₂ Size is are))
  kinds (Digest said found) (file, has, is, are, other) = inr (file, has.0, inr (has.1, inl ((λ same. other (are ∙ (same ∙ sym is))), ap₂ Digest is are)))
  kinds (Fs e) (file, has, none) = inr (file, has.0, inr (has.1, inr (has.2, inl (e, none, refl))))
  kinds (Cab e) (file, has, bad) = inr (file, has.0, inr (has.1, inr (has.2, inr (inl (e, bad, refl)))))
  kinds Objects (file, has, cab, objects, holds, other) = inr (file, has.0, inr (has.1, inr (has.2, inr (inr ((cab, objects, holds, other), refl)))))

  same-file : AtMostOne (IsThere files folder old)
  same-file f g x y = same-some f g (sym x ∙ y)

  pub fault-one : AtMostOne (IsFileFault files folder old)
  fault-one x y first second =
      either-one NoFile OfFile (told-one _ Missing) (with-one (IsThere files folder old) (λ file why. InFile file old why) same-file
      (λ file there. let bytes = are (path folder old.file) file there in in-file-one meant one never file bytes.0 bytes.1 old))
      (λ v w none some. none-some some.0 (sym none.0 ∙ some.1)) x y (kinds x first) (kinds y second)
    where
      none-some : (file : List ℕ) → None ≡ Some file → ⊥
      none-some file same = absurd (cc same)

  -- an intact bundle holds one list of objects, and has no fault
  module _ (opened : Opened) (is : IsIntact files folder old opened) where
    bytes : AreBytes is.file × (length is.file < 2 ^ 63)
    bytes = are (path folder old.file) is.file is.there

    not-in-file : (why : NotIntact) → InFile is.file old why → ⊥
    not-in-file why (inl (other, told)) = other is.size
    not-in-file why (inr (size, inl (other, told))) = other (same-digest (digest_from is.file) old.digest is.digest)
    not-in-file why (inr (size, inr (digest, inl (e, none, told)))) = not-read meant one never is.file bytes.0 bytes.1 e is.cab opened.objects none is.holds
    not-in-file why (inr (size, inr (digest, inr (inl (e, bad, told))))) = bad-apart meant one never is.file bytes.0 bytes.1 e is.cab opened.objects bad is.holds
    not-in-file why (inr (size, inr (digest, inr (inr ((cab, objects, holds, other), told))))) =
        let same = holds-one meant one never is.file bytes.0 bytes.1 cab is.cab objects opened.objects holds is.holds in
        other (ap (map (λ (o : ObjectOut). o.guid)) same ∙ is.objects)

    pub intact-apart : (why : NotIntact) → IsFileFault files folder old why → ⊥
    intact-apart why fault = by_kind (kinds why fault)
      where
        by_kind : NoFile why ⊎ OfFile why → ⊥
        by_kind (inl (none, told)) = (let some : None ≡ Some is.file = sym none ∙ is.there in absurd (cc some))
        by_kind (inr (file, there, faulty)) = not-in-file why (subst (λ f. InFile f old why) (same-file file is.file there is.there) faulty)

    pub intact-one : (other : Opened) → IsIntact files folder old other → opened ≡ other
    intact-one other also =
        let file : also.file ≡ is.file = same-file also.file is.file also.there is.there in
        let holds : HoldsCab is.file also.cab other.objects = subst (λ f. HoldsCab f also.cab other.objects) file also.holds in
        let objects : opened.objects ≡ other.objects = holds-one meant one never is.file bytes.0 bytes.1 is.cab also.cab opened.objects other.objects is.holds holds in
        ap₂ (λ n os. let o : Opened = record { name = n; objects = os } in o) (is.name ∙ sym also.name) objects

-- ---- the faults of a state

module _ (bytes : List ℕ) (named : Option Sum) where
  abbrev NotRead : NotIntact → Type 0
  NotRead why = (e : StateErr) × (state_read bytes ≡ Err e) × ((n : ℕ) × (fault_number e ≡ Some n) × (why ≡ State n))

  abbrev NotNamed : NotIntact → Type 0
  NotNamed why = (s : Contents) × (state_read bytes ≡ Ok s) × ((said : Sum) × (named ≡ Some said) × ((digest_from bytes ≢ said) × (why ≡ Digest said (digest_from bytes))))

  state-kinds : (why : NotIntact) → IsStateFault bytes named why → NotRead why ⊎ NotNamed why
  state-kinds Missing fault = absurd fault
  state-kinds (State n) (e, read, number) = inl (e, read, (n, number, refl))
  state-kinds (Size said found) fault = absurd fault
  state-kinds (Digest said found) (s, read, is, are, other) = inr (s, read, (said, is, ((λ same. other (are ∙ same)), ap (Digest said) are)))
  state-kinds (Fs e) fault = absurd fault
  state-kinds (Cab e) fault = absurd fault
  state-kinds Objects fault = absurd fault

  not-read-one : AtMostOne NotRead
  not-read-one = with-one (λ e. state_read bytes ≡ Err e) (λ e why. (n : ℕ) × (fault_number e ≡ Some n) × (why ≡ State n)) (λ e f x y. same-err e f x y)
      (λ e read. with-one (λ n. fault_number e ≡ Some n) (λ n why. why ≡ State n) (λ n m x y. same-some n m (sym x ∙ y)) (λ n is x y a b. a ∙ sym b))

  not-named-one : AtMostOne NotNamed
  not-named-one = with-one (λ s. state_read bytes ≡ Ok s) (λ s why. (said : Sum) × (named ≡ Some said) × ((digest_from bytes ≢ said) × (why ≡ Digest said (digest_from bytes)))) (λ s t x y. same-ok s t x y)
      (λ s read. with-one (λ said. named ≡ Some said) (λ said why. (digest_from bytes ≢ said) × (why ≡ Digest said (digest_from bytes))) (λ said also x y. same-some said also (sym x ∙ y))
      (λ said is. told-one _ (Digest said (digest_from bytes))))

  pub state-one : AtMostOne (IsStateFault bytes named)
  state-one x y first second = either-one NotRead NotNamed not-read-one not-named-one (λ v w none some. ok-err some.0 none.0 some.1 none.1) x y (state-kinds x first) (state-kinds y second)

  -- a state that is read, with the digest that is named, has none
  pub state-apart : (why : NotIntact) → IsStateFault bytes named why → (s : Contents) → state_read bytes ≡ Ok s → HasDigest bytes named → ⊥
  state-apart why fault s read digest = by_kind (state-kinds why fault)
    where
      by_kind : NotRead why ⊎ NotNamed why → ⊥
      by_kind (inl (e, none, told)) = ok-err s e read none
      by_kind (inr (t, also, (said, is, (other, told)))) = other (same-digest (digest_from bytes) said (subst (HasDigest bytes) is digest))
