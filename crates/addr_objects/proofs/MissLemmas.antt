-- The least bundle in which some places miss something, one place after the other; and the whole unfolding.
use Rattle.std.proofs.Common.{◌≡◌, ◌<◌, ◌≤◌, ◌+◌, ◌⊎◌, inl, inr, ℕ, List, [], ◌∷◌, ◌++◌, length, get_or, take, Option, Some, None, Result, Ok, Err, refl, subst, sym, ◌∙◌, arith, MatchOption}
use Rattle.std.proofs.lemmas.List.{take_more}
use Rattle.std.proofs.lemmas.List.Elements.{Contains-append_left, Contains-push, Contains-push_cases}
use Rattle.std.specs.List.{Contains, slice_get}
use Rattle.addr_base.specs.Images.{Object}
use Rattle.addr_base.specs.declared.ids.BundleNo.{BundleNo}
use Rattle.addr_base.specs.declared.ids.Guid.{Guid}
use Rattle.addr_base.specs.declared.images.RefTo.{RefTo}
use Rattle.addr_locate.specs.declared.rows.AssetRow.{AssetRow}
use Rattle.addr_locate.specs.declared.rows.BundleRow.{BundleRow}
use Rattle.addr_walks.specs.Walks.{IsListOf, Leads}
use Rattle.addr_walks.proofs.Lists.{Contains-none, IsListOf-same}
use Rattle.addr_history.specs.Unfolding.{IsLeastMiss, IsUnfolding, Jumps, LeadsTo, Misses, Strays, Taken, object_at}
use Rattle.addr_history.specs.declared.reading.Item2.{Item2}
use Rattle.addr_history.specs.declared.reading.Place.{Place}
use Rattle.addr_history.specs.declared.reading.ReadErr.{ReadErr}
use Rattle.addr_history.specs.declared.reading.ReadErr.TheVariants.{NoHandle, NoAsset, Pending, Failed, Absent, NoMemory}
use Rattle.addr_history.specs.Reading.{Spells}
use Rattle.addr_objects.specs.Objects.{ReadsAllOfAsset}
use Rattle.addr_objects.specs.within.Search.{IsLeastAmong, Picks, TakenOf, Unfolds, place_cmp}

-- ---- the least bundle

pub least-none : (these : Place → Type 0) → IsLeastAmong these [] None
least-none these q here is = Contains-none q here

module _ (these : Place → Type 0) (places : List Place) (p : Place) where
  -- a place that isn't one of these
  pub least-pass : (least : Option ℕ) → (these p → ⊥) → IsLeastAmong these places least → IsLeastAmong these (places ++ p ∷ []) least
  least-pass None not none = λ q here is. by_case q (Contains-push_cases places p q here) is
    where
      by_case : (q : Place) → Contains places q ⊎ (p ≡ q) → these q → ⊥
      by_case q (inl was) is = none q was is
      by_case q (inr same) is = not (subst these (sym same) is)
  least-pass (Some b) not ((r, among, is, at), low) = ((r, Contains-append_left places (p ∷ []) r among, is, at), λ q here also. by_case q (Contains-push_cases places p q here) also)
    where
      by_case : (q : Place) → Contains places q ⊎ (p ≡ q) → these q → b ≤ q.bundle
      by_case q (inl was) is = low q was is
      by_case q (inr same) is = absurd (not (subst these (sym same) is))

  -- a place that is one of these
  pub least-more : (least : Option ℕ) (new : ℕ) → these p → MatchOption least (new ≡ p.bundle) (λ b. (new ≤ b) × (new ≤ p.bundle) × ((new ≡ b) ⊎ (new ≡ p.bundle))) → IsLeastAmong these places least → IsLeastAmong these (places ++ p ∷ []) (Some new)
  least-more None new is own none = ((p, Contains-push places p, is, sym own), λ q here also. by_case q (Contains-push_cases places p q here) also)
    where
      by_case : (q : Place) → Contains places q ⊎ (p ≡ q) → these q → new ≤ q.bundle
      by_case q (inl was) also = absurd (none q was also)
      by_case q (inr same) also = subst (λ (x : Place). new ≤ x.bundle) same (omega (arith, own))
  least-more (Some b) new is (low, below, either) ((r, among, was, at), least) = (there either, λ q here also. by_case q (Contains-push_cases places p q here) also)
    where
      there : (new ≡ b) ⊎ (new ≡ p.bundle) → (q : Place) × Contains (places ++ p ∷ []) q × these q × (q.bundle ≡ new)
      there (inl same) = (r, Contains-append_left places (p ∷ []) r among, was, at ∙ sym same)
      there (inr same) = (p, Contains-push places p, is, sym same)

      by_case : (q : Place) → Contains places q ⊎ (p ≡ q) → these q → new ≤ q.bundle
      by_case q (inl old) also = (let under = least q old also in omega (arith, under, low))
      by_case q (inr same) also = subst (λ (x : Place). new ≤ x.bundle) same below

pub least-step : (these : Place → Type 0) (places : List Place) (k : ℕ) (d : Place) (new : Option ℕ) → k < length places → IsLeastAmong these (take k places ++ get_or places k d ∷ []) new → IsLeastAmong these (take (k + 1) places) new
least-step these places k d new within is = subst (λ (qs : List Place). IsLeastAmong these qs new) (sym (take_more places k d within)) is

-- ---- references that lead nowhere

module _ (bundles : List BundleRow) (needs : List BundleNo) (b : ℕ) where
  pub stays-more : (refs : List RefTo) (k : ℕ) (d : RefTo) (c : ℕ) → k < length refs → (Strays bundles needs b (take k refs) → ⊥) → LeadsTo bundles needs b (get_or refs k d).home c → Strays bundles needs b (take (k + 1) refs) → ⊥
  stays-more refs k d c within stays leads = subst (λ (xs : List RefTo). Strays bundles needs b xs → ⊥) (sym (take_more refs k d within)) (λ (r, here, none). by_case r (Contains-push_cases (take k refs) (get_or refs k d) r here) none)
    where
      by_case : (r : RefTo) → Contains (take k refs) r ⊎ (get_or refs k d ≡ r) → ((c : ℕ) → LeadsTo bundles needs b r.home c → ⊥) → ⊥
      by_case r (inl was) none = stays (r, was, none)
      by_case r (inr same) none = none c (subst (λ (x : RefTo). LeadsTo bundles needs b x.home c) same leads)

  pub stays-none : (refs : List RefTo) → Strays bundles needs b (take 0 refs) → ⊥
  stays-none refs (r, here, none) = Contains-none r here

-- ---- the whole

module _ (objects : BundleNo → List ℕ → Option Object) (bundles : List BundleRow) (needs : List BundleNo) (start : Place) (places : List Place) (list : IsListOf place_cmp (Leads (Jumps objects bundles needs) start) places) where
  pub least-missed : (b : ℕ) → IsLeastAmong (Misses objects bundles needs) places (Some b) → IsLeastMiss objects bundles needs start (let no : BundleNo = record { 0 = b } in no)
  least-missed b ((q, here, misses, at), low) = ((q, list.within q here, misses, at), λ s walk also. low s (list.all s walk) also)

  pub none-missed : IsLeastAmong (Misses objects bundles needs) places None → (q : Place) → Leads (Jumps objects bundles needs) start q → Misses objects bundles needs q → ⊥
  none-missed none q walk misses = none q (list.all q walk) misses

  pub all-held : IsLeastAmong (Misses objects bundles needs) places None → (q : Place) → Contains places q → object_at objects q ≡ None → ⊥
  all-held none q here empty = none q here (inl empty)

  pub unfolded : (items : List Item2) → IsLeastAmong (Misses objects bundles needs) places None → Picks objects places items → IsUnfolding objects bundles needs start items
  unfolded items none picks = record {
    whole = none-missed none;
    lists = IsListOf-same (TakenOf objects places) (Taken objects bundles needs start) to from items picks;
  }
    where
      to : (i : Item2) → TakenOf objects places i → Taken objects bundles needs start i
      to i (q, here, (o, at, is), least) = (q, list.within q here, o, at, is, λ s walk same. least s (list.all s walk) same)

      from : (i : Item2) → Taken objects bundles needs start i → TakenOf objects places i
      from i (q, walk, o, at, is, least) = (q, list.all q walk, (o, at, is), λ s here same. least s (list.within s here) same)

-- ---- an asset row

pub reads-all-of : (objects : BundleNo → List ℕ → Option Object) (bundles : List BundleRow) (needs : List BundleNo) (a : AssetRow) (home : BundleNo) (guid : Guid) → slice_get a.deps 0 ≡ Some home → Spells a.id guid.0
    → (r : Result (List Item2) ReadErr) → Unfolds objects bundles needs (let start : Place = record { guid = guid; bundle = home.0 } in start) r → ReadsAllOfAsset objects bundles needs a r
reads-all-of objects bundles needs a home guid first spells (Ok items) is = (home, first, record { guid = guid; bundle = home.0 }, (spells, refl), is)
reads-all-of objects bundles needs a home guid first spells (Err (Absent b)) is = (home, first, inr (record { guid = guid; bundle = home.0 }, (spells, refl), is))
reads-all-of objects bundles needs a home guid first spells (Err NoMemory) is = tt
reads-all-of objects bundles needs a home guid first spells (Err NoHandle) is = absurd is
reads-all-of objects bundles needs a home guid first spells (Err NoAsset) is = absurd is
reads-all-of objects bundles needs a home guid first spells (Err Pending) is = absurd is
reads-all-of objects bundles needs a home guid first spells (Err (Failed b cause)) is = absurd is
