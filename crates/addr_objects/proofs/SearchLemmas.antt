-- A search along the list of what it found: one more place, the places to which one leads, and the end.
use Rattle.std.proofs.Common.{◌≡◌, ◌<◌, ◌≤◌, ◌+◌, ◌⊎◌, inl, inr, ℕ, Bool, true, false, not, cond, List, [], ◌∷◌, ◌++◌, length, get_or, take, Some, Option, refl, ap, subst, sym, ◌∙◌, arith, append-nil}
use Rattle.std.proofs.lemmas.Bool.{false≢true, cases_lt}
use Rattle.std.proofs.lemmas.List.{append_assoc, take_more}
use Rattle.std.proofs.lemmas.List.Elements.{Contains-append_left, Contains-append_cases, Contains-push, Contains-push_cases}
use Rattle.std.proofs.lemmas.Option.{slice_get-get_or, slice_get_within}
use Rattle.std.specs.BTreeSet.{BTreeSet, contains, Updates}
use Rattle.std.specs.BTreeMap.{is_at}
use Rattle.std.specs.List.{Contains, list_any, slice_get}
use Rattle.std.specs.Ordering.{eq_by_cmp}
use Rattle.addr_base.specs.Images.{Object}
use Rattle.addr_base.specs.declared.ids.BundleNo.{BundleNo}
use Rattle.addr_base.specs.declared.images.RefTo.{RefTo}
use Rattle.addr_locate.specs.declared.rows.BundleRow.{BundleRow}
use Rattle.addr_walks.proofs.Lists.{Contains-here, Contains-cases, Contains-none, Contains-slice_get, slice_get-Contains, slice_get-append_left}
use Rattle.addr_walks.proofs.Walking.{kept-along}
use Rattle.addr_walks.specs.Walks.{Leads}
use Rattle.addr_walks.specs.Walks.Leads.{stays, goes}
use Rattle.addr_history.specs.Unfolding.{Jumps, LeadsTo, RefersTo, object_at}
use Rattle.addr_history.specs.declared.reading.Place.{Place}
use Rattle.addr_objects.specs.within.Search.{Grows, Searches, Tracks, place_cmp}
use Rattle.addr_objects.proofs.HomeLemmas.{one-home}
use Rattle.addr_objects.proofs.PlaceOrder.{place-same, place_ties}

-- ---- one place

-- what a set has after one more place
after-one : (old new : BTreeSet Place) (place q : Place) → Updates place_cmp old new place true → contains place_cmp new q ≡ true → (place ≡ q) ⊎ (contains place_cmp old q ≡ true)
after-one old new place q updates has = by_test (eq_by_cmp place_cmp place q) refl (sym (updates.0 q) ∙ has)
  where
    by_test : (t : Bool) → eq_by_cmp place_cmp place q ≡ t → cond t true (contains place_cmp old q) ≡ true → (place ≡ q) ⊎ (contains place_cmp old q ≡ true)
    by_test true is has = inl (place-same place q (place_ties place q ∙ is))
    by_test false is has = inr has

pub tracks-new : (old new : BTreeSet Place) (found : List Place) (place : Place) → Tracks old found → Updates place_cmp old new place true → Tracks new (found ++ place ∷ [])
tracks-new old new found place tracks updates q has = by_case (after-one old new place q updates has)
  where
    by_case : (place ≡ q) ⊎ (contains place_cmp old q ≡ true) → Contains (found ++ place ∷ []) q
    by_case (inl same) = subst (Contains (found ++ place ∷ [])) same (Contains-push found place)
    by_case (inr was) = Contains-append_left found (place ∷ []) q (tracks q was)

pub tracks-known : (old new : BTreeSet Place) (found : List Place) (place : Place) → Tracks old found → Updates place_cmp old new place true → Contains found place → Tracks new found
tracks-known old new found place tracks updates here q has = by_case (after-one old new place q updates has)
  where
    by_case : (place ≡ q) ⊎ (contains place_cmp old q ≡ true) → Contains found q
    by_case (inl same) = subst (Contains found) same here
    by_case (inr was) = tracks q was

pub grows-new : (found : List Place) (place : Place) → Grows (λ q. place ≡ q) found (found ++ place ∷ [])
grows-new found place = record {
  added = place ∷ [];
  is = refl;
  only = λ q here. by_case q (Contains-cases place [] q here);
  each = λ q same. subst (Contains (found ++ place ∷ [])) same (Contains-push found place);
}
  where
    by_case : (q : Place) → (place ≡ q) ⊎ Contains [] q → place ≡ q
    by_case q (inl same) = same
    by_case q (inr none) = absurd (Contains-none q none)

-- nothing is added where each of the places was found before
pub grows-none : (these : Place → Type 0) (found : List Place) → ((q : Place) → these q → Contains found q) → Grows these found found
grows-none these found each = record {
  added = [];
  is = sym (append-nil found);
  only = λ q here. absurd (Contains-none q here);
  each = each;
}

pub tracks-none : (seen : BTreeSet Place) (found : List Place) → seen.keys ≡ [] → Tracks seen found
tracks-none seen found empty q has = absurd (false≢true (sym (ap (list_any (is_at (place_cmp q))) empty) ∙ has))

pub grows-known : (found : List Place) (place : Place) → Contains found place → Grows (λ q. place ≡ q) found found
grows-known found place here = grows-none (λ q. place ≡ q) found (λ q same. subst (Contains found) same here)

pub was-there : (has added : Bool) → added ≡ not has → added ≡ false → has ≡ true
was-there true added is none = refl
was-there false added is none = absurd (false≢true (sym none ∙ is))

-- ---- more than one

pub kept : (these : Place → Type 0) (old new : List Place) → Grows these old new → (q : Place) → Contains old q → Contains new q
kept these old new grows q here = subst (λ (xs : List Place). Contains xs q) (sym grows.is) (Contains-append_left old grows.added q here)

pub came : (these : Place → Type 0) (old new : List Place) → Grows these old new → (q : Place) → Contains new q → Contains old q ⊎ these q
came these old new grows q here = by_case (Contains-append_cases old grows.added q (subst (λ (xs : List Place). Contains xs q) grows.is here))
  where
    by_case : Contains old q ⊎ Contains grows.added q → Contains old q ⊎ these q
    by_case (inl was) = inl was
    by_case (inr one) = inr (grows.only q one)

-- one set of places, and then another one
pub grows-join : (these those all : Place → Type 0) (old mid new : List Place) → Grows these old mid → Grows those mid new
    → ((q : Place) → these q → all q) → ((q : Place) → those q → all q) → ((q : Place) → all q → these q ⊎ those q) → Grows all old new
grows-join these those all old mid new first second from also split = record {
  added = first.added ++ second.added;
  is = second.is ∙ (ap (λ (xs : List Place). xs ++ second.added) first.is ∙ append_assoc old first.added second.added);
  only = λ q here. by_part q (Contains-append_cases first.added second.added q here);
  each = λ q is. by_side q (split q is);
}
  where
    by_part : (q : Place) → Contains first.added q ⊎ Contains second.added q → all q
    by_part q (inl here) = from q (first.only q here)
    by_part q (inr here) = also q (second.only q here)

    by_side : (q : Place) → these q ⊎ those q → Contains new q
    by_side q (inl is) = kept those mid new second q (first.each q is)
    by_side q (inr is) = second.each q is

-- the same places, said otherwise
pub grows-same : (these all : Place → Type 0) (old new : List Place) → ((q : Place) → these q → all q) → ((q : Place) → all q → these q) → Grows these old new → Grows all old new
grows-same these all old new to from grows = record { added = grows.added; is = grows.is; only = λ q here. to q (grows.only q here); each = λ q is. grows.each q (from q is) }

module _ (bundles : List BundleRow) (needs : List BundleNo) (b : ℕ) where
  -- the one reference of a list
  only-ref : (r : RefTo) (q : Place) → RefersTo bundles needs b (r ∷ []) q → (r.guid ≡ q.guid) × LeadsTo bundles needs b r.home q.bundle
  only-ref r q (s, here, guid, leads) = by_case (Contains-cases r [] s here)
    where
      by_case : (r ≡ s) ⊎ Contains [] s → (r.guid ≡ q.guid) × LeadsTo bundles needs b r.home q.bundle
      by_case (inl same) = (ap (λ (x : RefTo). x.guid) same ∙ guid, subst (λ (x : RefTo). LeadsTo bundles needs b x.home q.bundle) (sym same) leads)
      by_case (inr none) = absurd (Contains-none s none)

  -- a reference leads to one place
  pub one-place : (r : RefTo) (c : ℕ) → LeadsTo bundles needs b r.home c → (q : Place) → RefersTo bundles needs b (r ∷ []) q → (let p : Place = record { guid = r.guid; bundle = c } in p) ≡ q
  one-place r c leads q refers =
      let to = only-ref r q refers in
      let bundle : c ≡ q.bundle = one-home bundles needs b r.home c q.bundle leads to.1 in
      let guid = to.0 in
      λ k. record { guid = guid k; bundle = bundle k }

  pub is-place : (r : RefTo) (c : ℕ) → LeadsTo bundles needs b r.home c → (q : Place) → (let p : Place = record { guid = r.guid; bundle = c } in p) ≡ q → RefersTo bundles needs b (r ∷ []) q
  is-place r c leads q same = subst (RefersTo bundles needs b (r ∷ [])) same (r, Contains-here r [], refl, leads)

  pub no-place : (r : RefTo) → ((c : ℕ) → LeadsTo bundles needs b r.home c → ⊥) → (q : Place) → RefersTo bundles needs b (r ∷ []) q → ⊥
  no-place r none q refers = none q.bundle (only-ref r q refers).1

  -- one reference more
  pub refs-more : (refs : List RefTo) (k : ℕ) (d : RefTo) (old mid new : List Place) → k < length refs
      → Grows (RefersTo bundles needs b (take k refs)) old mid → Grows (RefersTo bundles needs b (get_or refs k d ∷ [])) mid new → Grows (RefersTo bundles needs b (take (k + 1) refs)) old new
  refs-more refs k d old mid new within first second =
      let more = take_more refs k d within in
      subst (λ (xs : List RefTo). Grows (RefersTo bundles needs b xs) old new) (sym more)
      (grows-join (RefersTo bundles needs b (take k refs)) (RefersTo bundles needs b (get_or refs k d ∷ [])) (RefersTo bundles needs b (take k refs ++ get_or refs k d ∷ [])) old mid new first second
      (λ q (r, here, guid, leads). (r, Contains-append_left (take k refs) (get_or refs k d ∷ []) r here, guid, leads))
      (λ q (r, here, guid, leads). (r, last r (Contains-cases (get_or refs k d) [] r here), guid, leads))
      (λ q (r, here, guid, leads). split q r guid leads (Contains-push_cases (take k refs) (get_or refs k d) r here)))
    where
      last : (r : RefTo) → (get_or refs k d ≡ r) ⊎ Contains [] r → Contains (take k refs ++ get_or refs k d ∷ []) r
      last r (inl same) = subst (Contains (take k refs ++ get_or refs k d ∷ [])) same (Contains-push (take k refs) (get_or refs k d))
      last r (inr none) = absurd (Contains-none r none)

      split : (q : Place) (r : RefTo) → r.guid ≡ q.guid → LeadsTo bundles needs b r.home q.bundle → Contains (take k refs) r ⊎ (get_or refs k d ≡ r) → RefersTo bundles needs b (take k refs) q ⊎ RefersTo bundles needs b (get_or refs k d ∷ []) q
      split q r guid leads (inl here) = inl (r, here, guid, leads)
      split q r guid leads (inr same) = inr (r, subst (Contains (get_or refs k d ∷ [])) same (Contains-here (get_or refs k d) []), guid, leads)

  pub refs-none : (refs : List RefTo) (found : List Place) → Grows (RefersTo bundles needs b (take 0 refs)) found found
  refs-none refs found = grows-none (RefersTo bundles needs b []) found (λ q (r, here, guid, leads). absurd (Contains-none r here))

-- ---- the whole search

module _ (step : Place → Place → Type 0) (start : Place) where
  pub searches-start : (found : List Place) → Grows (λ q. start ≡ q) [] found → Searches step start found 0
  searches-start found grows = record {
    begins = grows.each start refl;
    led = λ q here. by_case q (came (λ q. start ≡ q) [] found grows q here);
    on = λ i q s less at next. absurd (omega (arith, less));
  }
    where
      by_case : (q : Place) → Contains [] q ⊎ (start ≡ q) → Leads step start q
      by_case q (inl none) = absurd (Contains-none q none)
      by_case q (inr same) = subst (Leads step start) same stays

  pub searches-more : (found new : List Place) (n : ℕ) (place : Place) → slice_get found n ≡ Some place → Searches step start found n → Grows (step place) found new → Searches step start new (n + 1)
  searches-more found new n place at searches grows = record {
    begins = kept (step place) found new grows start searches.begins;
    led = λ q here. by_case q (came (step place) found new grows q here);
    on = λ i q s less there next. by_place i q s next there (cases_lt i n) less;
  }
    where
      by_case : (q : Place) → Contains found q ⊎ step place q → Leads step start q
      by_case q (inl was) = searches.led q was
      by_case q (inr next) = goes (searches.led place (Contains-slice_get found n place at)) next

      old-at : (i : ℕ) (q : Place) → i < length found → slice_get new i ≡ Some q → slice_get found i ≡ Some q
      old-at i q within there =
          let here : slice_get found i ≡ Some (get_or found i q) = slice_get-get_or found i q within in
          let also : slice_get new i ≡ Some (get_or found i q) = ap (λ (xs : List Place). slice_get xs i) grows.is ∙ slice_get-append_left found grows.added i (get_or found i q) here in
          here ∙ (sym also ∙ there)

      by_place : (i : ℕ) (q s : Place) → step q s → slice_get new i ≡ Some q → (i < n) ⊎ (n ≤ i) → i < n + 1 → Contains new s
      by_place i q s next there (inl less) most =
          let within = slice_get_within found n place at in
          kept (step place) found new grows s (searches.on i q s less (old-at i q (omega (arith, within, less)) there) next)
      by_place i q s next there (inr least) most =
          let same : i ≡ n = omega (arith, least, most) in
          let within = slice_get_within found n place at in
          let here : slice_get found n ≡ Some q = old-at n q within (subst (λ j. slice_get new j ≡ Some q) same there) in
          let one : q ≡ place = cc (sym here ∙ at) in
          grows.each s (subst (λ w. step w s) one next)

  -- at the end exactly what walks lead to was found
  pub searches-end : (found : List Place) (n : ℕ) → length found ≤ n → Searches step start found n → (q : Place) → Leads step start q → Contains found q
  searches-end found n all searches q walk = kept-along step (Contains found) on start q searches.begins walk
    where
      on : (x y : Place) → Contains found x → step x y → Contains found y
      on x y here next =
          let at = slice_get-Contains found x here in
          let within = slice_get_within found at.0 x at.1 in
          searches.on at.0 x y (omega (arith, within, all)) at.1 next

-- ---- the places to which an object refers

pub jumps-grow : (objects : BundleNo → List ℕ → Option Object) (bundles : List BundleRow) (needs : List BundleNo) (place : Place) (old new : List Place) (o : Object) → object_at objects place ≡ Some o
    → Grows (RefersTo bundles needs place.bundle o.refs) old new → Grows (Jumps objects bundles needs place) old new
jumps-grow objects bundles needs place old new o at grows = grows-same (RefersTo bundles needs place.bundle o.refs) (Jumps objects bundles needs place) old new (λ q refers. (o, at, refers)) from grows
  where
    from : (q : Place) → Jumps objects bundles needs place q → RefersTo bundles needs place.bundle o.refs q
    from q (x, there, refers) = (let same : x ≡ o = cc (sym there ∙ at) in subst (λ (y : Object). RefersTo bundles needs place.bundle y.refs q) same refers)
