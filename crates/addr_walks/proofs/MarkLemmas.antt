-- A search over rows of numbers: what is marked is what is listed, and at its end the list holds exactly what is led to.
use Rattle.std.proofs.Common.{◌≡◌, ℕ, ◌+◌, ◌<◌, ◌≤◌, ◌⊎◌, inl, inr, Bool, true, false, ◌||◌, cond, nat_eq, List, [], ◌∷◌, ◌++◌, length, get_or, set, take, replicate, Some, refl, sym, ap, subst, ◌∙◌, arith}
use Rattle.std.proofs.lemmas.Bool.{false≢true, cases_eq, cases_lt, eqb-true, false_from_ne_true}
use Rattle.std.proofs.lemmas.Cmp.{nat_eq_equiv}
use Rattle.std.proofs.lemmas.List.{get_or-set_same, get_or-set_other, get_or_append_left, get_or_past, get_or-replicate, get_or_default, length-replicate, take_more, append_assoc, append-nil}
use Rattle.std.proofs.lemmas.List.Elements.{Contains-append_left, Contains-push, Contains-push_cases, Contains-append_cases, Contains-get_or}
use Rattle.std.proofs.lemmas.Map.Keys.{IsDistinct-push}
use Rattle.std.proofs.lemmas.Map.Steps.{length-le_from_distinct_below}
use Rattle.std.proofs.lemmas.Option.{slice_get_read}
use Rattle.std.specs.List.{Contains, IsDistinct, list_any, slice_get, All}
use Rattle.addr_walks.specs.Marks.{Tracks, HasLeft, with_mark, Grows}
use Rattle.addr_walks.specs.Rows.{Edge, LedTo, Holds}
use Rattle.addr_walks.specs.Walks.Leads.{stays, goes}
use Rattle.addr_walks.proofs.Lists.{Contains-here, Contains-later, Contains-none}
use Rattle.addr_walks.proofs.Walking.{kept-along}

-- ---- marks and the list beside them

pub any-Contains : (c : ℕ) (xs : List ℕ) → list_any (nat_eq c) xs ≡ true → Contains xs c
any-Contains c [] is = absurd (false≢true is)
any-Contains c (x ∷ xs) is = by_test (nat_eq c x) refl (any-Contains c xs) is
  where
    by_test : (t : Bool) → nat_eq c x ≡ t → (list_any (nat_eq c) xs ≡ true → Contains xs c) → (t || list_any (nat_eq c) xs) ≡ true → Contains (x ∷ xs) c
    by_test true same more passes = subst (Contains (x ∷ xs)) (sym (eqb-true c x same)) (Contains-here x xs)
    by_test false differs more passes = Contains-later x xs c (more passes)

-- where nothing is marked, the empty list is that of what is marked
pub tracks-none : (marks : List Bool) → ((c : ℕ) → get_or marks c false ≡ true → ⊥) → Tracks marks []
unfolding IsDistinct
tracks-none marks none = record { once = tt; same = λ c. (λ marked. absurd (none c marked), λ here. absurd (Contains-none c here)) }

pub tracks-fresh : (n : ℕ) → Tracks (replicate n false) []
tracks-fresh n = tracks-none (replicate n false) (λ c marked. by_place c (cases_lt c n) marked)
  where
    by_place : (c : ℕ) → (c < n) ⊎ (n ≤ c) → get_or (replicate n false) c false ≡ true → ⊥
    by_place c (inl within) marked = false≢true (sym (get_or-replicate n c false false within) ∙ marked)
    by_place c (inr past) marked = false≢true (sym (get_or_past (replicate n false) c false (simp length-replicate past)) ∙ marked)

-- one more number is marked
pub tracks-marked : (marks : List Bool) (queue : List ℕ) (c : ℕ) → c < length marks → get_or marks c false ≡ false → Tracks marks queue → Tracks (set marks c true) (queue ++ c ∷ [])
tracks-marked marks queue c within fresh tracks = record {
  once = IsDistinct-push nat_eq_equiv queue c tracks.once (false_from_ne_true (list_any (nat_eq c) queue) (λ any. absent (any-Contains c queue any)));
  same = λ d. (to d (cases_eq d c), λ here. from d (Contains-push_cases queue c d here));
}
  where
    absent : Contains queue c → ⊥
    absent here = false≢true (sym fresh ∙ (tracks.same c).1 here)

    to : (d : ℕ) → (d ≡ c) ⊎ (d ≡ c → ⊥) → get_or (set marks c true) d false ≡ true → Contains (queue ++ c ∷ []) d
    to d (inl is) marked = subst (Contains (queue ++ c ∷ [])) (sym is) (Contains-push queue c)
    to d (inr other) marked = Contains-append_left queue (c ∷ []) d ((tracks.same d).0 (sym (get_or-set_other marks c d true false other) ∙ marked))

    at : (d : ℕ) → d ≡ c → get_or (set marks c true) d false ≡ true
    at d is = ap (λ e. get_or (set marks c true) e false) is ∙ get_or-set_same marks c true false within

    from : (d : ℕ) → Contains queue d ⊎ (c ≡ d) → get_or (set marks c true) d false ≡ true
    from d (inl here) = apart d here (cases_eq d c)
      where
        apart : (e : ℕ) → Contains queue e → (e ≡ c) ⊎ (e ≡ c → ⊥) → get_or (set marks c true) e false ≡ true
        apart e there (inl is) = at e is
        apart e there (inr other) = get_or-set_other marks c e true false other ∙ (tracks.same e).1 there
    from d (inr is) = at d (sym is)

-- what is listed is below the marks' length
pub listed-below : (marks : List Bool) (queue : List ℕ) → Tracks marks queue → (c : ℕ) → Contains queue c → c < length marks
listed-below marks queue tracks c here = by_place (cases_lt c (length marks))
  where
    by_place : (c < length marks) ⊎ (length marks ≤ c) → c < length marks
    by_place (inl within) = within
    by_place (inr past) = absurd (false≢true (sym (get_or_past marks c false past) ∙ (tracks.same c).1 here))

Contains-any : (c : ℕ) (xs : List ℕ) → list_any (nat_eq c) xs ≡ true → (n : ℕ) → ((d : ℕ) → Contains xs d → d < n) → c < n
Contains-any c xs any n below = below c (any-Contains c xs any)

pub listed-at : (marks : List Bool) (queue : List ℕ) (k c : ℕ) → Tracks marks queue → k < length queue → c ≡ get_or queue k c → c < length marks
listed-at marks queue k c tracks within read = listed-below marks queue tracks c (k, within, sym read)

pub all-listed-below : (marks : List Bool) (queue : List ℕ) → Tracks marks queue → All (λ c. c < length marks) queue
all-listed-below marks queue tracks k d within = listed-below marks queue tracks (get_or queue k d) (Contains-get_or queue k d within)

-- where all listed marks were taken away nothing is marked
pub tracks-cleared : (old new : List Bool) (queue : List ℕ) → Tracks old queue → HasLeft old queue new → Tracks new []
tracks-cleared old new queue tracks left = tracks-none new (λ c marked. (left c marked).1 ((tracks.same c).0 (left c marked).0))

-- so the list is no longer than the marks
pub listed-few : (marks : List Bool) (queue : List ℕ) → Tracks marks queue → length queue ≤ length marks
listed-few marks queue tracks =
    length-le_from_distinct_below queue (length marks) tracks.once (λ q any. Contains-any q queue any (length marks) (listed-below marks queue tracks))

-- ---- one list of numbers is marked

pub grows-none : (cs old : List ℕ) → Grows (take 0 cs) old old
grows-none cs old = record { added = []; is = sym (append-nil old); only = λ c here. absurd (Contains-none c here); each = λ c here. absurd (Contains-none c here) }

pub grows-more : (cs old now new : List ℕ) (marks : List Bool) (i c : ℕ) → i < length cs → c ≡ get_or cs i c → Tracks marks now → new ≡ with_mark marks now c → Grows (take i cs) old now → Grows (take (i + 1) cs) old new
grows-more cs old now new marks i c within read tracks is grown = by_test (get_or marks c false) refl is
  where
    upto : take (i + 1) cs ≡ take i cs ++ c ∷ []
    upto = take_more cs i c within ∙ ap (λ x. take i cs ++ x ∷ []) (sym read)

    earlier : (d : ℕ) → Contains (take i cs) d → Contains (take (i + 1) cs) d
    earlier d here = subst (λ xs. Contains xs d) (sym upto) (Contains-append_left (take i cs) (c ∷ []) d here)

    latest : Contains (take (i + 1) cs) c
    latest = subst (λ xs. Contains xs c) (sym upto) (Contains-push (take i cs) c)

    each : (d : ℕ) → ((e : ℕ) → Contains now e → Contains new e) → Contains new c → Contains (take (i + 1) cs) d → Contains new d
    each d kept added here = by_place (Contains-push_cases (take i cs) c d (subst (λ xs. Contains xs d) upto here))
      where
        by_place : Contains (take i cs) d ⊎ (c ≡ d) → Contains new d
        by_place (inl there) = kept d (grown.each d there)
        by_place (inr same) = subst (Contains new) same added

    by_test : (t : Bool) → get_or marks c false ≡ t → new ≡ cond t now (now ++ c ∷ []) → Grows (take (i + 1) cs) old new
    by_test true marked same = record {
      added = grown.added;
      is = same ∙ grown.is;
      only = λ d here. earlier d (grown.only d here);
      each = λ d here. each d (λ e there. subst (λ xs. Contains xs e) (sym same) there) (subst (λ xs. Contains xs c) (sym same) ((tracks.same c).0 marked)) here;
    }
    by_test false fresh same = record {
      added = grown.added ++ c ∷ [];
      is = same ∙ (ap (λ xs. xs ++ c ∷ []) grown.is ∙ append_assoc old grown.added (c ∷ []));
      only = λ d here. only d (Contains-push_cases grown.added c d here);
      each = λ d here. each d (λ e there. subst (λ xs. Contains xs e) (sym same) (Contains-append_left now (c ∷ []) e there)) (subst (λ xs. Contains xs c) (sym same) (Contains-push now c)) here;
    }
      where
        only : (d : ℕ) → Contains grown.added d ⊎ (c ≡ d) → Contains (take (i + 1) cs) d
        only d (inl there) = earlier d (grown.only d there)
        only d (inr is') = subst (Contains (take (i + 1) cs)) is' latest

-- ---- the search

-- how far a search has come: all that was found is led to, and what the first ones lead to was found
pub record Searches (rows : List (List ℕ)) (seeds queue : List ℕ) (done : ℕ) : Type 0 where
  pub sound : (c : ℕ) → Contains queue c → LedTo rows seeds c
  pub start : (s : ℕ) → Contains seeds s → Contains queue s
  pub closed : (k c : ℕ) → k < done → Edge rows (get_or queue k 0) c → Contains queue c

-- a row that was read at its place
pub row_at : {X : Type 0} (rows : List X) (b : ℕ) (item row : X) → b < length rows → row ≡ item → item ≡ get_or rows b item → slice_get rows b ≡ Some row
row_at rows b item row within is read = slice_get_read rows (length rows) b item refl within read ∙ ap Some (sym is)

pub searches-start : (rows : List (List ℕ)) (seeds new : List ℕ) → Grows seeds [] new → Searches rows seeds new 0
searches-start rows seeds new grown = record {
  sound = λ c here. (c, grown.only c (subst (λ xs. Contains xs c) grown.is here), stays);
  start = grown.each;
  closed = λ k c below edge. absurd (omega arith);
}

pub searches-more : (rows : List (List ℕ)) (seeds queue new row : List ℕ) (done b : ℕ) → done < length queue → b ≡ get_or queue done b → slice_get rows b ≡ Some row → Grows row queue new
    → Searches rows seeds queue done → Searches rows seeds new (done + 1)
searches-more rows seeds queue new row done b within read at grown search = record {
  sound = λ c here. sound c (Contains-append_cases queue grown.added c (subst (λ xs. Contains xs c) grown.is here));
  start = λ s here. kept s (search.start s here);
  closed = λ k c below edge. closed k c (cases_lt k done) below edge;
}
  where
    kept : (c : ℕ) → Contains queue c → Contains new c
    kept c here = subst (λ xs. Contains xs c) (sym grown.is) (Contains-append_left queue grown.added c here)

    led : LedTo rows seeds b
    led = search.sound b (done, within, sym read)

    sound : (c : ℕ) → Contains queue c ⊎ Contains grown.added c → LedTo rows seeds c
    sound c (inl here) = search.sound c here
    sound c (inr here) = (led.0, led.1, goes led.2 (row, at, grown.only c here))

    same_place : (k : ℕ) → k < length queue → get_or new k 0 ≡ get_or queue k 0
    same_place k small = ap (λ xs. get_or xs k 0) grown.is ∙ get_or_append_left queue grown.added 0 k small

    at_done : get_or new done 0 ≡ b
    at_done = same_place done within ∙ (get_or_default queue done 0 b within ∙ sym read)

    closed : (k c : ℕ) → (k < done) ⊎ (done ≤ k) → k < done + 1 → Edge rows (get_or new k 0) c → Contains new c
    closed k c (inl before) below edge = kept c (search.closed k c before (subst (λ x. Edge rows x c) (same_place k (omega arith)) edge))
    closed k c (inr late) below edge =
        let here : k ≡ done = omega arith in
        let from = subst (λ x. Edge rows x c) (ap (λ j. get_or new j 0) here ∙ at_done) edge in
        let same : from.0 ≡ row = cc (from.1, at) in
        grown.each c (subst (λ xs. Contains xs c) same from.2)

pub searches-end : (rows : List (List ℕ)) (seeds queue : List ℕ) (done : ℕ) → length queue ≤ done → Searches rows seeds queue done → Holds queue (LedTo rows seeds)
searches-end rows seeds queue done all search = λ c. (search.sound c, λ led. kept-along (Edge rows) (Contains queue) step led.0 c (search.start led.0 led.1) led.2)
  where
    step : (x y : ℕ) → Contains queue x → Edge rows x y → Contains queue y
    step x y (k, within, is) edge = search.closed k y (omega arith) (subst (λ z. Edge rows z y) (sym (get_or_default queue k 0 x within ∙ is)) edge)
