-- What a read is answered, from what is kept.
use Rattle.std.proofs.Common.{◌≡◌, ◌⊎◌, inl, inr, ℕ, ◌+◌, ◌<◌, zero, suc, Bool, true, false, ◌&&◌, ◌||◌, cond, eqb, ltb, take, List, [], ◌∷◌, length, Option, Some, None, Result, Ok, Err, slice_get, get_or, refl, sym, ◌∙◌, ap, arith, find, if◌then◌else◌}
use Rattle.std.proofs.lemmas.Bool.{false≢true, cases_Bool, cases_eq, and_parts, eq-eqb, ne_eqb, ltb-true}
use Rattle.std.proofs.lemmas.List.Folds.{list_any-append}
use Rattle.std.proofs.lemmas.Option.{slice_get_read}
use Rattle.std.specs.List.{flat_map, list_all, list_any}
use Rattle.std.specs.Prelude.{unwrap_or}
use Rattle.std.specs.Option.{option_map_or}
use Rattle.addr_base.specs.Images.{Object}
use Rattle.addr_base.specs.declared.ids.BundleNo.{BundleNo}
use Rattle.addr_base.specs.declared.ids.Digest.{Digest}
use Rattle.addr_base.specs.declared.ids.OpId.{OpId}
use Rattle.addr_base.specs.declared.ids.RowNo.{RowNo}
use Rattle.addr_locate.proofs.FoundLemmas.{any-distinct, merged-within}
use Rattle.addr_locate.specs.Merge.{merged, deps_of, deps_of_row}
use Rattle.addr_locate.specs.Rows.{Rows, are_bundles, has_dep, has_sound_deps, no_repeats}
use Rattle.addr_locate.specs.declared.rows.AssetRow.{AssetRow}
use Rattle.addr_history.proofs.Ranges.{Sound, asked_below}
use Rattle.addr_history.specs.Answers.{status_reply}
use Rattle.addr_history.specs.Counts.{is_unreleased, needs_of_op, rows_of_op}
use Rattle.addr_history.specs.Events.{is_in, is_load_of, needs_of, needs_of_event, rows_of_ask, rows_of_event}
use Rattle.addr_history.specs.Legal.{Legal}
use Rattle.addr_history.specs.Reading.{Reads, MayRead, ready_row, row_reply}
use Rattle.addr_history.specs.Places.{is_resident}
use Rattle.addr_history.specs.Status.{first_failure, since_load, status_of}
use Rattle.addr_history.specs.declared.answers.NoHandle.{NoHandle as NoHandleErr}
use Rattle.addr_history.specs.declared.answers.OpStatus.{OpStatus}
use Rattle.addr_history.specs.declared.answers.OpStatus.TheVariants as status
use Rattle.addr_history.specs.declared.event.Event.{Event}
use Rattle.addr_history.specs.declared.event.Event.TheVariants.{Load, Acquire, Release, Take, Done, Fail, Close}
use Rattle.addr_history.specs.declared.reading.ReadErr.{ReadErr}
use Rattle.addr_history.specs.declared.reading.ReadErr.TheVariants.{NoHandle, NoAsset, Pending, Failed, Absent, NoMemory}
use Rattle.addr_core.specs.Machine.{HasImages, ReadyHave}
use Rattle.addr_core.specs.declared.wanted.Wanted.{Wanted}
use Rattle.addr_core.specs.within.Kept.{AreWanted}
use Rattle.addr_objects.specs.Objects.{ReadsAsset}
use Rattle.addr_objects.proofs.Filled.{filled}
use Rattle.addr_core.specs.within.Wanting.{wanted_at}
use Rattle.addr_core.proofs.Advance.{machine, images_length}
use Rattle.addr_queue.proofs.Changing.{slice_there}
use Rattle.addr_core.proofs.HeldImages.{held_place, images_held}
use Rattle.addr_core.proofs.WantedSteps.{wanted_are}

abbrev no_status : Result OpStatus NoHandleErr
no_status = Err (record {})

-- the row that is found is the one that the history says
pub row_is : (rows : Rows) (limit : ℕ) (h : List Event) → Legal rows limit h → (wanted : List Wanted) → AreWanted rows h wanted → (op : OpId) (i : ℕ) (found : Result OpStatus NoHandleErr) (row : Option RowNo) → found ≡ status_reply rows h op → row ≡ slice_get (wanted_at wanted op).rows i → ready_row found row ≡ row_reply rows h op i
unfolding row_reply status_reply
row_is rows limit h legal wanted are op i found row is there = elim (cases_Bool (is_unreleased h op)) [
  | inl now ↦ ap (λ f. ready_row f row) is ∙ ap (ready_row (status_reply rows h op)) (there ∙ ap (λ (w : Wanted). slice_get w.rows i) (wanted_are rows limit h legal wanted are op now))
  | inr gone ↦
      let none : status_reply rows h op ≡ no_status = ap (λ t. let r : Result OpStatus NoHandleErr = if t then Ok (status_of rows h op) else no_status in r) gone in
      ap (λ f. ready_row f row) (is ∙ none) ∙ sym (ap (λ f. ready_row f (slice_get (rows_of_op rows h op) i)) none)
]

-- a refusal that looks at no image is one of four
pub no_absent : (found : Result OpStatus NoHandleErr) (row : Option RowNo) (b : BundleNo) → ready_row found row ≡ Err (Absent b) → ⊥
no_absent (Err none) row b e = cc
no_absent (Ok found) None b e = cc
no_absent (Ok status.Pending) (Some row) b e = cc
no_absent (Ok status.Ready) (Some row) b e = cc
no_absent (Ok (status.Failed c cause)) (Some row) b e = cc

pub no_want : (found : Result OpStatus NoHandleErr) (row : Option RowNo) → ready_row found row ≡ Err NoMemory → ⊥
no_want (Err none) row e = cc
no_want (Ok found) None e = cc
no_want (Ok status.Pending) (Some row) e = cc
no_want (Ok status.Ready) (Some row) e = cc
no_want (Ok (status.Failed c cause)) (Some row) e = cc

pub refused : (objects : BundleNo → List ℕ → Option Object) (rows : Rows) (h : List Event) (op : OpId) (i : ℕ) (e : ReadErr) → row_reply rows h op i ≡ Err e → Reads objects rows h op i (Err e)
unfolding row_reply
refused objects rows h op i NoHandle is = is
refused objects rows h op i NoAsset is = is
refused objects rows h op i Pending is = is
refused objects rows h op i (Failed b cause) is = is
refused objects rows h op i (Absent b) is = absurd (no_absent (status_reply rows h op) (slice_get (rows_of_op rows h op) i) b is)
refused objects rows h op i NoMemory is = absurd (no_want (status_reply rows h op) (slice_get (rows_of_op rows h op) i) is)

-- a row that may be read is among those of its operation
listed : (found : Result OpStatus NoHandleErr) (o : Option RowNo) (row : RowNo) → ready_row found o ≡ Ok row → o ≡ Some row
listed (Err none) o row e = cc
listed (Ok found) None row e = cc
listed (Ok status.Pending) (Some r) row e = cc
listed (Ok status.Ready) (Some r) row e = cc
listed (Ok (status.Failed c cause)) (Some r) row e = cc

-- what passes everywhere passes at a place
passes_at : {X : Type 0} (p : X → Bool) (xs : List X) (i : ℕ) (x : X) → list_all p xs ≡ true → slice_get xs i ≡ Some x → p x ≡ true
passes_at p [] i x all at = cc
passes_at p (y ∷ xs) zero x all at = let same : y ≡ x = cc in ap p (sym same) ∙ (and_parts (p y) (list_all p xs) all).0
passes_at p (y ∷ xs) (suc i) x all at = passes_at p xs i x (and_parts (p y) (list_all p xs) all).1 at

taken_at : {X : Type 0} (xs : List X) (i : ℕ) (x : X) → slice_get (take 1 xs) i ≡ Some x → slice_get xs i ≡ Some x
taken_at [] i x at = cc
taken_at (y ∷ xs) zero x at = at
taken_at (y ∷ xs) (suc i) x at = let none : slice_get {X = _} [] i ≡ Some x = at in cc

module _ (rows : Rows) (h : List Event) where
  event_row : (e : Event) (i : ℕ) (row : RowNo) → slice_get (rows_of_event rows e) i ≡ Some row → row.0 < length rows.assets
  event_row (Load op caller ask) i row at = ltb-true row.0 (length rows.assets) (by ask.all at)
    where
      all : List RowNo
      all = merged rows.assets ask.keys ask.mode ask.kind

      by : (t : Bool) → slice_get (if t then all else take 1 all) i ≡ Some row → ltb row.0 (length rows.assets) ≡ true
      by true there = passes_at (λ (r : RowNo). ltb r.0 (length rows.assets)) all i row (merged-within rows.assets ask.keys ask.mode ask.kind) there
      by false there = passes_at (λ (r : RowNo). ltb r.0 (length rows.assets)) all i row (merged-within rows.assets ask.keys ask.mode ask.kind) (taken_at all i row there)
  event_row (Acquire op caller) i row at = cc
  event_row (Release op caller) i row at = cc
  event_row (Take b worker) i row at = cc
  event_row (Done b worker) i row at = cc
  event_row (Fail b worker cause) i row at = cc
  event_row Close i row at = cc

  -- a row of an operation is an asset row
  pub row_below : (op : OpId) (i : ℕ) (row : RowNo) → row_reply rows h op i ≡ Ok row → row.0 < length rows.assets
  unfolding row_reply rows_of_op
  row_below op i row is = at (find (is_load_of op) h) (listed (status_reply rows h op) (slice_get (rows_of_op rows h op) i) row is)
    where
      at : (o : Option Event) → slice_get (option_map_or (rows_of_event rows) o []) i ≡ Some row → row.0 < length rows.assets
      at None there = cc
      at (Some e) there = event_row e i row there

needed_below : (rows : Rows) (limit : ℕ) (h : List Event) → Sound rows → (op : OpId) (b : BundleNo) → is_in b (needs_of_op rows h op) ≡ true → b.0 < length rows.bundles
unfolding needs_of_op
needed_below rows limit h sound op b asked = at (find (is_load_of op) h) asked
  where
    at : (o : Option Event) → is_in b (option_map_or (needs_of_event rows) o []) ≡ true → b.0 < length rows.bundles
    at None none = absurd (false≢true none)
    at (Some e) there = asked_below rows sound e b there

-- a sound asset row has a dependency
pub home_there : (rows : Rows) → Sound rows → (n : ℕ) (a : AssetRow) → slice_get rows.assets n ≡ Some a → 0 < length a.deps
home_there rows sound n a at =
    let all = passes_at (λ (r : AssetRow). has_sound_deps (length rows.bundles) r.deps) rows.assets n a sound at in
    ltb-true 0 (length a.deps) (and_parts (has_dep a.deps) (are_bundles (length rows.bundles) a.deps) (and_parts (has_dep a.deps && are_bundles (length rows.bundles) a.deps) (no_repeats a.deps) all).0).0

pub asset_there : (rows : Rows) (assets : List AssetRow) (n : ℕ) (a : AssetRow) → assets ≡ rows.assets → n < length assets → a ≡ get_or assets n a → slice_get rows.assets n ≡ Some a
asset_there rows assets n a are lt is = ap (λ (l : List AssetRow). slice_get l n) (sym are) ∙ slice_get_read assets (length assets) n a refl lt is

-- what reading the row's asset finds is the answer
pub read_answer : (objects : BundleNo → List ℕ → Option Object) (rows : Rows) (h : List Event) (op : OpId) (i : ℕ) (row : RowNo) (a : AssetRow) (result : Result (List ℕ) ReadErr) → row_reply rows h op i ≡ Ok row → slice_get rows.assets row.0 ≡ Some a → ReadsAsset objects a result
    → Reads objects rows h op i result ⊎ ((result ≡ Err NoMemory) × (bytes : List ℕ) × Reads objects rows h op i (Ok bytes))
read_answer objects rows h op i row a (Ok bytes) ready is (b, first, o, holds, same) = inl (a, b, record { row = row; ready = ready; is = is; first = first }, o, holds, same)
read_answer objects rows h op i row a (Err (Absent b)) ready is (first, none) = inl (a, record { row = row; ready = ready; is = is; first = first }, none)
read_answer objects rows h op i row a (Err NoMemory) ready is (b, first, found) = inr (refl, found.0.bytes, (a, b, record { row = row; ready = ready; is = is; first = first }, found.0, found.1, refl))
read_answer objects rows h op i row a (Err NoHandle) ready is found = absurd found
read_answer objects rows h op i row a (Err NoAsset) ready is found = absurd found
read_answer objects rows h op i row a (Err Pending) ready is found = absurd found
read_answer objects rows h op i row a (Err (Failed b cause)) ready is found = absurd found

-- the row's first dependency is a bundle that the operation needs
any_at : {X : Type 0} (p : X → Bool) (xs : List X) (i : ℕ) (x : X) → slice_get xs i ≡ Some x → p x ≡ true → list_any p xs ≡ true
any_at p [] i x at is = cc
any_at p (y ∷ xs) zero x at is = let same : y ≡ x = cc in ap (λ t. t || list_any p xs) (ap p same ∙ is)
any_at p (y ∷ xs) (suc i) x at is = or_right (p y) (any_at p xs i x at is)
  where
    or_right : (t : Bool) {s : Bool} → s ≡ true → (t || s) ≡ true
    or_right true holds = refl
    or_right false holds = holds

any_flat : {X Y : Type 0} (p : Y → Bool) (f : X → List Y) (xs : List X) (i : ℕ) (x : X) → slice_get xs i ≡ Some x → list_any p (f x) ≡ true → list_any p (flat_map f xs) ≡ true
any_flat p f [] i x at is = cc
any_flat p f (y ∷ xs) zero x at is = let same : y ≡ x = cc in list_any-append p (f y) (flat_map f xs) ∙ ap (λ t. t || list_any p (flat_map f xs)) (ap (λ z. list_any p (f z)) same ∙ is)
any_flat p f (y ∷ xs) (suc i) x at is = list_any-append p (f y) (flat_map f xs) ∙ or_right (list_any p (f y)) (any_flat p f xs i x at is)
  where
    or_right : (t : Bool) {s : Bool} → s ≡ true → (t || s) ≡ true
    or_right true holds = refl
    or_right false holds = holds

module _ (rows : Rows) (h : List Event) (op : OpId) (i : ℕ) (a : AssetRow) (b : BundleNo) (may : MayRead rows h op i a b) where
  deps_hold : (found : List RowNo) → slice_get found i ≡ Some may.row → is_in b (deps_of rows.assets found) ≡ true
  unfolding deps_of
  deps_hold found at =
      let own : is_in b (deps_of_row rows.assets may.row) ≡ true = ap (λ (o : Option AssetRow). is_in b (option_map_or (λ (r : AssetRow). r.deps) o [])) may.is ∙ any_at (λ (c : BundleNo). eqb c.0 b.0) a.deps 0 b may.first (eq-eqb b.0 b.0 refl) in
      any-distinct b (flat_map (deps_of_row rows.assets) found) ∙ any_flat (λ (c : BundleNo). eqb c.0 b.0) (deps_of_row rows.assets) found i may.row at own

  event_needs : (e : Event) → slice_get (rows_of_event rows e) i ≡ Some may.row → is_in b (needs_of_event rows e) ≡ true
  unfolding needs_of
  event_needs (Load o caller ask) at = deps_hold (rows_of_ask rows ask) at
  event_needs (Acquire o caller) at = cc
  event_needs (Release o caller) at = cc
  event_needs (Take o worker) at = cc
  event_needs (Done o worker) at = cc
  event_needs (Fail o worker cause) at = cc
  event_needs Close at = cc

  pub home_needed : is_in b (needs_of_op rows h op) ≡ true
  unfolding row_reply rows_of_op needs_of_op
  home_needed = at (find (is_load_of op) h) (listed (status_reply rows h op) (slice_get (rows_of_op rows h op) i) may.row may.ready)
    where
      at : (o : Option Event) → slice_get (option_map_or (rows_of_event rows) o []) i ≡ Some may.row → is_in b (option_map_or (needs_of_event rows) o []) ≡ true
      at None there = cc
      at (Some e) there = event_needs e there

  pub home_ready : status_reply rows h op ≡ Ok status.Ready
  unfolding row_reply
  home_ready = by (status_reply rows h op) (slice_get (rows_of_op rows h op) i) may.ready
    where
      by : (found : Result OpStatus NoHandleErr) (o : Option RowNo) → ready_row found o ≡ Ok may.row → found ≡ Ok status.Ready
      by (Err none) o e = cc
      by (Ok found) None e = cc
      by (Ok status.Pending) (Some r) e = cc
      by (Ok status.Ready) (Some r) e = refl
      by (Ok (status.Failed c cause)) (Some r) e = cc

-- a ready operation's bundles are resident, and have their images
no_ready : (bs : List BundleNo) (h : List Event) → first_failure bs h ≡ Some status.Ready → ⊥
no_ready bs [] e = cc
no_ready bs (Load o c k ∷ h) e = no_ready bs h e
no_ready bs (Acquire o c ∷ h) e = no_ready bs h e
no_ready bs (Release o c ∷ h) e = no_ready bs h e
no_ready bs (Take o c ∷ h) e = no_ready bs h e
no_ready bs (Done o c ∷ h) e = no_ready bs h e
no_ready bs (Fail o c k ∷ h) e = by (is_in o bs) e (no_ready bs h)
  where
    by : (t : Bool) → cond t (Some (status.Failed o k)) (first_failure bs h) ≡ Some status.Ready → (first_failure bs h ≡ Some status.Ready → ⊥) → ⊥
    by true same rest = cc
    by false same rest = rest same
no_ready bs (Close ∷ h) e = no_ready bs h e

all_in : (p : BundleNo → Bool) (bs : List BundleNo) (b : BundleNo) → list_all p bs ≡ true → is_in b bs ≡ true → p b ≡ true
all_in p [] b all is = absurd (false≢true is)
all_in p (c ∷ bs) b all is = elim (cases_eq c.0 b.0) [
  | inl same ↦ let it : c ≡ b = ap (λ n. let r : BundleNo = record { 0 = n } in r) same in ap p (sym it) ∙ (and_parts (p c) (list_all p bs) all).0
  | inr other ↦ all_in p bs b (and_parts (p c) (list_all p bs) all).1 (ap (λ t. t || is_in b bs) (sym (ne_eqb c.0 b.0 other)) ∙ is)
]

ready_resident : (rows : Rows) (h : List Event) (op : OpId) → status_reply rows h op ≡ Ok status.Ready → list_all (is_resident rows h) (needs_of_op rows h op) ≡ true
unfolding status_reply status_of
ready_resident rows h op is = by (is_unreleased h op) is
  where
    among : (o : Option OpStatus) → (o ≡ Some status.Ready → ⊥) → (t : Bool) → unwrap_or o (if t then status.Ready else status.Pending) ≡ status.Ready → t ≡ true
    among None never true e = refl
    among None never false e = cc
    among (Some s) never t e = absurd (never (ap (λ (x : OpStatus). Some x) e))

    by : (t : Bool) → (let r : Result OpStatus NoHandleErr = if t then Ok (status_of rows h op) else no_status in r) ≡ Ok status.Ready → list_all (is_resident rows h) (needs_of_op rows h op) ≡ true
    by true e = among (first_failure (needs_of_op rows h op) (since_load op h)) (no_ready (needs_of_op rows h op) (since_load op h)) (list_all (is_resident rows h) (needs_of_op rows h op)) (cc)
    by false e = cc

pub ready_held : {I : Type 0} (fits : I → ℕ → Digest → Type 0) (rows : Rows) (limit : ℕ) (h : List Event) (images : List (Option I)) → Sound rows → Legal rows limit h → HasImages (machine fits rows limit h images) → ReadyHave (machine fits rows limit h images)
unfolding ReadyHave
ready_held {I} fits rows limit h images sound legal held op is b asked =
    let resident = all_in (is_resident rows h) (needs_of_op rows h op) b (ready_resident rows h op is) asked in
    let there = slice_there images b.0 (omega (arith, images_length fits rows limit h images held, needed_below rows limit h sound op b asked)) in
    let some = filled there.0 (held_place (is_resident rows h) 0 (length rows.bundles) images b.0 there.0 (images_held fits rows limit h images held) there.1 ∙ ap (λ n. is_resident rows h (let r : BundleNo = record { 0 = n } in r)) (let at : 0 + b.0 ≡ b.0 = omega arith in at) ∙ resident) in
    (some.0, there.1 ∙ ap (λ (o : Option I). Some o) some.1)
