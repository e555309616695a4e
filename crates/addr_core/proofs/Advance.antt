-- The journal and the images beside it, one event on.
use Rattle.std.proofs.Common.{◌≡◌, inl, inr, ℕ, ◌+◌, ◌≤◌, ◌<◌, ◌^◌, zero, suc, IsTrue, Bool, true, false, ◌||◌, ◌&&◌, ltb, List, [], ◌∷◌, ◌++◌, length, map, set, Option, Some, None, is_some, slice_get, IfSome, replicate, Ok, Vec, vec_len, vec_capacity, refl, sym, ◌∙◌, ap, subst, arith, length-append, if◌then◌else◌}
use Rattle.std.proofs.lemmas.Bool.{false≢true, and_parts, cases_eq, cases_Bool, eq-eqb, ne_eqb, lt-ltb}
use Rattle.std.proofs.lemmas.List.{length-map}
use Rattle.std.proofs.lemmas.List.FromFn.{length-range_with_len}
use Rattle.std.proofs.lemmas.List.Sums.{count_by-le-length}
use Rattle.std.specs.List.{range_with_len, list_all}
use Rattle.std.specs.declared.alloc.Global.{Global}
use Rattle.addr_base.specs.declared.ids.BundleNo.{BundleNo}
use Rattle.addr_base.specs.declared.ids.Digest.{Digest}
use Rattle.addr_base.specs.declared.ids.OpId.{OpId}
use Rattle.addr_locate.specs.Rows.{Rows, has_sound_deps}
use Rattle.addr_history.specs.declared.ask.Ask.{Ask}
use Rattle.addr_history.specs.declared.event.Event.{Event}
use Rattle.addr_history.specs.declared.event.Event.TheVariants.{Load, Acquire, Release, Take, Done, Fail, Close}
use Rattle.addr_history.specs.Events.{is_load, is_done_of}
use Rattle.addr_history.specs.Counts.{count_of, loads_of, is_unreleased}
use Rattle.addr_history.specs.Places.{is_resident, is_fetched_by, bundles_of}
use Rattle.addr_history.specs.Answers.{load_reply, load_adds, acquire_reply, acquire_adds, release_adds, done_adds}
use Rattle.addr_history.specs.Legal.{IsAnswer, Legal}
use Rattle.addr_core.specs.Machine.{Machine, images_left, HasImages, ImagesFit}
use Rattle.addr_core.specs.within.Kept.{IsQuiet, Known, IsJournal}
use Rattle.addr_history.proofs.Steps.{counts_on, resident_push}
use Rattle.addr_history.proofs.Legality.{acquire_facts, extend, empty}
use Rattle.addr_history.proofs.CountSteps.{take_calm, done_calm, fail_calm, close_calm, acquire_calm, left_calm, none_resident, count_calm, stays_resident, was_resident, load_stays}
use Rattle.addr_history.proofs.Ranges.{same_bundle}
use Rattle.addr_history.proofs.Owed.{numbers, within_limit}
use Rattle.addr_core.proofs.Keeping.{left_all, held_left, held_set, fit_left, fit_set}

module _ (rows : Rows) (limit : ℕ) where
  pub loads_le : (h : List Event) → loads_of h ≤ length h
  unfolding loads_of
  loads_le h = count_by-le-length is_load h

  -- there is room for an answer
  pub room : (h : List Event) → Known rows limit h → (e : Event) → IsAnswer rows limit h e → length h + 1 ≤ limit
  room h known e answer =
      omega (arith, within_limit rows limit known.sound known.positive (h ++ e ∷ []) (extend rows limit h e known.legal answer), length-append h (e ∷ []))

  pub known_push : (h : List Event) → Known rows limit h → (e : Event) → IsAnswer rows limit h e → Known rows limit (h ++ e ∷ [])
  known_push h known e answer = record {
    legal = extend rows limit h e known.legal answer;
    short = omega (arith, room h known e answer, length-append h (e ∷ []), known.few);
    sound = known.sound;
    positive = known.positive;
    few = known.few;
  }

  -- the same bundles are resident after a quiet event
  pub quiet_stays : (h : List Event) → Legal rows limit h → (e : Event) → IsAnswer rows limit h e → IsQuiet rows h e → (b : BundleNo) → is_resident rows h b ≡ true → is_resident rows (h ++ e ∷ []) b ≡ true
  quiet_stays h legal (Load op c k) answer quiet = absurd quiet
  quiet_stays h legal (Acquire o c) answer quiet = stays_resident rows limit h (Acquire o c) legal (λ b. omega (arith, count_calm rows h (Acquire o c) b (acquire_calm h o c (acquire_facts rows limit h o c answer).has)))
  quiet_stays h legal (Release o c) answer quiet = stays_resident rows limit h (Release o c) legal (λ b. omega (arith, count_calm rows h (Release o c) b (left_calm h o c quiet)))
  quiet_stays h legal (Take o c) answer quiet = stays_resident rows limit h (Take o c) legal (λ b. omega (arith, count_calm rows h (Take o c) b (take_calm h o c)))
  quiet_stays h legal (Done o c) answer quiet = stays_resident rows limit h (Done o c) legal (λ b. omega (arith, count_calm rows h (Done o c) b (done_calm h o c)))
  quiet_stays h legal (Fail o c k) answer quiet = stays_resident rows limit h (Fail o c k) legal (λ b. omega (arith, count_calm rows h (Fail o c k) b (fail_calm h o c k)))
  quiet_stays h legal Close answer quiet = stays_resident rows limit h Close legal (λ b. omega (arith, count_calm rows h Close b (close_calm h)))

  pub quiet_was : (h : List Event) → Legal rows limit h → (e : Event) → IsAnswer rows limit h e → IsQuiet rows h e → (b : BundleNo) → is_resident rows (h ++ e ∷ []) b ≡ true → is_resident rows h b ≡ true
  quiet_was h legal (Load op c k) answer quiet = absurd quiet
  quiet_was h legal (Acquire o c) answer quiet = λ b is. was_resident rows limit h (Acquire o c) b refl is
  quiet_was h legal (Release o c) answer quiet = λ b is. was_resident rows limit h (Release o c) b refl is
  quiet_was h legal (Take o c) answer quiet = λ b is. was_resident rows limit h (Take o c) b refl is
  quiet_was h legal (Done o c) answer quiet = λ b is. elim (cases_Bool (is_done_of b (Done o c))) [
    | inl this ↦
        let same : o ≡ b = same_bundle o b this in
        let none : count_of rows (h ++ Done o c ∷ []) b ≡ 0 = count_calm rows h (Done o c) b (done_calm h o c) ∙ ap (count_of rows h) (sym same) ∙ quiet in
        absurd (false≢true (sym (ap (ltb 0) none) ∙ (and_parts (is_resident rows h b || is_done_of b (Done o c)) (counts_on rows h (Done o c) b) (sym (resident_push rows h (Done o c) b) ∙ is)).1))
    | inr other ↦ was_resident rows limit h (Done o c) b other is
  ]
  quiet_was h legal (Fail o c k) answer quiet = λ b is. was_resident rows limit h (Fail o c k) b refl is
  quiet_was h legal Close answer quiet = λ b is. was_resident rows limit h Close b refl is

if_some : {X : Type 0} (o : Option X) (P Q : X → Type 0) → ((x : X) → P x → Q x) → IfSome o P → IfSome o Q
if_some None P Q implies is = is
if_some (Some x) P Q implies is = implies x is

if_any : {X : Type 0} (o : Option X) (Q : X → Type 0) → ((x : X) → Q x) → IfSome o Q
if_any None Q all = tt
if_any (Some x) Q all = all x

if_both : {X : Type 0} (o : Option X) (P Q R : X → Type 0) → ((x : X) → P x → Q x → R x) → IfSome o P → IfSome o Q → IfSome o R
if_both None P Q R implies p q = p
if_both (Some x) P Q R implies p q = implies x p q

module _ {I : Type 0} (fits : I → ℕ → Digest → Type 0) (rows : Rows) (limit : ℕ) where
  abbrev pub machine : List Event → List (Option I) → Machine I
  machine h images = record { rows = rows; limit = limit; history = h; images = images }

  pub images_length : (h : List Event) (images : List (Option I)) → HasImages (machine h images) → length images ≡ length rows.bundles
  unfolding HasImages
  images_length h images held =
      sym (length-map images is_some) ∙ ap length held ∙ length-map (bundles_of rows) (is_resident rows h) ∙ length-map (range_with_len 0 (length rows.bundles)) (λ n. let r : BundleNo = record { 0 = n } in r) ∙ length-range_with_len 0 (length rows.bundles)

  pub same_images : (h g : List Event) (images : List (Option I)) → HasImages (machine h images) → ((b : BundleNo) → is_resident rows h b ≡ true → is_resident rows g b ≡ true) → images_left rows g images ≡ images
  unfolding HasImages
  same_images h g images held stays = left_all (is_resident rows h) (is_resident rows g) stays images 0 (length rows.bundles) held

  pub left_held : (h g : List Event) (images : List (Option I)) → HasImages (machine h images) → ((b : BundleNo) → is_resident rows g b ≡ true → is_resident rows h b ≡ true) → HasImages (machine g (images_left rows g images))
  unfolding HasImages
  left_held h g images held was = held_left (is_resident rows h) (is_resident rows g) was images 0 (length rows.bundles) held

  pub same_held : (h g : List Event) (images : List (Option I)) → HasImages (machine h images) → ((b : BundleNo) → is_resident rows h b ≡ true → is_resident rows g b ≡ true) → ((b : BundleNo) → is_resident rows g b ≡ true → is_resident rows h b ≡ true) → HasImages (machine g images)
  same_held h g images held stays was = subst (λ (l : List (Option I)). HasImages (machine g l)) (same_images h g images held stays) (left_held h g images held was)

  pub same_fit : (h g : List Event) (images : List (Option I)) → ImagesFit fits (machine h images) → ImagesFit fits (machine g images)
  unfolding ImagesFit
  same_fit h g images fit = fit

  pub left_fit : (h g : List Event) (images : List (Option I)) → ImagesFit fits (machine h images) → ImagesFit fits (machine g (images_left rows g images))
  unfolding ImagesFit
  left_fit h g images fit = λ b. if_some (slice_get rows.bundles b) (λ row. (image : I) → slice_get images b ≡ Some (Some image) → fits image row.size row.digest) (λ row. (image : I) → slice_get (images_left rows g images) b ≡ Some (Some image) → fits image row.size row.digest) (λ row given image is. given image (fit_left (is_resident rows g) images 0 b image is)) (fit b)

  pub set_fit : (h g : List Event) (images : List (Option I)) (j : ℕ) (v : I) → IfSome (slice_get rows.bundles j) (λ row. fits v row.size row.digest) → ImagesFit fits (machine h images) → ImagesFit fits (machine g (set images j (Some v)))
  unfolding ImagesFit
  set_fit h g images j v new fit = λ b.
      if_both (slice_get rows.bundles b) (λ row. (image : I) → slice_get images b ≡ Some (Some image) → fits image row.size row.digest) (λ row. b ≡ j → fits v row.size row.digest) (λ row. (image : I) → slice_get (set images j (Some v)) b ≡ Some (Some image) → fits image row.size row.digest)
      (λ row old here image is. elim (fit_set v images j b image is) [
        | inl (place, same) ↦ subst (λ x. fits x row.size row.digest) (sym same) (here place)
        | inr before ↦ old image before
      ])
      (fit b)
      (elim (cases_eq b j) [
        | inl place ↦ if_some (slice_get rows.bundles b) (λ row. fits v row.size row.digest) (λ row. b ≡ j → fits v row.size row.digest) (λ row given at. given) (subst (λ n. IfSome (slice_get rows.bundles n) (λ row. fits v row.size row.digest)) (sym place) new)
        | inr other ↦ if_any (slice_get rows.bundles b) (λ row. b ≡ j → fits v row.size row.digest) (λ row at. absurd (other at))
      ])

  -- a Done of a bundle that is counted
  pub kept_held : (h : List Event) (images : List (Option I)) → Legal rows limit h → (b : BundleNo) (worker : ℕ) (v : I) → IsAnswer rows limit h (Done b worker) → 0 < count_of rows h b → HasImages (machine h images) → HasImages (machine (h ++ Done b worker ∷ []) (set images b.0 (Some v)))
  unfolding HasImages
  kept_held h images legal b worker v answer counts held =
      held_set (is_resident rows h) (is_resident rows g) v images b.0 0 (length rows.bundles) here same held
    where
      g : List Event
      g = h ++ Done b worker ∷ []

      count : (c : BundleNo) → count_of rows g c ≡ count_of rows h c
      count c = count_calm rows h (Done b worker) c (done_calm h b worker)

      stays : (c : BundleNo) → is_resident rows h c ≡ true → is_resident rows g c ≡ true
      stays = stays_resident rows limit h (Done b worker) legal (λ c. omega (arith, count c))

      both : (s t : Bool) → (s ≡ true → t ≡ true) → (t ≡ true → s ≡ true) → s ≡ t
      both true true to back = refl
      both true false to back = sym (to refl)
      both false true to back = back refl
      both false false to back = refl

      right : (s : Bool) {t : Bool} → t ≡ true → (s || t) ≡ true
      right true is = refl
      right false is = is

      at : is_resident rows g b ≡ true
      at = resident_push rows h (Done b worker) b ∙ ap (λ t. t && counts_on rows h (Done b worker) b) (right (is_resident rows h b) (eq-eqb b.0 b.0 refl)) ∙ lt-ltb 0 (count_of rows g b) (omega (arith, count b))

      here : is_resident rows g (record { 0 = 0 + b.0 }) ≡ true
      here = subst (λ n. is_resident rows g (record { 0 = n }) ≡ true) (let same : b.0 ≡ 0 + b.0 = omega arith in same) at

      same : (m : ℕ) → (m ≡ 0 + b.0 → ⊥) → is_resident rows h (record { 0 = m }) ≡ is_resident rows g (record { 0 = m })
      same m other = both (is_resident rows h (record { 0 = m })) (is_resident rows g (record { 0 = m })) (stays (record { 0 = m })) (was_resident rows limit h (Done b worker) (record { 0 = m }) (ne_eqb b.0 m (λ is. other (omega arith))))

  pub kept_images : (h : List Event) (images : List (Option I)) → Legal rows limit h → (b : BundleNo) (worker : ℕ) → IsAnswer rows limit h (Done b worker) → HasImages (machine h images) → images_left rows (h ++ Done b worker ∷ []) images ≡ images
  kept_images h images legal b worker answer held =
      same_images h (h ++ Done b worker ∷ []) images held (stays_resident rows limit h (Done b worker) legal (λ c. omega (arith, count_calm rows h (Done b worker) c (done_calm h b worker))))

  -- where the journal grew
  pub journal_push : (ev : Vec Event Global) (im : Vec (Option I) Global) → IsJournal fits rows limit ev im → (e : Event) → IsAnswer rows limit ev.items e → (ev2 : Vec Event Global) → ev2.items ≡ ev.items ++ e ∷ [] → vec_len ev2 ≡ vec_len ev + 1 → vec_capacity ev ≤ vec_capacity ev2 → (im2 : Vec (Option I) Global) → HasImages (machine (ev.items ++ e ∷ []) im2.items) → ImagesFit fits (machine (ev.items ++ e ∷ []) im2.items) → IsJournal fits rows limit ev2 im2
  journal_push ev im journal e answer ev2 items len cap im2 held fit = record {
    known = subst (Known rows limit) (sym items) (known_push rows limit ev.items journal.known e answer);
    few_bundles = journal.few_bundles;
    journal_length = omega (arith, len, journal.journal_length, ap length items, length-append ev.items (e ∷ []));
    journal_room = omega (arith, journal.journal_room, cap);
    held = subst (λ (l : List Event). HasImages (machine l im2.items)) (sym items) held;
    fitting = subst (λ (l : List Event). ImagesFit fits (machine l im2.items)) (sym items) fit;
  }

  pub journal_has_room : (ev : Vec Event Global) (im : Vec (Option I) Global) → IsJournal fits rows limit ev im → (e : Event) → IsAnswer rows limit ev.items e → vec_len ev < vec_capacity ev
  journal_has_room ev im journal e answer = omega (arith, room rows limit ev.items journal.known e answer, journal.journal_length, journal.journal_room)

  pub journal_load : (ev : Vec Event Global) (im : Vec (Option I) Global) → IsJournal fits rows limit ev im → (op : OpId) (caller : ℕ) (ask : Ask) → IsAnswer rows limit ev.items (Load op caller ask) → (ev2 : Vec Event Global) → ev2.items ≡ ev.items ++ Load op caller ask ∷ [] → vec_len ev2 ≡ vec_len ev + 1 → vec_capacity ev ≤ vec_capacity ev2 → IsJournal fits rows limit ev2 im
  journal_load ev im journal op caller ask answer ev2 items len cap =
      let e = Load op caller ask in
      let g = ev.items ++ e ∷ [] in
      journal_push ev im journal e answer ev2 items len cap im
      (same_held ev.items g im.items journal.held (load_stays rows limit ev.items journal.known.legal op caller ask answer) (λ b is. was_resident rows limit ev.items e b refl is))
      (same_fit ev.items g im.items journal.fitting)

  pub journal_record : (ev : Vec Event Global) (im : Vec (Option I) Global) → IsJournal fits rows limit ev im → (e : Event) → IsAnswer rows limit ev.items e → IsQuiet rows ev.items e → (ev2 : Vec Event Global) → ev2.items ≡ ev.items ++ e ∷ [] → vec_len ev2 ≡ vec_len ev + 1 → vec_capacity ev ≤ vec_capacity ev2 → IsJournal fits rows limit ev2 im
  journal_record ev im journal e answer quiet ev2 items len cap =
      let g = ev.items ++ e ∷ [] in
      journal_push ev im journal e answer ev2 items len cap im
      (same_held ev.items g im.items journal.held (quiet_stays rows limit ev.items journal.known.legal e answer quiet) (quiet_was rows limit ev.items journal.known.legal e answer quiet))
      (same_fit ev.items g im.items journal.fitting)

  first_held : (n from : ℕ) → map is_some (let l : List (Option I) = replicate n None in l) ≡ map (is_resident rows []) (numbers from n)
  first_held zero from = refl
  first_held (suc n) from =
      ap (λ t. t ∷ map is_some (let l : List (Option I) = replicate n None in l)) (sym (none_resident rows limit (record { 0 = from })))
      ∙ ap (λ (l : List Bool). is_resident rows [] (record { 0 = from }) ∷ l) (first_held n (from + 1))

  no_image : (n b : ℕ) (image : I) → slice_get (replicate n None) b ≡ Some (Some image) → ⊥
  no_image zero b image is = cc
  no_image (suc n) zero image is = cc
  no_image (suc n) (suc b) image is = no_image n b image is

  pub journal_open : (ev : Vec Event Global) (im : Vec (Option I) Global) → IsTrue (list_all (λ a. has_sound_deps (length rows.bundles) a.deps) rows.assets) → 1 ≤ limit → limit ≤ 1000000 → length rows.bundles < 2 ^ 32 → ev.items ≡ [] → vec_len ev ≡ 0 → vec_capacity ev ≡ limit → im.items ≡ replicate (length rows.bundles) None → IsJournal fits rows limit ev im
  unfolding HasImages ImagesFit
  journal_open ev im sound positive few few_bundles items len cap images = record {
    known = subst (Known rows limit) (sym items) (record { legal = empty rows limit; short = omega arith; sound = sound; positive = positive; few = few });
    few_bundles = few_bundles;
    journal_length = omega (arith, len, ap length items);
    journal_room = omega (arith, cap);
    held = subst (λ (l : List Event). HasImages (machine l im.items)) (sym items) (ap (map is_some) images ∙ first_held (length rows.bundles) 0);
    fitting = λ b. if_any (slice_get rows.bundles b) (λ row. (image : I) → slice_get im.items b ≡ Some (Some image) → fits image row.size row.digest) (λ row image is. absurd (no_image (length rows.bundles) b image (ap (λ (l : List (Option I)). slice_get l b) (sym images) ∙ is)));
  }

  pub same_machine : (h h2 : List Event) (images images2 : List (Option I)) → h ≡ h2 → images ≡ images2 → machine h images ≡ machine h2 images2
  same_machine h h2 images images2 a b = ap (λ (l : List Event). machine l images) a ∙ ap (λ (l : List (Option I)). machine h2 l) b

-- the answers behind the tests
pub release_answer : (rows : Rows) (limit : ℕ) (h : List Event) (op : OpId) (caller : ℕ) → is_unreleased h op ≡ true → IsAnswer rows limit h (Release op caller)
unfolding release_adds
release_answer rows limit h op caller is = ap (λ t. if t then Release op caller ∷ [] else []) is

pub acquire_answer : (rows : Rows) (limit : ℕ) (h : List Event) (op : OpId) (caller : ℕ) → acquire_reply rows limit h op ≡ Ok tt → IsAnswer rows limit h (Acquire op caller)
acquire_answer rows limit h op caller is = ap (λ r. acquire_adds r caller op) is

pub done_answer : (rows : Rows) (limit : ℕ) (h : List Event) (b : BundleNo) (worker : ℕ) → is_fetched_by h b worker ≡ true → IsAnswer rows limit h (Done b worker)
unfolding done_adds
done_answer rows limit h b worker is = ap (λ t. if t then Done b worker ∷ [] else []) is

pub load_answer : (rows : Rows) (limit : ℕ) (h : List Event) (n caller : ℕ) (ask : Ask) → n ≡ loads_of h → load_reply rows limit h ask ≡ Ok (record { 0 = loads_of h }) → IsAnswer rows limit h (Load (record { 0 = n }) caller ask)
load_answer rows limit h n caller ask is reply = ap (λ r. load_adds r caller ask) reply ∙ ap (λ m. let op : OpId = record { 0 = m } in Load op caller ask ∷ []) (sym is)
