-- The last history of a run.
use Rattle.std.proofs.Common.{◌≡◌, ◌⊎◌, inl, inr, ℕ, zero, suc, ◌+◌, ◌≤◌, ◌<◌, Bool, true, false, not, ◌||◌, cond, List, [], ◌∷◌, ◌++◌, filter, length, refl, sym, ap, ap₂, ◌∙◌, subst, Option, Some, None, append_assoc, arith, eqb, MatchOption}
use Rattle.std.specs.List.{list_any}
use Rattle.std.proofs.lemmas.Bool.{false≢true, or_cases, eqb-true}
use Rattle.std.proofs.lemmas.List.{append-nil}
use Rattle.std.proofs.lemmas.List.Elements.{filter-append}
use mathlib.Core.Option.{some, some-injective, some-ne-none}
use Rattle.addr_base.specs.declared.cause.Cause.{Cause}
use Rattle.addr_base.specs.declared.ids.BundleNo.{BundleNo}
use Rattle.addr_locate.specs.Rows.{Rows}
use Rattle.addr_history.specs.Answers.{take_reply}
use Rattle.addr_history.specs.Counts.{is_closed}
use Rattle.addr_history.specs.Events.{is_close}
use Rattle.addr_history.specs.Places.{queue}
use Rattle.addr_history.specs.Legal.{Legal}
use Rattle.addr_history.specs.declared.answers.Next.TheVariants as next
use Rattle.addr_history.specs.declared.event.Event.{Event}
use Rattle.addr_history.specs.declared.event.Event.TheVariants.{Load, Acquire, Release, Take, Done, Fail, Close}
use Rattle.addr_core.specs.Machine.{Machine}
use Rattle.addr_history.specs.Events.{number_of}
use Rattle.addr_turn.specs.Numbers.{number_bound}
use Rattle.addr_turn.specs.OneHistory.{own, is_number, At, Accounted, HasAll, IsPrefix, IsKnown}
use Rattle.addr_fetch.specs.declared.fetch.Fetched.{Fetched}
use Rattle.addr_loader.specs.Turn.{Knowledge, rows_of, limit_of}
use Rattle.addr_loader.specs.Chain.{Fetching, events_of, end_of}
use Rattle.addr_loader.specs.Meets.{Finished}
use Rattle.addr_live.specs.Steps.{Step, is_change, is_work, Played, Runs, changes, TakesEnd, IsLive, IsQuiet, HasClose}
use Rattle.addr_live.proofs.Scripts.{runs_on, all_work}
use Rattle.addr_live.proofs.Finals.{strays, changes_are, stray_made}
use Rattle.addr_live.proofs.Ends.{AllWorked, own_member, home, one_stray, over, stays_over, events_ended}

pub at_here : (x : List Event) (e : Event) (y : List Event) → At (x ++ e ∷ y) (length x) e
at_here [] e y = refl
at_here (z ∷ x) e y = at_here x e y

own_append : (n : ℕ) (xs ys : List Event) → own number_of n (xs ++ ys) ≡ own number_of n xs ++ own number_of n ys
unfolding own
own_append n xs ys = filter-append (λ e. is_number (number_of e) n) xs ys

own_take : (n : ℕ) (b : BundleNo) (y : List Event) → own number_of n (Take b n ∷ y) ≡ Take b n ∷ own number_of n y
unfolding own
own_take n b y = ap (λ (t : Bool). cond t (Take b n ∷ own number_of n y) (own number_of n y)) (Rattle.std.proofs.lemmas.Bool.eq-eqb n n refl)

-- who stands in a filtered list stands in the list
filtered : (q : Event → Bool) (l : List Event) (e : Event) (rest : List Event) → filter q l ≡ e ∷ rest → (p : ℕ) × At l p e
filtered q [] e rest is = absurd (cc)
filtered q (x ∷ l) e rest is = by (q x) is (filtered q l e rest)
  where
    by : (t : Bool) → cond t (x ∷ filter q l) (filter q l) ≡ e ∷ rest → (filter q l ≡ e ∷ rest → (p : ℕ) × At l p e) → (p : ℕ) × At (x ∷ l) p e
    by true is more = (0, ap some (let same : x ≡ e = cc in same))
    by false is more = let h = more is in (suc h.0, h.1)

own_at : (n : ℕ) (l : List Event) (p : ℕ) (e : Event) → At (own number_of n l) p e → (q : ℕ) × At l q e
unfolding own
own_at n [] p e at = absurd (some-ne-none e (sym at))
own_at n (x ∷ l) p e at = by (is_number (number_of x) n) p at (own_at n l)
  where
    by : (t : Bool) (p : ℕ) → At (cond t (x ∷ own number_of n l) (own number_of n l)) p e → ((p : ℕ) (e : Event) → At (own number_of n l) p e → (q : ℕ) × At l q e) → (q : ℕ) × At (x ∷ l) q e
    by true zero at more = (0, at)
    by true (suc p) at more = let h = more p e at in (suc h.0, h.1)
    by false p at more = let h = more p e at in (suc h.0, h.1)

-- of a number whose work is a list of fetches, each Take has its end
work_ended : (n : ℕ) (xs : List Fetching) (h : List Event) → filter is_work (own number_of n h) ≡ events_of n xs → (x : List Event) (b : BundleNo) (y : List Event) → h ≡ x ++ Take b n ∷ y → (cause : Option Cause) × (p : ℕ) × At y p (end_of n b cause)
work_ended n xs h work x b y is =
    let parts : own number_of n h ≡ own number_of n x ++ Take b n ∷ own number_of n y = ap (own number_of n) is ∙ (own_append n x (Take b n ∷ y) ∙ ap (λ (l : List Event). own number_of n x ++ l) (own_take n b y)) in
    let works : events_of n xs ≡ filter is_work (own number_of n x) ++ Take b n ∷ filter is_work (own number_of n y) = sym work ∙ (ap (filter is_work) parts ∙ filter-append is_work (own number_of n x) (Take b n ∷ own number_of n y)) in
    let end = events_ended n xs (filter is_work (own number_of n x)) b (filter is_work (own number_of n y)) works in
    let in_own = filtered is_work (own number_of n y) (end_of n b end.0) end.1 end.2 in
    let in_all = own_at n y in_own.0 (end_of n b end.0) in_own.1 in
    (end.0, in_all.0, in_all.1)

close_there : (h : List Event) → is_closed h ≡ true → (p : ℕ) × At h p Close
unfolding is_closed
close_there [] is = absurd (false≢true is)
close_there (e ∷ h) is = by (or_cases (is_close e) (list_any is_close h) is) (close_there h)
  where
    by : (is_close e ≡ true) ⊎ (list_any is_close h ≡ true) → (list_any is_close h ≡ true → (p : ℕ) × At h p Close) → (p : ℕ) × At (e ∷ h) p Close
    by (inl here) more = (0, ap some (is_it e here))
      where
        is_it : (e : Event) → is_close e ≡ true → e ≡ Close
        is_it Close is = refl
        is_it (Load op c k) is = absurd (false≢true is)
        is_it (Acquire op c) is = absurd (false≢true is)
        is_it (Release op c) is = absurd (false≢true is)
        is_it (Take b w) is = absurd (false≢true is)
        is_it (Done b w) is = absurd (false≢true is)
        is_it (Fail b w k) is = absurd (false≢true is)
    by (inr later) more = let h = more later in (suc h.0, h.1)

at_prefix : (g h : List Event) (p : ℕ) (e : Event) → IsPrefix g h → At g p e → At h p e
at_prefix g h p e on at = subst (λ (l : List Event). At l p e) on.1 (left g on.0 p at)
  where
    left : (xs ys : List Event) (i : ℕ) → At xs i e → At (xs ++ ys) i e
    left [] ys i at = absurd (some-ne-none e (sym at))
    left (z ∷ xs) ys zero at = at
    left (z ∷ xs) ys (suc i) at = left xs ys i at

module _ {F I : Type 0} (gives : F → List ℕ → ℕ → Fetched → F → Type 0) where
  pub is_live : (v w u : Knowledge) (f g : F) (ss : List Step) (m : Machine I) (last : List Event)
      → v.seen ≡ [] → v.mine ≡ [] → v.bare ≡ [] → v.number ≡ 0
      → Played gives v f ss w g
      → u.number ≡ 0 → u.mine ≡ w.mine → u.bare ≡ w.bare → rows_of u ≡ rows_of v → AllWorked u.others → HasAll u → IsPrefix w.seen u.seen
      → Finished u m
      → IsPrefix last m.history → take_reply m.rows last ≡ next.End
      → IsLive m.rows m.limit ss m.history
  is_live v w u f g ss m last empty none bare first p number mine bares rows others all seen done on ended =
      let h = m.history in
      let own_is : own number_of 0 h ≡ u.mine = ap (λ (n : ℕ). own number_of n h) (sym number) ∙ done.mine in
      let accounted : (p : ℕ) (e : Event) → At h p e → Accounted number_of u p e = done.accounted all in
      let foreign : list_any _ h ≡ false = home u h own_is others accounted in
      let few = one_stray m.rows m.limit h done.legal foreign in
      let finish = over m.rows last ended in
      let shut = close_there last finish.0 in
      let place = at_prefix last h shut.0 Close on shut.1 in
      -- the script's pass had seen all its own events, so none of its changes stands behind
      let whole : IsPrefix w.seen h = (seen.0 ++ done.seen.0, sym (append_assoc w.seen seen.0 done.seen.0) ∙ (ap (λ (l : List Event). l ++ done.seen.0) seen.1 ∙ done.seen.1)) in
      let w_number : w.number ≡ 0 = ap (λ (z : Knowledge). z.number) p.same ∙ first in
      let w_own : own number_of 0 w.seen ≡ w.mine = ap (λ (n : ℕ). own number_of n w.seen) (sym w_number ∙ ap (λ (z : Knowledge). z.number) p.same) ∙ p.own_are in
      let split : own number_of 0 w.seen ++ own number_of 0 whole.0 ≡ own number_of 0 w.seen = sym (own_append 0 w.seen whole.0) ∙ (ap (own number_of 0) whole.1 ∙ (own_is ∙ (mine ∙ sym w_own))) in
      let quiet : IsQuiet 0 whole.0 = ap (filter is_change) (nothing_more (own number_of 0 w.seen) (own number_of 0 whole.0) split) in
      let runs : Runs [] ss h = runs_on [] ss w.seen whole.0 h (subst (λ (l : List Event). Runs l ss w.seen) empty p.runs) whole.1 quiet in
      let made : HasClose (changes ss) = closes shut.0 p.bare (accounted shut.0 Close place) in
      record {
        runs = runs;
        added = p.added;
        changes_are = changes_are ss h p.added runs few (stray_made (changes ss) made.0 made.1 made.2);
        ended = λ x b n y is. takes x b n y is (accounted (length x) (Take b n) (subst (λ (l : List Event). At l (length x) (Take b n)) (sym is) (at_here x (Take b n) y))) own_is;
        queue_is = ap (queue m.rows) (sym on.1) ∙ stays_over m.rows m.limit last on.0 (subst (Legal m.rows m.limit) (sym on.1) done.legal) finish.0 finish.1;
        legal = done.legal;
      }
    where
      nothing_more : (xs ys : List Event) → xs ++ ys ≡ xs → ys ≡ []
      nothing_more [] ys is = is
      nothing_more (x ∷ xs) ys is = nothing_more xs ys (let tail : xs ++ ys ≡ xs = cc in tail)

      closes : (q : ℕ) → (w.bare ≡ v.bare) ⊎ HasClose (changes ss) → ((i : ℕ) × At u.bare i q) → HasClose (changes ss)
      closes q (inr made) at = made
      closes q (inl same) at = absurd (some-ne-none q (sym (subst (λ (l : List ℕ). At l at.0 q) (bares ∙ (same ∙ bare)) at.1)))

      takes : (x : List Event) (b : BundleNo) (n : ℕ) (y : List Event) → m.history ≡ x ++ Take b n ∷ y → Accounted number_of u (length x) (Take b n) → own number_of 0 m.history ≡ u.mine → (cause : Option Cause) × (q : ℕ) × At y q (end_of n b cause)
      takes x b n y is (inl at) own_is =
          let mine_at : At (own number_of 0 m.history) at.0 (Take b n) = subst (λ (l : List Event). At l at.0 (Take b n)) (sym own_is) at.1 in
          let zero_is : n ≡ 0 = eqb-true n 0 (own_member 0 m.history at.0 (Take b n) mine_at) in
          let work : filter is_work (own number_of 0 m.history) ≡ events_of 0 p.fetchings = ap (filter is_work) (own_is ∙ mine) ∙ (p.works ∙ ap (λ (l : List Event). filter is_work l ++ events_of 0 p.fetchings) none) in
          work_ended n p.fetchings m.history (subst (λ (k : ℕ). filter is_work (own number_of k m.history) ≡ events_of k p.fetchings) (sym zero_is) work) x b y is
      takes x b n y is (inr at) own_is =
          let place = subst (λ (l : List Event). At l (length x) (Take b n)) (sym is) (at_here x (Take b n) y) in
          let signed = done.known.signed (length x) (Take b n) place in
          let small : n < number_bound = let same : n ≡ done.known.who (length x) = signed.1 n refl in let low = signed.0 in omega (arith, same, low) in
          let xs = others at.0 n at.1 at.3 in
          let own_n : own number_of n m.history ≡ events_of n xs.0 = done.known.knows.others at.0 n at.1 at.3 small ∙ xs.1 in
          work_ended n xs.0 m.history (ap (filter is_work) own_n ∙ all_work n xs.0) x b y is
