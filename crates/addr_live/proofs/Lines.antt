-- One call of a script, from the turn or the wait that it is.
use Rattle.std.proofs.Common.{◌≡◌, ◌⊎◌, inl, inr, ℕ, Bool, true, false, cond, List, [], ◌∷◌, ◌++◌, filter, length, length-append, refl, sym, ap, ◌∙◌, subst, Option, Some, None, append_assoc, arith}
use Rattle.std.proofs.lemmas.Bool.{false≢true}
use Rattle.std.proofs.lemmas.List.{append-nil}
use Rattle.std.proofs.lemmas.List.Elements.{filter-append}
use Rattle.addr_base.specs.declared.cause.Cause.{Cause}
use Rattle.addr_locate.specs.Rows.{Rows}
use Rattle.addr_history.specs.Events.{number_of}
use Rattle.addr_history.specs.declared.event.Event.{Event}
use Rattle.addr_history.specs.declared.event.Event.TheVariants.{Load, Acquire, Release, Take, Done, Fail, Close}
use Rattle.addr_turn.specs.declared.board.Role.TheVariants.{Idle}
use Rattle.addr_turn.specs.OneHistory.{IsPrefix, own, is_number}
use Rattle.addr_turn.specs.Steps.{with_seen, recorded_as, numbered, bare_at}
use Rattle.addr_fetch.specs.declared.fetch.Fetched.{Fetched}
use Rattle.addr_loader.specs.Turn.{Knowledge, Turn, rows_of, limit_of, after_turn}
use Rattle.addr_loader.specs.Chain.{Fetching, Chain, events_of, end_of}
use Rattle.addr_loader.specs.Gains.{Gains, gained}
use Rattle.addr_loader.specs.Waits.{WorksOn}
use Rattle.addr_live.specs.Steps.{Step, is_change, is_numbered, is_work, IsAdded, IsQuiet, IsScripts, Played, HasClose}

-- a call, as the pass knows it
pub record PlaysStep {F : Type 0} (gives : F → List ℕ → ℕ → Fetched → F → Type 0) (v : Knowledge) (f : F) (s : Step) (w : Knowledge) (g : F) : Type 0 where
  pub gap : List Event
  pub goes_on : v.seen ++ gap ≡ s.before
  pub quiet : IsQuiet 0 gap
  pub after : w.seen ≡ s.before ++ s.added
  pub added : IsAdded s.added
  -- nothing else of the pass is another
  pub same : w ≡ record v { role = Idle; seen = w.seen; mine = w.mine; bare = w.bare }
  pub own_are : own number_of v.number w.seen ≡ w.mine
  -- what the pass gained of Takes and their ends, in order, with a chain of fetches
  pub fetchings : List Fetching
  pub chain : Chain gives (rows_of v) f fetchings g
  pub mine : w.mine ≡ v.mine ++ events_of 0 fetchings ++ filter is_numbered s.added
  pub bare : (w.bare ≡ v.bare) ⊎ (s.added ≡ Close ∷ [])

own_append : (n : ℕ) (xs ys : List Event) → own number_of n (xs ++ ys) ≡ own number_of n xs ++ own number_of n ys
unfolding own
own_append n xs ys = filter-append (λ e. is_number (number_of e) n) xs ys

rest_is : (xs ys zs : List Event) → xs ++ ys ≡ xs ++ zs → ys ≡ zs
rest_is [] ys zs is = is
rest_is (x ∷ xs) ys zs is = rest_is xs ys zs (let tail : xs ++ ys ≡ xs ++ zs = cc in tail)

-- what a pass gained of its own stands in the gap
gap_own : (n : ℕ) (seen gap h mine more : List Event) → own number_of n seen ≡ mine → seen ++ gap ≡ h → own number_of n h ≡ mine ++ more → own number_of n gap ≡ more
gap_own n seen gap h mine more before on after =
    rest_is mine (own number_of n gap) more (ap (λ (l : List Event). l ++ own number_of n gap) (sym before) ∙ (sym (own_append n seen gap) ∙ (ap (own number_of n) on ∙ after)))

numbered_is : (e : Event) → numbered (number_of e) e ≡ filter is_numbered (e ∷ [])
numbered_is (Load op c k) = refl
numbered_is (Acquire op c) = refl
numbered_is (Release op c) = refl
numbered_is (Take b w) = refl
numbered_is (Done b w) = refl
numbered_is (Fail b w c) = refl
numbered_is Close = refl

bare_is : (bare : List ℕ) (p : ℕ) (e : Event) → (bare ++ bare_at (number_of e) p ≡ bare) ⊎ (e ≡ Close)
bare_is bare p (Load op c k) = inl (append-nil bare)
bare_is bare p (Acquire op c) = inl (append-nil bare)
bare_is bare p (Release op c) = inl (append-nil bare)
bare_is bare p (Take b w) = inl (append-nil bare)
bare_is bare p (Done b w) = inl (append-nil bare)
bare_is bare p (Fail b w c) = inl (append-nil bare)
bare_is bare p Close = inr refl

module _ {F : Type 0} (gives : F → List ℕ → ℕ → Fetched → F → Type 0) where
  -- a turn's call
  pub step_turn : (v w : Knowledge) (f : F) (b added : List Event) → IsScripts v → IsAdded added → Turn v w b added → PlaysStep gives v f (record { before = b; added = added }) w f
  step_turn v w f b added scripts one t =
      let quiet : IsQuiet 0 t.goes_on.0 = ap (filter is_change) (subst (λ (n : ℕ). own number_of n t.goes_on.0 ≡ []) scripts.0 (gap_own v.number v.seen t.goes_on.0 b v.mine [] scripts.1 t.goes_on.1 (t.ours ∙ sym (append-nil v.mine)))) in
      by quiet one
    where
      by : IsQuiet 0 t.goes_on.0 → IsAdded added → PlaysStep gives v f (record { before = b; added = added }) w f
      by quiet (inl none) =
          let is : w ≡ with_seen v Idle b = t.after ∙ ap (after_turn v b) none in
          let seen : w.seen ≡ b = ap (λ (z : Knowledge). z.seen) is in
          record {
            gap = t.goes_on.0;
            goes_on = t.goes_on.1;
            quiet = quiet;
            after = seen ∙ (sym (append-nil b) ∙ ap (λ (l : List Event). b ++ l) (sym none));
            added = inl none;
            same = is ∙ subst (λ (z : Knowledge). with_seen v Idle b ≡ record v { role = Idle; seen = z.seen; mine = z.mine; bare = z.bare }) (sym is) refl;
            own_are = t.own_are;
            fetchings = [];
            chain = refl;
            mine = ap (λ (z : Knowledge). z.mine) is ∙ (sym (append-nil v.mine) ∙ (sym (append-nil (v.mine ++ [])) ∙ ap (λ (l : List Event). (v.mine ++ []) ++ filter is_numbered l) (sym none)));
            bare = inl (ap (λ (z : Knowledge). z.bare) is);
          }
      by quiet (inr (e, only, change)) =
          let is : w ≡ recorded_as number_of (with_seen v Idle b) e = t.after ∙ ap (after_turn v b) only in
          let seen : w.seen ≡ b ++ e ∷ [] = ap (λ (z : Knowledge). z.seen) is in
          record {
            gap = t.goes_on.0;
            goes_on = t.goes_on.1;
            quiet = quiet;
            after = seen ∙ ap (λ (l : List Event). b ++ l) (sym only);
            added = inr (e, only, change);
            same = is ∙ subst (λ (z : Knowledge). recorded_as number_of (with_seen v Idle b) e ≡ record v { role = Idle; seen = z.seen; mine = z.mine; bare = z.bare }) (sym is) refl;
            own_are = t.own_are;
            fetchings = [];
            chain = refl;
            mine = ap (λ (z : Knowledge). z.mine) is ∙ (ap (λ (l : List Event). v.mine ++ l) (numbered_is e) ∙ (ap (λ (l : List Event). l ++ filter is_numbered (e ∷ [])) (sym (append-nil v.mine)) ∙ ap (λ (l : List Event). (v.mine ++ []) ++ filter is_numbered l) (sym only)));
            bare = bare_of (bare_is v.bare (length b) e);
          }
        where
          bare_of : (v.bare ++ bare_at (number_of e) (length b) ≡ v.bare) ⊎ (e ≡ Close) → (w.bare ≡ v.bare) ⊎ (added ≡ Close ∷ [])
          bare_of (inl same) = inl (ap (λ (z : Knowledge). z.bare) (t.after ∙ ap (after_turn v b) only) ∙ same)
          bare_of (inr close) = inr (only ∙ ap (λ (z : Event). z ∷ []) close)

  no_change : (n : ℕ) (xs : List Fetching) → filter is_change (events_of n xs) ≡ []
  no_change n [] = refl
  no_change n (x ∷ xs) = ending x.cause ∙ no_change n xs
    where
      ending : (c : Option Cause) → filter is_change (Take x.b n ∷ end_of n x.b c ∷ events_of n xs) ≡ filter is_change (events_of n xs)
      ending None = refl
      ending (Some c) = refl

  -- a wait's call
  pub step_wait : (v w : Knowledge) (f g : F) → IsScripts v → WorksOn gives v f w g → PlaysStep gives v f (record { before = w.seen; added = [] }) w g
  step_wait v w f g scripts works =
      let t = works.2 in
      let xs = works.0 in
      let mine : w.mine ≡ v.mine ++ events_of v.number xs = ap (λ (z : Knowledge). z.mine) t.after in
      let gap = gap_own v.number v.seen t.goes_on.0 w.seen v.mine (events_of v.number xs) scripts.1 t.goes_on.1 (t.own_are ∙ mine) in
      let quiet : filter is_change (own number_of v.number t.goes_on.0) ≡ [] = ap (filter is_change) gap ∙ no_change v.number xs in
      record {
        gap = t.goes_on.0;
        goes_on = t.goes_on.1;
        quiet = subst (λ (n : ℕ). filter is_change (own number_of n t.goes_on.0) ≡ []) scripts.0 quiet;
        after = sym (append-nil w.seen);
        added = inl refl;
        same = t.after ∙ subst (λ (z : Knowledge). gained v w.seen (events_of v.number xs) ≡ record v { role = Idle; seen = w.seen; mine = z.mine; bare = z.bare }) (sym t.after) refl;
        own_are = t.own_are;
        fetchings = xs;
        chain = works.1;
        mine = mine ∙ (ap (λ (n : ℕ). v.mine ++ events_of n xs) scripts.0 ∙ sym (append-nil (v.mine ++ events_of 0 xs)));
        bare = inl (ap (λ (z : Knowledge). z.bare) t.after);
      }
