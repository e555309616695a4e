-- Calls one after the other.
use Rattle.std.proofs.Common.{◌≡◌, ◌⊎◌, inl, inr, ℕ, zero, suc, ◌+◌, ◌≤◌, ◌<◌, Bool, true, false, not, cond, List, [], ◌∷◌, ◌++◌, filter, length, length-append, refl, sym, ap, ap₂, ◌∙◌, subst, Option, Some, None, append_assoc, arith, eqb}
use Rattle.std.specs.List.{AllByRecursion}
use Rattle.std.proofs.lemmas.Bool.{false≢true}
use Rattle.std.proofs.lemmas.List.{append-nil}
use Rattle.std.proofs.lemmas.List.Elements.{filter-append}
use Rattle.addr_base.specs.declared.cause.Cause.{Cause}
use Rattle.addr_locate.specs.Rows.{Rows}
use Rattle.addr_history.specs.Events.{number_of}
use Rattle.addr_history.specs.declared.event.Event.{Event}
use Rattle.addr_history.specs.declared.event.Event.TheVariants.{Load, Acquire, Release, Take, Done, Fail, Close}
use Rattle.addr_turn.specs.declared.board.Role.{Role}
use Rattle.addr_turn.specs.declared.board.Role.TheVariants.{Idle}
use Rattle.addr_turn.specs.OneHistory.{own, is_number}
use Rattle.addr_fetch.specs.declared.fetch.Fetched.{Fetched}
use Rattle.addr_loader.specs.Turn.{Knowledge, rows_of, limit_of}
use Rattle.addr_loader.specs.Chain.{Fetching, Chain, events_of, end_of}
use Rattle.addr_live.specs.Steps.{Step, is_change, is_numbered, is_work, IsAdded, IsQuiet, IsScripts, Played, Runs, HasClose, changes, end_at}
use Rattle.addr_live.proofs.Lines.{PlaysStep}
use Rattle.addr_loader.proofs.Gaining.{chain_more, events_more}

own_append : (n : ℕ) (xs ys : List Event) → own number_of n (xs ++ ys) ≡ own number_of n xs ++ own number_of n ys
unfolding own
own_append n xs ys = filter-append (λ e. is_number (number_of e) n) xs ys

own_nothing : (n : ℕ) → own number_of n [] ≡ []
unfolding own
own_nothing n = refl

pub quiet_none : (n : ℕ) → IsQuiet n []
quiet_none n = ap (filter is_change) (own_nothing n)

pub quiet_more : (n : ℕ) (xs ys : List Event) → IsQuiet n xs → IsQuiet n ys → IsQuiet n (xs ++ ys)
quiet_more n xs ys p q = ap (filter is_change) (own_append n xs ys) ∙ (filter-append is_change (own number_of n xs) (own number_of n ys) ∙ ap₂ ◌++◌ p q)

-- events behind that are none of the script's changes
pub runs_on : (from : List Event) (ss : List Step) (m gap h : List Event) → Runs from ss m → m ++ gap ≡ h → IsQuiet 0 gap → Runs from ss h
runs_on from [] m gap h r on quiet = (r.0 ++ gap, sym (append_assoc from r.0 gap) ∙ (ap (λ (l : List Event). l ++ gap) r.1 ∙ on), quiet_more 0 r.0 gap r.2 quiet)
runs_on from (s ∷ ss) m gap h r on quiet = (r.0, r.1, r.2, runs_on (s.before ++ s.added) ss m gap h r.3 on quiet)

-- events before
runs_before : (from gap to : List Event) (ss : List Step) (last : List Event) → from ++ gap ≡ to → IsQuiet 0 gap → Runs to ss last → Runs from ss last
runs_before from gap to [] last on quiet r = (gap ++ r.0, sym (append_assoc from gap r.0) ∙ (ap (λ (l : List Event). l ++ r.0) on ∙ r.1), quiet_more 0 gap r.0 quiet r.2)
runs_before from gap to (s ∷ ss) last on quiet r = (gap ++ r.0, sym (append_assoc from gap r.0) ∙ (ap (λ (l : List Event). l ++ r.0) on ∙ r.1), quiet_more 0 gap r.0 quiet r.2, r.3)

-- calls behind calls
pub runs_join : (from : List Event) (ss ts : List Step) (mid last : List Event) → Runs from ss mid → Runs mid ts last → Runs from (ss ++ ts) last
runs_join from [] ts mid last r more = runs_before from r.0 mid ts last r.1 r.2 more
runs_join from (s ∷ ss) ts mid last r more = (r.0, r.1, r.2, runs_join (s.before ++ s.added) ss ts mid last r.3 more)

pub changes_join : (ss ts : List Step) → changes (ss ++ ts) ≡ changes ss ++ changes ts
changes_join [] ts = refl
changes_join (s ∷ ss) ts = ap (λ (l : List Event). s.added ++ l) (changes_join ss ts) ∙ sym (append_assoc s.added (changes ss) (changes ts))

pub end_join : (from : List Event) (ss ts : List Step) → end_at from (ss ++ ts) ≡ end_at (end_at from ss) ts
end_join from [] ts = refl
end_join from (s ∷ ss) ts = end_join (s.before ++ s.added) ss ts

pub each_join : {A : Type 0} (P : A → Type 0) (xs ys : List A) → AllByRecursion P xs → AllByRecursion P ys → AllByRecursion P (xs ++ ys)
each_join P [] ys a b = b
each_join P (x ∷ xs) ys a b = (a.0, each_join P xs ys a.1 b)

-- what a call adds is no work
no_work : (es : List Event) → IsAdded es → filter is_work (filter is_numbered es) ≡ []
no_work es (inl none) = ap (λ (l : List Event). filter is_work (filter is_numbered l)) none
no_work es (inr (e, only, change)) = ap (λ (l : List Event). filter is_work (filter is_numbered l)) only ∙ one e change
  where
    one : (e : Event) → is_change e ≡ true → filter is_work (filter is_numbered (e ∷ [])) ≡ []
    one (Load op c k) is = refl
    one (Acquire op c) is = refl
    one (Release op c) is = refl
    one (Take b w) is = absurd (false≢true is)
    one (Done b w) is = absurd (false≢true is)
    one (Fail b w c) is = absurd (false≢true is)
    one Close is = refl

pub all_work : (n : ℕ) (xs : List Fetching) → filter is_work (events_of n xs) ≡ events_of n xs
all_work n [] = refl
all_work n (x ∷ xs) = ap (λ (l : List Event). Take x.b n ∷ l) (ending x.cause (all_work n xs))
  where
    ending : (c : Option Cause) → filter is_work (events_of n xs) ≡ events_of n xs → filter is_work (end_of n x.b c ∷ events_of n xs) ≡ end_of n x.b c ∷ events_of n xs
    ending None all = ap (λ (l : List Event). Done x.b n ∷ l) all
    ending (Some c) all = ap (λ (l : List Event). Fail x.b n c ∷ l) all

module _ {F : Type 0} (gives : F → List ℕ → ℕ → Fetched → F → Type 0) where
  pub played_none : (v : Knowledge) (f : F) → own number_of v.number v.seen ≡ v.mine → Played gives v f [] v f
  played_none v f own_are = record { runs = ([], append-nil v.seen, quiet_none 0); added = tt; same = refl; own_are = own_are; fetchings = []; chain = refl; works = sym (append-nil (filter is_work v.mine)); bare = inl refl }

  pub played_scripts : (v w : Knowledge) (f g : F) (ss : List Step) → IsScripts v → Played gives v f ss w g → IsScripts w
  played_scripts v w f g ss s p = let number : w.number ≡ v.number = ap (λ (z : Knowledge). z.number) p.same in (number ∙ s.0, ap (λ (n : ℕ). own number_of n w.seen) number ∙ p.own_are)

  -- one call
  pub played_one : (v w : Knowledge) (f g : F) (s : Step) → PlaysStep gives v f s w g → Played gives v f (s ∷ []) w g
  played_one v w f g s l =
      let works : filter is_work w.mine ≡ filter is_work v.mine ++ events_of 0 l.fetchings =
      ap (filter is_work) l.mine
      ∙ (filter-append is_work (v.mine ++ events_of 0 l.fetchings) (filter is_numbered s.added)
      ∙ (ap (λ (z : List Event). filter is_work (v.mine ++ events_of 0 l.fetchings) ++ z) (no_work s.added l.added)
      ∙ (append-nil (filter is_work (v.mine ++ events_of 0 l.fetchings))
      ∙ (filter-append is_work v.mine (events_of 0 l.fetchings) ∙ ap (λ (z : List Event). filter is_work v.mine ++ z) (all_work 0 l.fetchings))))) in
      record {
        runs = (l.gap, l.goes_on, l.quiet, ([], append-nil (s.before ++ s.added) ∙ sym l.after, quiet_none 0));
        added = (l.added, tt);
        same = l.same ∙ ap (λ (r : Role). let k : Knowledge = record v { role = r; seen = w.seen; mine = w.mine; bare = w.bare } in k) (sym (ap (λ (z : Knowledge). z.role) l.same));
        own_are = l.own_are;
        fetchings = l.fetchings;
        chain = l.chain;
        works = works;
        bare = bare_of l.bare;
      }
    where
      bare_of : (w.bare ≡ v.bare) ⊎ (s.added ≡ Close ∷ []) → (w.bare ≡ v.bare) ⊎ HasClose (changes (s ∷ []))
      bare_of (inl same) = inl same
      bare_of (inr close) = inr ([], [], append-nil s.added ∙ close)

  -- more calls behind
  pub played_join : (v w u : Knowledge) (f m g : F) (ss ts : List Step) → Played gives v f ss w m → Played gives w m ts u g → Played gives v f (ss ++ ts) u g
  played_join v w u f m g ss ts p q =
      let number : w.number ≡ v.number = ap (λ (z : Knowledge). z.number) p.same in
      let rows : rows_of w ≡ rows_of v = ap (λ (z : Knowledge). rows_of z) p.same in
      let chain : Chain gives (rows_of v) m q.fetchings g = subst (λ (r : Rows). Chain gives r m q.fetchings g) rows q.chain in
      let works : filter is_work u.mine ≡ filter is_work v.mine ++ events_of 0 (p.fetchings ++ q.fetchings) =
      q.works ∙ (ap (λ (z : List Event). z ++ events_of 0 q.fetchings) p.works ∙ (append_assoc (filter is_work v.mine) (events_of 0 p.fetchings) (events_of 0 q.fetchings) ∙ ap (λ (z : List Event). filter is_work v.mine ++ z) (sym (events_more 0 p.fetchings q.fetchings)))) in
      record {
        runs = runs_join v.seen ss ts w.seen u.seen p.runs q.runs;
        added = each_join (λ (s : Step). IsAdded s.added) ss ts p.added q.added;
        same = q.same ∙ ap (λ (z : Knowledge). let k : Knowledge = record z { role = u.role; seen = u.seen; mine = u.mine; bare = u.bare } in k) p.same;
        own_are = ap (λ (n : ℕ). own number_of n u.seen) (sym number) ∙ q.own_are;
        fetchings = p.fetchings ++ q.fetchings;
        chain = chain_more gives (rows_of v) f m g p.fetchings q.fetchings p.chain chain;
        works = works;
        bare = bare_of p.bare q.bare (changes_join ss ts);
      }
    where
      bare_of : (w.bare ≡ v.bare) ⊎ HasClose (changes ss) → (u.bare ≡ w.bare) ⊎ HasClose (changes ts) → changes (ss ++ ts) ≡ changes ss ++ changes ts → (u.bare ≡ v.bare) ⊎ HasClose (changes (ss ++ ts))
      bare_of (inl before) (inl same) made = inl (same ∙ before)
      bare_of (inr c) same made = inr (c.0, c.1 ++ changes ts, made ∙ (ap (λ (z : List Event). z ++ changes ts) c.2 ∙ append_assoc c.0 (Close ∷ c.1) (changes ts)))
      bare_of (inl before) (inr c) made = inr (changes ss ++ c.0, c.1, made ∙ (ap (λ (z : List Event). changes ss ++ z) c.2 ∙ sym (append_assoc (changes ss) c.0 (Close ∷ c.1))))
