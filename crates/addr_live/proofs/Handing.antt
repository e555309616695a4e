-- Passes handed out, and gathered again.
use Rattle.std.proofs.Common.{◌≡◌, ◌⊎◌, inl, inr, ℕ, zero, suc, ◌+◌, ◌-◌, ◌≤◌, ◌<◌, List, [], ◌∷◌, ◌++◌, length, refl, sym, ap, ◌∙◌, subst, append_assoc, arith}
use Rattle.std.proofs.lemmas.List.{append-nil}
use mathlib.Core.Option.{some, some-injective, some-ne-none}
use Rattle.atomic_table.specs.Seated.{TableId}
use Rattle.addr_history.specs.declared.event.Event.{Event}
use Rattle.addr_turn.specs.Held.{view, IsAtRest}
use Rattle.addr_turn.specs.Numbers.{times, number_bound}
use Rattle.addr_turn.specs.OneHistory.{domain, had, SharedOut, HasAll, InDomain, At, IsPrefix}
use Rattle.addr_turn.specs.Steps.{with_share, kept_view, given_view}
use Rattle.addr_turn.proofs.Prefixes.{at_left, at_right}
use Rattle.addr_loader.specs.declared.team.Team.{Team}
use Rattle.addr_loader.specs.Turn.{Knowledge, rows_of}
use Rattle.addr_loader.specs.Meets.{MetAll}
use Rattle.addr_loader.specs.Teams.{AreOf, TeamWorked, Pairs}
use Rattle.addr_loader.specs.Waits.{IsOver}
use Rattle.addr_fetch.specs.declared.fetch.Fetched.{Fetched}
use Rattle.addr_live.specs.Hands.{Gathered, back, back_numbers, team_times, IsFresh, AllFresh, HandedOut}
use Rattle.addr_loader.specs.Chain.{Fetching, events_of}
use Rattle.addr_live.proofs.Ends.{AllWorked}

module _ {F : Type 0} where
  pub are_of_left : (table : TableId) (ts : List (Team F)) (t : Team F) → AreOf table (ts ++ t ∷ []) → AreOf table ts
  are_of_left table [] t all = tt
  are_of_left table (x ∷ ts) t all = (all.0, are_of_left table ts t all.1)

  pub are_of_last : (table : TableId) (ts : List (Team F)) (t : Team F) → AreOf table (ts ++ t ∷ []) → IsAtRest table t.pass.place
  are_of_last table [] t all = all.0
  are_of_last table (x ∷ ts) t all = are_of_last table ts t all.1

  pub are_of_more : (table : TableId) (ts : List (Team F)) (t : Team F) → AreOf table ts → IsAtRest table t.pass.place → AreOf table (ts ++ t ∷ [])
  are_of_more table [] t all one = (one, tt)
  are_of_more table (x ∷ ts) t all one = (all.0, are_of_more table ts t all.1 one)

  team_times_more : (k : ℕ) (ts : List (Team F)) (t : Team F) → team_times k (ts ++ t ∷ []) ≡ team_times k ts + times k (domain (view t.pass))
  team_times_more k [] t = omega arith
  team_times_more k (x ∷ ts) t = let h = team_times_more k ts t in omega (arith, h)

  fresh_more : (v : Knowledge) (ts : List (Team F)) (t : Team F) → AllFresh v ts → IsFresh v t → AllFresh v (ts ++ t ∷ [])
  fresh_more v [] t all one = (one, tt)
  fresh_more v (x ∷ ts) t all one = (all.0, fresh_more v ts t all.1 one)

  pub handed_none : (v : Knowledge) → HandedOut {F = F} v v []
  handed_none v = record { fresh = tt; domains = λ k. omega arith; same = refl }

  -- a split more
  pub handed_more : (v w x : Knowledge) (ts : List (Team F)) (t : Team F) → HandedOut v w ts → x ≡ kept_view (with_share 1 w) → view t.pass ≡ given_view (with_share 1 w) → SharedOut w x (view t.pass) → HandedOut v x (ts ++ t ∷ [])
  handed_more v w x ts t h kept given shared =
      let seen : w.seen ≡ v.seen = ap (λ (z : Knowledge). z.seen) h.same in
      let fixed : w.fixed ≡ v.fixed = ap (λ (z : Knowledge). z.fixed) h.same in
      let one : IsFresh v t = record {
        seen = ap (λ (z : Knowledge). z.seen) given ∙ seen;
        mine = ap (λ (z : Knowledge). z.mine) given;
        others = ap (λ (z : Knowledge). z.others) given;
        bare = ap (λ (z : Knowledge). z.bare) given;
        fixed = ap (λ (z : Knowledge). z.fixed) given ∙ fixed;
      } in
      record {
        fresh = fresh_more v ts t h.fresh one;
        domains = λ k. (let a = h.domains k in let b = shared k in let c = team_times_more k ts t in omega (arith, a, b, c));
        same = kept ∙ (ap (λ (z : Knowledge). let r : Knowledge = record z { low = w.low + 1; spare = w.spare - 1; share = 1 } in r) h.same ∙ subst (λ (z : Knowledge). (let r : Knowledge = record v { role = w.role; low = w.low + 1; spare = w.spare - 1; share = 1 } in r) ≡ record v { role = z.role; low = z.low; spare = z.spare; share = z.share }) (sym kept) refl);
      }

  -- what is gathered has every domain
  pub gathered_times : (v u : Knowledge) (ts : List (Team F)) (k : ℕ) → Gathered v ts u → times k (domain u) ≡ times k (domain v) + team_times k ts
  gathered_times v u [] k g = let same : times k (domain u) ≡ times k (domain v) = ap (λ (z : Knowledge). times k (domain z)) g in omega (arith, same)
  gathered_times v u (t ∷ ts) k g = let h = gathered_times v g.0 ts k g.1 in let d = g.2.domains k in omega (arith, h, d)

  pub gathered_mine : (v u : Knowledge) (ts : List (Team F)) → Gathered v ts u → (u.mine ≡ v.mine) × (u.number ≡ v.number) × (u.fixed ≡ v.fixed)
  gathered_mine v u [] g = (ap (λ (z : Knowledge). z.mine) g, ap (λ (z : Knowledge). z.number) g, ap (λ (z : Knowledge). z.fixed) g)
  gathered_mine v u (t ∷ ts) g = let h = gathered_mine v g.0 ts g.1 in (g.2.mine ∙ h.0, g.2.number ∙ h.1, g.2.fixed ∙ h.2)

prefix_more : (xs ys zs : List Event) → IsPrefix xs ys → IsPrefix ys zs → IsPrefix xs zs
prefix_more xs ys zs a b = (a.0 ++ b.0, sym (append_assoc xs a.0 b.0) ∙ (ap (λ (l : List Event). l ++ b.0) a.1 ∙ b.1))

at_append : (xs ys : List (ℕ × List Event)) (i : ℕ) (x : ℕ × List Event) → At (xs ++ ys) i x → ((j : ℕ) × At xs j x) ⊎ ((j : ℕ) × At ys j x)
at_append [] ys i x at = inr (i, at)
at_append (z ∷ xs) ys zero x at = inl (0, at)
at_append (z ∷ xs) ys (suc i) x at = by (at_append xs ys i x at)
  where
    by : ((j : ℕ) × At xs j x) ⊎ ((j : ℕ) × At ys j x) → ((j : ℕ) × At (z ∷ xs) j x) ⊎ ((j : ℕ) × At ys j x)
    by (inl h) = inl (suc h.0, h.1)
    by (inr h) = inr h

module _ {F : Type 0} where
  -- a team that came back: its pass recorded fetches alone
  pub record Came (t : Team F) : Type 0 where
    pub others : (view t.pass).others ≡ []
    pub bare : (view t.pass).bare ≡ []
    pub fetchings : List Fetching
    pub mine : (view t.pass).mine ≡ events_of (view t.pass).number fetchings

  abbrev pub AllCame : List (Team F) → Type 0
  AllCame [] = Unit {0}
  AllCame (t ∷ ts) = Came t × AllCame ts

  pub came_one : (gives : F → List ℕ → ℕ → Fetched → F → Type 0) (table : TableId) (v : Knowledge) (t u : Team F) → IsFresh v t → TeamWorked gives table t u → Came u
  came_one gives table v t u fresh worked =
      let xs = worked.1 in
      let after = xs.2.after in
      let number : (view u.pass).number ≡ (view t.pass).number = ap (λ (z : Knowledge). z.number) after in
      record {
        others = ap (λ (z : Knowledge). z.others) after ∙ fresh.others;
        bare = ap (λ (z : Knowledge). z.bare) after ∙ fresh.bare;
        fetchings = xs.0;
        mine = ap (λ (z : Knowledge). z.mine) after ∙ (ap (λ (l : List Event). l ++ events_of (view t.pass).number xs.0) fresh.mine ∙ ap (λ (n : ℕ). events_of n xs.0) (sym number));
      }

  pub came : (gives : F → List ℕ → ℕ → Fetched → F → Type 0) (table : TableId) (v : Knowledge) (ts us : List (Team F)) → AllFresh v ts → Pairs (TeamWorked gives table) ts us → AllCame us
  came gives table v [] [] fresh p = tt
  came gives table v [] (u ∷ us) fresh p = absurd p
  came gives table v (t ∷ ts) [] fresh p = absurd p
  came gives table v (t ∷ ts) (u ∷ us) fresh p = (came_one gives table v t u fresh.0 p.0, came gives table v ts us fresh.1 p.1)

  pub times_same : (gives : F → List ℕ → ℕ → Fetched → F → Type 0) (table : TableId) (ts us : List (Team F)) (k : ℕ) → Pairs (TeamWorked gives table) ts us → team_times k us ≡ team_times k ts
  times_same gives table [] [] k p = refl
  times_same gives table [] (u ∷ us) k p = absurd p
  times_same gives table (t ∷ ts) [] k p = absurd p
  times_same gives table (t ∷ ts) (u ∷ us) k p =
      let one : times k (domain (view u.pass)) ≡ times k (domain (view t.pass)) = ap (λ (z : Knowledge). times k (domain z)) p.0.1.2.after in
      let rest = times_same gives table ts us k p.1 in omega (arith, one, rest)

  -- the passes of other teams bring nothing but their fetches
  pub gathered_others : (v u : Knowledge) (ts : List (Team F)) → AllCame ts → Gathered v ts u → AllWorked v.others → AllWorked u.others
  gathered_others v u [] all g before = subst AllWorked (sym (ap (λ (z : Knowledge). z.others) g)) before
  gathered_others v u (t ∷ ts) all g before = λ i k es at. let x : ℕ × List Event = (k, es) in by k es (at_append g.0.others (((view t.pass).number, (view t.pass).mine) ∷ (view t.pass).others) i x (subst (λ (l : List (ℕ × List Event)). At l i x) g.2.others at)) (gathered_others v g.0 ts all.1 g.1 before)
    where
      by : (k : ℕ) (es : List Event) → ((j : ℕ) × At {A = ℕ × List Event} g.0.others j (k, es)) ⊎ ((j : ℕ) × At {A = ℕ × List Event} (((view t.pass).number, (view t.pass).mine) ∷ (view t.pass).others) j (k, es)) → AllWorked g.0.others → (xs : List Fetching) × (es ≡ events_of k xs)
      by k es (inl h) more = more h.0 k es h.1
      by k es (inr h) more = let x : ℕ × List Event = (k, es) in here h.0 (subst (λ (l : List (ℕ × List Event)). At {A = ℕ × List Event} (((view t.pass).number, (view t.pass).mine) ∷ l) h.0 x) all.0.others h.1)
        where
          here : (j : ℕ) → At {A = ℕ × List Event} (((view t.pass).number, (view t.pass).mine) ∷ []) j (k, es) → (xs : List Fetching) × (es ≡ events_of k xs)
          here zero at = let same : ((view t.pass).number, (view t.pass).mine) ≡ (k, es) = some-injective ((view t.pass).number, (view t.pass).mine) (k, es) at in (all.0.fetchings, sym (ap (λ (z : ℕ × List Event). z.1) same) ∙ (all.0.mine ∙ ap (λ (z : ℕ × List Event). events_of z.0 all.0.fetchings) same))
          here (suc j) at = absurd (some-ne-none (k, es) (sym at))

  -- a number of an entry that was met is one of the teams'
  pub gathered_keys : (v u : Knowledge) (ts : List (Team F)) → AllCame ts → Gathered v ts u → v.others ≡ [] → (i k : ℕ) (es : List Event) → At u.others i (k, es) → (j : ℕ) × At (back_numbers ts) j k
  gathered_keys v u [] all g none i k es at = let x : ℕ × List Event = (k, es) in absurd (some-ne-none x (sym (subst (λ (l : List (ℕ × List Event)). At l i x) (ap (λ (z : Knowledge). z.others) g ∙ none) at)))
  gathered_keys v u (t ∷ ts) all g none i k es at =
      let x : ℕ × List Event = (k, es) in
      by (at_append g.0.others (((view t.pass).number, (view t.pass).mine) ∷ (view t.pass).others) i x (subst (λ (l : List (ℕ × List Event)). At l i x) g.2.others at)) (λ n before. gathered_keys v g.0 ts all.1 g.1 none n k es before)
    where
      by : ((j : ℕ) × At {A = ℕ × List Event} g.0.others j (k, es)) ⊎ ((j : ℕ) × At {A = ℕ × List Event} (((view t.pass).number, (view t.pass).mine) ∷ (view t.pass).others) j (k, es)) → ((n : ℕ) → At {A = ℕ × List Event} g.0.others n (k, es) → (j : ℕ) × At (back_numbers ts) j k) → (j : ℕ) × At (back_numbers ts ++ (view t.pass).number ∷ []) j k
      by (inl h) earlier = let before = earlier h.0 h.1 in (before.0, at_left (back_numbers ts) ((view t.pass).number ∷ []) before.0 k before.1)
      by (inr h) earlier = let x : ℕ × List Event = (k, es) in here h.0 (subst (λ (l : List (ℕ × List Event)). At {A = ℕ × List Event} (((view t.pass).number, (view t.pass).mine) ∷ l) h.0 x) all.0.others h.1)
        where
          here : (j : ℕ) → At {A = ℕ × List Event} (((view t.pass).number, (view t.pass).mine) ∷ []) j (k, es) → (i : ℕ) × At (back_numbers ts ++ (view t.pass).number ∷ []) i k
          here zero at =
              let same : ((view t.pass).number, (view t.pass).mine) ≡ (k, es) = some-injective ((view t.pass).number, (view t.pass).mine) (k, es) at in
              at_right (back_numbers ts) ((view t.pass).number ∷ []) 0 k (ap (λ (z : ℕ × List Event). some z.0) same)
          here (suc j) at = absurd (some-ne-none (k, es) (sym at))

  pub gathered_bare : (v u : Knowledge) (ts : List (Team F)) → AllCame ts → Gathered v ts u → u.bare ≡ v.bare
  gathered_bare v u [] all g = ap (λ (z : Knowledge). z.bare) g
  gathered_bare v u (t ∷ ts) all g = g.2.bare ∙ (ap (λ (l : List ℕ). g.0.bare ++ l) all.0.bare ∙ (append-nil g.0.bare ∙ gathered_bare v g.0 ts all.1 g.1))

  pub gathered_seen : (v u : Knowledge) (ts : List (Team F)) → Gathered v ts u → IsPrefix v.seen u.seen
  gathered_seen v u [] g = ([], append-nil v.seen ∙ sym (ap (λ (z : Knowledge). z.seen) g))
  gathered_seen v u (t ∷ ts) g = prefix_more v.seen g.0.seen u.seen (gathered_seen v g.0 ts g.1) g.2.first

  -- where there is a team, a history that was over stands before what is gathered
  pub gathered_over : (gives : F → List ℕ → ℕ → Fetched → F → Type 0) (table : TableId) (v u : Knowledge) (ts us : List (Team F)) → 0 < length ts → Pairs (TeamWorked gives table) ts us → Gathered v us u → (t : Team F) × (last : List Event) × IsPrefix last u.seen × IsOver (rows_of (view t.pass)) last × ((w : Knowledge) → AllFresh w ts → IsFresh w t)
  gathered_over gives table v u [] us one p g = absurd (omega (arith, one))
  gathered_over gives table v u (t ∷ ts) [] one p g = absurd p
  gathered_over gives table v u (t ∷ ts) (s ∷ us) one p g = (t, (view s.pass).seen, g.2.second, p.0.2, λ w all. all.0)

  pub are_of_worked : (gives : F → List ℕ → ℕ → Fetched → F → Type 0) (table : TableId) (ts us : List (Team F)) → Pairs (TeamWorked gives table) ts us → AreOf table us
  are_of_worked gives table [] [] p = tt
  are_of_worked gives table [] (u ∷ us) p = absurd p
  are_of_worked gives table (t ∷ ts) [] p = absurd p
  are_of_worked gives table (t ∷ ts) (u ∷ us) p = (p.0.0, are_of_worked gives table ts us p.1)

  pub back_more : (ts : List (Team F)) (t : Team F) → back (ts ++ t ∷ []) ≡ t.fetch ∷ back ts
  back_more [] t = refl
  back_more (x ∷ ts) t = ap (λ (l : List F). l ++ x.fetch ∷ []) (back_more ts t)
