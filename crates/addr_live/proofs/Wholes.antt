-- A whole run, from a lock that was just opened to the machine at its end.
use Rattle.std.proofs.Common.{◌≡◌, ◌⊎◌, inl, inr, ℕ, suc, ◌+◌, ◌<◌, ◌≤◌, List, [], ◌∷◌, ◌++◌, length, filter, refl, sym, ap, ◌∙◌, subst, Option, Some, None, IfSome, arith}
use Rattle.std.specs.Prelude.{unwrap_or}
use mathlib.Core.Option.{some-ne-none}
use Rattle.atomic_table.specs.Seated.{TableId}
use Rattle.addr_locate.specs.Rows.{Rows}
use Rattle.addr_history.specs.Answers.{take_reply}
use Rattle.addr_history.specs.declared.answers.Next.TheVariants as next
use Rattle.addr_history.specs.declared.event.Event.{Event}
use Rattle.addr_core.specs.Machine.{Machine}
use Rattle.addr_history.specs.Events.{number_of}
use Rattle.addr_turn.specs.Held.{view}
use Rattle.addr_turn.specs.Numbers.{times, number_bound, in_span}
use Rattle.addr_turn.proofs.Prefixes.{at_left, at_right}
use Rattle.addr_turn.specs.OneHistory.{own, Accounted, At, HasAll, IsPrefix, first_view, domain}
use Rattle.addr_fetch.specs.declared.fetch.Fetched.{Fetched}
use Rattle.addr_loader.specs.declared.team.Team.{Team}
use Rattle.addr_loader.specs.Turn.{Knowledge, rows_of, limit_of, no_rows}
use Rattle.addr_loader.specs.Meets.{Finished}
use Rattle.addr_loader.specs.Teams.{Pairs, TeamWorked, Trios, occurs, AreDistinct}
use Rattle.addr_live.specs.Hands.{Gathered, HandedOut, team_times, AllFresh, IsFresh, back, back_numbers}
use Rattle.addr_loader.specs.Chain.{Chain, events_of}
use Rattle.addr_live.specs.Steps.{Step, Played, IsFirst, IsLive, IsScripts, IsChained, is_work}
use Rattle.addr_live.specs.LiveText.{Line}
use Rattle.addr_live.specs.Plays.{RanScript}
use Rattle.addr_live.specs.Whole.{AreChained, RanLive, TakersAre}
use Rattle.std.specs.List.{flat_map}
use Rattle.addr_script.specs.declared.command.Command.{Command}
use Rattle.addr_live.proofs.Ends.{AllWorked, own_member}
use Rattle.std.proofs.lemmas.Bool.{eqb-true}
use Rattle.addr_history.specs.declared.event.Event.TheVariants.{Take}
use Rattle.addr_live.proofs.Handing.{came, gathered_keys, times_same, gathered_times, gathered_mine, gathered_others, gathered_bare, gathered_seen, gathered_over}
use Rattle.addr_live.proofs.Lives.{at_here, is_live}
use Rattle.addr_live.proofs.Scripts.{all_work}
use Rattle.addr_loader.proofs.Teaming.{pairs_more}

own_nothing : (n : ℕ) → own number_of n [] ≡ []
unfolding own
own_nothing n = refl

pub with_some : {C V : Type 0} (P : V → Type 0) (Q : C × V → Type 0) (core : C) (says : Option V) → IfSome says P → ((s : V) → P s → Q (core, s)) → (r : Option (C × V)) → IfSome r (λ x. (x.0 ≡ core) × (says ≡ Some x.1)) → IfSome r Q
with_some P Q core says given makes None is = tt
with_some P Q core says given makes (Some x) is = subst (λ (c : _). Q (c, x.1)) (sym is.0) (makes x.1 (subst (λ (o : Option _). IfSome o P) is.1 given))

pub if_some_of : {A : Type 0} (o : Option A) (P Q : A → Type 0) → IfSome o P → ((a : A) → P a → Q a) → IfSome o Q
if_some_of None P Q is makes = tt
if_some_of (Some a) P Q is makes = makes a is

trios_more : {A B C : Type 0} (R : A → B → C → Type 0) (ns ms : List A) (xs us : List B) (ys vs : List C) → Trios R ns xs ys → Trios R ms us vs → Trios R (ns ++ ms) (xs ++ us) (ys ++ vs)
trios_more R [] ms [] us [] vs p q = q
trios_more R [] ms [] us (y ∷ ys) vs p q = absurd p
trios_more R [] ms (x ∷ xs) us ys vs p q = absurd p
trios_more R (n ∷ ns) ms [] us ys vs p q = absurd p
trios_more R (n ∷ ns) ms (x ∷ xs) us [] vs p q = absurd p
trios_more R (n ∷ ns) ms (x ∷ xs) us (y ∷ ys) vs p q = (p.0, trios_more R ns ms xs us ys vs p.1 q)

occurs_more : (k : ℕ) (ns ms : List ℕ) → occurs k (ns ++ ms) ≡ occurs k ns + occurs k ms
occurs_more k [] ms = omega arith
occurs_more k (n ∷ ns) ms = let h = occurs_more k ns ms in omega (arith, h)

first_part : (k : ℕ) (v : Knowledge) → in_span k v.number 1 ≤ times k (domain v)
first_part k v = omega arith

team_occurs : {F : Type 0} (k : ℕ) (us : List (Team F)) → occurs k (back_numbers us) ≤ team_times k us
team_occurs k [] = omega arith
team_occurs k (t ∷ us) = let h = team_occurs k us in let a = occurs_more k (back_numbers us) ((view t.pass).number ∷ []) in let f = first_part k (view t.pass) in omega (arith, h, a, f)

-- the entries of each pass that was met are all of its number
abbrev pub OthersOwn : List Event → List (ℕ × List Event) → Type 0
OthersOwn h others = (j n : ℕ) (es : List Event) → At others j (n, es) → n < number_bound → own number_of n h ≡ es

module _ {F : Type 0} (gives : F → List ℕ → ℕ → Fetched → F → Type 0) (rows : Rows) (h : List Event) where
  -- a team's fetcher comes back by a chain
  abbrev pub TeamChained : Team F → Team F → Type 0
  TeamChained t s = IsChained gives rows h t.fetch s.fetch (view s.pass).number

  team_chained : (table : TableId) (v : Knowledge) (t s : Team F) → IsFresh v t → rows_of (view t.pass) ≡ rows → TeamWorked gives table t s → own number_of (view s.pass).number h ≡ (view s.pass).mine → TeamChained t s
  team_chained table v t s fresh same worked own_is =
      let xs = worked.1 in
      let number : (view s.pass).number ≡ (view t.pass).number = ap (λ (z : Knowledge). z.number) xs.2.after in
      let mine : (view s.pass).mine ≡ events_of (view s.pass).number xs.0 = ap (λ (z : Knowledge). z.mine) xs.2.after ∙ (ap (λ (l : List Event). l ++ events_of (view t.pass).number xs.0) fresh.mine ∙ ap (λ (n : ℕ). events_of n xs.0) (sym number)) in
      record { fetchings = xs.0; chain = subst (λ (r : Rows). Chain gives r t.fetch xs.0 s.fetch) same xs.1; works = ap (filter is_work) (own_is ∙ mine) ∙ all_work (view s.pass).number xs.0 }

  pub teams_chained : (table : TableId) (v0 v u : Knowledge) (ts us : List (Team F)) → AllFresh v0 ts → rows_of v0 ≡ rows → Pairs (TeamWorked gives table) ts us → Gathered v us u → OthersOwn h u.others → Pairs TeamChained ts us
  teams_chained table v0 v u [] [] fresh same p g own_is = tt
  teams_chained table v0 v u [] (s ∷ us) fresh same p g own_is = absurd p
  teams_chained table v0 v u (t ∷ ts) [] fresh same p g own_is = absurd p
  teams_chained table v0 v u (t ∷ ts) (s ∷ us) fresh same p g own_is =
      let x : ℕ × List Event = ((view s.pass).number, (view s.pass).mine) in
      let split : u.others ≡ g.0.others ++ x ∷ (view s.pass).others = g.2.others in
      let before : OthersOwn h g.0.others = λ j n es at small. (let y : ℕ × List Event = (n, es) in own_is j n es (subst (λ (l : List (ℕ × List Event)). At l j y) (sym split) (at_left g.0.others (x ∷ (view s.pass).others) j y at)) small) in
      let there = at_right g.0.others (x ∷ (view s.pass).others) 0 x refl in
      let here : own number_of x.0 h ≡ x.1 = own_is there.0 x.0 x.1 (subst (λ (l : List (ℕ × List Event)). At l there.0 x) (sym split) there.1) p.0.0.4 in
      let same_t : rows_of (view t.pass) ≡ rows = ap (λ (o : Option (Rows × ℕ)). (unwrap_or o (no_rows, 0)).0) fresh.0.fixed ∙ same in
      (team_chained table v0 t s fresh.0 same_t p.0 here, teams_chained table v0 v g.0 ts us fresh.1 same p.1 g.1 before)

  abbrev pub NumberChained : ℕ → F → F → Type 0
  NumberChained n f g = IsChained gives rows h f g n

  pub fetchers_chained : (ts us : List (Team F)) → Pairs TeamChained ts us → Trios NumberChained (back_numbers us) (back ts) (back us)
  fetchers_chained [] [] p = tt
  fetchers_chained [] (s ∷ us) p = absurd p
  fetchers_chained (t ∷ ts) [] p = absurd p
  fetchers_chained (t ∷ ts) (s ∷ us) p = trios_more NumberChained (back_numbers us) ((view s.pass).number ∷ []) (back ts) (t.fetch ∷ []) (back us) (s.fetch ∷ []) (fetchers_chained ts us p.1) (p.0, tt)

module _ {F : Type 0} (rows : Rows) (limit : ℕ) (v0 v : Knowledge) (ts : List (Team F)) (first : v0 ≡ first_view (rows, limit)) (handed : HandedOut v0 v ts) where
  seen_is : v.seen ≡ []
  seen_is = ap (λ (z : Knowledge). z.seen) handed.same ∙ ap (λ (z : Knowledge). z.seen) first

  mine_is : v.mine ≡ []
  mine_is = ap (λ (z : Knowledge). z.mine) handed.same ∙ ap (λ (z : Knowledge). z.mine) first

  number_is : v.number ≡ 0
  number_is = ap (λ (z : Knowledge). z.number) handed.same ∙ ap (λ (z : Knowledge). z.number) first

  pub scripts : IsScripts v
  scripts = (number_is, ap (own number_of v.number) seen_is ∙ (own_nothing v.number ∙ sym mine_is))

  module _ (gives : F → List ℕ → ℕ → Fetched → F → Type 0) {I : Type 0} where
    pub whole_script : (w u : Knowledge) (f g : F) (ss : List Step) (m : Machine I) (us : List (Team F)) → Played gives v f ss w g → Gathered w us u → Finished u m → IsChained gives rows m.history f g 0
    whole_script w u f g ss m us played gathered done =
        let same = gathered_mine w u us gathered in
        let rows_v : rows_of v ≡ rows = ap (λ (o : Option (Rows × ℕ)). (unwrap_or o (no_rows, 0)).0) (ap (λ (z : Knowledge). z.fixed) handed.same ∙ ap (λ (z : Knowledge). z.fixed) first) in
        let number_u : u.number ≡ 0 = same.1 ∙ (ap (λ (z : Knowledge). z.number) played.same ∙ number_is) in
        let own_is : own number_of 0 m.history ≡ w.mine = ap (λ (n : ℕ). own number_of n m.history) (sym number_u) ∙ (done.mine ∙ same.0) in
        record {
          fetchings = played.fetchings;
          chain = subst (λ (r : Rows). Chain gives r f played.fetchings g) rows_v played.chain;
          works = ap (filter is_work) own_is ∙ (played.works ∙ ap (λ (l : List Event). filter is_work l ++ events_of 0 played.fetchings) mine_is);
        }

    pub whole_workers : (table : TableId) (w u : Knowledge) (m : Machine I) (us : List (Team F)) → Pairs (TeamWorked gives table) ts us → Gathered w us u → Finished u m → Trios (λ n f g. IsChained {F = F} gives rows m.history f g n) (back_numbers us) (back ts) (back us)
    whole_workers table w u m us worked gathered done =
        let rows_0 : rows_of v0 ≡ rows = ap (λ (z : Knowledge). rows_of z) first in
        fetchers_chained gives rows m.history ts us (teams_chained gives rows m.history table v0 w u ts us handed.fresh rows_0 worked gathered (λ j n es at small. done.known.knows.others j n es at small))

    pub whole_numbers : (w u : Knowledge) (f g : F) (ss : List Step) (m : Machine I) (us : List (Team F)) → Played gives v f ss w g → Gathered w us u → Finished u m → AreDistinct (0 ∷ back_numbers us)
    whole_numbers w u f g ss m us played gathered done k small =
        let number_w : w.number ≡ 0 = ap (λ (z : Knowledge). z.number) played.same ∙ number_is in
        let first_w : in_span k 0 1 ≤ times k (domain w) = subst (λ (n : ℕ). in_span k n 1 ≤ times k (domain w)) number_w (first_part k w) in
        let a = gathered_times w u us k gathered in
        let b = done.known.apart k small in
        let c = team_occurs k us in
        omega (arith, first_w, a, b, c)

    pub whole_live : (table : TableId) (w u : Knowledge) (f g : F) (ss : List Step) (m : Machine I) (us : List (Team F))
        → HasAll v0 → 0 < length ts → Pairs (TeamWorked gives table) ts us → Played gives v f ss w g → Gathered w us u → Finished u m → IsLive rows limit ss m.history
    whole_live table w u f g ss m us whole one worked played gathered done =
        let same = gathered_mine w u us gathered in
        let fixed_v : v.fixed ≡ Some (rows, limit) = ap (λ (z : Knowledge). z.fixed) handed.same ∙ ap (λ (z : Knowledge). z.fixed) first in
        let fixed_w : w.fixed ≡ v.fixed = ap (λ (z : Knowledge). z.fixed) played.same in
        let rows_u : rows_of u ≡ rows_of v = ap (λ (o : Option (Rows × ℕ)). (unwrap_or o (no_rows, 0)).0) (same.2 ∙ fixed_w) in
        let rows_v : rows_of v ≡ rows = ap (λ (o : Option (Rows × ℕ)). (unwrap_or o (no_rows, 0)).0) fixed_v in
        let rows_m : m.rows ≡ rows = done.rows ∙ (rows_u ∙ rows_v) in
        let limit_m : m.limit ≡ limit = done.limit ∙ ap (λ (o : Option (Rows × ℕ)). (unwrap_or o (no_rows, 0)).1) (same.2 ∙ (fixed_w ∙ fixed_v)) in
        let all_came = came gives table v0 ts us handed.fresh worked in
        let none : w.others ≡ [] = ap (λ (z : Knowledge). z.others) played.same ∙ (ap (λ (z : Knowledge). z.others) handed.same ∙ ap (λ (z : Knowledge). z.others) first) in
        let others : AllWorked u.others = gathered_others w u us all_came gathered (subst AllWorked (sym none) (λ i k es at. absurd (some-ne-none _ (sym at)))) in
        let bare_v : v.bare ≡ [] = ap (λ (z : Knowledge). z.bare) handed.same ∙ ap (λ (z : Knowledge). z.bare) first in
        let all : HasAll u = λ k small. (let a = gathered_times w u us k gathered in let b = times_same gives table ts us k worked in let d : times k (domain w) ≡ times k (domain v) = ap (λ (z : Knowledge). times k (domain z)) played.same in let e = handed.domains k in let p = whole k small in omega (arith, a, b, d, e, p)) in
        let o = gathered_over gives table w u ts us one worked gathered in
        let fresh = o.4 v0 handed.fresh in
        let rows_t : rows_of (view o.0.pass) ≡ rows = ap (λ (x : Option (Rows × ℕ)). (unwrap_or x (no_rows, 0)).0) (fresh.fixed ∙ ap (λ (z : Knowledge). z.fixed) first) in
        let ended : take_reply m.rows o.1 ≡ next.End = ap (λ (r : Rows). take_reply r o.1) (rows_m ∙ sym rows_t) ∙ o.3 in
        let on : IsPrefix o.1 m.history = (o.2.0 ++ done.seen.0, sym (Rattle.std.proofs.Common.append_assoc o.1 o.2.0 done.seen.0) ∙ (ap (λ (l : List Event). l ++ done.seen.0) o.2.1 ∙ done.seen.1)) in
        let number_w : w.number ≡ 0 = ap (λ (z : Knowledge). z.number) played.same ∙ number_is in
        let is : IsLive m.rows m.limit ss m.history = is_live gives v w u f g ss m o.1 seen_is mine_is bare_v number_is played (same.1 ∙ number_w) same.0 (gathered_bare w u us all_came gathered) rows_u others all (gathered_seen w u us gathered) done on ended in
        subst (λ (z : Rows × ℕ). IsLive z.0 z.1 ss m.history) (λ i. (rows_m i, limit_m i)) is

pub pairs_length : {A B : Type 0} (R : A → B → Type 0) (xs : List A) (ys : List B) → Pairs R xs ys → length xs ≡ length ys
pairs_length R [] [] p = refl
pairs_length R [] (y ∷ ys) p = absurd p
pairs_length R (x ∷ xs) [] p = absurd p
pairs_length R (x ∷ xs) (y ∷ ys) p = ap suc (pairs_length R xs ys p.1)

-- a whole run, from what the script's thread and the workers left
module _ {F : Type 0} (gives : F → List ℕ → ℕ → Fetched → F → Type 0) (v0 v : Knowledge) (ts : List (Team F)) (first : IsFirst v0) (handed : HandedOut v0 v ts) where
  pub rows_kept : rows_of v ≡ rows_of v0
  rows_kept = ap (λ (z : Knowledge). rows_of z) handed.same

  limit_kept : limit_of v ≡ limit_of v0
  limit_kept = ap (λ (z : Knowledge). limit_of z) handed.same

  pub first_scripts : IsScripts v
  first_scripts = scripts (rows_of v0) (limit_of v0) v0 v ts first.0 handed

  module _ {I : Type 0} (table : TableId) (w u : Knowledge) (f g : F) (m : Machine I) (us : List (Team F)) (cs : List Command) (text : List ℕ) (some : 0 < length ts) (worked : Pairs (TeamWorked gives table) ts us) (ran : RanScript gives v f cs text w g) (gathered : Gathered w us u) (done : Finished u m) where
    abbrev steps : List Step
    steps = flat_map (λ (l : Line). l.steps) ran.lines ++ ran.closing ∷ []

    pub ran_live : RanLive (rows_of v) (limit_of v) cs text m.history
    ran_live =
        let is : IsLive (rows_of v0) (limit_of v0) steps m.history = whole_live (rows_of v0) (limit_of v0) v0 v ts first.0 handed gives table w u f g steps m us first.1 some worked ran.played gathered done in
        record {
          lines = ran.lines;
          asked = ran.asked;
          are_lines = ran.are_lines;
          closing = ran.closing;
          close_is = ran.close_is;
          live = subst (λ (z : Rows × ℕ). IsLive z.0 z.1 steps m.history) (λ i. (sym rows_kept i, sym limit_kept i)) is;
          text_is = ran.text_is;
        }

    takers_are : TakersAre m.history (back_numbers us)
    takers_are x b n y is = by (accounted (length x) (Take b n) (subst (λ (l : List Event). At l (length x) (Take b n)) (sym is) (at_here x (Take b n) y)))
      where
        same_w : (u.mine ≡ w.mine) × (u.number ≡ w.number) × (u.fixed ≡ w.fixed)
        same_w = gathered_mine w u us gathered

        zero_u : u.number ≡ 0
        zero_u = same_w.1 ∙ (ap (λ (z : Knowledge). z.number) ran.played.same ∙ first_scripts.0)

        own_is : own number_of 0 m.history ≡ u.mine
        own_is = ap (λ (k : ℕ). own number_of k m.history) (sym zero_u) ∙ done.mine

        whole : HasAll u
        whole k small = let a = gathered_times w u us k gathered in let b = times_same gives table ts us k worked in let d : times k (domain w) ≡ times k (domain v) = ap (λ (z : Knowledge). times k (domain z)) ran.played.same in let e = handed.domains k in let p = first.1 k small in omega (arith, a, b, d, e, p)

        accounted : (p : ℕ) (e : Event) → At m.history p e → Accounted number_of u p e
        accounted = done.accounted whole

        none : w.others ≡ []
        none = ap (λ (z : Knowledge). z.others) ran.played.same ∙ (ap (λ (z : Knowledge). z.others) handed.same ∙ ap (λ (z : Knowledge). z.others) first.0)

        by : ((i : ℕ) × At u.mine i (Take b n)) ⊎ ((i : ℕ) × (es : List Event) × (j : ℕ) × At u.others i (n, es) × At es j (Take b n)) → (n ≡ 0) ⊎ ((i : ℕ) × At (back_numbers us) i n)
        by (inl mine) = inl (eqb-true n 0 (own_member 0 m.history mine.0 (Take b n) (subst (λ (l : List Event). At l mine.0 (Take b n)) (sym own_is) mine.1)))
        by (inr other) = inr (gathered_keys w u us (came gives table v0 ts us handed.fresh worked) gathered none other.0 n other.1 other.3)

    pub are_chained : (backs : List F) → backs ≡ back us → AreChained gives (rows_of v) m.history (back ts) backs f g
    are_chained backs is = subst (λ (z : Rows × List F). AreChained gives z.0 m.history (back ts) z.1 f g) (λ i. (sym rows_kept i, sym is i)) (record {
      script = whole_script (rows_of v0) (limit_of v0) v0 v ts first.0 handed gives w u f g steps m us ran.played gathered done;
      numbers = back_numbers us;
      workers = whole_workers (rows_of v0) (limit_of v0) v0 v ts first.0 handed gives table w u m us worked gathered done;
      distinct = whole_numbers (rows_of v0) (limit_of v0) v0 v ts first.0 handed gives w u f g steps m us ran.played gathered done;
      takers = takers_are;
    })

    pub rows_ended : m.rows ≡ rows_of v
    rows_ended = done.rows ∙ ap (λ (o : Option (Rows × ℕ)). (unwrap_or o (no_rows, 0)).0) ((gathered_mine w u us gathered).2 ∙ ap (λ (z : Knowledge). z.fixed) ran.played.same)
