-- The ticket lock over a step of one seat, whatever else the seats know.
use Rattle.std.proofs.Common.{◌≡◌, ◌≢◌, ◌⊎◌, ℕ, zero, suc, ◌+◌, ◌%◌, ◌<◌, ◌≤◌, List, [], ◌∷◌, ◌++◌, length, get_or, set, sym, refl, ap, ◌∙◌, subst, ⊎_elim, inl, inr, arith, Option, Some, length-set, length-append}
use mathlib.Core.Logic.{dite}
use mathlib.Core.Option.{none, some, some-injective, some-ne-none}
use mathlib.Core.Option as maybe
use native.Mathlib.Decide.{ℕ_discrete}
use lib.ListN.{get_elem?}
use Rattle.atomic_table.specs.Table.{State}
use Rattle.atomic_table.proofs.Lists.{at_longer, at_set, at_snoc, set_here, set_else, one_turn}
use Rattle.addr_turn.specs.declared.board.Role.{Role}
use Rattle.addr_turn.specs.declared.board.Role.TheVariants.{Idle, Drawn, Turn, Glanced, Out}
use Rattle.addr_turn.specs.Numbers.{number_bound}
use Rattle.addr_turn.specs.Queue.{stage, ticket, held, tickets_of, Waits, AtHome, Away, Queue}

-- a seat at least at its turn, or with a ticket, holds one ticket
pub holds_one : (r : Role) → 0 < stage r → held r ≡ 1
holds_one Idle h = absurd (omega arith)
holds_one (Drawn t) h = refl
holds_one (Turn t) h = refl
holds_one (Glanced t) h = refl
holds_one (Out t) h = refl

pub holds_none : (r : Role) → stage r ≡ 0 → held r ≡ 0
holds_none Idle h = refl
holds_none (Drawn t) h = absurd (omega (arith, h))
holds_none (Turn t) h = absurd (omega (arith, h))
holds_none (Glanced t) h = absurd (omega (arith, h))
holds_none (Out t) h = absurd (omega (arith, h))

pub holds_few : (r : Role) → held r ≤ 1
holds_few Idle = omega arith
holds_few (Drawn t) = omega arith
holds_few (Turn t) = omega arith
holds_few (Glanced t) = omega arith
holds_few (Out t) = omega arith

module _ (V : Type 0) (role : V → Role) where
  -- a fact of each seat, where one seat has a new view
  pub seats_stay : (K : V → Type 0) (vs : List V) (me : ℕ) (w : V) → K w → ((j : ℕ) (d : V) → j ≢ me → get_elem? vs j ≡ some d → K d)
      → (j : ℕ) (d : V) → get_elem? (set vs me w) j ≡ some d → K d
  seats_stay K vs me w mine others j d e = ⊎_elim (λ (t : (j ≡ me) × (w ≡ d)). subst K t.1 mine)
      (λ (t : (j ≢ me) × (get_elem? vs j ≡ some d)). others j d t.0 t.1) (at_set vs me j w d e)

  -- a fact that no two seats share
  pub pairs_stay : (R : V → V → Type 0) → ((c d : V) → R c d → R d c) → (vs : List V) (me : ℕ) (w : V)
      → ((i j : ℕ) (c d : V) → get_elem? vs i ≡ some c → get_elem? vs j ≡ some d → R c d → i ≡ j)
      → ((j : ℕ) (d : V) → j ≢ me → get_elem? vs j ≡ some d → R w d → ⊥)
      → (i j : ℕ) (c d : V) → get_elem? (set vs me w) i ≡ some c → get_elem? (set vs me w) j ≡ some d → R c d → i ≡ j
  pairs_stay R turn vs me w old new i j c d at_i at_j r = ⊎_elim
      (λ (t : (i ≡ me) × (w ≡ c)). ⊎_elim (λ (u : (j ≡ me) × (w ≡ d)). t.0 ∙ sym u.0)
      (λ (u : (j ≢ me) × (get_elem? vs j ≡ some d)). absurd (new j d u.0 u.1 (subst (λ (x : V). R x d) (sym t.1) r))) (at_set vs me j w d at_j))
      (λ (t : (i ≢ me) × (get_elem? vs i ≡ some c)). ⊎_elim (λ (u : (j ≡ me) × (w ≡ d)). absurd (new i c t.0 t.1 (subst (λ (x : V). R x c) (sym u.1) (turn c d r))))
      (λ (u : (j ≢ me) × (get_elem? vs j ≡ some d)). old i j c d t.1 u.1 r) (at_set vs me j w d at_j)) (at_set vs me i w c at_i)

  -- the place behind the others is one that no seat has yet
  pub seat_below : (vs : List V) (j : ℕ) (d : V) → get_elem? vs j ≡ some d → j < length vs
  seat_below [] j d e = absurd (some-ne-none d (sym e))
  seat_below (v ∷ vs) zero d e = omega arith
  seat_below (v ∷ vs) (suc j) d e = let h = seat_below vs j d e in omega (arith, h)

  pub tickets_set : (vs : List V) (me : ℕ) (v w : V) → get_elem? vs me ≡ some v → tickets_of role (set vs me w) + held (role v) ≡ tickets_of role vs + held (role w)
  tickets_set [] me v w e = absurd (some-ne-none v (sym e))
  tickets_set (x ∷ xs) zero v w e = let same : held (role x) ≡ held (role v) = ap (λ (z : V). held (role z)) (some-injective x v e) in omega (arith, same)
  tickets_set (x ∷ xs) (suc me) v w e = let h = tickets_set xs me v w e in omega (arith, h)

  pub tickets_append : (vs : List V) (w : V) → tickets_of role (vs ++ w ∷ []) ≡ tickets_of role vs + held (role w)
  tickets_append [] w = omega arith
  tickets_append (x ∷ xs) w = let h = tickets_append xs w in omega (arith, h)

  pub tickets_few : (vs : List V) → tickets_of role vs ≤ length vs
  tickets_few [] = omega arith
  tickets_few (x ∷ xs) = let h = tickets_few xs in let one = holds_few (role x) in omega (arith, h, one)

  -- a seat with a ticket holds one of the tickets
  pub one_is_held : (vs : List V) (me : ℕ) (v : V) → get_elem? vs me ≡ some v → held (role v) ≤ tickets_of role vs
  one_is_held [] me v e = absurd (some-ne-none v (sym e))
  one_is_held (x ∷ xs) zero v e = let same : held (role x) ≡ held (role v) = ap (λ (z : V). held (role z)) (some-injective x v e) in omega (arith, same)
  one_is_held (x ∷ xs) (suc me) v e = let h = one_is_held xs me v e in omega (arith, h)

  abbrev Same : V → V → Type 0
  Same c d = (0 < stage (role c)) × (0 < stage (role d)) × (ticket (role c) ≡ ticket (role d))

-- the ticket of a seat is below the tickets drawn by less than a turn of the ring
module _ (S V : Type 0) (role : V → Role) where
  abbrev Homes : Type 0
  Homes = List (maybe.Option (Option S))

  abbrev St : Type 0
  St = State (Option S) V

  abbrev Place : (S → Type 0) → Homes → List V → Type 0
  Place Good homes views = AtHome role Good homes views ⊎ Away role views

  -- one seat gets a new view, and the totals, the words and the homes become others
  pub restep : (Good Good' : S → Type 0) (s : St) (q : Queue role Good s) (me : ℕ) (v : V) → get_elem? s.views me ≡ some v → (w : V) (n m : ℕ) (words : List ℕ) (homes : Homes)
      → length words ≡ 3 → length homes ≡ 1 → get_or words 0 0 ≡ n % 18446744073709551616 → get_or words 1 0 ≡ m % 18446744073709551616
      → m + held (role w) + q.n ≡ n + q.m + held (role v)
      → Waits m n (role w) → ((j : ℕ) (d : V) → j ≢ me → get_elem? s.views j ≡ some d → Waits m n (role d))
      → ((j : ℕ) (d : V) → j ≢ me → get_elem? s.views j ≡ some d → 0 < stage (role w) → 0 < stage (role d) → ticket (role w) ≡ ticket (role d) → ⊥)
      → Place Good' homes (set s.views me w)
      → Queue role Good' record { words = words; homes = homes; views = set s.views me w }
  restep Good Good' s q me v at w n m words homes wide deep tickets turns sums mine others apart place = record {
    n = n;
    m = m;
    wide = wide;
    deep = deep;
    tickets = tickets;
    turns = turns;
    all_held = let t = tickets_set V role s.views me v w at in omega (arith, t, sums, q.all_held);
    few = let l = length-set s.views me w in omega (arith, l, q.few);
    each_seat = seats_stay V role (λ (d : V). Waits m n (role d)) s.views me w mine others;
    own = λ i j c d at_i at_j a b e. pairs_stay V role (Same V role) (λ x y r. (r.1, r.0, sym r.2)) s.views me w (λ i' j' c' d' p p' r. q.own i' j' c' d' p p' r.0 r.1 r.2)
        (λ j' d' ne p r. apart j' d' ne p r.0 r.1 r.2) i j c d at_i at_j (a, b, e);
    place = place;
  }

  -- the seat keeps its ticket, and the words of the tickets stay
  pub stays_on : (Good Good' : S → Type 0) (s : St) (q : Queue role Good s) (me : ℕ) (v : V) → get_elem? s.views me ≡ some v → (w : V) (words : List ℕ) (homes : Homes)
      → length words ≡ length s.words → length homes ≡ length s.homes → get_or words 0 0 ≡ get_or s.words 0 0 → get_or words 1 0 ≡ get_or s.words 1 0
      → 0 < stage (role v) → 0 < stage (role w) → ticket (role w) ≡ ticket (role v) → (1 < stage (role w) → ticket (role w) ≡ q.m)
      → Place Good' homes (set s.views me w)
      → Queue role Good' record { words = words; homes = homes; views = set s.views me w }
  stays_on Good Good' s q me v at w words homes wide deep tickets turns is will same mine place = let old = q.each_seat me v at in let one = holds_one (role v) is in let one' = holds_one (role w) will in
      let low = old.low is in let high = old.high is in
      restep Good Good' s q me v at w q.n q.m words homes (wide ∙ q.wide) (deep ∙ q.deep) (tickets ∙ q.tickets) (turns ∙ q.turns) (omega (arith, one, one'))
      record { low = λ _. omega (arith, low, same); high = λ _. omega (arith, high, same); turn = mine }
      (λ j d _ p. q.each_seat j d p)
      (λ j d ne p a b e. ne (sym (q.own me j v d at p is b (sym same ∙ e))))
      place

  -- two seats at the turn are one
  pub one_turner : (Good : S → Type 0) (s : St) (q : Queue role Good s) (i j : ℕ) (c d : V) → get_elem? s.views i ≡ some c → get_elem? s.views j ≡ some d → 1 < stage (role c) → 1 < stage (role d) → i ≡ j
  one_turner Good s q i j c d at_i at_j a b = let ti = (q.each_seat i c at_i).turn a in let tj = (q.each_seat j d at_j).turn b in q.own i j c d at_i at_j (omega (arith, a)) (omega (arith, b)) (ti ∙ sym tj)

  -- at its turn, without the state: it is at home
  pub is_home : (Good : S → Type 0) (s : St) (q : Queue role Good s) (me : ℕ) (v : V) → get_elem? s.views me ≡ some v → 1 < stage (role v) → stage (role v) < 4 → AtHome role Good s.homes s.views
  is_home Good s q me v at a b = ⊎_elim (λ (h : AtHome role Good s.homes s.views). h)
      (λ (h : Away role s.views). let out = h.out in let same : h.who ≡ me = one_turner Good s q h.who me h.view v h.seat at (omega (arith, out)) a in
      let view : h.view ≡ v = some-injective h.view v (sym h.seat ∙ (ap (get_elem? s.views) same ∙ at)) in
      let stages : stage (role h.view) ≡ stage (role v) = ap (λ (z : V). stage (role z)) view in absurd (omega (arith, out, stages, b))) q.place

  -- where neither view has the state out, it is where it was
  pub place_stays : (Good : S → Type 0) (homes : Homes) (views : List V) → Place Good homes views → (me : ℕ) (v : V) → get_elem? views me ≡ some v → (w : V) → stage (role v) < 4 → stage (role w) < 4
      → Place Good homes (set views me w)
  place_stays Good homes views place me v at w was now = ⊎_elim
      (λ (h : AtHome role Good homes views). inl record { state = h.state; home = h.home; good = h.good; none_out = seats_stay V role (λ (d : V). stage (role d) < 4) views me w now (λ j d _ p. h.none_out j d p) })
      (λ (h : Away role views). let out = h.out in
      let other : h.who ≢ me = λ same. let view : h.view ≡ v = some-injective h.view v (sym h.seat ∙ (ap (get_elem? views) same ∙ at)) in let stages : stage (role h.view) ≡ stage (role v) = ap (λ (z : V). stage (role z)) view in omega (arith, out, stages, was) in
      inr record { who = h.who; view = h.view; seat = set_else views me h.who w other ∙ h.seat; out = h.out }) place

  -- the seat has the state out, and goes on having it
  pub out_still : (Good : S → Type 0) (homes : Homes) (views : List V) (me : ℕ) (w : V) → me < length views → stage (role w) ≡ 4 → Place Good homes (set views me w)
  out_still Good homes views me w inside now = inr record { who = me; view = w; seat = set_here views me w inside; out = now }

  -- the seat that had the state out has put it home
  pub comes_home : (Good Good' : S → Type 0) (s : St) (q : Queue role Good s) (me : ℕ) (v : V) → get_elem? s.views me ≡ some v → stage (role v) ≡ 4 → (w : V) → stage (role w) < 4 → (x : S) → Good' x
      → Place Good' (set s.homes 0 (some (Some x))) (set s.views me w)
  comes_home Good Good' s q me v at was w now x good = let deep = q.deep in inl record {
    state = x;
    home = set_here s.homes 0 (some (Some x)) (omega (arith, deep));
    good = good;
    none_out = seats_stay V role (λ (d : V). stage (role d) < 4) s.views me w now
        (λ j d ne p. dite (ℕ_discrete (stage (role d)) 4) (λ four. absurd (ne (one_turner Good s q j me d v p at (omega (arith, four)) (omega (arith, was)))))
        (λ less. let small = stage_small (role d) in omega (arith, less, small)));
  }
    where
      stage_small : (r : Role) → stage r ≤ 4
      stage_small Idle = omega arith
      stage_small (Drawn t) = omega arith
      stage_small (Turn t) = omega arith
      stage_small (Glanced t) = omega arith
      stage_small (Out t) = omega arith

  -- at equality of the remainders, the ticket is the one whose turn it is
  pub is_turn : (Good : S → Type 0) (s : St) (q : Queue role Good s) (me : ℕ) (v : V) → get_elem? s.views me ≡ some v → 0 < stage (role v) → get_or s.words 1 0 ≡ ticket (role v) % 18446744073709551616 → ticket (role v) ≡ q.m
  is_turn Good s q me v at is found = let old = q.each_seat me v at in let low = old.low is in let high = old.high is in let few = q.few in let all = q.all_held in let held_few = tickets_few V role s.views in
      sym (one_turn q.m (ticket (role v)) 18446744073709551616 low (omega (arith, high, few, all, held_few)) (sym q.turns ∙ found))

  -- a seat with no ticket goes on having none
  pub at_rest : (Good : S → Type 0) (s : St) (q : Queue role Good s) (me : ℕ) (v : V) → get_elem? s.views me ≡ some v → (w : V) → stage (role v) ≡ 0 → stage (role w) ≡ 0
      → Queue role Good record { words = s.words; homes = s.homes; views = set s.views me w }
  at_rest Good s q me v at w was is = let none = holds_none (role v) was in let none' = holds_none (role w) is in
      restep Good Good s q me v at w q.n q.m s.words s.homes q.wide q.deep q.tickets q.turns (omega (arith, none, none'))
      record { low = λ z. absurd (omega (arith, is, z)); high = λ z. absurd (omega (arith, is, z)); turn = λ z. absurd (omega (arith, is, z)) }
      (λ j d _ p. q.each_seat j d p) (λ j d _ _ a _ _. omega (arith, is, a))
      (place_stays Good s.homes s.views q.place me v at w (omega (arith, was)) (omega (arith, is)))

  -- a new seat with no ticket
  pub grows : (Good : S → Type 0) (s : St) (q : Queue role Good s) (w : V) → stage (role w) ≡ 0 → length s.views + 1 ≤ number_bound
      → Queue role Good record { words = s.words; homes = s.homes; views = s.views ++ w ∷ [] }
  grows Good s q w is few = let vacant = holds_none (role w) is in record {
    n = q.n;
    m = q.m;
    wide = q.wide;
    deep = q.deep;
    tickets = q.tickets;
    turns = q.turns;
    all_held = let t = tickets_append V role s.views w in omega (arith, t, vacant, q.all_held);
    few = let l = length-append s.views (w ∷ []) in omega (arith, l, few);
    each_seat = λ j d e. ⊎_elim (λ (old : get_elem? s.views j ≡ some d). q.each_seat j d old)
        (λ (new : w ≡ d). subst (λ (x : V). Waits q.m q.n (role x)) new record { low = λ z. absurd (omega (arith, is, z)); high = λ z. absurd (omega (arith, is, z)); turn = λ z. absurd (omega (arith, is, z)) })
        (at_snoc s.views w d j e);
    own = λ i j c d at_i at_j a b same. ⊎_elim
        (λ (old : get_elem? s.views i ≡ some c). ⊎_elim (λ (old' : get_elem? s.views j ≡ some d). q.own i j c d old old' a b same)
        (λ (new : w ≡ d). let none_there : stage (role d) ≡ 0 = ap (λ (x : V). stage (role x)) (sym new) ∙ is in absurd (omega (arith, none_there, b))) (at_snoc s.views w d j at_j))
        (λ (new : w ≡ c). let none_there : stage (role c) ≡ 0 = ap (λ (x : V). stage (role x)) (sym new) ∙ is in absurd (omega (arith, none_there, a))) (at_snoc s.views w c i at_i);
    place = ⊎_elim
        (λ (h : AtHome role Good s.homes s.views). inl record {
          state = h.state;
          home = h.home;
          good = h.good;
          none_out = λ j d e. ⊎_elim (λ (old : get_elem? s.views j ≡ some d). h.none_out j d old)
              (λ (new : w ≡ d). let none_there : stage (role d) ≡ 0 = ap (λ (x : V). stage (role x)) (sym new) ∙ is in omega (arith, none_there)) (at_snoc s.views w d j e);
        })
        (λ (h : Away role s.views). inr record { who = h.who; view = h.view; seat = at_longer s.views (w ∷ []) h.who h.view h.seat; out = h.out }) q.place;
  }
