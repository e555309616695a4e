-- Each kind of step of one seat keeps the rule.
use Rattle.std.proofs.Common.{◌≡◌, ◌≢◌, ◌⊎◌, ℕ, ◌+◌, ◌-◌, ◌%◌, ◌^◌, ◌<◌, ◌≤◌, eqb, List, [], ◌∷◌, ◌++◌, map, length, get_or, set, sym, refl, ap, ◌∙◌, subst, ⊎_elim, inl, inr, arith, Option, Some, None, length-set, get_or-set_other, get_or-set_same}
use Rattle.std.proofs.Math.Nat.{mod-add-mod}
use mathlib.Core.Logic.{dite}
use mathlib.Core.Option.{none, some, some-injective, some-ne-none}
use mathlib.Core.Option as maybe
use native.Mathlib.Decide.{ℕ_discrete}
use lib.Seq.{set-get_or}
use prog.Atomic.{either}
use Rattle.atomic_table.specs.Table.{State, Me, step, keeps, takes, gives, Allows, opening}
use Rattle.atomic_table.proofs.Lists.{exchanged}
use Rattle.addr_turn.specs.declared.board.Role.{Role}
use Rattle.addr_turn.specs.declared.board.Role.TheVariants.{Idle, Drawn, Turn, Glanced, Out}
use Rattle.addr_turn.specs.declared.board.View.{View}
use Rattle.addr_turn.specs.Queue.{stage, ticket, Waits, AtHome, Away, Queue}
use Rattle.addr_turn.specs.Numbers.{times}
use Rattle.addr_turn.specs.OneHistory.{own, At, domain, role_of, first_view, Knows, IsKnown, Stands, Ruled}
use Rattle.addr_turn.specs.Steps.{with_role, with_seen, with_share, drawn, looked, glanced_in_turn, glanced, took, put, served, planned, compared}
use Rattle.addr_turn.proofs.Prefixes.{prefix_of_itself}
use Rattle.addr_turn.proofs.Claims.{claims_set, claims_one, spares_set}
use Rattle.addr_turn.proofs.Tickets as tickets

-- what a pass knows, at another role and with another share
pub knows_at : {E F : Type 0} (number : E → Option ℕ) (log : List E) (part : F) (who : ℕ → ℕ) (v : View E F) (r : Role) (share : ℕ) → (2 < stage r → v.seen ≡ log) → Knows number log part who v
    → Knows number log part who (record v { role = r; share = share })
knows_at number log part who v r share whole k = record {
  prefix = k.prefix;
  shorter = k.shorter;
  mine = k.mine;
  mine_seen = k.mine_seen;
  others = k.others;
  whole = whole;
  same_part = k.same_part;
  idle = k.idle;
  bare_in = k.bare_in;
  bare_all = k.bare_all;
}

-- what a pass knows that has seen the whole history
pub knows_all : {E F : Type 0} (number : E → Option ℕ) (log : List E) (part : F) (who : ℕ → ℕ) (v : View E F) (r : Role) → Knows number log part who v → Knows number log part who (with_seen v r log)
knows_all number log part who v r k = record {
  prefix = prefix_of_itself log;
  shorter = k.shorter;
  mine = k.mine;
  mine_seen = k.mine;
  others = k.others;
  whole = λ _. refl;
  same_part = k.same_part;
  idle = k.idle;
  bare_in = k.bare_in;
  bare_all = k.bare_all;
}

own_of_none : {E : Type 0} (number : E → Option ℕ) (k : ℕ) → own number k [] ≡ []
unfolding own
own_of_none number k = refl

abbrev pub value_or : {F : Type 0} → F → Option F → F
value_or d (Some f) = f
value_or d None = d

-- in a row of one
alone : {A : Type 0} (v : A) (K : A → Type 0) → K v → (j : ℕ) (d : A) → At (v ∷ []) j d → K d
alone v K mine Rattle.std.proofs.Common.zero d e = subst K (some-injective v d e) mine
alone v K mine (Rattle.std.proofs.Common.suc j) d e = absurd (some-ne-none d (sym e))

alone_at : {A : Type 0} (v : A) (j : ℕ) (d : A) → At (v ∷ []) j d → j ≡ 0
alone_at v Rattle.std.proofs.Common.zero d e = refl
alone_at v (Rattle.std.proofs.Common.suc j) d e = absurd (some-ne-none d (sym e))

module _ (S E F : Type 0) (entries : S → List E) (fixed : S → F) (number : E → Option ℕ) where
  abbrev pub V : Type 0
  V = View E F

  abbrev pub St : Type 0
  St = State (Option S) V

  abbrev pub M : Type 0
  M = Me (Option S) V

  abbrev pub Homes : Type 0
  Homes = List (maybe.Option (Option S))

  abbrev pub Rule : St → Type 0
  Rule = Ruled entries fixed number

  abbrev pub Good : List E → F → S → Type 0
  Good = Stands entries fixed number

  -- one seat gets a new view with the same domain, at the same history
  pub rerule : (s : St) (r : Rule s) (me : ℕ) (v : V) → At s.views me v → (w : V) (words : List ℕ) (homes : Homes) → get_or words 2 0 ≡ get_or s.words 2 0
      → Knows number r.log r.part r.who w → ((k : ℕ) → times k (domain w) ≡ times k (domain v)) → w.spare ≡ v.spare
      → Queue role_of (Good r.log r.part) record { words = words; homes = homes; views = set s.views me w }
      → Rule record { words = words; homes = homes; views = set s.views me w }
  rerule s r me v at w words homes same known claimed spare queue = record {
    log = r.log;
    part = r.part;
    who = r.who;
    queue = queue;
    recorded = same ∙ r.recorded;
    knows = tickets.seats_stay V role_of (Knows number r.log r.part r.who) s.views me w known (λ j d _ p. r.knows j d p);
    signed = r.signed;
    once = λ k low. let c = claims_set k s.views me v w at in let old = r.once k low in let e = claimed k in omega (arith, c, old, e);
    room = let l = length-set s.views me w in let c = spares_set s.views me v w at in let old = r.room in omega (arith, l, c, old, spare);
  }

  -- at a load
  pub loaded : (s : St) (i : ℕ) (homes : Homes) (views : List V) → Rule record { words = s.words; homes = homes; views = views } → Rule record { words = set s.words i (get_or s.words i 0); homes = homes; views = views }
  loaded s i homes views h = subst (λ (ws : List ℕ). Rule record { words = ws; homes = homes; views = views }) (sym (set-get_or s.words i 0)) h

  -- a step that changes nothing but the role, the share and what was seen, and no word of the tickets
  moves : (s : St) (r : Rule s) (me : ℕ) (v : V) → At s.views me v → (w : V) (homes : Homes) → length homes ≡ length s.homes
      → Knows number r.log r.part r.who w → ((k : ℕ) → times k (domain w) ≡ times k (domain v)) → w.spare ≡ v.spare
      → 0 < stage v.role → 0 < stage w.role → ticket w.role ≡ ticket v.role → (1 < stage w.role → ticket w.role ≡ r.queue.m)
      → AtHome role_of (Good r.log r.part) homes (set s.views me w) ⊎ Away role_of (set s.views me w)
      → Rule record { words = s.words; homes = homes; views = set s.views me w }
  moves s r me v at w homes deep known claimed spare was is same turn place = rerule s r me v at w s.words homes refl known claimed spare
      (tickets.stays_on S V role_of (Good r.log r.part) (Good r.log r.part) s r.queue me v at w s.words homes refl deep refl refl was is same turn place)

  -- all that a seat knows of the history
  pub all_known : (s : St) (r : Rule s) (me : ℕ) (v : V) → At s.views me v → (w : V) → Knows number r.log r.part r.who w → ((k : ℕ) → times k (domain w) ≡ times k (domain v)) → IsKnown number r.log r.part w
  all_known s r me v at w known claimed = record {
    who = r.who;
    knows = known;
    signed = r.signed;
    apart = λ k low. let c = claims_one k s.views me v at in let o = r.once k low in let e = claimed k in omega (arith, c, o, e);
  }

  pub draws : (slots id : ℕ) (me : M) → stage me.0.role ≡ 0 → Allows Rule slots id me 0 (λ x. (x + 1) % 2 ^ 64) (drawn entries fixed number (step slots 0 1 0 none) me)
  draws slots id me st s r _ at fits = let q = r.queue in let n : ℕ = q.n in let w : V = with_role me.0 (Drawn n) in let y : ℕ = (get_or s.words 0 0 + 1) % 18446744073709551616 in let wide = q.wide in
      let none_held = tickets.holds_none me.0.role st in let all = q.all_held in (
        w,
        keeps,
        tt,
        rerule s r id me.0 at w (set s.words 0 y) s.homes (get_or-set_other s.words 0 2 y 0 (λ e. omega arith)) (knows_at number r.log r.part r.who me.0 (Drawn n) me.0.share (λ z. absurd (omega (arith, z))) (r.knows id me.0 at)) (λ k. refl) refl
            (tickets.restep S V role_of (Good r.log r.part) (Good r.log r.part) s q id me.0 at w (n + 1) q.m (set s.words 0 y) s.homes (length-set s.words 0 y ∙ wide) q.deep
            (get_or-set_same s.words 0 y 0 (omega (arith, wide)) ∙ (ap (λ (x : ℕ). (x + 1) % 18446744073709551616) q.tickets ∙ mod-add-mod n 18446744073709551616 1))
            (get_or-set_other s.words 0 1 y 0 (λ e. omega arith) ∙ q.turns) (omega (arith, none_held))
            record { low = λ _. omega (arith, all); high = λ _. omega arith; turn = λ z. absurd (omega (arith, z)) }
            (λ j d _ p. let e = q.each_seat j d p in record { low = e.low; high = λ z. let h = e.high z in omega (arith, h); turn = e.turn })
            (λ j d _ p _ b same. let h = (q.each_seat j d p).high b in omega (arith, h, same))
            (tickets.place_stays S V role_of (Good r.log r.part) s.homes s.views q.place id me.0 at w (omega (arith, st)) (omega arith))),
        (sym q.tickets, refl),
      )

  pub looks : (slots id : ℕ) (me : M) → stage me.0.role ≡ 1 → Allows Rule slots id me 1 (λ x. x) (looked entries fixed number (step slots 1 0 0 none) me)
  looks slots id me st s r _ at fits = let q = r.queue in let t : ℕ = ticket me.0.role in let x : ℕ = get_or s.words 1 0 in let k = r.knows id me.0 at in
      dite (ℕ_discrete x (t % 18446744073709551616))
      (λ hit. let w : V = with_role me.0 (Turn t) in (
        w,
        keeps,
        tt,
        loaded s 1 s.homes (set s.views id w) (moves s r id me.0 at w s.homes refl (knows_at number r.log r.part r.who me.0 (Turn t) me.0.share (λ z. absurd (omega (arith, z))) k) (λ _. refl) refl
            (omega (arith, st)) (omega arith) refl (λ _. tickets.is_turn S V role_of (Good r.log r.part) s q id me.0 at (omega (arith, st)) hit)
            (tickets.place_stays S V role_of (Good r.log r.part) s.homes s.views q.place id me.0 at w (omega (arith, st)) (omega arith))),
        ((λ _. refl), λ not. absurd (not hit)),
      ))
      (λ miss. (
        me.0,
        keeps,
        tt,
        loaded s 1 s.homes (set s.views id me.0) (moves s r id me.0 at me.0 s.homes refl k (λ _. refl) refl
            (omega (arith, st)) (omega (arith, st)) refl (λ z. absurd (omega (arith, st, z)))
            (tickets.place_stays S V role_of (Good r.log r.part) s.homes s.views q.place id me.0 at me.0 (omega (arith, st)) (omega (arith, st)))),
        ((λ hit. absurd (miss hit)), λ _. refl),
      ))

  pub glances_in_turn : (slots id : ℕ) (me : M) → stage me.0.role ≡ 2 → Allows Rule slots id me 2 (λ x. x) (glanced_in_turn entries fixed number (step slots 2 0 0 none) me)
  glances_in_turn slots id me st s r _ at fits = let q = r.queue in let t : ℕ = ticket me.0.role in let k = r.knows id me.0 at in let w : V = with_seen me.0 (Glanced t) r.log in (
    w,
    keeps,
    tt,
    loaded s 2 s.homes (set s.views id w) (moves s r id me.0 at w s.homes refl (knows_all number r.log r.part r.who me.0 (Glanced t) k) (λ _. refl) refl
        (omega (arith, st)) (omega arith) refl (λ _. (q.each_seat id me.0 at).turn (omega (arith, st)))
        (tickets.place_stays S V role_of (Good r.log r.part) s.homes s.views q.place id me.0 at w (omega (arith, st)) (omega arith))),
    ((k.prefix, sym r.recorded, k.mine, refl), refl),
  )

  pub takes_out : (slots id : ℕ) (me : M) → stage me.0.role ≡ 3 → Allows Rule slots id me 1 (λ x. x) (took entries fixed number (step slots 1 0 0 none) me)
  takes_out slots id me st s r _ at fits = let q = r.queue in let t : ℕ = ticket me.0.role in let k = r.knows id me.0 at in let w : V = with_role me.0 (Out t) in let all : me.0.seen ≡ r.log = k.whole (omega (arith, st)) in
      let home = tickets.is_home S V role_of (Good r.log r.part) s q id me.0 at (omega (arith, st)) (omega (arith, st)) in let x : S = home.state in let good = home.good in let known = knows_at number r.log r.part r.who me.0 (Out t) me.0.share (λ _. all) k in (
        w,
        takes 0 (Some x),
        home.home,
        loaded s 1 (set s.homes 0 none) (set s.views id w) (moves s r id me.0 at w (set s.homes 0 none) (length-set s.homes 0 none) known (λ _. refl) refl
            (omega (arith, st)) (omega arith) refl (λ _. (q.each_seat id me.0 at).turn (omega (arith, st)))
            (tickets.out_still S V role_of (Good r.log r.part) (set s.homes 0 none) s.views id w (tickets.seat_below V role_of s.views id me.0 at) refl)),
        (x, (good.0 ∙ sym all, (λ f e. k.same_part f e ∙ sym good.1), subst (λ (z : List E × F). IsKnown number z.0 z.1 w) (λ i. (sym good.0 i, sym good.1 i)) (all_known s r id me.0 at w known (λ _. refl))), refl),
      )

  puts_at : (slots id : ℕ) (v : V) (x : S) → stage v.role ≡ 4 → entries x ≡ v.seen → v.fixed ≡ Some (fixed x)
      → Allows Rule slots id (v, (0, Some x) ∷ []) 1 (λ y. y) (put entries fixed number (step slots 1 0 0 none) (v, (0, Some x) ∷ []))
  puts_at slots id v x st told same s r _ at fits = let q = r.queue in let t : ℕ = ticket v.role in let k = r.knows id v at in let w : V = with_role v (Turn t) in (
    w,
    gives,
    tt,
    loaded s 1 (set s.homes 0 (some (Some x))) (set s.views id w) (moves s r id v at w (set s.homes 0 (some (Some x))) (length-set s.homes 0 (some (Some x)))
        (knows_at number r.log r.part r.who v (Turn t) v.share (λ z. absurd (omega (arith, z))) k) (λ _. refl) refl
        (omega (arith, st)) (omega arith) refl (λ _. (q.each_seat id v at).turn (omega (arith, st)))
        (tickets.comes_home S V role_of (Good r.log r.part) (Good r.log r.part) s q id v at st w (omega arith) x (told ∙ k.whole (omega (arith, st)), k.same_part (fixed x) same))),
    refl,
  )

  pub puts_home : (slots id : ℕ) (me : M) (x : S) → stage me.0.role ≡ 4 → me.1 ≡ (0, Some x) ∷ [] → entries x ≡ me.0.seen → me.0.fixed ≡ Some (fixed x)
      → Allows Rule slots id me 1 (λ y. y) (put entries fixed number (step slots 1 0 0 none) me)
  puts_home slots id me x st carried told same = subst (λ (c : List (ℕ × Option S)). Allows Rule slots id (me.0, c) 1 (λ y. y) (put entries fixed number (step slots 1 0 0 none) (me.0, c))) (sym carried) (puts_at slots id me.0 x st told same)

  pub serves : (slots id : ℕ) (me : M) → stage me.0.role ≡ 2 → Allows Rule slots id me 1 (λ x. (x + 1) % 2 ^ 64) (served entries fixed number (step slots 1 1 0 none) me)
  serves slots id me st s r _ at fits = let q = r.queue in let m : ℕ = q.m in let w : V = with_role me.0 Idle in let y : ℕ = (get_or s.words 1 0 + 1) % 18446744073709551616 in let wide = q.wide in
      let one = tickets.holds_one me.0.role (omega (arith, st)) in let mine = (q.each_seat id me.0 at).turn (omega (arith, st)) in
      let past : (j : ℕ) (d : V) → j ≢ id → At s.views j d → 0 < stage d.role → ticket d.role ≢ m = λ j d ne p a e. ne (sym (q.own id j me.0 d at p (omega (arith, st)) a (mine ∙ sym e))) in (
        w,
        keeps,
        tt,
        rerule s r id me.0 at w (set s.words 1 y) s.homes (get_or-set_other s.words 1 2 y 0 (λ e. omega arith)) (knows_at number r.log r.part r.who me.0 Idle me.0.share (λ z. absurd (omega (arith, z))) (r.knows id me.0 at)) (λ k. refl) refl
            (tickets.restep S V role_of (Good r.log r.part) (Good r.log r.part) s q id me.0 at w q.n (m + 1) (set s.words 1 y) s.homes (length-set s.words 1 y ∙ wide) q.deep
            (get_or-set_other s.words 1 0 y 0 (λ e. omega arith) ∙ q.tickets)
            (get_or-set_same s.words 1 y 0 (omega (arith, wide)) ∙ (ap (λ (x : ℕ). (x + 1) % 18446744073709551616) q.turns ∙ mod-add-mod m 18446744073709551616 1))
            (omega (arith, one))
            record { low = λ z. absurd (omega (arith, z)); high = λ z. absurd (omega (arith, z)); turn = λ z. absurd (omega (arith, z)) }
            (λ j d ne p. let e = q.each_seat j d p in record {
              low = λ z. let h = e.low z in let other = past j d ne p z in omega (arith, h, other);
              high = e.high;
              turn = λ z. absurd (past j d ne p (omega (arith, z)) (e.turn z));
            })
            (λ j d _ p a _ _. omega (arith, a))
            (tickets.place_stays S V role_of (Good r.log r.part) s.homes s.views q.place id me.0 at w (omega (arith, st)) (omega arith))),
        refl,
      )

  opens_at : (x : S) → entries x ≡ [] → Rule (opening (0 ∷ 0 ∷ 0 ∷ []) (Some x ∷ []) (first_view (fixed x)))
  opens_at x blank = let first : V = first_view (fixed x) in record {
    log = [];
    part = fixed x;
    who = λ _. 0;
    queue = record {
      n = 0;
      m = 0;
      wide = refl;
      deep = refl;
      tickets = refl;
      turns = refl;
      all_held = refl;
      few = omega arith;
      each_seat = alone first (λ (d : V). Waits 0 0 d.role) record { low = λ z. absurd (omega (arith, z)); high = λ z. absurd (omega (arith, z)); turn = λ z. absurd (omega (arith, z)) };
      own = λ i j c d at_i at_j _ _ _. alone_at first i c at_i ∙ sym (alone_at first j d at_j);
      place = inl record { state = x; home = refl; good = (blank, refl); none_out = alone first (λ (d : V). stage d.role < 4) (omega arith) };
    };
    recorded = refl;
    knows = alone first (Knows number [] (fixed x) (λ _. 0)) record {
      prefix = ([], refl);
      shorter = ([], refl);
      mine = λ _. own_of_none number 0;
      mine_seen = λ _. own_of_none number 0;
      others = λ i k es at _. absurd (some-ne-none (k, es) (sym at));
      whole = λ z. absurd (omega (arith, z));
      same_part = λ f e. some_same f e;
      idle = λ p z. absurd (omega (arith, z));
      bare_in = λ i p at. absurd (some-ne-none p (sym at));
      bare_all = λ p e at _ _. absurd (some-ne-none e (sym at));
    };
    signed = λ p e at. absurd (some-ne-none e (sym at));
    once = λ k low. omega (arith, low);
    room = omega arith;
  }
    where
      some_same : (f : F) → Some (fixed x) ≡ Some f → f ≡ fixed x
      some_same f e = sym (ap (value_or (fixed x)) e)

  pub opens : (words : List ℕ) (slots : List (Option S)) (x : S) (part : F) → words ≡ 0 ∷ 0 ∷ 0 ∷ [] → slots ≡ Some x ∷ [] → part ≡ fixed x → entries x ≡ [] → Rule (opening words slots (first_view part))
  opens words slots x part a b same blank = subst (λ (z : List ℕ × List (Option S) × F). Rule (opening z.0 z.1 (first_view z.2))) (λ i. (sym a i, sym b i, sym same i)) (opens_at x blank)

  pub glances : (slots id : ℕ) (me : M) → stage me.0.role ≡ 0 → Allows Rule slots id me 2 (λ x. x) (glanced entries fixed number (step slots 2 0 0 none) me)
  glances slots id me st s r _ at fits = let k = r.knows id me.0 at in let w : V = with_seen me.0 me.0.role r.log in let known = knows_all number r.log r.part r.who me.0 me.0.role k in (
    w,
    keeps,
    tt,
    loaded s 2 s.homes (set s.views id w) (rerule s r id me.0 at w s.words s.homes refl known (λ _. refl) refl
        (tickets.at_rest S V role_of (Good r.log r.part) s r.queue id me.0 at w st st)),
    ((k.prefix, sym r.recorded, k.mine, refl), (r.part, all_known s r id me.0 at w known (λ _. refl)), refl),
  )

  pub plans : (slots id : ℕ) (me : M) (share : ℕ) → stage me.0.role ≡ 0 → Allows Rule slots id me 0 (λ x. either (eqb x share) share x) (planned entries fixed number (step slots 0 share share none) me)
  plans slots id me share st s r _ at fits = let k = r.knows id me.0 at in let w : V = with_share share me.0 in let x : ℕ = get_or s.words 0 0 in (
    w,
    keeps,
    tt,
    subst (λ (y : ℕ). Rule record { words = set s.words 0 y; homes = s.homes; views = set s.views id w }) (sym (exchanged x share share (λ (y : ℕ). y ≡ x) (λ hit. sym hit) (λ _. refl)))
        (loaded s 0 s.homes (set s.views id w) (rerule s r id me.0 at w s.words s.homes refl (knows_at number r.log r.part r.who me.0 me.0.role share k.whole k) (λ _. refl) refl
        (tickets.at_rest S V role_of (Good r.log r.part) s r.queue id me.0 at w st st))),
    refl,
  )

  pub compares : (slots id : ℕ) (me : M) → stage me.0.role ≡ 0 → Allows Rule slots id me 0 (λ x. x) (compared entries fixed number (step slots 0 0 0 none) me)
  compares slots id me st s r _ at fits = let k = r.knows id me.0 at in (
    me.0,
    keeps,
    tt,
    loaded s 0 s.homes (set s.views id me.0) (rerule s r id me.0 at me.0 s.words s.homes refl k (λ _. refl) refl
        (tickets.at_rest S V role_of (Good r.log r.part) s r.queue id me.0 at me.0 st st)),
    (refl, (r.log, r.part, all_known s r id me.0 at me.0 k (λ _. refl))),
  )
