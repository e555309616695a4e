-- The step that adds an entry to the history keeps the rule.
use Rattle.std.proofs.Common.{◌≡◌, ◌≢◌, ◌⊎◌, ℕ, ◌+◌, ◌%◌, ◌^◌, ◌<◌, ◌≤◌, List, [], ◌∷◌, ◌++◌, map, length, get_or, set, sym, refl, ap, ◌∙◌, subst, ⊎_elim, inl, inr, arith, Option, Some, None, length-set, length-append, get_or-set_other, get_or-set_same}
use Rattle.std.proofs.lemmas.List.{append-nil, append_cancel_left}
use mathlib.Core.Logic.{dite}
use mathlib.Core.Option.{none, some, some-injective, some-ne-none}
use native.Mathlib.Decide.{ℕ_discrete}
use lib.ListN.{get_elem?}
use Rattle.atomic_table.specs.Table.{step, keeps, Allows}
use Rattle.atomic_table.proofs.Lists.{at_last}
use Rattle.addr_turn.specs.declared.board.View.{View}
use Rattle.addr_turn.specs.Queue.{stage}
use Rattle.addr_turn.specs.Numbers.{number_bound, in_span, times, single}
use Rattle.addr_turn.specs.OneHistory.{own, At, unused, domain, InDomain, role_of, Knows, Signed, Ruled}
use Rattle.addr_turn.specs.Steps.{numbered, bare_at, recorded_as, recorded}
use Rattle.addr_turn.proofs.Prefixes.{prefix_of_more, at_below, at_snoc_place, at_append, at_left, at_right}
use Rattle.addr_turn.proofs.Claims.{in_own_span, claims_one, claims_two, claims_set, spares_set, met_claims, domain_parts}
use Rattle.addr_turn.proofs.Own.{own_more, own_same}
use Rattle.addr_turn.proofs.Kept.{Good, M}
use Rattle.addr_turn.proofs.Tickets as tickets

abbrev chosen : {P : Type 0} → Dec P → ℕ → ℕ → ℕ
chosen (yes _) a b = a
chosen (no _) a b = b

-- who recorded each entry, after the pass with the number n recorded the one at the place p
who_after : (ℕ → ℕ) → ℕ → ℕ → ℕ → ℕ
who_after who p n q = chosen (ℕ_discrete q p) n (who q)

who_here : (who : ℕ → ℕ) (p n q : ℕ) → q ≡ p → who_after who p n q ≡ n
unfolding who_after
who_here who p n q same = go (ℕ_discrete q p)
  where
    go : (d : Dec (q ≡ p)) → chosen d n (who q) ≡ n
    go (yes _) = refl
    go (no other) = absurd (other same)

who_else : (who : ℕ → ℕ) (p n q : ℕ) → q < p → who_after who p n q ≡ who q
unfolding who_after
who_else who p n q less = go (ℕ_discrete q p)
  where
    go : (d : Dec (q ≡ p)) → chosen d n (who q) ≡ who q
    go (yes same) = absurd (omega (arith, less, same))
    go (no _) = refl

module _ {E F : Type 0} (number : E → Option ℕ) (log : List E) (part : F) (who : ℕ → ℕ) (e : E) (n : ℕ) (sign : (j : ℕ) → number e ≡ Some j → j ≡ n) where
  pub after : ℕ → ℕ
  after = who_after who (length log) n

  -- the entries of another number stay
  others_stay : (k : ℕ) (xs : List E) → k ≢ n → own number k (xs ++ e ∷ []) ≡ own number k xs
  others_stay k xs other = own_same number k xs e (λ j is same. other (sym same ∙ sign j is))

  -- a place of the longer history, before the new one
  before : (p : ℕ) (x : E) → At log p x → after p ≡ who p
  unfolding after
  before p x at = who_else who (length log) n p (at_below log p x at)

  last_is : after (length log) ≡ n
  unfolding after
  last_is = who_here who (length log) n (length log) refl

  earlier : (p : ℕ) → p < length log → after p ≡ who p
  unfolding after
  earlier p low = who_else who (length log) n p low

  -- what a pass knows whose domain doesn't have the number n
  pub knows_behind : (d : View E F) → Knows number log part who d → times n (domain d) ≡ 0 → (2 < stage d.role → ⊥) → Knows number (log ++ e ∷ []) part after d
  knows_behind d k free rests = let parts = domain_parts n d in let own_span = in_own_span n in
      let not_mine : d.number ≢ n = λ same. let one : in_span n d.number 1 ≡ 1 = ap (λ (z : ℕ). in_span n z 1) same ∙ own_span in omega (arith, parts, free, one) in record {
        prefix = prefix_of_more d.seen log (e ∷ []) k.prefix;
        shorter = prefix_of_more d.shorter log (e ∷ []) k.shorter;
        mine = λ low. others_stay d.number log not_mine ∙ k.mine low;
        mine_seen = k.mine_seen;
        others = λ i j es at low. others_stay j log (λ same. let met = met_claims d.others i j es at in let met' : 1 ≤ times n (map single d.others) = subst (λ (z : ℕ). 1 ≤ times z (map single d.others)) same met in omega (arith, parts, free, met'))
            ∙ k.others i j es at low;
        whole = λ z. absurd (rests z);
        same_part = k.same_part;
        idle = λ p low. dite (ℕ_discrete p (length log))
            (λ hit. ap (λ (z : ℕ). times z (unused d)) (ap after hit ∙ last_is) ∙ (let none : times n (unused d) ≡ 0 = omega (arith, parts, free) in none))
            (λ miss. let size = length-append log (e ∷ []) in let below : p < length log = omega (arith, size, low, miss) in ap (λ (z : ℕ). times z (unused d)) (earlier p below) ∙ k.idle p below);
        bare_in = λ i p at. let old = k.bare_in i p at in (old.0, at_left log (e ∷ []) p old.0 old.1, old.2, subst (InDomain d) (sym (before p old.0 old.1)) old.3);
        bare_all = λ p x at is inside. ⊎_elim
            (λ (old : At log p x). k.bare_all p x old is (subst (InDomain d) (before p x old) inside))
            (λ (new : (p ≡ length log) × (e ≡ x)). let here : InDomain d n = subst (InDomain d) (ap after new.0 ∙ last_is) inside in absurd (omega (arith, here, free)))
            (at_snoc_place log e x p at);
      }

  grown : (m : Option ℕ) → number e ≡ m → (xs : List E) → own number n (xs ++ e ∷ []) ≡ own number n xs ++ numbered m e
  grown None is xs = own_same number n xs e (λ j other. absurd (none_some j (sym is ∙ other))) ∙ sym (append-nil (own number n xs))
    where
      none_some : (j : ℕ) → None ≡ Some j → ⊥
      none_some j bad = let t : 0 ≡ 1 = ap size bad in omega (arith, t)
        where
          size : Option ℕ → ℕ
          size None = 0
          size (Some _) = 1
  grown (Some j) is xs = own_more number n xs e (is ∙ ap (λ (z : ℕ). let m : Option ℕ = Some z in m) (sign j is))

  -- what the pass knows that recorded the entry
  pub knows_recorded : (v : View E F) → Knows number log part who v → v.number ≡ n → n < number_bound → times n (domain v) ≤ 1 → v.seen ≡ log → Knows number (log ++ e ∷ []) part after (recorded_as number v e)
  knows_recorded v k named small once all = let parts = domain_parts n v in let own_span = in_own_span n in let one : in_span n v.number 1 ≡ 1 = ap (λ (z : ℕ). in_span n z 1) named ∙ own_span in
      let mine : (xs : List E) → own number n xs ≡ v.mine → own number v.number (xs ++ e ∷ []) ≡ v.mine ++ numbered (number e) e =
      λ xs was. ap (λ (z : ℕ). own number z (xs ++ e ∷ [])) named ∙ (grown (number e) refl xs ∙ ap (λ (z : List E). z ++ numbered (number e) e) was) in record {
        prefix = ([], append-nil (v.seen ++ e ∷ []) ∙ ap (λ (z : List E). z ++ e ∷ []) all);
        shorter = prefix_of_more v.shorter log (e ∷ []) k.shorter;
        mine = λ low. mine log (ap (λ (z : ℕ). own number z log) (sym named) ∙ k.mine low);
        mine_seen = λ low. mine v.seen (ap (λ (z : ℕ). own number z v.seen) (sym named) ∙ k.mine_seen low);
        others = λ i j es at low. others_stay j log (λ same. let met = met_claims v.others i j es at in let met' : 1 ≤ times n (map single v.others) = subst (λ (z : ℕ). 1 ≤ times z (map single v.others)) same met in omega (arith, parts, once, one, met'))
            ∙ k.others i j es at low;
        whole = λ _. ap (λ (z : List E). z ++ e ∷ []) all;
        same_part = k.same_part;
        idle = λ p low. dite (ℕ_discrete p (length log))
            (λ hit. ap (λ (z : ℕ). times z (unused v)) (ap after hit ∙ last_is) ∙ (let nothing : times n (unused v) ≡ 0 = omega (arith, parts, once, one) in nothing))
            (λ miss. let size = length-append log (e ∷ []) in let below : p < length log = omega (arith, size, low, miss) in ap (λ (z : ℕ). times z (unused v)) (earlier p below) ∙ k.idle p below);
        bare_in = λ i p at. ⊎_elim
            (λ (old : At v.bare i p). let was = k.bare_in i p old in (was.0, at_left log (e ∷ []) p was.0 was.1, was.2, subst (InDomain v) (sym (before p was.0 was.1)) was.3))
            (λ (new : (j : ℕ) × At (bare_at (number e) (length v.seen)) j p). bare_new p new.0 (number e) refl new.1)
            (at_append v.bare (bare_at (number e) (length v.seen)) i p at);
        bare_all = λ p x at is inside. ⊎_elim
            (λ (old : At log p x). let was = k.bare_all p x old is (subst (InDomain v) (before p x old) inside) in (was.0, at_left v.bare (bare_at (number e) (length v.seen)) was.0 p was.1))
            (λ (new : (p ≡ length log) × (e ≡ x)). at_right v.bare (bare_at (number e) (length v.seen)) 0 p
            (subst (λ (z : Option ℕ). At (bare_at z (length v.seen)) 0 p) (sym (ap number new.1 ∙ is)) (ap some (ap length all ∙ sym new.0))))
            (at_snoc_place log e x p at);
      }
    where
      bare_new : (p j : ℕ) (m : Option ℕ) → number e ≡ m → At (bare_at m (length v.seen)) j p → (x : E) × At (log ++ e ∷ []) p x × (number x ≡ None) × InDomain v (after p)
      bare_new p Rattle.std.proofs.Common.zero None is at = let place : p ≡ length log = sym (some-injective (length v.seen) p at) ∙ ap length all in
          let here : InDomain v n = let parts = domain_parts n v in let own_span = in_own_span n in let one : in_span n v.number 1 ≡ 1 = ap (λ (z : ℕ). in_span n z 1) named ∙ own_span in omega (arith, parts, one) in
          (e, at_last log e p (sym place), is, subst (InDomain v) (sym (ap after place ∙ last_is)) here)
      bare_new p (Rattle.std.proofs.Common.suc j) None is at = absurd (some-ne-none p (sym at))
      bare_new p j (Some m) is at = absurd (some-ne-none p (sym at))

module _ (S E F : Type 0) (entries : S → List E) (fixed : S → F) (number : E → Option ℕ) where
  abbrev carried_or : S → List (ℕ × Option S) → S
  carried_or d ((_, Some x) ∷ _) = x
  carried_or d _ = d

  pub records : (slots id : ℕ) (me : M S E F entries fixed number) (x : S) (e : E) → stage me.0.role ≡ 4 → me.1 ≡ (0, Some x) ∷ [] → entries x ≡ me.0.seen ++ e ∷ []
      → ((j : ℕ) → number e ≡ Some j → j ≡ me.0.number) → me.0.number < number_bound → length (entries x) < 18446744073709551616
      → Allows (Ruled entries fixed number) slots id me 2 (λ z. (z + 1) % 2 ^ 64) (recorded entries fixed number (step slots 2 1 0 none) me)
  records slots id me x e st carried told sign small short s r _ at fits = let q = r.queue in let v : View E F = me.0 in let n : ℕ = v.number in let log : List E = r.log in let k = r.knows id v at in
      let all : v.seen ≡ log = k.whole (omega (arith, st)) in let w : View E F = recorded_as number v e in let y : ℕ = (get_or s.words 2 0 + 1) % 18446744073709551616 in let wide = q.wide in
      let longer : length (log ++ e ∷ []) ≡ length log + 1 = length-append log (e ∷ []) in
      let fit : length log + 1 < 18446744073709551616 = let a : length (entries x) ≡ length (log ++ e ∷ []) = ap length (told ∙ ap (λ (z : List E). z ++ e ∷ []) all) in omega (arith, a, longer, short) in
      let recorded' = r.recorded in let one = in_own_span n in let parts = domain_parts n v in let once = r.once n small in (
        w,
        keeps,
        tt,
        record {
          log = log ++ e ∷ [];
          part = r.part;
          who = after number log r.part r.who e n sign;
          queue = tickets.stays_on S (View E F) role_of (Good S E F entries fixed number log r.part) (Good S E F entries fixed number (log ++ e ∷ []) r.part) s q id v at w (set s.words 2 y) s.homes (length-set s.words 2 y) refl
              (get_or-set_other s.words 2 0 y 0 (λ z. omega arith)) (get_or-set_other s.words 2 1 y 0 (λ z. omega arith)) (omega (arith, st)) (omega (arith, st)) refl (λ _. (q.each_seat id v at).turn (omega (arith, st)))
              (tickets.out_still S (View E F) role_of (Good S E F entries fixed number (log ++ e ∷ []) r.part) s.homes s.views id w (tickets.seat_below (View E F) role_of s.views id v at) st);
          recorded = get_or-set_same s.words 2 y 0 (omega (arith, wide)) ∙ (let same : y ≡ length log + 1 = omega (arith, recorded', fit) in same ∙ sym longer);
          knows = tickets.seats_stay (View E F) role_of (Knows number (log ++ e ∷ []) r.part (after number log r.part r.who e n sign)) s.views id w
              (knows_recorded number log r.part r.who e n sign v k refl small (let c = claims_one n s.views id v at in omega (arith, c, once)) all)
              (λ j d ne p. knows_behind number log r.part r.who e n sign d (r.knows j d p)
              (let c = claims_two n s.views id j v d (λ z. ne (sym z)) at p in omega (arith, c, once, one, parts))
              (λ z. ne (tickets.one_turner S (View E F) role_of (Good S E F entries fixed number log r.part) s q j id d v p at (omega (arith, z)) (omega (arith, st)))));
          signed = λ p f there. ⊎_elim
              (λ (old : At log p f). subst (Signed (number f)) (sym (before number log r.part r.who e n sign p f old)) (r.signed p f old))
              (λ (new : (p ≡ length log) × (e ≡ f)). subst (Signed (number f)) (sym (ap (after number log r.part r.who e n sign) new.0 ∙ last_is number log r.part r.who e n sign)) (small, λ j is. sign j (ap number new.1 ∙ is)))
              (at_snoc_place log e f p there);
          once = λ j low. let c = claims_set j s.views id v w at in let o = r.once j low in omega (arith, c, o);
          room = let l = length-set s.views id w in let c = spares_set s.views id v w at in let o = r.room in omega (arith, l, c, o);
        },
        λ x' e' carried' told'. let same_x : x ≡ x' = ap (carried_or x) (sym carried ∙ carried') in
            let same_e : e ≡ e' = some-injective e e' (ap (λ (l : List E). get_elem? l 0) (append_cancel_left v.seen (e ∷ []) (e' ∷ []) (sym told ∙ (ap entries same_x ∙ told')))) in
            ap (λ (z : E). (recorded_as number v z, me.1)) same_e,
      )
