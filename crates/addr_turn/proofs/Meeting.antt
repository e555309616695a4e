-- Where one pass is met into another, the rule is kept.
use Rattle.std.proofs.Common.{◌≡◌, ℕ, zero, suc, ◌+◌, ◌<◌, ◌≤◌, Bool, true, false, nat_le, max, List, ◌∷◌, map, length, set, sym, refl, ap, ◌∙◌, ⊎_elim, arith, Option, Some, None, length-set}
use Rattle.std.proofs.lemmas.Bool.Decides.{nat_tests}
use mathlib.Core.List.{map-append}
use mathlib.Core.Logic.{dite}
use mathlib.Core.Option.{some-injective, some-ne-none}
use native.Mathlib.Decide.{ℕ_discrete}
use Rattle.atomic_table.specs.Table.{Joins}
use Rattle.atomic_table.proofs.Lists.{set_else}
use Rattle.addr_turn.specs.declared.board.View.{View}
use Rattle.addr_turn.specs.Queue.{stage}
use Rattle.addr_turn.specs.Numbers.{number_bound, times, single}
use Rattle.addr_turn.specs.OneHistory.{own, IsPrefix, At, unused, domain, role_of, spent_view, Knows, Signed, Ruled}
use Rattle.addr_turn.specs.Steps.{longer, shorter_of, met_view}
use Rattle.addr_turn.proofs.Prefixes.{prefix_of_itself, prefix_of_longer, at_append, at_left, at_right}
use Rattle.addr_turn.proofs.Claims.{times-append, claims_set, spares_set, domain_parts}
use Rattle.addr_turn.proofs.Own.{own_between}
use Rattle.addr_turn.proofs.Kept.{Good}
use Rattle.addr_turn.proofs.Tickets as tickets

module _ {E : Type 0} where
  -- the longer list is one of the two, and not shorter than the other
  longer_by : (P : List E → Type 0) (xs ys : List E) → (length ys ≤ length xs → P xs) → (length xs ≤ length ys → P ys) → P (longer xs ys)
  unfolding longer
  longer_by P xs ys first second = by_test (nat_le (length ys) (length xs)) refl
    where
      by_test : (b : Bool) → nat_le (length ys) (length xs) ≡ b → P (Rattle.std.specs.Prelude.if◌then◌else◌ b xs ys)
      by_test true is = first (grind (arith, nat_tests, is))
      by_test false is = second (grind (arith, nat_tests, is))

  shorter_by : (P : List E → Type 0) (xs ys : List E) → P xs → P ys → P (shorter_of xs ys)
  unfolding shorter_of
  shorter_by P xs ys first second = by_test (nat_le (length ys) (length xs))
    where
      by_test : (b : Bool) → P (Rattle.std.specs.Prelude.if◌then◌else◌ b ys xs)
      by_test true = second
      by_test false = first

  pub length-longer : (xs ys : List E) → length (longer xs ys) ≡ max (length xs) (length ys)
  length-longer xs ys = longer_by (λ (zs : List E). length zs ≡ max (length xs) (length ys)) xs ys (λ l. omega (arith, l)) (λ l. omega (arith, l))

  shorter_length : (xs ys : List E) → length (shorter_of xs ys) ≤ length (longer xs ys)
  shorter_length xs ys = longer_by (λ (zs : List E). length (shorter_of xs ys) ≤ length zs) xs ys
      (λ l. shorter_by (λ (zs : List E). length zs ≤ length xs) xs ys (omega arith) l) (λ l. shorter_by (λ (zs : List E). length zs ≤ length ys) xs ys l (omega arith))

  -- of two lists, of which the shorter is a prefix of the longer, both are prefixes of the longer
  pub both_prefixes : (xs ys : List E) → (length (shorter_of xs ys) ≤ length (longer xs ys) → IsPrefix (shorter_of xs ys) (longer xs ys)) → IsPrefix xs (longer xs ys) × IsPrefix ys (longer xs ys)
  unfolding longer shorter_of
  both_prefixes xs ys is_prefix = by_test (nat_le (length ys) (length xs)) (is_prefix (shorter_length xs ys))
    where
      by_test : (b : Bool) → IsPrefix (Rattle.std.specs.Prelude.if◌then◌else◌ b ys xs) (Rattle.std.specs.Prelude.if◌then◌else◌ b xs ys)
          → IsPrefix xs (Rattle.std.specs.Prelude.if◌then◌else◌ b xs ys) × IsPrefix ys (Rattle.std.specs.Prelude.if◌then◌else◌ b xs ys)
      by_test true h = (prefix_of_itself xs, h)
      by_test false h = (h, prefix_of_itself ys)

none_is : {F : Type 0} (f g : F) → None ≡ Some f → f ≡ g
none_is {F} f g bad = let t : 0 ≡ 1 = ap size bad in absurd (omega (arith, t))
  where
    size : Option F → ℕ
    size None = 0
    size (Some _) = 1

module _ {E F : Type 0} where
  -- the domain is that of both
  pub met_domain : (k : ℕ) (v w : View E F) → times k (domain (met_view v w)) ≡ times k (domain v) + times k (domain w)
  met_domain k v w = let both = domain_parts k (met_view v w) in let first = domain_parts k v in let second = domain_parts k w in
      let names : times k (map single (met_view v w).others) ≡ times k (map single v.others) + times k (map single ((w.number, w.mine) ∷ w.others)) =
      ap (times k) (map-append single v.others ((w.number, w.mine) ∷ w.others)) ∙ times-append k (map single v.others) (map single ((w.number, w.mine) ∷ w.others)) in
      let gone = times-append k v.given_up ((w.low, w.spare) ∷ w.given_up) in omega (arith, both, first, second, names, gone)

  met_unused : (k : ℕ) (v w : View E F) → times k (unused (met_view v w)) ≡ times k (unused v) + times k (unused w)
  met_unused k v w = let gone = times-append k v.given_up ((w.low, w.spare) ∷ w.given_up) in omega (arith, gone)

  module _ (number : E → Option ℕ) (log : List E) (part : F) (who : ℕ → ℕ) where
    pub knows_spent : ((p : ℕ) (e : E) → At log p e → Signed (number e) (who p)) → Knows number log part who spent_view
    knows_spent signed = record {
      prefix = (log, refl);
      shorter = (log, refl);
      mine = λ low. absurd (omega (arith, low));
      mine_seen = λ low. absurd (omega (arith, low));
      others = λ i j es at _. absurd (some-ne-none (j, es) (sym at));
      whole = λ z. absurd (omega (arith, z));
      same_part = λ f e. none_is f part e;
      idle = λ p _. omega arith;
      bare_in = λ i p at. absurd (some-ne-none p (sym at));
      bare_all = λ p e at is inside. let low = (signed p e at).0 in absurd (omega (arith, low, inside));
    }

    pub knows_met : (v w : View E F) → Knows number log part who v → Knows number log part who w → stage v.role ≡ 0 → Knows number log part who (met_view v w)
    knows_met v w a b rests = record {
      prefix = longer_by (λ (xs : List E). IsPrefix xs log) v.seen w.seen (λ _. a.prefix) (λ _. b.prefix);
      shorter = shorter_by (λ (xs : List E). IsPrefix xs log) v.seen w.seen a.prefix b.prefix;
      mine = a.mine;
      mine_seen = λ low. longer_by (λ (xs : List E). own number v.number xs ≡ v.mine) v.seen w.seen (λ _. a.mine_seen low)
          (λ l. own_between number v.number v.seen w.seen log v.mine (prefix_of_longer v.seen w.seen log a.prefix b.prefix l) b.prefix (a.mine_seen low) (a.mine low));
      others = λ i k es at low. ⊎_elim (λ (old : At v.others i (k, es)). a.others i k es old low) (λ (new : (j : ℕ) × At ((w.number, w.mine) ∷ w.others) j (k, es)). of_second k es low new.0 new.1) (at_append v.others ((w.number, w.mine) ∷ w.others) i (k, es) at);
      whole = λ z. absurd (omega (arith, rests, z));
      same_part = a.same_part;
      idle = λ p low. let first = a.idle p low in let second = b.idle p low in let both = met_unused (who p) v w in omega (arith, first, second, both);
      bare_in = λ i p at. let both = met_domain (who p) v w in ⊎_elim
          (λ (old : At v.bare i p). let h = a.bare_in i p old in let inside = h.3 in (h.0, h.1, h.2, omega (arith, both, inside)))
          (λ (new : (j : ℕ) × At w.bare j p). let h = b.bare_in new.0 p new.1 in let inside = h.3 in (h.0, h.1, h.2, omega (arith, both, inside))) (at_append v.bare w.bare i p at);
      bare_all = λ p e at is inside. let both = met_domain (who p) v w in dite (ℕ_discrete (times (who p) (domain v)) 0)
          (λ out. let h = b.bare_all p e at is (omega (arith, both, inside, out)) in at_right v.bare w.bare h.0 p h.1)
          (λ here. let h = a.bare_all p e at is (omega (arith, here)) in (h.0, at_left v.bare w.bare h.0 p h.1));
    }
      where
        of_second : (k : ℕ) (es : List E) → k < number_bound → (j : ℕ) → At ((w.number, w.mine) ∷ w.others) j (k, es) → own number k log ≡ es
        of_second k es low zero at = let met : ℕ × List E = (w.number, w.mine) in let asked : ℕ × List E = (k, es) in let same : met ≡ asked = some-injective met asked at in let named : w.number ≡ k = ap (λ (z : ℕ × List E). z.0) same in
            ap (λ (z : ℕ). own number z log) (sym named) ∙ (b.mine (omega (arith, named, low)) ∙ ap (λ (z : ℕ × List E). z.1) same)
        of_second k es low (suc j) at = b.others j k es at low

module _ (S E F : Type 0) (entries : S → List E) (fixed : S → F) (number : E → Option ℕ) where
  pub joins : (id : ℕ) (v : View E F) (other : ℕ) (w : View E F) → stage v.role ≡ 0 → stage w.role ≡ 0 → Joins (Ruled entries fixed number) id v other w (met_view v w) spent_view
  joins id v other w rests rests' s r at apart there = let both : View E F = met_view v w in let vs : List (View E F) = set s.views id both in let there' : At s.views other w = sym (set_else s.views id other both apart) ∙ there in
      let size = length-set s.views id both in let size' = length-set vs other spent_view in let spares = spares_set s.views id v both at in let spares' = spares_set vs other w spent_view there in let room = r.room in record {
        log = r.log;
        part = r.part;
        who = r.who;
        queue = tickets.at_rest S (View E F) role_of (Good S E F entries fixed number r.log r.part) record { words = s.words; homes = s.homes; views = vs }
            (tickets.at_rest S (View E F) role_of (Good S E F entries fixed number r.log r.part) s r.queue id v at both rests rests) other w there spent_view rests' refl;
        recorded = r.recorded;
        knows = tickets.seats_stay (View E F) role_of (Knows number r.log r.part r.who) vs other spent_view (knows_spent number r.log r.part r.who r.signed)
            (λ j d _ p. tickets.seats_stay (View E F) role_of (Knows number r.log r.part r.who) s.views id both (knows_met number r.log r.part r.who v w (r.knows id v at) (r.knows other w there') rests) (λ i x _ q. r.knows i x q) j d p);
        signed = r.signed;
        once = λ n low. let c = claims_set n s.views id v both at in let c' = claims_set n vs other w spent_view there in let d = met_domain n v w in let old = r.once n low in omega (arith, c, c', d, old, low);
        room = omega (arith, size, size', spares, spares', room);
      }
