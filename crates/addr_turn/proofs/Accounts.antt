-- What the last state of a lock tells the pass that closes it.
use Rattle.std.proofs.Common.{◌≡◌, ◌⊎◌, ℕ, suc, ◌<◌, List, [], ◌∷◌, map, sym, refl, ap, ◌∙◌, subst, inl, inr, arith, Option, Some, None, MatchOption, IsSome}
use Rattle.std.proofs.lemmas.Bool.{false≢true}
use mathlib.Core.Logic.{dite}
use mathlib.Core.Option.{some, some-injective}
use native.Mathlib.Decide.{ℕ_discrete}
use lib.ListN.{get_elem?}
use Rattle.atomic_table.specs.Table.{Final, Seen}
use Rattle.addr_turn.specs.declared.board.View.{View}
use Rattle.addr_turn.specs.Queue.{stage}
use Rattle.addr_turn.specs.Numbers.{number_bound, in_span, times, single}
use Rattle.addr_turn.specs.OneHistory.{own, At, had, unused, IsKnown, HasAll, Accounted, Ruled, role_of, Stands}
use Rattle.addr_turn.specs.Steps.{with_role}
use Rattle.addr_turn.proofs.Prefixes.{at_below}
use Rattle.addr_turn.proofs.Claims.{times-append}
use Rattle.addr_turn.proofs.Own.{own_has}
use Rattle.addr_turn.proofs.Kept.{all_known, knows_at, value_or}
use Rattle.addr_turn.proofs.Tickets as tickets

-- a number in the spans of the passes that were met is that of one of them
pub met_has : {E : Type 0} (others : List (ℕ × List E)) (k : ℕ) → 0 < times k (map single others) → (i : ℕ) × (es : List E) × At others i (k, es)
met_has {E} [] k h = absurd (omega (arith, h))
met_has {E} (o ∷ others) k h = dite (ℕ_discrete o.0 k) (λ hit. (0, o.1, ap (λ (z : ℕ). some (z, o.1)) hit))
    (λ miss. let none : in_span k o.0 1 ≡ 0 = omega (arith, miss) in let rest = met_has others k (omega (arith, h, none)) in (suc rest.0, rest.1, rest.2))

module _ {E F : Type 0} (number : E → Option ℕ) where
  -- where the domain is every number, each entry is accounted for
  pub accounts : (log : List E) (part : F) (v : View E F) → IsKnown number log part v → v.number < number_bound → HasAll v → (p : ℕ) (e : E) → At log p e → Accounted number v p e
  accounts log part v k small all p e at = by_number (number e) refl
    where
      by_number : (n : Option ℕ) → number e ≡ n → MatchOption n ((i : ℕ) × At v.bare i p) (λ j. ((i : ℕ) × At v.mine i e) ⊎ ((i : ℕ) × (es : List E) × (m : ℕ) × At v.others i (j, es) × At es m e))
      by_number None is = k.knows.bare_all p e at is (all (k.who p) (k.signed p e at).0)
      by_number (Some j) is = let same : j ≡ k.who p = (k.signed p e at).1 j is in let low = (k.signed p e at).0 in let inside = all (k.who p) low in
          let parts = times-append (k.who p) (had v) (unused v) in let idle = k.knows.idle p (at_below log p e at) in let found = own_has number j log p e at is in
          dite (ℕ_discrete j v.number)
          (λ mine. inl (subst (λ (l : List E). (i : ℕ) × At l i e) (ap (λ (z : ℕ). own number z log) mine ∙ k.knows.mine small) found))
          (λ other. let none : in_span (k.who p) v.number 1 ≡ 0 = omega (arith, same, other) in
          let met = met_has v.others (k.who p) (omega (arith, parts, idle, inside, none)) in
          let at_met : At v.others met.0 (j, met.1) = subst (λ (z : ℕ). At v.others met.0 (z, met.1)) (sym same) met.2 in
          let es = subst (λ (l : List E). (i : ℕ) × At l i e) (k.knows.others met.0 j met.1 at_met (omega (arith, same, low))) found in
          inr (met.0, met.1, es.0, at_met, es.1))

pub is_fixed : {F : Type 0} (m : Option F) (part : F) → IsSome m → ((f : F) → m ≡ Some f → f ≡ part) → m ≡ Some part
is_fixed None part there same = absurd (false≢true there)
is_fixed (Some f) part there same = ap (λ (z : _). Some z) (same f refl)

module _ (S E F : Type 0) (entries : S → List E) (fixed : S → F) (number : E → Option ℕ) where
  -- the state that stands in the slot when a lock ends, with a pass at its turn
  pub ends_home : (words : List ℕ) (slots : List (Option S)) (id : ℕ) (v : View E F) → stage v.role ≡ 2 → Final (Seen (Ruled entries fixed number) id v) words slots
      → (x : S) × (get_elem? slots 0 ≡ some (Some x)) × IsKnown number (entries x) (fixed x) v
  ends_home words slots id v st last = let s = last.0 in let r = last.1.0 in let at = last.1.1 in
      let home = tickets.is_home S (View E F) role_of (Stands entries fixed number r.log r.part) s r.queue id v at (omega (arith, st)) (omega (arith, st)) in
      let good = home.good in (
        home.state,
        last.4 0 (Some home.state) home.home,
        subst (λ (z : List E × F). IsKnown number z.0 z.1 v) (λ i. (sym good.0 i, sym good.1 i)) (all_known S E F entries fixed number s r id v at v (r.knows id v at) (λ _. refl)),
      )

  -- it is what is taken from the slot, and the pass that closes knows it
  pub ends : (words : List ℕ) (slots : List (Option S)) (id : ℕ) (v w : View E F) → stage v.role ≡ 0 → stage w.role ≡ 2 → w ≡ with_role v w.role → Final (Seen (Ruled entries fixed number) id w) words slots
      → (y : S) → get_elem? slots 0 ≡ some (Some y) → IsKnown number (entries y) (fixed y) v
  ends words slots id v w rests st same last y at = let home = ends_home words slots id w st last in let x : S = home.0 in let k = home.2 in
      let is : x ≡ y = ap (value_or x) (some-injective (Some x) (Some y) (sym home.1 ∙ at)) in
      let known : IsKnown number (entries x) (fixed x) (with_role w v.role) = record {
        who = k.who;
        knows = knows_at number (entries x) (fixed x) k.who w v.role w.share (λ z. absurd (omega (arith, rests, z))) k.knows;
        signed = k.signed;
        apart = k.apart;
      } in
      subst (λ (z : S × View E F). IsKnown number (entries z.0) (fixed z.0) z.1) (λ i. (is i, ap (λ (z : View E F). with_role z v.role) same i)) known

  pub ends_there : (words : List ℕ) (slots : List (Option S)) (id : ℕ) (w : View E F) → stage w.role ≡ 2 → Final (Seen (Ruled entries fixed number) id w) words slots
      → (y : Option S) → get_elem? slots 0 ≡ some y → IsSome y
  ends_there words slots id w st last y at = let home = ends_home words slots id w st last in subst IsSome (some-injective (Some home.0) y (sym home.1 ∙ at)) refl
