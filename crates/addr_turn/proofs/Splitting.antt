-- Where spare numbers of one pass go to a new one, the rule is kept.
use Rattle.std.proofs.Common.{◌≡◌, ℕ, ◌+◌, ◌<◌, ◌≤◌, List, [], ◌∷◌, set, sym, refl, subst, ⊎_elim, arith, Option, Some, length-set, length-append}
use mathlib.Core.Option.{some-ne-none}
use Rattle.atomic_table.specs.Table.{Splits}
use Rattle.atomic_table.proofs.Lists.{at_snoc}
use Rattle.addr_turn.specs.declared.board.View.{View}
use Rattle.addr_turn.specs.Queue.{stage}
use Rattle.addr_turn.specs.Numbers.{times}
use Rattle.addr_turn.specs.OneHistory.{At, domain, role_of, Knows, Signed, Ruled}
use Rattle.addr_turn.specs.Steps.{kept_view, given_view}
use Rattle.addr_turn.proofs.Prefixes.{at_below, at_left}
use Rattle.addr_turn.proofs.Claims.{span_cut, claims_set, claims_append, spares_set, spares_append, domain_parts}
use Rattle.addr_turn.proofs.Own.{own_nothing}
use Rattle.addr_turn.proofs.Kept.{Good}
use Rattle.addr_turn.proofs.Tickets as tickets

module _ {E F : Type 0} where
  -- the domain is cut in two
  pub domain_cut : (k : ℕ) (v : View E F) → 0 < v.share → v.share ≤ v.spare → times k (domain v) ≡ times k (domain (kept_view v)) + times k (domain (given_view v))
  domain_cut k v some_share enough = let whole = domain_parts k v in let kept = domain_parts k (kept_view v) in let given = domain_parts k (given_view v) in
      let cut = span_cut k v.low v.spare v.share enough in let low = span_cut k v.low v.share 1 some_share in omega (arith, whole, kept, given, cut, low)

  module _ (number : E → Option ℕ) (log : List E) (part : F) (who : ℕ → ℕ) (v : View E F) (some_share : 0 < v.share) (enough : v.share ≤ v.spare) (k : Knows number log part who v) where
    pub knows_kept : stage v.role ≡ 0 → Knows number log part who (kept_view v)
    knows_kept rests = record {
      prefix = k.prefix;
      shorter = k.shorter;
      mine = k.mine;
      mine_seen = k.mine_seen;
      others = k.others;
      whole = λ z. absurd (omega (arith, rests, z));
      same_part = k.same_part;
      idle = λ p low. let old = k.idle p low in let cut = span_cut (who p) v.low v.spare v.share enough in omega (arith, old, cut);
      bare_in = λ i p at. let old = k.bare_in i p at in let idle = k.idle p (at_below log p old.0 old.1) in let inside = old.3 in let whole = domain_parts (who p) v in let kept = domain_parts (who p) (kept_view v) in
          (old.0, old.1, old.2, omega (arith, idle, inside, whole, kept));
      bare_all = λ p e at is inside. let cut = domain_cut (who p) v some_share enough in k.bare_all p e at is (omega (arith, inside, cut));
    }

    pub knows_given : stage v.role ≡ 0 → ((p : ℕ) (e : E) → At log p e → Signed (number e) (who p)) → Knows number log part who (given_view v)
    knows_given rests signed = let unsigned : (p : ℕ) (e : E) → At log p e → number e ≡ Some v.low → ⊥ = λ p e at is. let idle = k.idle p (at_below log p e at) in let same : v.low ≡ who p = (signed p e at).1 v.low is in omega (arith, idle, same, some_share, enough) in record {
      prefix = k.prefix;
      shorter = (log, refl);
      mine = λ _. own_nothing number v.low log unsigned;
      mine_seen = λ _. own_nothing number v.low v.seen (λ p e at is. unsigned p e (subst (λ (l : List E). At l p e) k.prefix.1 (at_left v.seen k.prefix.0 p e at)) is);
      others = λ i j es at _. absurd (some-ne-none (j, es) (sym at));
      whole = λ z. absurd (omega (arith, rests, z));
      same_part = k.same_part;
      idle = λ p low. let old = k.idle p low in omega (arith, old, some_share, enough);
      bare_in = λ i p at. absurd (some-ne-none p (sym at));
      bare_all = λ p e at is inside. let old = k.idle p (at_below log p e at) in let given = domain_parts (who p) (given_view v) in absurd (omega (arith, old, inside, given, some_share, enough));
    }

module _ (S E F : Type 0) (entries : S → List E) (fixed : S → F) (number : E → Option ℕ) where
  pub splits : (id : ℕ) (v : View E F) → stage v.role ≡ 0 → 0 < v.share → v.share ≤ v.spare → Splits (Ruled entries fixed number) id v (kept_view v) (given_view v)
  splits id v rests some_share enough s r at = let kept : View E F = kept_view v in let given : View E F = given_view v in let vs : List (View E F) = set s.views id kept in let k = r.knows id v at in
      let room = r.room in let size = length-set s.views id kept in let spares = spares_set s.views id v kept at in record {
        log = r.log;
        part = r.part;
        who = r.who;
        queue = tickets.grows S (View E F) role_of (Good S E F entries fixed number r.log r.part) record { words = s.words; homes = s.homes; views = vs }
            (tickets.at_rest S (View E F) role_of (Good S E F entries fixed number r.log r.part) s r.queue id v at kept rests rests) given rests (omega (arith, room, size, spares, some_share, enough));
        recorded = r.recorded;
        knows = λ j d e. ⊎_elim (λ (old : At vs j d). tickets.seats_stay (View E F) role_of (Knows number r.log r.part r.who) s.views id kept (knows_kept number r.log r.part r.who v some_share enough k rests) (λ i x _ p. r.knows i x p) j d old)
            (λ (new : given ≡ d). subst (Knows number r.log r.part r.who) new (knows_given number r.log r.part r.who v some_share enough k rests r.signed)) (at_snoc vs given d j e);
        signed = r.signed;
        once = λ n low. let a = claims_append n vs given in let c = claims_set n s.views id v kept at in let cut = domain_cut n v some_share enough in let old = r.once n low in omega (arith, a, c, cut, old);
        room = let l = length-append vs (given ∷ []) in let a = spares_append vs given in omega (arith, room, size, spares, l, a, some_share, enough);
      }
