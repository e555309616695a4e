use Rattle.std.proofs.Common.{◌≡◌, ◌<◌, ◌+◌, ℕ, BTreeMap, Bor, List, length, map, take, subst, sym, ap, ◌∙◌, arith}
use Rattle.std.proofs.lemmas.List.{length-map, length-take-le}
use Rattle.addr_moves.specs.Firsts.{AreFirsts, number_under}
use Rattle.addr_moves.proofs.FirstLemmas.{Puts, firsts-new, firsts-old, keys-more, puts-from}
use Rattle.addr_moves.proofs.firsts.firsts_of.Goals.{then-not-contains_key+in_ok-insert, else-not-contains_key}
use Rattle.addr_moves.proofs.firsts.firsts_of.Goals as goal

pub loop-n-preserved : goal.loop-n-preserved
loop-n-preserved g c =
    let key_of = g.T.Keyed.key_of in
    let things = c.args.things.now in
    let n = c.loop-n.n in
    let key : List ℕ = c.key-key.result.now in
    let before = map key_of (take n things) in
    let m : BTreeMap (Bor (List ℕ)) ℕ = c.loop-n.firsts in
    let more = keys-more key_of things n c.index-things-n.result key c.loop-n-test.true c.index-things-n.is c.key-key.ensures in
    let count : length before ≡ n = length-map (take n things) key_of ∙ length-take-le n things (let within = c.loop-n-test.true in omega (arith, within)) in
    elim c.if-not-contains_key.branch [
      | then-not-contains_key+in_ok-insert w ↦ subst (λ (f : BTreeMap (Bor (List ℕ)) ℕ). AreFirsts (map key_of (take (n + 1) things)) (number_under f)) (sym w.firsts-is)
          (subst (λ ks. AreFirsts ks (number_under w.insert.new.self)) (sym more)
          (firsts-new before key (number_under m) (number_under w.insert.new.self) (sym c.contains_key.ensures ∙ w.if-not-contains_key.true)
          (subst (λ k. Puts (number_under m) key k (number_under w.insert.new.self)) (sym count) (puts-from key n m w.insert.new.self w.in_ok-insert.ensures.updates)) c.loop-n.invariant))
      | else-not-contains_key w ↦ subst (λ (f : BTreeMap (Bor (List ℕ)) ℕ). AreFirsts (map key_of (take (n + 1) things)) (number_under f)) (sym w.firsts-is)
          (subst (λ ks. AreFirsts ks (number_under m)) (sym more) (firsts-old before key (number_under m) (sym c.contains_key.ensures ∙ w.if-not-contains_key.false) c.loop-n.invariant))
    ]
