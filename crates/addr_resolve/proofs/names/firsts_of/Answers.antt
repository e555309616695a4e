use Rattle.std.proofs.Common.{◌≡◌, ◌<◌, ◌+◌, ℕ, BTreeMap, Bor, List, length, take, subst, sym, ◌∙◌}
use Rattle.addr_locate.specs.declared.rows.BundleRow.{BundleRow}
use Rattle.addr_resolve.specs.within.Leading.{AreFirsts, first_of}
use Rattle.addr_resolve.proofs.FirstLemmas.{firsts-new, firsts-old, none-of}
use Rattle.addr_resolve.proofs.names.firsts_of.Goals.{then-not-contains_key+in_ok-insert, else-not-contains_key}
use Rattle.addr_resolve.proofs.names.firsts_of.Goals as goal

pub loop-b-preserved : goal.loop-b-preserved
loop-b-preserved c =
    let rows = c.args.bundles.now in
    let b = c.loop-b.b in
    let row : BundleRow = c.index-bundles-b.result in
    let key : List ℕ = c.as_bytes-name.result.now in
    let m : BTreeMap (Bor (List ℕ)) ℕ = c.loop-b.firsts in
    let within : b < length rows = c.loop-b-test.true in
    let own : key ≡ row.name = c.as_bytes-name.ensures in
    elim c.if-not-contains_key.branch [
      | then-not-contains_key+in_ok-insert w ↦ subst (λ (n : BTreeMap (Bor (List ℕ)) ℕ). AreFirsts (take (b + 1) rows) (first_of n)) (sym w.firsts-is)
          (firsts-new rows b row key m w.insert.new.self within c.index-bundles-b.is own c.loop-b.invariant (none-of (first_of m key) (sym c.contains_key.ensures ∙ w.if-not-contains_key.true)) w.in_ok-insert.ensures.updates)
      | else-not-contains_key w ↦ subst (λ (n : BTreeMap (Bor (List ℕ)) ℕ). AreFirsts (take (b + 1) rows) (first_of n)) (sym w.firsts-is)
          (firsts-old rows b row key (first_of m) within c.index-bundles-b.is own c.loop-b.invariant (sym c.contains_key.ensures ∙ w.if-not-contains_key.false))
    ]
