use Rattle.std.proofs.Common.{length, sym, subst, rules}
use Rattle.std.proofs.lemmas.List.Sorted.{answers_always}
use Rattle.addr_analyze.specs.declared.duplicate.Duplicate.{Duplicate}
use Rattle.addr_analyze.specs.Counting.{AreCounts, AreMarks}
use Rattle.addr_analyze.specs.Duplicates.{AreDuplicates}
use Rattle.addr_analyze.proofs.DuplicateLemmas.{found-are}
use Rattle.addr_analyze.proofs.finding.duplicates.Goals as goal

pub returns : goal.returns
returns c =
    let p = c.args.project.now in
    let sorted = c.sort_unstable_by_key.new.self.items in
    let counts : AreCounts (length p.assets) c.args.layout.now.bundles c.deref.result.now = subst (AreCounts (length p.assets) c.args.layout.now.bundles) (sym c.deref.ensures.value) c.in_ok-counts.ensures in
    let marks : AreMarks (length p.assets) p.entries c.deref-2.result.now = subst (AreMarks (length p.assets) p.entries) (sym c.deref-2.ensures.value) c.in_ok-entries.ensures in
    let keys = answers_always _ _ _ (λ f a r next called. search rules) in
    let ascends = c.sort_unstable_by_key.ensures.sorted (λ (d : Duplicate). d.guid) keys in
    subst (AreDuplicates p c.args.plan.now) (sym c.from_vec.ensures)
    (found-are p c.args.plan.now c.args.layout.now c.deref.result.now c.deref-2.result.now c.in_ok-found.found.items sorted c.kept.ensures c.requires.placed c.requires.laid counts marks c.in_ok-found.ensures c.sort_unstable_by_key.ensures.permutation ascends)
