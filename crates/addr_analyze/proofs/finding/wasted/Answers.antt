use Rattle.std.proofs.Common.{◌+◌, ◌*◌, ◌<◌, ◌≤◌, ◌^◌, ℕ, [], get_or, length, ap, sym, ◌∙◌, arith}
use Rattle.std.proofs.lemmas.List.Elements.{Contains-get_or}
use Rattle.std.proofs.lemmas.List.Sums.{sum_by_more}
use Rattle.addr_analyze.specs.declared.duplicate.Duplicate.{Duplicate}
use Rattle.addr_analyze.proofs.DuplicateLemmas.{found-few, wasted-few}
use Rattle.addr_analyze.proofs.finding.wasted.Goals as goal

abbrev none : Duplicate
none = record { asset = 0; guid = record { 0 = [] }; bundles = 0; wasted = 0 }

small : (total few index n : ℕ) → few ≤ 4398046511104 → total ≤ index * 4398046511104 → index < n → n ≤ 65536 → total + few < 2 ^ 64
small total few index n waste so_far within short = omega arith

pub overflow_add-total : goal.overflow_add-total
overflow_add-total c =
    let p = c.args.project.now in
    let plan = c.args.plan.now in
    let found = c.args.found.now in
    let i = c.loop-duplicate.duplicate-index in
    let next = get_or found i none in
    let few = wasted-few p plan c.kept.ensures c.requires.placed next (c.requires.found.within next (Contains-get_or found i none c.loop-duplicate-test.true)) in
    let short = found-few p plan c.kept.ensures c.requires.placed found c.requires.found in
    let fits = small c.loop-duplicate.total next.wasted i (length found) few c.loop-duplicate.invariant.few c.loop-duplicate-test.true short in
    omega arith

pub loop-duplicate-preserved : goal.loop-duplicate-preserved
loop-duplicate-preserved c =
    let p = c.args.project.now in
    let plan = c.args.plan.now in
    let found = c.args.found.now in
    let i = c.loop-duplicate.duplicate-index in
    let next = get_or found i none in
    let few = wasted-few p plan c.kept.ensures c.requires.placed next (c.requires.found.within next (Contains-get_or found i none c.loop-duplicate-test.true)) in
    let so_far = c.loop-duplicate.invariant.few in
    record {
      total = ap (λ m. m + next.wasted) c.loop-duplicate.invariant.total ∙ sym (sum_by_more (λ (d : Duplicate). d.wasted) found i none c.loop-duplicate-test.true);
      few = omega arith;
    }
