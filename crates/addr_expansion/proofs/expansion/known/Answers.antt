use Rattle.std.proofs.Common.{◌≡◌, ◌+◌, length, ap, ◌∙◌, arith}
use Rattle.addr_expansion.specs.Expansion.{outcome_of, filled, circular}
use Rattle.addr_expansion.specs.Extents.{extents}
use Rattle.addr_expansion.proofs.ExpansionLemmas.{extents-same, outcome-none, outcome-more}
use Rattle.addr_expansion.proofs.expansion.known.Goals as goal

pub loop-round-init : goal.loop-round-init
loop-round-init c = c.in_ok-table.ensures ∙ extents-same (λ text. circular) (outcome_of c.args.variables.now 0) (outcome-none c.args.variables.now) c.args.variables.now

pub loop-round-preserved : goal.loop-round-preserved
loop-round-preserved c =
    let vs = c.args.variables.now in
    let n = c.loop-round._round in
    c.in_ok-table-2.ensures (outcome_of vs n) (c.deref.ensures.value ∙ c.loop-round.invariant)
    ∙ extents-same (filled vs (outcome_of vs n)) (outcome_of vs (n + 1)) (outcome-more vs n) vs

pub returns : goal.returns
returns c =
    let all : c.loop-round._round ≡ length c.args.variables.now = omega arith in
    c.loop-round.invariant ∙ ap (λ n. extents (outcome_of c.args.variables.now n) c.args.variables.now) all
