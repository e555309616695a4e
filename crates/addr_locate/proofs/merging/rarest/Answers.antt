use Rattle.std.proofs.Common.{◌∙◌, ap, sym}
use Rattle.std.proofs.lemmas.Bool.{false≢true}
use Rattle.addr_locate.proofs.MergeLemmas.{first_passes, other_passes, no_key}
use Rattle.addr_locate.proofs.merging.rarest.Goals as goal
use Rattle.addr_locate.proofs.merging.rarest.Goals.{then-rows_of_key, else-rows_of_key}

pub loop-key-init : goal.loop-key-init
loop-key-init c = λ p some all. first_passes p c.args.keys.now c.in-Some.others.now c.in-Some.first.now c.in-Some.ensures.cases.0 all

pub loop-key-preserved : goal.loop-key-preserved
loop-key-preserved c = λ p some all. elim c.if-rows_of_key.branch [
  | then-rows_of_key w ↦ ap p w.rarest-is ∙ other_passes p c.args.keys.now c.in-Some.others.now c.in-Some.first.now c.loop-key.key-index _ c.in-Some.ensures.cases.0 c.loop-key-test.true all
  | else-rows_of_key w ↦ ap p w.rarest-is ∙ c.loop-key.invariant p some all
]

pub returns-in_default : goal.returns-in_default
returns-in_default c = λ p some all. absurd (false≢true (sym some ∙ no_key c.args.keys.now c.in_default.ensures.cases))
