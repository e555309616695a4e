use Rattle.std.proofs.Common.{ℕ, sym, subst}
use Rattle.std.proofs.lemmas.List.{take_all}
use Rattle.hex.specs.Hex.{IsBytes}
use Rattle.addr_walks.specs.Places.{EachAt}
use Rattle.addr_project.specs.declared.model.Group.{Group}
use Rattle.addr_pack.proofs.PlainLemmas.{more-at}
use Rattle.addr_pack.proofs.plain.groups_are_bytes.Goals as goal

pub loop-i-preserved : goal.loop-i-preserved
loop-i-preserved c = more-at (λ (i : ℕ) (group : Group). IsBytes group.name) c.args.groups.now c.loop-i.i c.index-groups-i.result c.loop-i-test.true (sym c.index-groups-i.is) (λ k. c.text_is_bytes.ensures) c.loop-i.invariant

pub returns : goal.returns
returns c = subst (EachAt (λ (i : ℕ) (group : Group). IsBytes group.name)) (take_all c.loop-i.i c.args.groups.now c.loop-i-test.false) c.loop-i.invariant
