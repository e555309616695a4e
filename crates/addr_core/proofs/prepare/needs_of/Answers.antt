use Rattle.std.proofs.Common.{◌∙◌, ap, arith, length, List, take, if◌then◌else◌}
use Rattle.addr_base.specs.declared.ids.RowNo.{RowNo}
use Rattle.addr_locate.specs.Merge.{deps_of}
use Rattle.addr_history.specs.Events.{needs_of}
use Rattle.addr_history.proofs.Members.{few_below}
use Rattle.addr_core.proofs.prepare.needs_of.Goals as goal

pub returns-clause-needs : goal.returns-clause-needs
unfolding needs_of
returns-clause-needs c = c.in_ok-needs.ensures.bundles ∙ ap (deps_of c.args.now.now.locator.now.assets) (c.chosen.ensures ∙ ap (λ (l : List RowNo). if c.args.ask.now.all then l else take 1 l) c.requires)

pub returns-clause-few : goal.returns-clause-few
returns-clause-few c = omega (arith, few_below (length c.args.now.now.locator.now.bundles) c.in_ok-needs.needs c.in_ok-needs.ensures.within c.in_ok-needs.ensures.once, c.bundles-bundles.ensures.few)
