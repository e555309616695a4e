use Rattle.std.proofs.Common.{◌∙◌, ap, length}
use Rattle.std.proofs.lemmas.List.{length-map}
use Rattle.addr_locate.specs.Evaluated.{evaluated_bundle}
use Rattle.addr_locate.proofs.EvaluatedLemmas.{AreRows-as_many}
use Rattle.addr_locate.proofs.locator.Locator.evaluate.Goals as goal

pub invariant_of-self : goal.invariant_of-self
invariant_of-self c =
    let kept = c.self.inside in
    let as_many = ap length c.in_ok-self-inside.ensures ∙ length-map c.as_slice.result.now (evaluated_bundle c.args.vars.now) ∙ ap length c.as_slice.ensures in
    record {
      are = AreRows-as_many kept.bundles c.in_ok-self-inside.field-0 kept.assets kept.keys kept.kinds as_many c.self.invariant.are;
      posted = c.self.invariant.posted;
    }
