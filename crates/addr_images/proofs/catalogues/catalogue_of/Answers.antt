use Rattle.std.proofs.Common.{subst, sym, ◌∙◌}
use Rattle.addr_layout.specs.Direct.{Closes}
use Rattle.addr_layout.specs.Needs.{Needs}
use Rattle.addr_images.proofs.EntryLemmas.{rows-closed}
use Rattle.addr_images.proofs.FitLemmas.{keys-apart}
use Rattle.addr_images.proofs.catalogues.catalogue_of.Goals as goal

pub catalogue_over-requires-clause-apart : goal.catalogue_over-requires-clause-apart
catalogue_over-requires-clause-apart c = keys-apart c.args.project.now c.args.plan.now c.args.rows c.requires.placed c.requires.rows

pub returns : goal.returns
returns c =
    let p = c.args.project.now in
    let plan = c.args.plan.now in
    let direct = c.as_slice-direct.result.now in
    let closes = subst (Closes (Needs p plan)) (sym (c.as_slice-direct.ensures ∙ c.in_ok-direct.ensures)) (c.direct_closes.ensures.closes c.placement_is_shared.ensures.new) in
    record {
      assets = c.in_ok-assets.assets.items;
      entries = rows-closed p plan (Needs p plan) direct p.entries c.in_ok-assets.assets.items closes c.in_ok-assets.ensures;
      text = c.in_ok-bytes.ensures.text;
      alike = c.in_ok-bytes.ensures.alike;
    }
