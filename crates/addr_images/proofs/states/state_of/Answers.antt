use Rattle.std.proofs.Common.{◌∙◌}
use Rattle.addr_images.proofs.SoundLemmas.{sound, state-for}
use Rattle.addr_images.proofs.states.state_of.Goals as goal

pub returns-clause-told : goal.returns-clause-told
returns-clause-told c =
    state-for c.args.project.now c.args.plan.now c.args.rows.now c.kept.ensures c.requires.placed c.placement_is_shared.ensures.shared c.in_ok-bundles.bundles (c.in_ok-bundles.ensures.as_many ∙ c.requires.rows.as_many) c.in_ok-bundles.ensures.each
    c.in_ok-fixed.fixed c.in_ok-fixed.ensures

pub returns-clause-sound : goal.returns-clause-sound
returns-clause-sound c =
    sound c.args.project.now c.args.plan.now c.args.rows.now c.kept.ensures c.requires.placed c.placement_is_shared.ensures.shared c.in_ok-bundles.bundles (c.in_ok-bundles.ensures.as_many ∙ c.requires.rows.as_many) c.in_ok-bundles.ensures.each
    c.name_laws.ensures.few c.name_laws.ensures.begin c.name_laws.ensures.short c.names_are_plain.ensures c.requires.fit c.requires.rows c.in_ok-fixed.fixed c.in_ok-fixed.ensures
