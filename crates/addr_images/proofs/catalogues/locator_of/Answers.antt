use Rattle.std.proofs.Common.{◌≡◌, length, ap, subst, sym, ◌∙◌}
use Rattle.std.specs.Prelude.{IsTrue}
use Rattle.std.specs.List.{list_all}
use Rattle.addr_locate.specs.Rows.{has_sound_deps}
use Rattle.addr_walks.specs.Rows.{Edge}
use Rattle.addr_images.proofs.FitLemmas.{all-once, all-sound, few-keys, few-rows}
use Rattle.addr_images.proofs.catalogues.locator_of.Goals as goal

pub of_rows-requires-clause-few_assets : goal.of_rows-requires-clause-few_assets
of_rows-requires-clause-few_assets c = few-rows c.args.project.now c.args.plan.now (Edge c.args.direct.now) c.args.assets.items c.requires.assets c.kept.ensures

pub of_rows-requires-clause-few_keys : goal.of_rows-requires-clause-few_keys
of_rows-requires-clause-few_keys c = few-keys c.args.project.now c.args.plan.now (Edge c.args.direct.now) c.args.assets.items c.requires.assets c.kept.ensures

pub of_rows-requires-clause-deps : goal.of_rows-requires-clause-deps
of_rows-requires-clause-deps c =
    let count : length c.into_vec.result.items ≡ length c.args.plan.now.bundles = ap length c.into_vec.ensures ∙ c.requires.rows in
    subst (λ n. IsTrue (list_all (λ a. has_sound_deps n a.deps) c.args.assets.items)) (sym count)
    (all-sound c.args.project.now c.args.plan.now c.args.direct.now c.requires.many c.requires.below c.args.assets.items c.requires.assets)

pub of_rows-requires-clause-keys : goal.of_rows-requires-clause-keys
of_rows-requires-clause-keys c = all-once c.args.project.now c.args.plan.now (Edge c.args.direct.now) c.args.assets.items c.requires.assets
