use Rattle.std.proofs.Common.{subst, IsTrue, ◌≡◌, ◌∙◌, ap, length}
use Rattle.std.specs.List.{list_all}
use Rattle.std.proofs.lemmas.Result.{IfOk-weaker}
use Rattle.addr_locate.specs.Merge.{deps_of}
use Rattle.addr_locate.specs.Rows.{Rows, has_sound_deps, are_bundles, no_repeats}
use Rattle.addr_locate.proofs.FoundLemmas.{deps_of-within, deps_of-once}
use Rattle.addr_locate.proofs.locator.Locator.deps.Goals as goal

pub returns-clause-within : goal.returns-clause-within
returns-clause-within c =
    let assets = c.args.self.now.assets in
    let same : c.as_slice.result.now ≡ assets = c.as_slice.ensures ∙ ap (λ (r : Rows). r.assets) c.self.view_is in
    let sound = subst (λ (r : Rows). IsTrue (list_all (λ a. has_sound_deps (length r.bundles) a.deps) r.assets)) c.self.view_is c.self.invariant.are.deps in
    let count = length c.args.self.now.bundles in
    IfOk-weaker c.distinct_deps.result (λ found. found ≡ deps_of assets c.args.rows.now) _ (λ found is. ap (are_bundles count) is ∙ deps_of-within count assets c.args.rows.now sound) (rw same at c.distinct_deps.ensures)

pub returns-clause-once : goal.returns-clause-once
returns-clause-once c =
    let assets = c.args.self.now.assets in
    let same : c.as_slice.result.now ≡ assets = c.as_slice.ensures ∙ ap (λ (r : Rows). r.assets) c.self.view_is in
    IfOk-weaker c.distinct_deps.result (λ found. found ≡ deps_of assets c.args.rows.now) _ (λ found is. ap no_repeats is ∙ deps_of-once assets c.args.rows.now) (rw same at c.distinct_deps.ensures)
