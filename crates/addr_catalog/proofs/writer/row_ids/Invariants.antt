use Rattle.std.proofs.Common.{◌≡◌, ◌++◌, map, take}
use Rattle.addr_catalog.proofs.writer.row_ids.Given as goal

abbrev pub invariant-loop-bundle : goal.invariant-loop-bundle
invariant-loop-bundle l = l.ids ≡ map (λ b. b.id) (take l.bundle-index l.locator.bundles)

abbrev pub invariant-loop-asset : goal.invariant-loop-asset
invariant-loop-asset l = l.ids ≡ map (λ b. b.id) l.locator.bundles ++ map (λ a. a.id) (take l.asset-index l.locator.assets)
