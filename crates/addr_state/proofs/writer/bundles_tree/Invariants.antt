use Rattle.std.proofs.Common.{◌≡◌, map, take, All}
use Rattle.serde_json.specs.View.{view}
use Rattle.addr_state.specs.within.Kept.{HasIds}
use Rattle.addr_state.specs.Written.{bundle_tree}
use Rattle.addr_state.proofs.writer.bundles_tree.Given as goal

abbrev pub invariant-loop-bundle : goal.invariant-loop-bundle
invariant-loop-bundle l = record {
  tree : map view l.values.items ≡ map bundle_tree (take l.bundle-index l.bundles);
  sixteen : All HasIds (take l.bundle-index l.bundles);
}
