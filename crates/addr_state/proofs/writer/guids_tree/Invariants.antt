use Rattle.std.proofs.Common.{◌≡◌, map, take}
use Rattle.serde_json.specs.View.{view}
use Rattle.addr_state.specs.within.Kept.{AreGuids}
use Rattle.addr_json.specs.Trees.{guid_tree}
use Rattle.addr_state.proofs.writer.guids_tree.Given as goal

abbrev pub invariant-loop-guid : goal.invariant-loop-guid
invariant-loop-guid l = record {
  tree : map view l.values.items ≡ map guid_tree (take l.guid-index l.guids);
  sixteen : AreGuids (take l.guid-index l.guids);
}
