use Rattle.std.proofs.Common.{◌≡◌, map, take}
use Rattle.serde_json.specs.View.{view}
use Rattle.addr_catalog_json.specs.Written.{kind_tree}
use Rattle.addr_catalog_json.proofs.writer.kinds_tree.Given as goal

abbrev pub invariant-loop-kind : goal.invariant-loop-kind
invariant-loop-kind l = map view l.values.items ≡ map kind_tree (take l.kind-index l.kinds)
