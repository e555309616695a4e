use Rattle.std.proofs.Common.{◌∙◌}
use Rattle.std.proofs.lemmas.List.Elements.{All-more}
use Rattle.serde_json.proofs.Views.{view-Array}
use Rattle.addr_base.specs.Ids.{Are16Bytes}
use Rattle.addr_base.specs.declared.ids.Guid.{Guid}
use Rattle.addr_json.specs.Trees.{guid_tree}
use Rattle.addr_json.proofs.TreeOfLists.{tree_more, tree_done}
use Rattle.addr_state.proofs.writer.guids_tree.Goals as goal

pub loop-guid-preserved : goal.loop-guid-preserved
loop-guid-preserved c = record {
  tree = tree_more guid_tree c.loop-guid.values.items c.push.new.self.items c.in_ok-guid_tree.field-0 c.args.guids.now c.loop-guid.guid-index _ c.loop-guid-test.true c.in_ok-push.ensures.items c.in_ok-guid_tree.ensures.tree c.loop-guid.invariant.tree;
  sixteen = All-more (λ (g : Guid). Are16Bytes g.0) c.args.guids.now c.loop-guid.guid-index _ c.loop-guid-test.true c.loop-guid.invariant.sixteen c.in_ok-guid_tree.ensures.sixteen;
}

pub returns-clause-tree : goal.returns-clause-tree
returns-clause-tree c = view-Array c.loop-guid.values ∙ tree_done guid_tree c.loop-guid.values.items c.args.guids.now c.loop-guid.guid-index c.loop-guid-test.false c.loop-guid.invariant.tree
