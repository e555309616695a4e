use Rattle.std.proofs.Common.{◌∙◌, ap, subst}
use Rattle.std.proofs.lemmas.List.Elements.{All-more}
use Rattle.serde_json.proofs.Views.{view-Array}
use Rattle.addr_state.specs.within.Kept.{HasIds}
use Rattle.addr_state.specs.Written.{bundle_tree}
use Rattle.addr_json.proofs.TreeOfLists.{tree_more, tree_done}
use Rattle.addr_state.proofs.writer.bundles_tree.Goals as goal

pub loop-bundle-preserved : goal.loop-bundle-preserved
loop-bundle-preserved c = record {
  tree = tree_more bundle_tree c.loop-bundle.values.items c.push.new.self.items c.in_ok-bundle_tree.field-0 c.args.bundles.now c.loop-bundle.bundle-index c.bundle-item.result c.loop-bundle-test.true c.in_ok-push.ensures.items
      (c.in_ok-bundle_tree.ensures.tree ∙ ap bundle_tree c.bundle-item.is) c.loop-bundle.invariant.tree;
  sixteen = All-more HasIds c.args.bundles.now c.loop-bundle.bundle-index c.bundle-item.result c.loop-bundle-test.true c.loop-bundle.invariant.sixteen (subst HasIds c.bundle-item.is c.in_ok-bundle_tree.ensures.sixteen);
}

pub returns-clause-tree : goal.returns-clause-tree
returns-clause-tree c = view-Array c.loop-bundle.values ∙ tree_done bundle_tree c.loop-bundle.values.items c.args.bundles.now c.loop-bundle.bundle-index c.loop-bundle-test.false c.loop-bundle.invariant.tree
