use Rattle.std.proofs.Common.{List, subst, sym}
use Rattle.addr_locate.specs.declared.rows.BundleRow.{BundleRow}
use Rattle.addr_resolve.specs.Items.{AreNamed}
use Rattle.addr_resolve.proofs.rows.resolve_rows.Goals as goal

pub returns : goal.returns
returns c = λ files rows named shows are. c.resolve_each.ensures files rows (record {
  is = c.in_ok-graph.ensures.graph files (subst (λ (bs : List BundleRow). AreNamed files bs) (sym c.bundles.ensures.rows) named) shows;
  shows = shows;
  one = c.in_ok-graph.ensures.one files shows;
}) are
