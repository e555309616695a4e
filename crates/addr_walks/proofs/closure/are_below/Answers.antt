use Rattle.std.proofs.Common.{◌≡◌, ◌↔◌, true, length, subst, sym}
use Rattle.addr_walks.specs.Rows.{AreBelow}
use Rattle.addr_walks.proofs.BelowLemmas.{below-tested}
use Rattle.addr_walks.proofs.closure.are_below.Goals as goal

pub returns : goal.returns
returns c = subst (λ t. (t ≡ true) ↔ AreBelow c.args.rows.now (length c.args.rows.now)) (sym c.are_all_below.ensures) (below-tested c.args.rows.now (length c.args.rows.now))
