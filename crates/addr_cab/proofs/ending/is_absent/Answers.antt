use Rattle.std.proofs.Common.{ap, ◌∙◌, not}
use Rattle.addr_cab.specs.Outside.{is_absent}
use Rattle.addr_cab.proofs.OutsideLaws.{absent_at}
use Rattle.addr_cab.proofs.ending.is_absent.Goals as goal

pub returns : goal.returns
unfolding is_absent
returns c = ap not (c.contains.ensures ∙ absent_at c.args.found.now.keys c.args.name.now)
