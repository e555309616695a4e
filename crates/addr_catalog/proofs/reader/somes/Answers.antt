use Rattle.std.proofs.Common.{◌∙◌}
use Rattle.addr_catalog.proofs.EachLemmas.{some_more, none_more}
use Rattle.addr_catalog.proofs.reader.somes.Goals as goal

pub loop-item-preserved-in-Continue-1 : goal.loop-item-preserved-in-Continue-1
loop-item-preserved-in-Continue-1 g c = c.in_ok-push.ensures.items ∙ some_more c.loop-item.yielded c.in-Some.item c.in-Some-item.there c.loop-item.found.items c.loop-item.invariant c.in-Some-item.is

pub loop-item-preserved : goal.loop-item-preserved
loop-item-preserved g c = none_more c.loop-item.yielded c.in-Some.item c.loop-item.found.items c.loop-item.invariant c.in_default.is
