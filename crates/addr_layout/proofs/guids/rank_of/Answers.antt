use Rattle.addr_layout.proofs.GuidLemmas.{found-guid, guid-is-found}
use Rattle.addr_layout.proofs.guids.rank_of.Goals as goal

pub unreachable-requires : goal.unreachable-requires
unreachable-requires c = guid-is-found c.args.guids.now c.args.guid.now c.in-Err.field-0 c.requires.rising c.requires.here c.in-Err.ensures.position

pub returns : goal.returns
returns c = found-guid c.args.guids.now c.args.guid.now c.in-Ok.rank c.in-Ok.ensures.bound c.in-Ok.ensures.ok
