use Rattle.std.proofs.Common.{refl}
use Rattle.addr_simulate.proofs.ReadLemmas.{reads_all_sim}
use Rattle.addr_simulate.proofs.simulator.read_all.Goals as goal

pub returns : goal.returns
returns c = (c.read_all.result, reads_all_sim _ (λ image b guid. refl) c.args.core.now c.journal-journal.ensures.ready c.args.op c.args.i c.read_all.result c.in_ok-reply.ensures.given c.read_all.ensures, c.in_ok-reply.ensures.told)
