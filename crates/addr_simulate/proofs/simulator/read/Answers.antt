use Rattle.std.proofs.Common.{refl}
use Rattle.addr_simulate.proofs.ReadLemmas.{reads_sim}
use Rattle.addr_simulate.proofs.simulator.read.Goals as goal

pub returns : goal.returns
returns c = (c.read.result, reads_sim _ (λ image b guid. refl) c.args.core.now c.journal-journal.ensures.ready c.args.op c.args.i c.read.result c.in_ok-reply.ensures.given c.read.ensures, c.in_ok-reply.ensures.told)
