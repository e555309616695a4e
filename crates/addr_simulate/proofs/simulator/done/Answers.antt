use Rattle.std.proofs.Common.{ap, sym}
use Rattle.addr_script.specs.declared.reply.Reply.TheVariants.{Settled, NotTaken}
use Rattle.addr_simulate.specs.SimText.{done_answer}
use Rattle.addr_simulate.proofs.PlayLemmas.{done_plays}
use Rattle.addr_simulate.proofs.simulator.done.Goals as goal

pub returns-in-Ok : goal.returns-in-Ok
returns-in-Ok c = done_plays c.args.core.now c.done.new.self c.args.worker c.args.b (record {}) c.done.result (Settled c.in-Ok.settled) c.done.ensures.reply c.done.ensures.machine (sym (ap done_answer c.in-Ok.is))

pub returns-in-Err : goal.returns-in-Err
returns-in-Err c = done_plays c.args.core.now c.done.new.self c.args.worker c.args.b (record {}) c.done.result NotTaken c.done.ensures.reply c.done.ensures.machine (sym (ap done_answer c.in-Err.is))
