use Rattle.std.proofs.Common.{rules}
use Rattle.addr_script.proofs.ScriptLaws.{taken_or_none}
use Rattle.addr_script.proofs.script.command_of.Goals as goal

pub returns-in-Some : goal.returns-in-Some
returns-in-Some c = taken_or_none c.args.grammar c.args.line.now c.in-Some.command c.taken.result (search rules) c.taken.ensures
