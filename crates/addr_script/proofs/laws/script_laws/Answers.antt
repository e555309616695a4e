use Rattle.addr_script.proofs.ScriptLaws.{bad_no_script, one_bad, own_script}
use Rattle.addr_script.proofs.laws.script_laws.Goals as goal

pub returns-clause-own : goal.returns-clause-own
returns-clause-own c = own_script

pub returns-clause-none : goal.returns-clause-none
returns-clause-none c = bad_no_script

pub returns-clause-one : goal.returns-clause-one
returns-clause-one c = one_bad
