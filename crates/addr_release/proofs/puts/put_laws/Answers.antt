use Rattle.addr_release.proofs.PutLemmas.{after-put, put-after, after-none, after-same_files, after-joins, after-skips, after-there, after-again, once-agree}
use Rattle.addr_release.proofs.puts.put_laws.Goals as goal

pub returns-clause-one : goal.returns-clause-one
returns-clause-one c = λ put old new. (after-put put.name put.bytes old new, put-after put.name put.bytes old new)

pub returns-clause-none : goal.returns-clause-none
returns-clause-none c = after-none

pub returns-clause-same : goal.returns-clause-same
returns-clause-same c = after-same_files

pub returns-clause-joins : goal.returns-clause-joins
returns-clause-joins c = after-joins

pub returns-clause-skips : goal.returns-clause-skips
returns-clause-skips c = after-skips

pub returns-clause-there : goal.returns-clause-there
returns-clause-there c = λ puts old new once after. after-there puts old new (once-agree puts once) after

pub returns-clause-again : goal.returns-clause-again
returns-clause-again c = after-again
