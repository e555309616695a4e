use Rattle.addr_locate.proofs.PlainLaws.{bad_no_plain, one_bad, own_rows}
use Rattle.addr_locate.proofs.laws.plain_laws.Goals as goal

pub returns-clause-own : goal.returns-clause-own
returns-clause-own c = λ lines few bundles theirs assets others plain other. own_rows lines bundles theirs assets others few plain other

pub returns-clause-none : goal.returns-clause-none
returns-clause-none c = bad_no_plain

pub returns-clause-one : goal.returns-clause-one
returns-clause-one c = one_bad
