use Rattle.std.proofs.Common.{arith}
use Rattle.std.proofs.lemmas.Bool.Decides.{nat_tests}
use Rattle.addr_fields.proofs.LineLemmas.{lines_of_cut, lines_of_one, rest_is_shorter, parts_are_shorter}
use Rattle.addr_fields.proofs.lines.next_line.Goals as goal

pub returns-in-Some-clause-line : goal.returns-in-Some-clause-line
returns-in-Some-clause-line c = lines_of_cut c.args.bytes.now c.in-Some.line.now c.in-Some.rest.now c.in-Some.ensures

pub returns-in-Some-clause-shorter : goal.returns-in-Some-clause-shorter
returns-in-Some-clause-shorter c = rest_is_shorter c.args.bytes.now c.in-Some.line.now c.in-Some.rest.now c.in-Some.ensures

pub returns-in-None-clause-line : goal.returns-in-None-clause-line
returns-in-None-clause-line c = lines_of_one c.args.bytes.now (grind (arith, nat_tests, c.is_empty.ensures, c.if-is_empty.false)) c.in-None.ensures

pub returns-in-Some-clause-parts : goal.returns-in-Some-clause-parts
returns-in-Some-clause-parts c = parts_are_shorter c.args.bytes.now c.in-Some.line.now c.in-Some.rest.now c.in-Some.ensures
