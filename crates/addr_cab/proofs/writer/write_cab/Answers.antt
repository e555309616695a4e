use Rattle.std.proofs.Common.{ap, length, arith}
use Rattle.addr_cab.specs.Written.{refs_of}
use Rattle.addr_cab.proofs.HoldLaws.{written_holds}
use Rattle.addr_cab.proofs.OutsideLaws.{are_outside}
use Rattle.addr_cab.proofs.WrittenLaws.{data_len, reads_back}
use Rattle.addr_cab.proofs.writer.write_cab.Goals as goal

pub invariant_of-names : goal.invariant_of-names
invariant_of-names c = rw (c.deref.ensures.value, c.in_ok-outside.ensures) (record { ascend = (are_outside (refs_of c.args.objects.now)).ascend })

pub table_of-requires-clause-small : goal.table_of-requires-clause-small
table_of-requires-clause-small c = omega (arith, data_len c.args.objects.now, ap length c.in_ok-content.ensures, c.in_ok-content.content.small, c.in_ok-content.content.ok)

pub returns-clause-reads : goal.returns-clause-reads
returns-clause-reads c =
    let objects = c.args.objects.now in
    rw (c.in_ok-content.ensures, c.in_ok-table.ensures.text)
    (reads_back objects c.requires c.in_ok-table.ensures.typed (omega (arith, ap length c.in_ok-content.ensures, c.in_ok-content.content.small, c.in_ok-content.content.ok)))

pub returns-clause-holds : goal.returns-clause-holds
returns-clause-holds c = λ file name sixteen read.
    written_holds file name c.args.objects.now c.in_ok-table.table.items c.in_ok-content.content.items sixteen
    (record { typed = c.in_ok-table.ensures.typed; can = c.requires; table_is = c.in_ok-table.ensures.text; content_is = c.in_ok-content.ensures }) read

pub returns-clause-text : goal.returns-clause-text
returns-clause-text c = record { typed = c.in_ok-table.ensures.typed; can = c.requires; table_is = c.in_ok-table.ensures.text; content_is = c.in_ok-content.ensures }
