use Rattle.addr_catalog.proofs.WriterLemmas.{reads_alike}
use Rattle.addr_catalog.proofs.writer.write_catalog.Goals as goal

pub returns-clause-reads : goal.returns-clause-reads
returns-clause-reads c = λ distinct. reads_alike c.args.catalogue.now c.in_ok-bytes.bytes.items c.in_ok-bytes.ensures.read (c.written_rows_read_back.ensures distinct)
