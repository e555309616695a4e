use Rattle.std.proofs.Common.{Ok, ◌∙◌, ap}
use Rattle.addr_catalog.proofs.WriterLemmas.{text_read}
use Rattle.addr_catalog.proofs.writer.write.Goals as goal

pub returns-clause-read : goal.returns-clause-read
returns-clause-read c = text_read c.args.catalogue.now c.in_ok-bytes.bytes.items (c.in_ok-bytes.ensures.again ∙ ap Ok c.in_ok-document.ensures.written) c.in_ok-document.ensures.rows
