use Rattle.addr_catalog_json.proofs.NamedLaws.{document_named}
use Rattle.addr_catalog_json.proofs.document.read_document.Goals as goal

pub returns-clause-named : goal.returns-clause-named
returns-clause-named c = document_named c.args.bytes.now

pub returns-in_err-tree-clause-named : goal.returns-in_err-tree-clause-named
returns-in_err-tree-clause-named c = document_named c.args.bytes.now
