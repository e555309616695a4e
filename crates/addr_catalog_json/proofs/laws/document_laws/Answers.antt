use Rattle.addr_reading.proofs.StepLaws.{is_decided, not_both}
use Rattle.addr_catalog_json.specs.Document.{document_read}
use Rattle.addr_catalog_json.specs.declared.error.DocErr.TheVariants.{NoMemory}
use Rattle.addr_catalog_json.proofs.NamedLaws.{document_named}
use Rattle.addr_catalog_json.proofs.laws.document_laws.Goals as goal

pub returns-clause-either : goal.returns-clause-either
returns-clause-either c = λ bytes. is_decided NoMemory (document_read bytes) (document_named bytes)

pub returns-clause-apart : goal.returns-clause-apart
returns-clause-apart c = λ bytes d e. not_both (document_read bytes) d e
