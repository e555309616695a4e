use Rattle.addr_reading.proofs.StepLaws.{is_decided, not_both}
use Rattle.addr_catalog.specs.Catalogue.{catalogue_read}
use Rattle.addr_catalog.specs.declared.error.CatErr.TheVariants.{NoMemory}
use Rattle.addr_catalog.proofs.NamedLemmas.{catalogue_named}
use Rattle.addr_catalog.proofs.laws.catalogue_laws.Goals as goal

pub returns-clause-either : goal.returns-clause-either
returns-clause-either c = λ bytes. is_decided NoMemory (catalogue_read bytes) (catalogue_named bytes)

pub returns-clause-apart : goal.returns-clause-apart
returns-clause-apart c = λ bytes whole e. not_both (catalogue_read bytes) whole e
