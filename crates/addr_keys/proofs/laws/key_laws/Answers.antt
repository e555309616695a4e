use Rattle.addr_reading.proofs.StepLaws.{is_decided, not_both}
use Rattle.addr_keys.specs.Faults.{key_read}
use Rattle.addr_keys.specs.declared.error.KeyErr.TheVariants.{NoMemory}
use Rattle.addr_keys.proofs.KeyLemmas.{is_found, is_read}
use Rattle.addr_keys.proofs.NamedLemmas.{key_named}
use Rattle.addr_keys.proofs.laws.key_laws.Goals as goal

pub returns-clause-either : goal.returns-clause-either
returns-clause-either c = λ bytes at. is_decided NoMemory (key_read bytes at) (key_named bytes at)

pub returns-clause-read : goal.returns-clause-read
returns-clause-read c = is_read

pub returns-clause-stands : goal.returns-clause-stands
returns-clause-stands c = λ bytes at key end fits. is_found bytes at (key, end) fits

pub returns-clause-apart : goal.returns-clause-apart
returns-clause-apart c = λ bytes at key end e is. not_both (key_read bytes at) (key, end) e (is_read bytes at key end is)
