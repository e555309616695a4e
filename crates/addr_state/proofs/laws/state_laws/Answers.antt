use Rattle.addr_state.specs.Reading.{state_read}
use Rattle.addr_reading.proofs.StepLaws.{is_decided, one_value, one_fault, not_both}
use Rattle.addr_state.specs.declared.error.StateErr.TheVariants.{NoMemory}
use Rattle.addr_state.proofs.NamedLaws.{state_named}
use Rattle.addr_state.proofs.ReadLaws.{state_passes}
use Rattle.addr_state.proofs.PassesSound.{passes_sound}
use Rattle.addr_state.proofs.laws.state_laws.Goals as goal

pub returns-clause-either : goal.returns-clause-either
returns-clause-either c = λ bytes. is_decided NoMemory (state_read bytes) (state_named bytes)

pub returns-clause-apart : goal.returns-clause-apart
returns-clause-apart c = λ bytes s e. not_both (state_read bytes) s e

pub returns-clause-one : goal.returns-clause-one
returns-clause-one c = λ bytes s t. one_value (state_read bytes) s t

pub returns-clause-first : goal.returns-clause-first
returns-clause-first c = λ bytes e f. one_fault (state_read bytes) e f

pub returns-clause-sound : goal.returns-clause-sound
returns-clause-sound c = λ bytes s is. passes_sound s (state_passes bytes s is)
