use Rattle.addr_state.proofs.NameBytes.{text_spelled, digits_named, parts_named}
use Rattle.addr_state.proofs.laws.bundle_name_laws.Goals as goal

pub returns-clause-spelled : goal.returns-clause-spelled
returns-clause-spelled c = text_spelled

pub returns-clause-digits : goal.returns-clause-digits
returns-clause-digits c = digits_named

pub returns-clause-joined : goal.returns-clause-joined
returns-clause-joined c = parts_named
