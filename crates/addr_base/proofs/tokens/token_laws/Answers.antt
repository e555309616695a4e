use Rattle.addr_base.proofs.TokenLemmas.{mark_no_token, read_back, token_bytes_stand, token_filled, token_of_own}
use Rattle.addr_base.proofs.tokens.token_laws.Goals as goal

pub returns-clause-own : goal.returns-clause-own
returns-clause-own c = token_of_own

pub returns-clause-back : goal.returns-clause-back
returns-clause-back c = read_back

pub returns-clause-filled : goal.returns-clause-filled
returns-clause-filled c = token_filled

pub returns-clause-bytes : goal.returns-clause-bytes
returns-clause-bytes c = token_bytes_stand

pub returns-clause-marks : goal.returns-clause-marks
returns-clause-marks c = λ bytes mark text utf8 e. mark_no_token mark.0 text (rw mark.1 at e)
