use Rattle.std.proofs.Common.{refl}
use Rattle.addr_build.proofs.EndLemmas.{same-puts}
use Rattle.addr_build.proofs.testing.put_at.Goals as goal

pub returns-in_err-path-clause-puts : goal.returns-in_err-path-clause-puts
returns-in_err-path-clause-puts g c = same-puts _ _ _ _ c.from_residual.result (record { files = refl; past = refl }) c.from_residual.ensures.0
