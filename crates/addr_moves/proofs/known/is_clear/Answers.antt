use Rattle.addr_moves.proofs.KnownLemmas.{number-is-found}
use Rattle.addr_moves.proofs.known.is_clear.Goals as goal

pub returns-in-Err : goal.returns-in-Err
returns-in-Err c = λ so. (c.in-Some.n, c.in-Some.is, λ here. number-is-found c.args.doubted.now c.in-Some.n c.in-Err.field-0 c.requires here c.in-Err.ensures.position)
