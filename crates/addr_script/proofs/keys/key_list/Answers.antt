use Rattle.std.proofs.Common.{arith}
use Rattle.addr_script.proofs.KeyLemmas.{same_count}
use Rattle.addr_script.proofs.keys.key_list.Goals as goal

pub returns-else-len : goal.returns-else-len
returns-else-len c = λ keys are e.
    let found = rw c.in-Some.is at c.in_ok-keys.ensures in
    let count = same_count c.args.field.now c.in-Some.keys keys found.0 found.1 are.0 e in
    absurd (omega (arith, count, are.1))
