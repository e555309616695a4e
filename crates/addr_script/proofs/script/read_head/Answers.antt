use Rattle.std.proofs.Common.{ℕ, subst}
use Rattle.addr_fields.specs.Lines.{lines_of}
use Rattle.addr_script.specs.ScriptParts.{HasSets}
use Rattle.addr_script.proofs.ScriptLemmas.{begins}
use Rattle.addr_script.proofs.script.read_head.Goals as goal

pub returns-clause-begins : goal.returns-clause-begins
returns-clause-begins c =
    let P : ℕ → Type 0 = λ n. HasSets (lines_of c.first_limit-limit.result.1.now) n c.in_ok-sets.sets.vars (lines_of c.in_ok-sets.sets.rest.now) c.in_ok-sets.sets.next in
    begins c.args.bytes.now c.first_limit-limit.result.1.now c.in_ok-sets.sets.rest.now c.first_limit-limit.result.0 c.in_ok-sets.sets.vars c.in_ok-sets.sets.next c.first_limit-limit.ensures (subst P c.first_number.ensures.value c.in_ok-sets.ensures)
