use Rattle.std.proofs.Common.{Result, List, ℕ, sym, subst}
use Rattle.addr_reading.specs.Gives.{Reads}
use Rattle.addr_keys.specs.declared.error.KeyErr.{KeyErr}
use Rattle.addr_keys.specs.declared.key.Key.{Key}
use Rattle.addr_keys.proofs.FieldLemmas.{byte_first, first_of_kind}
use Rattle.addr_keys.proofs.reader.first_key.Goals as goal

pub returns-clause-plain : goal.returns-clause-plain
returns-clause-plain c = λ none.
    let bytes = c.args.bytes.now in
    let kind = c.in_ok-kind.kind in
    let rest = c.in_ok-kind.rest.now in
    subst (λ (read : Result (Key × List ℕ) KeyErr). Reads (λ x. (x.0, x.1.now)) c.key_of_kind.result read) (sym (first_of_kind bytes kind rest c.in_ok-kind.ensures)) (c.key_of_kind.ensures.plain (none kind (byte_first bytes kind rest c.in_ok-kind.ensures)))
