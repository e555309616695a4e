use Rattle.std.proofs.Common.{Some, sym, ap, ◌∙◌, IsTrue}
use Rattle.addr_base.specs.Ids.{hex_of}
use Rattle.addr_base.proofs.HexLemmas.{decoded_same, spelled_decodes}
use Rattle.addr_base.proofs.hex_text.parse_hex.Goals as goal

pub returns-in-Ok-clause-again : goal.returns-in-Ok-clause-again
returns-in-Ok-clause-again c = λ bytes are e. ap Some (decoded_same _ _ bytes (sym c.from_hex.ensures ∙ c.in-Ok.is) are e)

pub returns-in_default-clause-reads : goal.returns-in_default-clause-reads
returns-in_default-clause-reads c =
    λ bytes are e.
    let same = decoded_same _ _ bytes (sym c.from_hex.ensures ∙ c.in-Ok.is) are e in
    let equal : IsTrue c.is_same.result = c.is_same.ensures.1 (e ∙ sym (ap hex_of same) ∙ sym c.hex_digits.ensures.value) in
    cc (equal, c.if-is_same.false)

pub returns-in_default-clause-again : goal.returns-in_default-clause-again
returns-in_default-clause-again c = λ bytes are e. absurd (returns-in_default-clause-reads c bytes are e)

pub returns-in_default-2-clause-reads : goal.returns-in_default-2-clause-reads
returns-in_default-2-clause-reads c =
    λ bytes are e. cc (sym c.from_hex.ensures ∙ c.in_default.is, spelled_decodes _ bytes are e)

pub returns-in_default-2-clause-again : goal.returns-in_default-2-clause-again
returns-in_default-2-clause-again c = λ bytes are e. absurd (returns-in_default-2-clause-reads c bytes are e)
