use Rattle.std.proofs.Common.{sym, subst, ℕ, List}
use Rattle.std.specs.Str.{IsUtf8}
use Rattle.std.proofs.lemmas.Fmt.{IsAscii-decimal}
use Rattle.std.proofs.lemmas.Str.{IsUtf8-from_ascii}
use Rattle.addr_fields.proofs.fields.long_number.Goals as goal

pub returns-in-Err : goal.returns-in-Err
returns-in-Err c = λ n is.
    let P : List ℕ → Type 0 = λ text. IsUtf8 text in
    c.in-Err.ensures.cases.0 (subst P (sym is.1) (IsUtf8-from_ascii _ (IsAscii-decimal n is.0)))
