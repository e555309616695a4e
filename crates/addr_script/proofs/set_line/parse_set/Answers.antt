use Rattle.std.proofs.Common.{sym}
use Rattle.addr_base.specs.Tokens.{token_of}
use Rattle.addr_script.proofs.WordLemmas.{set_words}
use Rattle.addr_script.proofs.set_line.parse_set.Goals as goal

pub returns-in-None-2 : goal.returns-in-None-2
returns-in-None-2 c = λ v is e.
    let same = c.in-Some.ensures.only (token_of v.name) (token_of v.value) (set_words c.args.line.now v is e) in
    let none = rw c.in-None-2.is at c.in_ok-var-in-Some.ensures in
    none v is (sym same.0) (sym same.1)

pub returns-in-None : goal.returns-in-None
returns-in-None c = λ v is e. c.in-None.ensures.found (token_of v.name) (token_of v.value) (set_words c.args.line.now v is e)
