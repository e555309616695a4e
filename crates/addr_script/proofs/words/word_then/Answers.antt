use Rattle.std.proofs.Common.{sym}
use Rattle.addr_locate.proofs.FieldLemmas.{cut_is}
use Rattle.addr_script.proofs.words.word_then.Goals as goal

pub returns-in-Some-clause-only : goal.returns-in-Some-clause-only
returns-in-Some-clause-only c = λ word rest is.
    let same = cut_is 32 c.args.text.now c.in-Some.word.now c.in-Some.rest.now word rest c.in-Some.ensures is.first is.whole in
    (sym same.0, sym same.1)
