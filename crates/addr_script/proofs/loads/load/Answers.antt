use Rattle.std.proofs.Common.{sym}
use Rattle.addr_script.specs.Commands.{asked_keys_field, kind_field, mode_word, one_or_all}
use Rattle.addr_script.proofs.WordLemmas.{load_words}
use Rattle.addr_script.proofs.loads.load.Goals as goal

pub returns-in-None-2 : goal.returns-in-None-2
returns-in-None-2 c = λ caller all mode kind keys is.
    let same = c.in-Some.ensures.only caller (one_or_all all) (mode_word mode) (kind_field kind) (asked_keys_field keys) (load_words c.args.line.now caller all mode kind keys is) in
    let none = rw c.in-None-2.is at c.in_ok-ask-in-Some.ensures in
    none all mode kind keys (record { which = sym same.1; join = sym same.2; type = sym same.3; field = sym same.4; is_kind = is.0.1; are_keys = is.0.2 })

pub returns-in-None : goal.returns-in-None
returns-in-None c = λ caller all mode kind keys is. c.in-None.ensures.found caller (one_or_all all) (mode_word mode) (kind_field kind) (asked_keys_field keys) (load_words c.args.line.now caller all mode kind keys is)
