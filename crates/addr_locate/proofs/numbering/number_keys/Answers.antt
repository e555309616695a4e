use Rattle.std.proofs.Common.{◌∙◌, ◌++◌, ◌∷◌, [], ap}
use Rattle.addr_base.specs.declared.ids.KeyNo.{KeyNo}
use Rattle.addr_locate.proofs.NameLemmas.{keys_more}
use Rattle.addr_locate.proofs.numbering.number_keys.Goals as goal

pub loop-text-preserved : goal.loop-text-preserved
loop-text-preserved c =
    let more = keys_more c.args.names.now c.loop-text.yielded c.in-Some.text c.loop-text.names c.number.new.self c.loop-text.numbers.items c.loop-text.invariant.0 c.in_ok-number.ensures.texts c.loop-text.invariant.1 in
    let pushed = c.in_ok-push.ensures.items in
    (more.0, pushed ∙ (ap (λ n. c.loop-text.numbers.items ++ (let k : KeyNo = record { 0 = n } in k) ∷ []) c.in_ok-number.ensures.place ∙ more.1))
