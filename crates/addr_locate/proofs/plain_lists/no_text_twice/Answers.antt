use Rattle.std.proofs.Common.{◌≡◌, ◌∙◌, ◌++◌, ◌∷◌, ◌+◌, [], ap, sym, subst, take, is_some}
use Rattle.std.proofs.lemmas.List.{take_more}
use Rattle.addr_locate.specs.Lookups.{HoldsTexts}
use Rattle.addr_locate.proofs.LookupLemmas.{HoldsTexts-put}
use Rattle.addr_locate.proofs.RepeatLemmas.{text_found, text_more}
use Rattle.addr_locate.proofs.plain_lists.no_text_twice.Goals as goal

pub returns-then-is_some : goal.returns-then-is_some
returns-then-is_some c =
    let keys = c.args.keys.now in
    let i = c.loop-key.key-index in
    let key = c.as_str.result.now in
    let more : take (i + 1) keys ≡ take i keys ++ key ∷ [] = take_more keys i c.key-item.result c.loop-key-test.true ∙ ap (λ t. take i keys ++ t ∷ []) (sym c.key-item.is ∙ sym c.as_str.ensures) in
    let there = sym (c.loop-key.invariant.holds key) ∙ (ap is_some (sym c.in_ok-insert.ensures.old) ∙ sym c.if-is_some.ensures) in
    text_found keys (take i keys) i key more there

pub loop-key-preserved : goal.loop-key-preserved
loop-key-preserved c =
    let keys = c.args.keys.now in
    let i = c.loop-key.key-index in
    let key = c.as_str.result.now in
    let more : take (i + 1) keys ≡ take i keys ++ key ∷ [] = take_more keys i c.key-item.result c.loop-key-test.true ∙ ap (λ t. take i keys ++ t ∷ []) (sym c.key-item.is ∙ sym c.as_str.ensures) in
    let new = sym (c.loop-key.invariant.holds key) ∙ (ap is_some (sym c.in_ok-insert.ensures.old) ∙ sym c.if-is_some.ensures) in
    let held = HoldsTexts-put (take i keys) key tt c.loop-key.seen c.insert.new.self c.loop-key.invariant.holds c.in_ok-insert.ensures.updates in
    record {
      holds = subst (λ texts. HoldsTexts texts c.insert.new.self) (sym more) held;
      once = text_more (take (i + 1) keys) (take i keys) key more c.loop-key.invariant.once new;
    }
