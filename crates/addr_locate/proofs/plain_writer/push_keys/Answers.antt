use Rattle.std.proofs.Common.{◌∙◌}
use Rattle.addr_base.specs.declared.ids.KeyNo.{KeyNo}
use Rattle.addr_locate.specs.Rows.{text_at}
use Rattle.addr_locate.proofs.PlainTextLemmas.{put_keys, utf8_keys}
use Rattle.addr_locate.proofs.plain_writer.push_keys.Goals as goal

pub returns-clause-written : goal.returns-clause-written
returns-clause-written c =
    let order = c.deref.ensures.value ∙ c.in_ok-others.ensures in
    put_keys (λ (k : KeyNo). text_at c.args.locator.now.keys k.0) c.args.keys.now c.in-Some.others.now c.deref.result.now c.in-Some.first.now _ _ _ c.in-Some.ensures.cases.0 order c.in_ok-push_key.ensures.written c.in_ok-push_more_keys.ensures.written

pub returns-clause-form : goal.returns-clause-form
returns-clause-form c =
    let order = c.deref.ensures.value ∙ c.in_ok-others.ensures in
    utf8_keys (λ (k : KeyNo). text_at c.args.locator.now.keys k.0) c.args.keys.now c.in-Some.others.now c.deref.result.now c.in-Some.first.now c.in-Some.ensures.cases.0 order c.in_ok-push_key.ensures.form c.in_ok-push_more_keys.ensures.form
