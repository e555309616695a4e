use Rattle.std.proofs.Common.{List, ℕ, ◌++◌, ap, ◌∙◌}
use Rattle.std.specs.Prelude.{not}
use Rattle.addr_keys.specs.Format.{key_text}
use Rattle.addr_tables.proofs.SeenLemmas.{was_there, form_more}
use Rattle.addr_tables.proofs.seen.is_new.Goals as goal

pub returns-clause-told : goal.returns-clause-told
returns-clause-told c = λ keys has.
    let is = c.in_ok-write_key.ensures.written ∙ ap (λ (x : List ℕ). x ++ key_text c.args.key.now) c.new-form.ensures.items in
    c.in_ok-insert.ensures.added ∙ ap not (was_there c.args.seen.now keys c.args.key.now c.write_key.new.into has is)

pub returns-clause-more : goal.returns-clause-more
returns-clause-more c = λ keys has.
    let is = c.in_ok-write_key.ensures.written ∙ ap (λ (x : List ℕ). x ++ key_text c.args.key.now) c.new-form.ensures.items in
    form_more c.args.seen.now c.insert.new.self keys c.args.key.now c.write_key.new.into has is c.in_ok-insert.ensures.updates
