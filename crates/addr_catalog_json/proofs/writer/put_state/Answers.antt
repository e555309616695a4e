use Rattle.std.proofs.Common.{◌∙◌, sym, ap, codes, Option}
use Rattle.serde_json.specs.Data.{Data, put}
use Rattle.serde_json.specs.View.{members_view}
use Rattle.addr_base.specs.declared.ids.Digest.{Digest}
use Rattle.addr_catalog_json.specs.within.Put.{with_digest}
use Rattle.addr_catalog_json.proofs.writer.put_state.Goals as goal

pub returns-clause-put : goal.returns-clause-put
returns-clause-put c =
    let before = members_view c.args.members.now.entries in
    c.in_ok-put.ensures.ok ∙ ap (λ (d : Data). put (codes "m_ContentState") d before) c.in_ok-digits.ensures.tree ∙ sym (ap (λ (state : Option Digest). with_digest state before) c.in-Some.is)
