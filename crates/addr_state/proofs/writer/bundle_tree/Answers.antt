use Rattle.std.proofs.Common.{◌∙◌, ap, List, String, Global}
use Rattle.serde_json.specs.Data.{object}
use Rattle.serde_json.specs.View.{members_view}
use Rattle.serde_json.specs.declared.value.Value.{Value}
use Rattle.serde_json.proofs.Views.{view-Object}
use Rattle.addr_state.specs.within.Put.{with_names, with_ids, with_size}
use Rattle.addr_state.proofs.WrittenLemmas.{members_written}
use Rattle.addr_state.proofs.writer.bundle_tree.Goals as goal

pub returns-clause-tree : goal.returns-clause-tree
returns-clause-tree c =
    let b = c.args.b.now in
    let names = c.in_ok-put_names.ensures ∙ ap (λ (es : List (String Global × Value)). with_names b (members_view es)) c.new-members.ensures.empty in
    let ids = c.in_ok-put_ids.ensures.put ∙ ap (with_ids b) names in
    let all = c.in_ok-put_size.ensures ∙ ap (with_size b) ids in
    view-Object c.put_size.new.members ∙ ap object all ∙ members_written b
