use Rattle.std.proofs.Common.{◌∙◌, ap, List, String, Global}
use Rattle.serde_json.proofs.Views.{view-Object}
use Rattle.serde_json.specs.Data.{object}
use Rattle.serde_json.specs.View.{members_view}
use Rattle.serde_json.specs.declared.value.Value.{Value}
use Rattle.addr_state.specs.within.Put.{with_parts}
use Rattle.addr_state.proofs.WrittenLemmas.{parts_written}
use Rattle.addr_state.proofs.writer.state_tree.Goals as goal

pub returns-clause-tree : goal.returns-clause-tree
returns-clause-tree c =
    let s = c.args.state.now in
    let all = c.in_ok-put_parts.ensures.put ∙ ap (λ (es : List (String Global × Value)). with_parts s (members_view es)) c.new-members.ensures.empty in
    view-Object c.put_parts.new.members ∙ ap object all ∙ parts_written s
