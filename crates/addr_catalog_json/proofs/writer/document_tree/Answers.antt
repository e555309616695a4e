use Rattle.std.proofs.Common.{◌∙◌, ap, List, String, Global}
use Rattle.serde_json.specs.Data.{object}
use Rattle.serde_json.specs.View.{members_view}
use Rattle.serde_json.specs.declared.value.Value.{Value}
use Rattle.serde_json.proofs.Views.{view-Object}
use Rattle.addr_catalog_json.specs.within.Put.{with_fixed, with_strings, with_lists, with_digest}
use Rattle.addr_catalog_json.proofs.WrittenLemmas.{members_written}
use Rattle.addr_catalog_json.proofs.writer.document_tree.Goals as goal

pub returns-clause-tree : goal.returns-clause-tree
returns-clause-tree c =
    let d = c.args.document.now in
    let fixed = c.in_ok-put_fixed.ensures ∙ ap (λ (es : List (String Global × Value)). with_fixed (members_view es)) c.new-members.ensures.empty in
    let strings = c.in_ok-put_strings.ensures ∙ ap (with_strings d.strings) fixed in
    let lists = c.in_ok-put_lists.ensures ∙ ap (with_lists d.lists) strings in
    let all = c.in_ok-put_state.ensures.put ∙ ap (with_digest d.state) lists in
    view-Object c.put_state.new.members ∙ ap object all ∙ members_written d
