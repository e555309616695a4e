use Rattle.std.proofs.Common.{map, sym, ◌∙◌}
use Rattle.addr_expansion.specs.Extents.{answer_of}
use Rattle.addr_project.proofs.TextLemmas.{are_texts}
use Rattle.addr_project.proofs.checking.check_texts.Goals as goal

pub whole-local-requires : goal.whole-local-requires
whole-local-requires c =
    let replies = c.in_ok-replies.replies in
    let are = c.in_ok-replies.ensures in
    (are_texts _ _ _ replies.local replies.remote (map answer_of replies.values.items) are.local are.remote are.values (sym c.in_ok-fault.ensures.ok ∙ c.in_default.is)).0

pub whole-remote-requires : goal.whole-remote-requires
whole-remote-requires c =
    let replies = c.in_ok-replies.replies in
    let are = c.in_ok-replies.ensures in
    (are_texts _ _ _ replies.local replies.remote (map answer_of replies.values.items) are.local are.remote are.values (sym c.in_ok-fault.ensures.ok ∙ c.in_default.is)).1
