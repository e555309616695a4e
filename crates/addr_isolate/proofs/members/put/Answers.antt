use Rattle.std.proofs.Common.{ap, ◌∙◌}
use Rattle.toml.specs.View.{view, members_view}
use Rattle.addr_isolate.specs.Shallow.{with_member}
use Rattle.addr_isolate.proofs.SetLemmas.{members-insert, set-by}
use Rattle.addr_isolate.proofs.members.put.Goals as goal

pub returns-clause-member : goal.returns-clause-member
returns-clause-member c =
    ap members_view c.in_ok-insert.ensures.entries
    ∙ members-insert c.args.new.now.entries c.in_ok-name.name c.args.value
    ∙ ap (λ name. with_member name (view c.args.value) (members_view c.args.new.now.entries)) c.in_ok-name.ensures.ok

pub returns-clause-set : goal.returns-clause-set
returns-clause-set c = set-by c.args.name.now (view c.args.value) _ _ (returns-clause-member c)
