use Rattle.std.proofs.Common.{ℕ, subst}
use Rattle.hex.specs.Hex.{IsBytes}
use Rattle.addr_walks.specs.Places.{EachAt}
use Rattle.addr_project.specs.declared.model.Entry.{Entry}
use Rattle.addr_project.specs.declared.model.Group.{Group}
use Rattle.addr_pack.proofs.PlainLemmas.{plain_names}
use Rattle.addr_pack.proofs.plain.names_are_plain.Goals as goal

pub returns : goal.returns
returns c =
    plain_names c.args.project.now c.kept.ensures
    (subst (EachAt (λ (i : ℕ) (group : Group). IsBytes group.name)) c.groups.ensures c.groups_are_bytes.ensures)
    (subst (EachAt (λ (i : ℕ) (entry : Entry). EachAt (λ k label. IsBytes label) entry.labels)) c.entries.ensures c.entries_are_bytes.ensures)
