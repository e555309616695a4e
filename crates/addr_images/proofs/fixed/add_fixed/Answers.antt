use Rattle.std.proofs.Common.{map, ap, ◌∙◌}
use Rattle.addr_project_rows.specs.Fields.{with_text}
use Rattle.addr_project_rows.proofs.LabelLemmas.{keys-more}
use Rattle.addr_images.proofs.FixedLemmas.{fixed-puts}
use Rattle.addr_images.proofs.fixed.add_fixed.Goals as goal

pub returns : goal.returns
returns c =
    let names = map (λ name. name.now) c.args.found.now.keys in
    ap (map (λ name. name.now)) c.in_ok-insert.ensures.keys
    ∙ (keys-more c.args.found.now.keys c.as_str.result ∙ (ap (λ t. with_text t names) c.as_str.ensures ∙ fixed-puts names c.args.group.now c.if-not-group.false))
