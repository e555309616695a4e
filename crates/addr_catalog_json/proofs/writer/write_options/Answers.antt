use Rattle.std.proofs.Common.{◌≤◌, ◌∙◌, Some, sym, ap, subst}
use Rattle.serde_json.specs.Data.{Data, depth}
use Rattle.serde_json.specs.Read.{max_depth}
use Rattle.addr_catalog_json.specs.Options.{options_read}
use Rattle.addr_catalog_json.proofs.BackLemmas.{options_back, options_shallow}
use Rattle.addr_catalog_json.proofs.writer.write_options.Goals as goal

pub returns-clause-again : goal.returns-clause-again
returns-clause-again c =
    let tree = c.in_ok-tree.ensures.tree in
    let shallow = subst (λ (d : Data). depth d ≤ max_depth) (sym tree) (options_shallow c.args.options.now) in
    let back = options_back _ c.args.options.now c.in_ok-tree.ensures.sixteen (c.in_ok-text.ensures.reads_back shallow ∙ ap (λ (d : Data). Some d) tree) in
    ap options_read c.from_string.ensures ∙ back
