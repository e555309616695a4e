use Rattle.std.proofs.Common.{◌≤◌, ◌∙◌, Some, sym, ap, subst}
use Rattle.serde_json.specs.Data.{Data, depth}
use Rattle.serde_json.specs.Read.{max_depth}
use Rattle.serde_json.specs.Written.{has_float, compact_text}
use Rattle.addr_catalog_json.specs.Written.{document_text}
use Rattle.addr_catalog_json.proofs.BackLemmas.{document_back, document_plain, document_shallow}
use Rattle.addr_catalog_json.proofs.writer.write_document.Goals as goal

pub returns-clause-text : goal.returns-clause-text
unfolding document_text
returns-clause-text c =
    let tree = c.in_ok-tree.ensures.tree in
    c.in_ok-to_vec.ensures.text (ap has_float tree ∙ document_plain c.args.document.now) ∙ ap compact_text tree

pub returns-clause-again : goal.returns-clause-again
returns-clause-again c =
    let tree = c.in_ok-tree.ensures.tree in
    let shallow = subst (λ (d : Data). depth d ≤ max_depth) (sym tree) (document_shallow c.args.document.now) in
    document_back _ c.args.document.now c.in_ok-tree.ensures.sixteen c.in_ok-to_vec.ensures.utf8 (c.in_ok-to_vec.ensures.reads_back shallow ∙ ap (λ (d : Data). Some d) tree)
