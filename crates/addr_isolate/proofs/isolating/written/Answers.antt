use Rattle.std.proofs.Common.{◌∙◌, ap, sym, subst, arith, false, string_bytes}
use Rattle.std.proofs.lemmas.Str.{IsUtf8-string_bytes}
use Rattle.toml.specs.Text.{IsDocumentText}
use Rattle.toml.specs.View.{table_view}
use Rattle.addr_project.specs.Reading.{tree_of}
use Rattle.addr_isolate.proofs.DocumentLemmas.{tree_good}
use Rattle.addr_isolate.proofs.isolating.written.Goals as goal

pub returns-in-Ok-clause-ok : goal.returns-in-Ok-clause-ok
returns-in-Ok-clause-ok c =
    let new = table_view c.in_ok-new.new in
    record {
      tree = table_view c.in_ok-tree.tree;
      is = c.in_ok-tree.ensures.ok;
      new = new;
      entries = c.in_ok-new.ensures.entries;
      printed = subst (IsDocumentText false new) (sym c.from_string.ensures) c.in-Ok.ensures.text;
      reads = λ plain. (
          let shallow = c.in_ok-new.ensures.shallow plain in
          let deep = shallow.deep in
          ap tree_of c.from_string.ensures ∙ tree_good (string_bytes c.in-Ok.text) new (IsUtf8-string_bytes c.in-Ok.text) (c.in-Ok.ensures.reads_back (omega (arith, deep))));
    }
