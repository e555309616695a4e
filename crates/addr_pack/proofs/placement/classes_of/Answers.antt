use Rattle.std.proofs.Common.{◌≡◌, ℕ, ◌<◌, List, length, refl, ap, string_bytes, rules, arith}
use Rattle.std.proofs.lemmas.Option.{slice_get_read}
use Rattle.addr_project.specs.declared.model.Entry.{Entry}
use Rattle.addr_pack.proofs.ClassLemmas.{classes_more}
use Rattle.addr_pack.proofs.EntryLemmas.{few_entries, named_from, none_long, within}
use Rattle.addr_pack.proofs.placement.classes_of.Goals as goal

pub overflow_cast-result : goal.overflow_cast-result
overflow_cast-result c = omega (arith, few_entries c.args.project.now c.kept.ensures, ap length c.entries-entries.ensures)

pub overflow_cast-row : goal.overflow_cast-row
overflow_cast-row c = omega (arith, few_entries c.args.project.now c.kept.ensures, ap length c.entries-entries.ensures)

pub returns-then-length-most-clause-refused : goal.returns-then-length-most-clause-refused
returns-then-length-most-clause-refused c =
    let p = c.args.project.now in
    let entry : Entry = c.index-entries-row.result in
    let entries = c.entries-entries.result.now in
    let name : List ℕ = string_bytes c.in_ok-name.name in
    let at = slice_get_read entries (length entries) c.loop-row.row entry refl c.loop-row-test.true c.index-entries-row.is in
    let named = named_from p c.loop-row.row entry name (rw c.entries-entries.ensures at at) c.in_ok-name.ensures in
    let size : c.len-length.result ≡ length name = search (rules, c.len-length.ensures) in
    let above : 200 < c.len-length.result = omega (arith, c.len-length.ensures, c.most.ensures) in
    ((entry.group, name, named, size, above), c.loop-row.invariant.short)

pub loop-row-preserved : goal.loop-row-preserved
loop-row-preserved c =
    let p = c.args.project.now in
    let entry : Entry = c.index-entries-row.result in
    let entries = c.entries-entries.result.now in
    let name : List ℕ = string_bytes c.in_ok-name.name in
    let at = slice_get_read entries (length entries) c.loop-row.row entry refl c.loop-row-test.true c.index-entries-row.is in
    let named = named_from p c.loop-row.row entry name (rw c.entries-entries.ensures at at) c.in_ok-name.ensures in
    let size : c.len-length.result ≡ length name = search (rules, c.len-length.ensures) in
    record {
      classes = classes_more p c.kept.ensures c.loop-row.row entry.group name c.loop-row.classes c.add_entry.new.classes c.loop-row.invariant.classes named c.in_ok-add_entry.ensures;
      short = none_long p c.loop-row.row entry.group name c.loop-row.invariant.short named (omega arith);
    }

pub returns-clause-fit : goal.returns-clause-fit
returns-clause-fit c = λ x size long.
    let small = within c.args.project.now x long.0 long.1 long.2 in
    c.loop-row.invariant.short x size (omega (arith, ap length c.entries-entries.ensures)) long
