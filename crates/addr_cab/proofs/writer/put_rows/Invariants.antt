use Rattle.std.proofs.Common.{◌≡◌, ◌++◌, take, sum_by}
use Rattle.std.specs.List.{flat_map, AllByRecursion}
use Rattle.addr_cab.specs.Spelling.{row_text}
use Rattle.addr_cab.specs.Written.{bytes_len, placed}
use Rattle.addr_cab.specs.Written.{IsTyped}
use Rattle.addr_cab.proofs.writer.put_rows.Given as goal

abbrev pub invariant-loop-object : goal.invariant-loop-object
invariant-loop-object l = record {
  rows : l.out.items ≡ l.initial.out.items ++ flat_map (row_text l.names.names.now) (placed 0 (take l.object-index l.objects));
  offset : l.offset ≡ sum_by bytes_len (take l.object-index l.objects);
  typed : AllByRecursion IsTyped (take l.object-index l.objects);
}
