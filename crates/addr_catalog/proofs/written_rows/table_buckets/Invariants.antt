use Rattle.std.proofs.Common.{◌≡◌, ◌++◌, map, take, length}
use Rattle.std.specs.List.{range_with_len}
use Rattle.addr_catalog.specs.Inverted.{lists_with}
use Rattle.addr_catalog.specs.Written.{table_texts, row_key_numbers}
use Rattle.addr_catalog.proofs.written_rows.table_buckets.Given as goal

abbrev pub invariant-loop-list : goal.invariant-loop-list
invariant-loop-list l = l.buckets.items ≡ map (lists_with (row_key_numbers l.numbers.locator.now)) (range_with_len 0 (length (table_texts l.numbers.locator.now))) ++ map (λ x. x.now) (take l.list-index l.numbers.lists.once.items)
