use Rattle.std.proofs.Common.{◌≡◌, ◌++◌, ◌+◌, map, take, pos}
use Rattle.std.specs.List.{range_with_len}
use Rattle.addr_keys.specs.declared.key.Key.TheVariants.{Text, I32}
use Rattle.addr_catalog.proofs.written_rows.table_keys.Given as goal

abbrev pub invariant-loop-text : goal.invariant-loop-text
invariant-loop-text l = l.keys ≡ map (λ t. Text t.now) (take l.text-index l.numbers.texts.items)

abbrev pub invariant-loop-n : goal.invariant-loop-n
invariant-loop-n l = l.keys ≡ map (λ t. Text t.now) l.numbers.texts.items ++ map (λ n. I32 (pos (n + 1))) (range_with_len 0 l.n)
