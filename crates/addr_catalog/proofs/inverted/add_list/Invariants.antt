use Rattle.std.proofs.Common.{◌≡◌, ℕ, List, map, take, length}
use Rattle.std.specs.List.{range_with_len}
use Rattle.addr_catalog.specs.Inverted.{AreNumbersBelow, with_list}
use Rattle.addr_catalog.proofs.inverted.add_list.Given as goal

abbrev pub invariant-loop-n : goal.invariant-loop-n
invariant-loop-n l = record {
  same : length l.lists.items ≡ length l.initial.lists.items;
  added : (numbers : ℕ → List ℕ) → l.initial.lists.items ≡ map numbers (range_with_len 0 (length l.initial.lists.items)) → ((n : ℕ) → AreNumbersBelow l.number (numbers n)) → l.lists.items ≡ map (with_list l.number (take l.n-index l.list) numbers) (range_with_len 0 (length l.initial.lists.items));
}
