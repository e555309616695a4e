use Rattle.std.proofs.Common.{◌≡◌, ◌++◌, take}
use Rattle.std.specs.List.{AllByRecursion}
use Rattle.addr_catalog.specs.Written.{each_numbered, bundle_entry, HasOptions}
use Rattle.addr_catalog.proofs.written_rows.push_bundles.Given as goal

abbrev pub invariant-loop-i : goal.invariant-loop-i
invariant-loop-i l = record {
  put : l.entries ≡ l.fn.entries ++ each_numbered (bundle_entry l.numbers.locator.now) 0 (take l.i l.numbers.locator.now.bundles);
  again : AllByRecursion HasOptions (take l.i l.numbers.locator.now.bundles);
}
