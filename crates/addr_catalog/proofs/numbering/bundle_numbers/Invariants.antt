use Rattle.std.proofs.Common.{◌≡◌, ◌≤◌, ◌++◌, drop}
use Rattle.addr_catalog.specs.Entries.{numbers_from}
use Rattle.addr_catalog.proofs.numbering.bundle_numbers.Given as goal

abbrev pub invariant-loop-bundle : goal.invariant-loop-bundle
invariant-loop-bundle l = record {
  few : l.count ≤ l.bundle-index;
  numbered : l.numbers ++ numbers_from l.count (drop l.bundle-index l.bundles) ≡ numbers_from 0 l.bundles;
}
