use Rattle.std.proofs.Common.{◌≡◌, take}
use Rattle.std.specs.List.{filter_map}
use Rattle.addr_locate.specs.Merge.{distinct}
use Rattle.addr_catalog.specs.Entries.{number_at}
use Rattle.addr_catalog.specs.TableRows.{HasNumbers}
use Rattle.addr_catalog.proofs.numbering.bundles_among.Given as goal

abbrev pub invariant-loop-entry : goal.invariant-loop-entry
invariant-loop-entry l = record {
  once : l.found ≡ distinct (filter_map (number_at l.numbers) (take l.entry-index l.entries));
  has : HasNumbers l.seen l.found;
}
