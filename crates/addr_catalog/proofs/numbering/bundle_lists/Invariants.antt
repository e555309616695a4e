use Rattle.std.proofs.Common.{◌≡◌, map, take}
use Rattle.addr_catalog.specs.Entries.{bundles_among}
use Rattle.addr_catalog.proofs.numbering.bundle_lists.Given as goal

abbrev pub invariant-loop-bucket : goal.invariant-loop-bucket
invariant-loop-bucket l = l.lists ≡ map (bundles_among l.numbers) (take l.bucket-index l.buckets)
