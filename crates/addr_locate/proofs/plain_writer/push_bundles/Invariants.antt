use Rattle.std.proofs.Common.{◌≡◌, ◌++◌, map, take, string_bytes}
use Rattle.std.specs.List.{AllByRecursion}
use Rattle.addr_locate.specs.PlainRows.{IsBundleRow, bundle_line}
use Rattle.addr_locate.specs.PlainText.{ended}
use Rattle.addr_locate.proofs.plain_writer.push_bundles.Given as goal

abbrev pub invariant-loop-bundle : goal.invariant-loop-bundle
invariant-loop-bundle l = record {
  written : string_bytes l.text ≡ string_bytes l.fn.text ++ ended (map bundle_line (take l.bundle-index l.bundles));
  form : AllByRecursion IsBundleRow (take l.bundle-index l.bundles);
}
