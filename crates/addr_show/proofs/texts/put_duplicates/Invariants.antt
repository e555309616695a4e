use Rattle.std.proofs.Common.{◌≡◌, ◌++◌, take, string_bytes}
use Rattle.std.specs.List.{flat_map}
use Rattle.addr_show.specs.AnalyzeText.{duplicate_line}
use Rattle.addr_show.proofs.texts.put_duplicates.Given as goal

abbrev pub invariant-loop-duplicate : goal.invariant-loop-duplicate
invariant-loop-duplicate l = string_bytes l.text ≡ string_bytes l.fn.text ++ flat_map duplicate_line (take l.duplicate-index l.found)
