use Rattle.std.proofs.Common.{◌≡◌, [], take}
use Rattle.std.specs.List.{filter_map}
use Rattle.addr_catalog.specs.Entries.{key_text_at}
use Rattle.addr_catalog.proofs.keys.first_text.Given as goal

abbrev pub invariant-loop-number : goal.invariant-loop-number
invariant-loop-number l = filter_map (key_text_at l.keys) (take l.number-index l.numbers) ≡ []
