use Rattle.std.proofs.Common.{◌≡◌, ◌++◌, length, take}
use Rattle.std.specs.Prelude.{IsUtf8}
use Rattle.std.specs.List.{flat_map}
use Rattle.std.specs.Int.{w16, to_le_bytes}
use Rattle.std.specs.Str.Iter.{encode_utf16_rest}
use Rattle.addr_keys.specs.Format.{utf16_bytes}
use Rattle.addr_keys.proofs.UnitLemmas.{units_left}
use Rattle.addr_keys.proofs.writer.put_units.Given as goal

abbrev pub invariant-loop-unit : goal.invariant-loop-unit
invariant-loop-unit l =
    (l.into.items ++ flat_map (to_le_bytes w16) (units_left l.unit-iterator) ≡ l.initial.into.items ++ utf16_bytes l.text) × IsUtf8 (encode_utf16_rest l.unit-iterator) × (take (length l.initial.into.items) l.into.items ≡ l.initial.into.items)
