use Rattle.std.proofs.Common.{◌≡◌, ◌+◌, ◌<◌, ◌^◌, length}
use Rattle.std.specs.Prelude.{IsUtf8}
use Rattle.std.specs.Str.Iter.{encode_utf16_rest}
use Rattle.addr_keys.specs.Format.{utf16_units}
use Rattle.addr_keys.proofs.UnitLemmas.{units_left}
use Rattle.addr_keys.proofs.SizeLemmas.{saturated}
use Rattle.addr_keys.proofs.sizes.unit_count.Given as goal

abbrev pub invariant-loop : goal.invariant-loop
invariant-loop l = record {
  left : saturated (l.count + length (units_left l.iterator')) ≡ saturated (length (utf16_units l.text));
  fits : l.count < 2 ^ 64;
  utf8 : IsUtf8 (encode_utf16_rest l.iterator');
}
