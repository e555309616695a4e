use Rattle.std.proofs.Common.{◌≡◌, ◌++◌, ◌∷◌, map, take, string_bytes}
use Rattle.std.specs.List.{AllByRecursion, flat_map}
use Rattle.std.specs.Str.{IsUtf8}
use Rattle.addr_base.specs.Tokens.{token_of}
use Rattle.addr_locate.specs.Rows.{text_at}
use Rattle.addr_locate.proofs.plain_writer.push_more_keys.Given as goal

abbrev pub invariant-loop-key : goal.invariant-loop-key
invariant-loop-key l = record {
  written : string_bytes l.text ≡ string_bytes l.fn.text ++ flat_map (λ k. 44 ∷ token_of (text_at l.locator.keys k.0)) (take l.key-index l.keys);
  form : AllByRecursion IsUtf8 (map (λ k. text_at l.locator.keys k.0) (take l.key-index l.keys));
}
