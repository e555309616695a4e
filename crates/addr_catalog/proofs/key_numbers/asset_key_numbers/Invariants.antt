use Rattle.std.proofs.Common.{◌≡◌, map, take}
use Rattle.addr_locate.specs.Rows.{place_of, text_at}
use Rattle.addr_catalog.proofs.key_numbers.asset_key_numbers.Given as goal

abbrev pub invariant-loop-key : goal.invariant-loop-key
invariant-loop-key l = l.numbers ≡ map (λ k. place_of (map (λ t. t.now) l.texts.once.items) (text_at l.locator.keys k.0)) (take l.key-index l.asset.keys)
