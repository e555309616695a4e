use Rattle.std.proofs.Common.{◌≡◌, ◌++◌, map, take}
use Rattle.addr_catalog.proofs.key_numbers.key_texts.Given as goal

abbrev pub invariant-loop-bundle : goal.invariant-loop-bundle
invariant-loop-bundle l = map (λ t. t.now) l.texts.items ≡ map (λ b. b.key) (take l.bundle-index l.locator.bundles)

abbrev pub invariant-loop-key : goal.invariant-loop-key
invariant-loop-key l = map (λ t. t.now) l.texts.items ≡ map (λ b. b.key) l.locator.bundles ++ take l.key-index l.locator.keys
