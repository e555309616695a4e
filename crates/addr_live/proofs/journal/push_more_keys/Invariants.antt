use Rattle.std.proofs.Common.{◌≡◌, ◌++◌, ◌∷◌, take, string_bytes}
use Rattle.std.specs.List.{flat_map}
use Rattle.addr_live.specs.LiveText.{key_text}
use Rattle.addr_live.proofs.journal.push_more_keys.Given as goal

abbrev pub invariant-loop-key : goal.invariant-loop-key
invariant-loop-key l = string_bytes l.text ≡ string_bytes l.fn.text ++ flat_map (λ k. 44 ∷ key_text l.locator k) (take l.key-index l.keys)
