use Rattle.std.proofs.Common.{◌≡◌, ◌==◌, ◌++◌, [], ◌∷◌, not, filter, take, cond}
use Rattle.std.specs.List.{filter_map}
use Rattle.addr_catalog.specs.Entries.{key_text_at}
use Rattle.addr_catalog.specs.Inverted.{is_among}
use Rattle.addr_catalog.proofs.keys.asset_keys.Given as goal

abbrev pub invariant-loop-number : goal.invariant-loop-number
invariant-loop-number l = l.texts ≡ filter_map (key_text_at l.keys) (cond (is_among l.numbers l.primary) (l.primary ∷ []) [] ++ filter (λ m. not (m == l.primary)) (take l.number-index l.numbers))
