use Rattle.std.proofs.Common.{◌≡◌, ◌++◌, ◌∷◌, take, string_bytes}
use Rattle.std.specs.List.{flat_map}
use Rattle.addr_base.specs.Ids.{hex_of}
use Rattle.addr_base.specs.declared.ids.Guid.{Guid}
use Rattle.addr_change.proofs.resolved_text.put_more_guids.Given as goal

abbrev pub invariant-loop-more : goal.invariant-loop-more
invariant-loop-more l = string_bytes l.text ≡ string_bytes l.fn.text ++ flat_map (λ (more : Guid). 44 ∷ hex_of more.0) (take l.more-index l.guids)
