use Rattle.std.proofs.Common.{◌≡◌, ◌++◌, ◌∷◌, take, string_bytes, decimal}
use Rattle.std.specs.List.{flat_map}
use Rattle.addr_locate.proofs.plain_writer.push_more_deps.Given as goal

abbrev pub invariant-loop-dep : goal.invariant-loop-dep
invariant-loop-dep l = string_bytes l.text ≡ string_bytes l.fn.text ++ flat_map (λ b. 44 ∷ decimal b.0) (take l.dep-index l.deps)
