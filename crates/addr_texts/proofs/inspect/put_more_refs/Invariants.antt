use Rattle.std.proofs.Common.{◌≡◌, ◌++◌, ◌∷◌, take, string_bytes}
use Rattle.std.specs.List.{flat_map}
use Rattle.addr_texts.specs.InspectText.{ref_text}
use Rattle.addr_texts.proofs.inspect.put_more_refs.Given as goal

abbrev pub invariant-loop-more : goal.invariant-loop-more
invariant-loop-more l = string_bytes l.text ≡ string_bytes l.fn.text ++ flat_map (λ more. 44 ∷ ref_text more) (take l.more-index l.refs)
