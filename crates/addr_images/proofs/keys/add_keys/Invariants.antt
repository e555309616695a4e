use Rattle.std.proofs.Common.{◌≡◌, drop}
use Rattle.addr_locate.specs.Names.{with_texts}
use Rattle.addr_images.proofs.keys.add_keys.Given as goal

abbrev pub invariant-loop-text : goal.invariant-loop-text
invariant-loop-text l = with_texts l.keys (drop l.text-index l.texts) ≡ with_texts l.initial.keys l.texts
