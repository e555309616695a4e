use Rattle.std.proofs.Common.{◌≡◌, map}
use Rattle.addr_base.specs.declared.ids.KeyNo.{KeyNo}
use Rattle.addr_locate.specs.Names.{with_texts}
use Rattle.addr_locate.specs.Rows.{place_of}
use Rattle.addr_locate.proofs.numbering.number_keys.Given as goal

abbrev pub invariant-loop-text : goal.invariant-loop-text
invariant-loop-text l = (l.names ≡ with_texts l.initial.names l.yielded) × (l.numbers.items ≡ map (λ t. let k : KeyNo = record { 0 = place_of l.names t } in k) l.yielded)
