use Rattle.std.proofs.Common.{List, ℕ, ◌++◌, sym, ap, ◌∙◌}
use Rattle.std.specs.List.{flat_map}
use Rattle.std.specs.Int.{w16, to_le_bytes}
use Rattle.std.proofs.lemmas.List.{append-nil}
use Rattle.std.proofs.Math.Seq.{take-length}
use Rattle.addr_keys.proofs.UnitLemmas.{is_next, none_left, starts, written}
use Rattle.addr_keys.proofs.Growth.{kept_then}
use Rattle.addr_keys.proofs.writer.put_units.Goals as goal

pub loop-unit-init : goal.loop-unit-init
loop-unit-init c =
    let at = starts c.encode_utf16-unit-items.result c.into_iter-unit-iterator.result c.args.text.now c.into_iter-unit-iterator.ensures.into_iter_gives c.encode_utf16-unit-items.ensures.pending c.encode_utf16-unit-items.ensures.text c.utf8.text in
    (ap (λ (x : List ℕ). c.args.into.now.items ++ x) at.bytes, at.utf8, take-length c.args.into.now.items)

pub loop-unit-preserved : goal.loop-unit-preserved
loop-unit-preserved c =
    let next = is_next c.loop-unit.unit-iterator c.next.new.self c.in-Some.unit c.loop-unit.invariant.1 c.in-Some.ensures.steps in
    (written _ _ _ _ _ _ next.left c.in_ok-put_u16.ensures.written c.loop-unit.invariant.0, next.utf8, kept_then _ _ _ c.loop-unit.invariant.2 c.in_ok-put_u16.ensures.kept)

pub returns-clause-written : goal.returns-clause-written
returns-clause-written c =
    let none = none_left c.loop-unit.unit-iterator c.next.new.self c.in-None.ensures.steps in
    sym (append-nil c.loop-unit.into.items) ∙ sym (ap (λ (x : List ℕ). c.loop-unit.into.items ++ flat_map (to_le_bytes w16) x) none) ∙ c.loop-unit.invariant.0
