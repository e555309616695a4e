use Rattle.std.proofs.Common.{◌≡◌, false, true, List, ℕ, Some, length, sym, ap, ◌∙◌}
use Rattle.std.proofs.lemmas.Bool.{false≢true}
use Rattle.addr_state.specs.declared.model.StateBundle.{StateBundle}
use Rattle.addr_moves.specs.Firsts.{number_under}
use Rattle.addr_moves.proofs.GroupLemmas.{read-in}
use Rattle.addr_moves.proofs.HolderLemmas.{holder-at, is-holder, no-holder, other-group}
use Rattle.addr_moves.proofs.olds.old_of.Goals as goal

pub returns-in-None : goal.returns-in-None
returns-in-None c = no-holder c.args.state.now (number_under c.args.holders.now) c.args.guid c.args.group.now.name c.requires.holders c.in-None.ensures

pub returns-then-is_same : goal.returns-then-is_same
returns-then-is_same c =
    let s = c.args.state.now in
    let name = c.args.group.now.name in
    let m = c.in-Some.m in
    let old : StateBundle = c.index-as_slice-m.result in
    let holder = holder-at s (number_under c.args.holders.now) c.args.guid (Some m) c.requires.holders c.in-Some.ensures in
    let at = read-in c.as_slice.result.now s.bundles m old c.as_slice.ensures holder.0 c.index-as_slice-m.is in
    let same : old.group ≡ name = sym c.as_bytes.ensures ∙ (c.is_same.ensures.0 c.if-is_same.true ∙ c.as_bytes-in-Some.ensures) in
    is-holder s c.requires.once c.args.guid name m old holder at same

pub returns-else-is_same : goal.returns-else-is_same
returns-else-is_same c =
    let s = c.args.state.now in
    let name = c.args.group.now.name in
    let m = c.in-Some.m in
    let old : StateBundle = c.index-as_slice-m.result in
    let holder = holder-at s (number_under c.args.holders.now) c.args.guid (Some m) c.requires.holders c.in-Some.ensures in
    let at = read-in c.as_slice.result.now s.bundles m old c.as_slice.ensures holder.0 c.index-as_slice-m.is in
    other-group s c.requires.once c.args.guid name m old holder at (λ same. false≢true (sym c.if-is_same.false ∙ c.is_same.ensures.1 (c.as_bytes.ensures ∙ (same ∙ sym c.as_bytes-in-Some.ensures))))
