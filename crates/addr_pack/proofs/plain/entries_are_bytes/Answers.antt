use Rattle.std.proofs.Common.{ℕ, List, sym, subst}
use Rattle.std.proofs.lemmas.List.{take_all}
use Rattle.hex.specs.Hex.{IsBytes}
use Rattle.addr_walks.specs.Places.{EachAt}
use Rattle.addr_project.specs.declared.model.Entry.{Entry}
use Rattle.addr_pack.proofs.PlainLemmas.{more-at}
use Rattle.addr_pack.proofs.plain.entries_are_bytes.Goals as goal

pub loop-i-preserved : goal.loop-i-preserved
loop-i-preserved c = more-at (λ (i : ℕ) (entry : Entry). EachAt (λ k label. IsBytes label) entry.labels) c.args.entries.now c.loop-i.i c.index-entries-i.result c.loop-i-test.true (sym c.index-entries-i.is) (λ k. subst (EachAt (λ (k : ℕ) (label : List ℕ). IsBytes label)) c.as_slice.ensures c.labels_are_bytes.ensures) c.loop-i.invariant

pub returns : goal.returns
returns c = subst (EachAt (λ (i : ℕ) (entry : Entry). EachAt (λ k label. IsBytes label) entry.labels)) (take_all c.loop-i.i c.args.entries.now c.loop-i-test.false) c.loop-i.invariant
