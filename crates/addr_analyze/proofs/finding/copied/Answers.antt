use Rattle.std.proofs.Common.{true, false, [], ◌∷◌, ◌++◌, ap, sym, ◌∙◌}
use Rattle.std.specs.Global.{Vec}
use Rattle.addr_analyze.specs.declared.duplicate.Duplicate.{Duplicate}
use Rattle.addr_analyze.specs.Counting.{duplicate_at, is_copied}
use Rattle.addr_analyze.proofs.ListLemmas.{kept-more}
use Rattle.addr_analyze.proofs.finding.copied.Goals.{then-is_copied+in_ok-push, else-is_copied}
use Rattle.addr_analyze.proofs.finding.copied.Goals as goal

pub loop-n-preserved : goal.loop-n-preserved
loop-n-preserved c =
    let p = c.args.project.now in
    let counts = c.args.counts.now in
    let more = kept-more (duplicate_at p counts) (is_copied counts c.args.entries.now) c.loop-n.n c.loop-n.found.items c.if-is_copied.found.items in
    elim c.if-is_copied.branch [
      | then-is_copied+in_ok-push w ↦ more true (sym c.is_copied.ensures ∙ w.if-is_copied.true) (ap (λ (v : Vec Duplicate). v.items) w.found-is ∙ (w.in_ok-push.ensures.items ∙ ap (λ (d : Duplicate). c.loop-n.found.items ++ d ∷ []) w.duplicate_at.ensures)) c.loop-n.invariant
      | else-is_copied w ↦ more false (sym c.is_copied.ensures ∙ w.if-is_copied.false) (ap (λ (v : Vec Duplicate). v.items) w.found-is) c.loop-n.invariant
    ]
