use Rattle.std.proofs.Common.{◌∙◌, ap, sym, List, ℕ, [], ◌∷◌, ◌++◌, if◌then◌else◌}
use Rattle.addr_queue.specs.Changes.{change}
use Rattle.addr_core.specs.within.Courses.{Waiting, waiting_lists}
use Rattle.addr_core.proofs.WaitPlaces.{lists_added, others_kept}
use Rattle.addr_core.proofs.waiters.wait.Goals as goal

pub returns-then-place-waits-clause-lists : goal.returns-then-place-waits-clause-lists
returns-then-place-waits-clause-lists c =
    lists_added c.args.waits.now c.args.b.0 c.index-waits-place.result c.add.new.self c.if-place-waits.true c.index-waits-place.is c.args.op (c.add.ensures ∙ ap (λ (w : Waiting). w.ops ++ c.args.op ∷ []) (sym c.index-waits-place.is))
    ∙ ap (λ t. if t then change (λ (ops : List ℕ). ops ++ c.args.op ∷ []) c.args.b.0 (waiting_lists c.args.waits.now) else waiting_lists c.args.waits.now) (sym c.if-missing.true)

pub returns-then-place-waits-clause-others : goal.returns-then-place-waits-clause-others
returns-then-place-waits-clause-others c = others_kept c.args.waits.now c.args.b.0 c.index-waits-place.result c.add.new.self c.if-place-waits.true c.index-waits-place.is
