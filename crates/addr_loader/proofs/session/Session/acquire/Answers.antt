use Rattle.std.proofs.Common.{rules, ◌≡◌, ℕ, List, [], ◌∷◌, ◌++◌, sym, ap, ◌∙◌, refl, Some, Ok, Err, true, false}
use Rattle.addr_history.specs.declared.event.Event.{Event}
use Rattle.addr_history.specs.declared.event.Event.TheVariants.{Acquire}
use Rattle.addr_history.specs.declared.answers.Next.TheVariants as next
use Rattle.addr_history.specs.Answers.{close_adds, done_adds, fail_adds, take_reply}
use Rattle.addr_turn.specs.Held.{view}
use Rattle.addr_loader.specs.Turn.{Turn, rows_of, Adds}
use Rattle.addr_loader.specs.Taking.{IsJob}
use Rattle.addr_loader.proofs.Turns.{Began, turn_added, turn_kept}
use Rattle.addr_loader.proofs.session.Session.acquire.Goals as goal

pub returns-in-Ok-clause-turn : goal.returns-in-Ok-clause-turn
returns-in-Ok-clause-turn g c =
    let m = c.enter-inside.result.state in
    let v = view c.args.pass.now in
    let w = view c.enter-inside.result.pass.now in
    let b = c.enter-inside.ensures.begun in
    let e : Event = Acquire c.args.op v.number in
    let turn : Turn v (view c.pass-1.given.0) m.history (e ∷ []) = turn_added v w m b c.acquire_in-reply.new.core e (view c.record-done.result.pass.now) (view c.pass-1.given.0) (search rules) (λ k is. search rules) (search rules) c.record-done.ensures.recorded (search rules) in
    (m.history, turn, search rules)
