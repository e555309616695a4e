use Rattle.std.proofs.Common.{rules, ◌≡◌, ℕ, List, [], ◌∷◌, ◌++◌, sym, ap, ◌∙◌, refl, Some, Ok, Err}
use Rattle.addr_history.specs.declared.event.Event.{Event}
use Rattle.addr_history.specs.declared.event.Event.TheVariants.{Release}
use Rattle.addr_history.specs.Answers.{release_reply, release_adds}
use Rattle.addr_history.specs.Events.{number_of}
use Rattle.addr_core.specs.Machine.{grown}
use Rattle.addr_turn.specs.Held.{view, IsPassOf}
use Rattle.addr_turn.specs.Steps.{with_role, recorded_as}
use Rattle.addr_loader.specs.Turn.{Turn}
use Rattle.addr_loader.proofs.Turns.{Began, told_kept, may_record, seen_more, told_added, end_kept, end_added, release_added, release_refused}
use Rattle.addr_loader.proofs.session.Session.release.Goals as goal

pub record-done-requires-clause-entry : goal.record-done-requires-clause-entry
record-done-requires-clause-entry g c =
    let m = c.enter-inside.result.state in
    let v = view c.args.pass.now in
    let e : Event = Release c.args.op c.number-caller.result in
    let adds : release_adds m.history c.number-caller.result c.args.op ≡ e ∷ [] = release_added m.history c.number-caller.result c.args.op c.in-Ok.field-0 (search rules) in
    let more : c.release-reply.new.self ≡ grown m (e ∷ []) = search rules in
    may_record v (view c.enter-inside.result.pass.now) m c.enter-inside.ensures.begun c.release-reply.new.self e more (λ k is. search rules)

pub leave-requires-clause-told : goal.leave-requires-clause-told
leave-requires-clause-told g c =
    let m = c.enter-inside.result.state in
    let v = view c.args.pass.now in
    let w = view c.enter-inside.result.pass.now in
    let e : Event = Release c.args.op c.number-caller.result in
    let adds : release_adds m.history c.number-caller.result c.args.op ≡ e ∷ [] = release_added m.history c.number-caller.result c.args.op c.in-Ok.field-0 (search rules) in
    let more : c.release-reply.new.self ≡ grown m (e ∷ []) = search rules in
    let x = seen_more v w m c.enter-inside.ensures.begun c.release-reply.new.self e more in
    told_added v w m c.enter-inside.ensures.begun c.release-reply.new.self c.record-done.result.state e (view c.record-done.result.pass.now) more (search rules) (c.record-done.ensures.recorded e x)

pub leave-requires-in-Err-clause-told : goal.leave-requires-in-Err-clause-told
leave-requires-in-Err-clause-told g c =
    let m = c.enter-inside.result.state in
    let v = view c.args.pass.now in
    let w = view c.enter-inside.result.pass.now in
    let adds : release_adds m.history c.number-caller.result c.args.op ≡ [] = release_refused m.history c.number-caller.result c.args.op c.in-Err.e (search rules) in
    let same : c.release-reply.new.self ≡ m = search rules in
    told_kept v w m c.enter-inside.ensures.begun c.release-reply.new.self same

pub returns-in-Ok-clause-turn : goal.returns-in-Ok-clause-turn
returns-in-Ok-clause-turn g c =
    let m = c.enter-inside.result.state in
    let v = view c.args.pass.now in
    let w = view c.enter-inside.result.pass.now in
    let e : Event = Release c.args.op c.number-caller.result in
    let adds : release_adds m.history c.number-caller.result c.args.op ≡ e ∷ [] = release_added m.history c.number-caller.result c.args.op c.in-Ok.field-0 (search rules) in
    let more : c.release-reply.new.self ≡ grown m (e ∷ []) = search rules in
    let x = seen_more v w m c.enter-inside.ensures.begun c.release-reply.new.self e more in
    let turn : Turn v (view c.pass-1.given.0) m.history (e ∷ []) = end_added v w m c.enter-inside.ensures.begun c.release-reply.new.self e (view c.record-done.result.pass.now) (view c.pass-1.given.0) more (λ k is. search rules) (search rules) (c.record-done.ensures.recorded e x) (search rules) in
    let ours : release_adds m.history v.number c.args.op ≡ e ∷ [] = search rules in
    (m.history, rw ours turn, search rules)

pub returns-in-Err-clause-turn : goal.returns-in-Err-clause-turn
returns-in-Err-clause-turn g c =
    let m = c.enter-inside.result.state in
    let v = view c.args.pass.now in
    let w = view c.enter-inside.result.pass.now in
    let adds : release_adds m.history c.number-caller.result c.args.op ≡ [] = release_refused m.history c.number-caller.result c.args.op c.in-Err.e (search rules) in
    let same : c.release-reply.new.self ≡ m = search rules in
    let turn : Turn v (view c.pass-in-Err-1.given.0) m.history [] = end_kept v w m c.enter-inside.ensures.begun c.release-reply.new.self (view c.pass-in-Err-1.given.0) same (search rules) (search rules) in
    let ours : release_adds m.history v.number c.args.op ≡ [] = search rules in
    (m.history, rw ours turn, search rules)
