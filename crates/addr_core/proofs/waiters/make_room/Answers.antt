use Rattle.std.proofs.Common.{◌∙◌, ap, sym}
use Rattle.addr_core.specs.within.Courses.{Waiting}
use Rattle.addr_core.proofs.WaitPlaces.{lists_kept, lists_spare, others_kept, past_none}
use Rattle.addr_core.proofs.waiters.make_room.Goals as goal

pub returns-in_err-make_room-clause-lists : goal.returns-in_err-make_room-clause-lists
returns-in_err-make_room-clause-lists c = lists_kept c.args.waits.now c.args.b.0 c.index-waits-place.result c.make_room.new.self c.if-place-waits.false c.index-waits-place.is (c.make_room.ensures.ops ∙ ap (λ (w : Waiting). w.ops) (sym c.index-waits-place.is))

pub returns-in_err-make_room-clause-others : goal.returns-in_err-make_room-clause-others
returns-in_err-make_room-clause-others c = others_kept c.args.waits.now c.args.b.0 c.index-waits-place.result c.make_room.new.self c.if-place-waits.false c.index-waits-place.is

pub returns-clause-lists : goal.returns-clause-lists
returns-clause-lists c = lists_kept c.args.waits.now c.args.b.0 c.index-waits-place.result c.make_room.new.self c.if-place-waits.false c.index-waits-place.is (c.make_room.ensures.ops ∙ ap (λ (w : Waiting). w.ops) (sym c.index-waits-place.is))

pub returns-clause-room : goal.returns-clause-room
returns-clause-room c = λ missing. lists_spare c.args.waits.now c.args.b.0 c.index-waits-place.result c.make_room.new.self c.if-place-waits.false c.index-waits-place.is c.in_ok-make_room.ensures.room

pub returns-clause-others : goal.returns-clause-others
returns-clause-others c = others_kept c.args.waits.now c.args.b.0 c.index-waits-place.result c.make_room.new.self c.if-place-waits.false c.index-waits-place.is

pub returns-then-place-waits-clause-room : goal.returns-then-place-waits-clause-room
returns-then-place-waits-clause-room c = λ missing w. past_none c.args.waits.now c.args.b.0 w c.if-place-waits.true
