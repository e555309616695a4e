use Rattle.std.proofs.Common.{◌≡◌, ◌<◌, true, false, length, get_or, set, subst, sym, ◌∙◌, arith}
use Rattle.std.proofs.lemmas.List.{get_or_read}
use Rattle.addr_walks.specs.Marks.{Tracks}
use Rattle.addr_walks.proofs.MarkLemmas.{tracks-marked}
use Rattle.addr_walks.proofs.marking.Marked.mark.Goals as goal

pub returns-in_ok-push-clause-tracks : goal.returns-in_ok-push-clause-tracks
returns-in_ok-push-clause-tracks c =
    let marks = c.args.self.now.marks in
    let within : c.args.c < length marks.items = omega (arith, marks.ok.0) in
    let fresh : get_or marks.items c.args.c false ≡ false = sym (get_or_read marks.items c.args.c c.index.result.now within c.index.ensures false) ∙ c.if-not-index.true in
    let more = tracks-marked marks.items c.args.self.now.queue.items c.args.c within fresh c.requires.tracks in
    subst (Tracks (set marks.items c.args.c true)) (sym c.in_ok-push.ensures.items) more
