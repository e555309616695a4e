use Rattle.std.proofs.Common.{◌∙◌, [], ◌∷◌, ◌++◌, subst, sym}
use Rattle.std.proofs.lemmas.Bool.{false≢true}
use Rattle.addr_objects.specs.Objects.{objects_in}
use Rattle.addr_objects.specs.within.Search.{Picks}
use Rattle.addr_objects.proofs.PickLemmas.{picks-known, picks-new}
use Rattle.addr_objects.proofs.items.add_item.Goals as goal

pub returns-in_ok-push : goal.returns-in_ok-push
returns-in_ok-push g c = λ places rising ends picks.
    let objects = objects_in g.I.Image.object_of c.args.images.now in
    subst (Picks objects (places ++ c.args.place ∷ [])) (sym c.in_ok-push.ensures.ok)
    (picks-new objects places c.args.place rising c.args.items.now picks c.args.last c.in_ok-item.item ends (λ same. false≢true (sym c.if-not-is_last.true ∙ c.is_last.ensures.1 same)) c.in_ok-item.ensures)

pub returns-else-not-is_last : goal.returns-else-not-is_last
returns-else-not-is_last g c = λ places rising ends picks.
    picks-known (objects_in g.I.Image.object_of c.args.images.now) places c.args.place rising c.args.items.now picks c.args.last ends (c.is_last.ensures.0 c.if-not-is_last.false)
