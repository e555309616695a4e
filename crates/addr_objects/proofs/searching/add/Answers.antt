use Rattle.std.proofs.Common.{◌≡◌, sym, subst}
use Rattle.std.specs.BTreeSet.{contains}
use Rattle.addr_objects.specs.within.Search.{Grows, Tracks, place_cmp}
use Rattle.addr_objects.proofs.SearchLemmas.{grows-known, grows-new, tracks-known, tracks-new, was-there}
use Rattle.addr_objects.proofs.searching.add.Goals as goal

pub returns-in_ok-push-clause-tracks : goal.returns-in_ok-push-clause-tracks
returns-in_ok-push-clause-tracks c =
    subst (Tracks c.insert.new.self) (sym c.in_ok-push.ensures.items)
    (tracks-new c.args.seen.now c.insert.new.self c.args.found.now.items c.args.place c.requires c.in_ok-insert.ensures.updates)

pub returns-in_ok-push-clause-grows : goal.returns-in_ok-push-clause-grows
returns-in_ok-push-clause-grows c =
    subst (Grows (λ q. c.args.place ≡ q) c.args.found.now.items) (sym c.in_ok-push.ensures.items) (grows-new c.args.found.now.items c.args.place)

pub returns-else-branch-clause-tracks : goal.returns-else-branch-clause-tracks
returns-else-branch-clause-tracks c =
    tracks-known c.args.seen.now c.insert.new.self c.args.found.now.items c.args.place c.requires c.in_ok-insert.ensures.updates
    (c.requires c.args.place (was-there (contains place_cmp c.args.seen.now c.args.place) c.in_ok-insert.field-0 c.in_ok-insert.ensures.added c.if-branch.false))

pub returns-else-branch-clause-grows : goal.returns-else-branch-clause-grows
returns-else-branch-clause-grows c =
    grows-known c.args.found.now.items c.args.place
    (c.requires c.args.place (was-there (contains place_cmp c.args.seen.now c.args.place) c.in_ok-insert.field-0 c.in_ok-insert.ensures.added c.if-branch.false))
