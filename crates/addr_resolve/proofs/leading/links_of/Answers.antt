use Rattle.std.proofs.Common.{◌≡◌, ◌<◌, ◌+◌, length, get_or, take, List, ℕ, Option, subst, sym, ◌∙◌}
use Rattle.std.proofs.lemmas.List.{get_or_default}
use Rattle.addr_base.specs.declared.ids.Guid.{Guid}
use Rattle.addr_base.specs.declared.images.RefTo.{RefTo}
use Rattle.addr_resolve.specs.within.Leading.{AreLinks, first_of}
use Rattle.addr_resolve.proofs.LinkLemmas.{links-found, links-unresolved, no-ref}
use Rattle.addr_resolve.proofs.leading.links_of.Goals.{in-Some+in_ok-push-in-Some, in-None}
use Rattle.addr_resolve.proofs.leading.links_of.Goals as goal

pub loop-r-preserved : goal.loop-r-preserved
loop-r-preserved c =
    let find = first_of c.args.firsts.now in
    let places = c.args.places.now in
    let b = c.args.bundle in
    let refs = c.args.refs.now in
    let k = c.loop-r.r-index in
    let r : RefTo = get_or refs k no-ref in
    let within : k < length refs = c.loop-r-test.true in
    let read : r ≡ get_or refs k r = get_or_default refs k no-ref r within in
    elim c.match-target_of.branch [
      | in-Some+in_ok-push-in-Some w ↦ subst (λ (ns : List ℕ). AreLinks find places b (take (k + 1) refs) ns c.match-target_of.lost) (sym w.row-is) (subst (λ (l : Option Guid). AreLinks find places b (take (k + 1) refs) w.push.new.self l) (sym w.lost-is)
          (links-found find places b refs k r within read c.loop-r.row w.push.new.self c.loop-r.lost w.in-Some.n w.in-Some.ensures w.in_ok-push-in-Some.ensures.ok c.loop-r.invariant))
      | in-None w ↦ subst (λ (ns : List ℕ). AreLinks find places b (take (k + 1) refs) ns c.match-target_of.lost) (sym w.row-is) (subst (λ (l : Option Guid). AreLinks find places b (take (k + 1) refs) c.loop-r.row l) (sym (w.lost-is ∙ w.lesser-lost.ensures))
          (links-unresolved find places b refs k r within read c.loop-r.row c.loop-r.lost w.in-None.ensures c.loop-r.invariant))
    ]
