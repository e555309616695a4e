use Rattle.std.proofs.Common.{◌≡◌, ◌∙◌, ap, arith, replicate, length, None, false, [], List, ℕ}
use Rattle.addr_core.proofs.Advance.{journal_open}
use Rattle.addr_queue.specs.Queue.{Ordered}
use Rattle.addr_core.proofs.Fresh.{holds_fresh, no_slot}
use Rattle.addr_core.proofs.Machines.{make_core}
use Rattle.addr_core.proofs.machine.Core.open.Goals as goal

pub invariant_of-result : goal.invariant_of-result
invariant_of-result g c =
    let long : length c.bundles-count.result.now ≡ length c.args.locator.bundles = ap length c.bundles-count.ensures.rows in
    make_core g.I.Image.fits c.args.locator c.args.limit c.in_ok-events.events c.in_ok-wanted.wanted c.in_ok-images.images c.in_ok-slots.slots c.in_ok-courses.courses c.in_ok-waits.waits c.in_ok-queue.queue 0 0 false
    (journal_open g.I.Image.fits c.args.locator c.args.limit c.in_ok-events.events c.in_ok-images.images c.assets-assets.ensures.deps c.requires.least c.requires.greatest c.bundles-count.ensures.few c.in_ok-events.ensures.items c.in_ok-events.ensures.len c.in_ok-events.ensures.exact
    (c.in_ok-images.ensures ∙ ap (λ n. replicate n None) long))
    [] c.in_ok-events.ensures.items [] c.in_ok-wanted.ensures.items
    (replicate (length c.args.locator.bundles) no_slot) (c.in_ok-slots.ensures ∙ ap (λ n. replicate n no_slot) long)
    [] c.in_ok-courses.ensures.items
    (replicate (length c.args.locator.bundles) []) (c.in_ok-waits.ensures ∙ ap (λ n. let l : List (List ℕ) = replicate n [] in l) long)
    (record { room = length c.args.locator.bundles; bundles = [] }) (c.in_ok-queue.ensures ∙ ap (λ n. let k : Ordered = record { room = n; bundles = [] } in k) long)
    (holds_fresh c.args.locator)
    (omega (arith, c.in_ok-wanted.ensures.exact), omega (arith, c.in_ok-courses.ensures.exact))
