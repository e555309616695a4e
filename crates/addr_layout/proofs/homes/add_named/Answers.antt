use Rattle.std.proofs.Common.{ℕ, Vec, Global, sym, ap, ◌∙◌}
use Rattle.std.proofs.lemmas.List.{append-nil}
use Rattle.addr_layout.specs.declared.model.RefHome.TheVariants.{Own, Bundle}
use Rattle.addr_layout.proofs.HomeLemmas.{goes-on}
use Rattle.addr_layout.proofs.homes.add_named.Goals as goal
use Rattle.addr_layout.proofs.homes.add_named.Goals.{in-Bundle+in_ok-push-in-Bundle, in-Own}

pub loop-home-preserved : goal.loop-home-preserved
loop-home-preserved c =
    let homes = c.args.homes.now in
    let found = c.loop-home.direct.items in
    let i = c.loop-home.home-index in
    elim c.match-home.branch [
      | in-Bundle+in_ok-push-in-Bundle w ↦ goes-on c.args.direct.now.items found c.match-home.direct.items homes i _ (Bundle w.in-Bundle.c) c.loop-home-test.true w.in-Bundle.is c.loop-home.invariant
          (ap (λ (v : Vec ℕ Global). v.items) w.direct-is ∙ w.in_ok-push-in-Bundle.ensures.items)
      | in-Own w ↦ goes-on c.args.direct.now.items found c.match-home.direct.items homes i _ Own c.loop-home-test.true w.in-Own.is c.loop-home.invariant
          (ap (λ (v : Vec ℕ Global). v.items) w.direct-is ∙ sym (append-nil found))
    ]
