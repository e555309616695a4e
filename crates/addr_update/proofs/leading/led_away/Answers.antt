use Rattle.std.proofs.Common.{◌<◌, ℕ, List, length, All, subst, sym}
use Rattle.addr_resolve.specs.Lost.{IsLeastOf}
use Rattle.addr_update.proofs.LeadingLemmas.{found-below}
use Rattle.addr_update.proofs.LeadingLemmas.{tells-led}
use Rattle.addr_update.proofs.leading.led_away.Goals as goal

pub least_lost-least-requires : goal.least_lost-least-requires
least_lost-least-requires c =
    let rows = c.args.rows.now in
    subst (λ (ns : List ℕ). All (λ n. n < length c.args.away.now) ns) (sym c.as_slice.ensures)
    (subst (λ m. All (λ n. n < m) c.in_ok-found.found) (sym c.requires.many) (found-below rows c.args.start c.in_ok-found.found c.requires.below c.requires.within c.in_ok-found.ensures.found))

pub returns-clause-led : goal.returns-clause-led
returns-clause-led c = λ u places lost q graph are at old. (
    let found : List ℕ = c.in_ok-found.found in
    let told : IsLeastOf c.args.away.now found c.least_lost-least.result = subst (λ (ns : List ℕ). IsLeastOf c.args.away.now ns c.least_lost-least.result) c.as_slice.ensures c.least_lost-least.ensures in
    tells-led u places c.args.rows.now lost c.args.away.now c.requires.many graph are c.args.start q at old found c.in_ok-found.ensures.found c.least_lost-least.result told)
