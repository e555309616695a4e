use Rattle.std.proofs.Common.{◌∷◌, [], subst, sym}
use Rattle.std.specs.Ordering.{nat_cmp}
use Rattle.addr_walks.specs.Closure.{IsDeps}
use Rattle.addr_walks.specs.Rows.{Edge, LedTo}
use Rattle.addr_walks.specs.Walks.{IsListOf}
use Rattle.addr_walks.proofs.ClosureLemmas.{found-deps}
use Rattle.addr_walks.proofs.closure.deps_of.Goals as goal

pub returns-clause-deps : goal.returns-clause-deps
returns-clause-deps c =
    let rows = c.args.direct.now in
    let b = c.args.b in
    let list = subst (IsListOf nat_cmp (LedTo rows (b ∷ []))) (sym c.as_slice.ensures) c.in_ok-found.ensures.found in
    subst (IsDeps (Edge rows) b) (sym c.in_ok-deps.ensures) (found-deps rows b c.as_slice.result.now list)
