use Rattle.std.proofs.Common.{◌≡◌, Some, subst}
use Rattle.std.specs.Prelude.{◌↔◌}
use Rattle.addr_needs.specs.Numbers.{IsNamedAt}
use Rattle.addr_needs.proofs.numbers.number_of.Goals as goal

pub returns-then-bundle : goal.returns-then-bundle
returns-then-bundle c = λ m.
    let found = subst (λ name. (c.search.result ≡ Some m) ↔ IsNamedAt c.args.bundles.now m name) c.as_bytes.ensures (c.search.ensures m) in
    ((λ is. (c.if-bundle.true, found.0 is)), (λ (kept, named). found.1 named))
