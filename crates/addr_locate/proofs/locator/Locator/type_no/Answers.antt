use Rattle.std.proofs.Common.{◌≡◌, ◌∙◌, ap, sym, subst, map, is_some}
use Rattle.addr_locate.specs.Rows.{Rows, rows_of, written}
use Rattle.addr_locate.proofs.TextLemmas.{kind_known}
use Rattle.addr_locate.proofs.locator.Locator.type_no.Goals as goal

pub returns-in-None-clause-known : goal.returns-in-None-clause-known
returns-in-None-clause-known c =
    let numbers = subst (λ (r : Rows). rows_of r.bundles (map (written r) r.assets) ≡ r) c.self.view_is c.self.invariant.are.numbers in
    ap is_some (sym c.in-None.is) ∙ kind_known c.args.self.now c.args.text.now c.self.inside.kinds c.place.result numbers (ap (λ (r : Rows). r.kinds) c.self.view_is) c.place.ensures

pub returns-in-Some-clause-known : goal.returns-in-Some-clause-known
returns-in-Some-clause-known c =
    let numbers = subst (λ (r : Rows). rows_of r.bundles (map (written r) r.assets) ≡ r) c.self.view_is c.self.invariant.are.numbers in
    ap is_some (sym c.in-Some.is) ∙ kind_known c.args.self.now c.args.text.now c.self.inside.kinds c.place.result numbers (ap (λ (r : Rows). r.kinds) c.self.view_is) c.place.ensures
