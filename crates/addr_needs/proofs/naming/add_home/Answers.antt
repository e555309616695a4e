use Rattle.std.proofs.Common.{◌≡◌, ◌≢◌, ℕ, List, [], Option, sym, ap, subst, ◌∙◌}
use Rattle.std.specs.Option.{unwrap_or}
use Rattle.addr_base.specs.declared.images.Home.{Home}
use Rattle.addr_needs.specs.within.Names.{numbers_under}
use Rattle.addr_needs.specs.within.Naming.{AddsSet, NamesOther}
use Rattle.addr_needs.proofs.NamingLemmas.{adds-none, home-names}
use Rattle.addr_needs.proofs.naming.add_home.Goals as goal

pub returns-in-None : goal.returns-in-None
returns-in-None c = λ plan names.
    let row = c.args.row.now.items in
    let find = numbers_under c.args.names.now in
    let none = ap (λ (o : Option (List ℕ)). unwrap_or o []) (sym c.in-None.ensures.value) in
    subst (λ (h : Home). AddsSet row (NamesOther plan c.args.b h) row) (sym c.in-Other.is)
    (home-names plan c.args.b c.in-Other.name find [] row row c.sixteen.ensures names none (adds-none (λ x d. (c.args.b ≢ d) × (x ≡ d)) row))

pub returns-in_ok-add_others-in-Some : goal.returns-in_ok-add_others-in-Some
returns-in_ok-add_others-in-Some c = λ plan names.
    let row = c.args.row.now.items in
    let new = c.add_others.new.row.items in
    let find = numbers_under c.args.names.now in
    let some = ap (λ (o : Option (List ℕ)). unwrap_or o []) (sym c.in-Some.ensures.value) ∙ sym c.as_slice.ensures in
    subst (λ (h : Home). AddsSet row (NamesOther plan c.args.b h) new) (sym c.in-Other.is)
    (home-names plan c.args.b c.in-Other.name find c.as_slice.result.now row new c.sixteen.ensures names some c.in_ok-add_others-in-Some.ensures)
