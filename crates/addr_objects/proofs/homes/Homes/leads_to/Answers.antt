use Rattle.std.proofs.Common.{◌∙◌, ℕ, subst, sym}
use Rattle.addr_base.specs.declared.ids.BundleNo.{BundleNo}
use Rattle.addr_base.specs.declared.images.Home.{Home}
use Rattle.addr_history.specs.Unfolding.{LeadsTo}
use Rattle.addr_objects.proofs.HomeLemmas.{home-absent, home-found}
use Rattle.addr_objects.proofs.homes.Homes.leads_to.Goals as goal

pub returns-in-Some : goal.returns-in-Some
returns-in-Some c =
    let bundles = c.self.inside.bundles.now in
    let needs = c.self.inside.needs.now in
    rw (← c.self.view_is) (subst (λ (h : Home). LeadsTo bundles needs c.args.from h c.in-Some.b.0) (sym c.in-Other.is)
    (home-found bundles needs c.self.inside.by_name c.in-Other.name c.in-Some.b c.self.invariant (sym c.under.ensures ∙ c.in-Some.is)))

pub returns-in-None : goal.returns-in-None
returns-in-None c =
    let bundles = c.self.inside.bundles.now in
    let needs = c.self.inside.needs.now in
    rw (← c.self.view_is) (subst (λ (h : Home). (d : ℕ) → LeadsTo bundles needs c.args.from h d → ⊥) (sym c.in-Other.is)
    (λ d leads. home-absent bundles needs c.self.inside.by_name c.in-Other.name c.self.invariant (sym c.under.ensures ∙ c.in-None.is) (let b : BundleNo = record { 0 = d } in b) leads))
