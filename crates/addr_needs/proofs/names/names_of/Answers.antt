use Rattle.std.proofs.Common.{◌≡◌, List, Some, length, refl, subst, ap, ◌∙◌}
use Rattle.std.proofs.lemmas.Option.{slice_get_read}
use Rattle.std.specs.List.{slice_get}
use Rattle.addr_base.specs.Ids.{digest_of}
use Rattle.addr_pack.specs.declared.bundles.PlanBundle.{PlanBundle}
use Rattle.addr_needs.specs.within.Names.{numbers_under}
use Rattle.addr_needs.proofs.NameLemmas.{names-all, names-more}
use Rattle.addr_needs.proofs.names.names_of.Goals as goal

pub loop-b-preserved : goal.loop-b-preserved
loop-b-preserved c =
    let items = c.as_slice-bundle-items.result.now in
    let b = c.loop-b.b in
    let bundle : PlanBundle = c.bundle-item.result in
    let at = subst (λ (bs : List PlanBundle). slice_get bs b ≡ Some bundle) c.as_slice-bundle-items.ensures (slice_get_read items (length items) b bundle refl c.loop-b-test.true c.bundle-item.is) in
    names-more c.args.plan.now b bundle c.internal_name-name.result (numbers_under c.loop-b.names) (numbers_under c.add_number.new.names) at (c.internal_name-name.ensures ∙ ap digest_of c.as_str.ensures) c.in_ok-add_number.ensures c.loop-b.invariant

pub returns : goal.returns
returns c = names-all c.args.plan.now c.loop-b.b (numbers_under c.loop-b.names) (rw c.as_slice-bundle-items.ensures at c.loop-b-test.false) c.loop-b.invariant
