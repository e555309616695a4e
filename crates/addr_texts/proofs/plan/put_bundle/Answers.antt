use Rattle.std.proofs.Common.{◌≡◌, ◌<◌, ℕ, List, Some, length, get_or, refl, sym, subst, arith}
use Rattle.std.proofs.lemmas.Option.{slice_get_read}
use Rattle.std.specs.List.{All, slice_get}
use Rattle.addr_pack.specs.declared.bundles.PlanBundle.{PlanBundle}
use Rattle.addr_layout.specs.declared.model.LayBundle.{LayBundle}
use Rattle.addr_layout.specs.Layout.{IsLaid}
use Rattle.addr_texts.specs.Marks.{block_of}
use Rattle.addr_texts.specs.PlanText.{IsBlock}
use Rattle.addr_texts.proofs.PlanLemmas.{block-is, entries-within, members-within}
use Rattle.addr_texts.proofs.plan.put_bundle.Goals as goal

pub put_block-requires-clause-entries : goal.put_block-requires-clause-entries
put_block-requires-clause-entries c =
    let bundles = c.args.plan.now.bundles in
    let bundle : PlanBundle = c.index-as_slice-b.result in
    let at : slice_get bundles c.args.b ≡ Some bundle = slice_get_read bundles (length bundles) c.args.b bundle refl c.requires.within (subst (λ (xs : List PlanBundle). bundle ≡ get_or xs c.args.b bundle) c.as_slice.ensures c.index-as_slice-b.is) in
    entries-within c.args.project.now c.args.plan.now c.requires.placed c.args.b bundle at

pub put_block-requires-clause-members : goal.put_block-requires-clause-members
put_block-requires-clause-members c =
    let lays = c.args.layout.now.bundles in
    let lay : LayBundle = c.index-as_slice-b-2.result in
    let inside : c.args.b < length lays = omega (arith, c.requires.within, c.requires.laid.as_many) in
    let at : slice_get lays c.args.b ≡ Some lay = slice_get_read lays (length lays) c.args.b lay refl inside (subst (λ (xs : List LayBundle). lay ≡ get_or xs c.args.b lay) c.as_slice-2.ensures c.index-as_slice-b-2.is) in
    let laid : IsLaid c.args.project.now c.args.plan.now c.args.b lay = c.requires.laid.laid c.args.b lay at in
    subst (All (λ n. n < length c.args.project.now.assets)) (sym c.as_slice-3.ensures) (members-within c.args.project.now c.args.plan.now c.requires.placed c.args.b lay laid)

pub returns : goal.returns
returns c =
    let p = c.args.project.now in
    let plan = c.args.plan.now in
    let b = c.args.b in
    let bundles = plan.bundles in
    let lays = c.args.layout.now.bundles in
    let bundle : PlanBundle = c.index-as_slice-b.result in
    let lay : LayBundle = c.index-as_slice-b-2.result in
    let at : slice_get bundles b ≡ Some bundle = slice_get_read bundles (length bundles) b bundle refl c.requires.within (subst (λ (xs : List PlanBundle). bundle ≡ get_or xs b bundle) c.as_slice.ensures c.index-as_slice-b.is) in
    let inside : b < length lays = omega (arith, c.requires.within, c.requires.laid.as_many) in
    let lay-at : slice_get lays b ≡ Some lay = slice_get_read lays (length lays) b lay refl inside (subst (λ (xs : List LayBundle). lay ≡ get_or xs b lay) c.as_slice-2.ensures c.index-as_slice-b-2.is) in
    let told = block-is p plan c.requires.placed (length p.assets) c.args.marks.now c.requires.marks b bundle lay c.args.deps.now at (c.requires.laid.laid b lay lay-at) c.requires.deps in
    (block_of c.args.marks.now bundle c.as_slice-3.result.now c.args.deps.now, subst (λ (ms : List ℕ). IsBlock p plan b (block_of c.args.marks.now bundle ms c.args.deps.now)) (sym c.as_slice-3.ensures) told, c.in_ok-put_block.ensures)
