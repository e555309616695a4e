use Rattle.std.proofs.Common.{◌≡◌, ◌<◌, ◌^◌, ℕ, List, length, ap, subst, sym, ◌∙◌, arith}
use Rattle.std.proofs.lemmas.Option.{slice_get_within}
use Rattle.hex.specs.Hex.{IsBytes}
use Rattle.addr_base.specs.Ids.{digest_of}
use Rattle.addr_base.specs.declared.ids.Digest.{Digest}
use Rattle.addr_cab.specs.Objects.{HoldsCab, cab_nodes}
use Rattle.addr_cab.specs.Written.{CanWrite, cab_data, cab_table}
use Rattle.addr_layout.proofs.RankLemmas.{read-at}
use Rattle.addr_pack.specs.declared.bundles.PlanBundle.{PlanBundle}
use Rattle.addr_release.specs.Names.{digest_from}
use Rattle.addr_unityfs.specs.Written.{written}
use Rattle.addr_images.specs.within.Told.{objects_told}
use Rattle.addr_images.specs.within.Writing.{size_of_file}
use Rattle.addr_images.proofs.ToldLemmas.{new-full, objects-are}
use Rattle.addr_images.proofs.WritingLemmas.{below-more, can-be-file, homes-there}
use Rattle.addr_images.proofs.files.file_of.Goals as goal

pub objects_told-requires : goal.objects_told-requires
objects_told-requires c =
    let p = c.args.project.now in
    let plan = c.args.plan.now in
    let lay = c.index-as_slice-b-2.result in
    let within : c.args.b < length c.as_slice-2.result.now = (let same = ap length c.as_slice-2.ensures in let long = c.requires.laid.as_many in let below = slice_get_within c.args.plan.now.bundles c.args.b c.requires.new.0 c.requires.new.1 in omega (arith, long, same, below)) in
    let at = read-at c.as_slice-2.result.now c.args.layout.now.bundles c.args.b lay c.as_slice-2.ensures within c.index-as_slice-b-2.is in
    homes-there p plan c.args.b lay c.kept.ensures (new-full p plan c.args.layout.now c.requires.laid c.args.b lay c.requires.new at)

pub write_cab_file-requires-clause-objects : goal.write_cab_file-requires-clause-objects
write_cab_file-requires-clause-objects c =
    let p = c.args.project.now in
    let plan = c.args.plan.now in
    let lay = c.index-as_slice-b-2.result in
    let within : c.args.b < length c.as_slice-2.result.now = (let same = ap length c.as_slice-2.ensures in let long = c.requires.laid.as_many in let below = slice_get_within c.args.plan.now.bundles c.args.b c.requires.new.0 c.requires.new.1 in omega (arith, long, same, below)) in
    let at = read-at c.as_slice-2.result.now c.args.layout.now.bundles c.args.b lay c.as_slice-2.ensures within c.index-as_slice-b-2.is in
    let full = new-full p plan c.args.layout.now c.requires.laid c.args.b lay c.requires.new at in
    let led = c.references_are_led.ensures c.args.b lay at in
    subst CanWrite (sym (c.deref.ensures.value ∙ c.in_ok-objects.ensures)) (can-be-file p plan c.args.b lay c.kept.ensures full led).can

pub write_cab_file-requires-clause-small : goal.write_cab_file-requires-clause-small
write_cab_file-requires-clause-small c =
    let p = c.args.project.now in
    let plan = c.args.plan.now in
    let lay = c.index-as_slice-b-2.result in
    let within : c.args.b < length c.as_slice-2.result.now = (let same = ap length c.as_slice-2.ensures in let long = c.requires.laid.as_many in let below = slice_get_within c.args.plan.now.bundles c.args.b c.requires.new.0 c.requires.new.1 in omega (arith, long, same, below)) in
    let at = read-at c.as_slice-2.result.now c.args.layout.now.bundles c.args.b lay c.as_slice-2.ensures within c.index-as_slice-b-2.is in
    let full = new-full p plan c.args.layout.now c.requires.laid c.args.b lay c.requires.new at in
    let led = c.references_are_led.ensures c.args.b lay at in
    let small = subst (λ os. size_of_file p.version os < 2 ^ 29) (sym (c.deref.ensures.value ∙ c.in_ok-objects.ensures)) (can-be-file p plan c.args.b lay c.kept.ensures full led).small in
    let less = subst (λ v. size_of_file v c.deref.result.now < 2 ^ 29) (sym c.version.ensures) small in
    below-more _ less

pub returns : goal.returns
returns c =
    let p = c.args.project.now in
    let plan = c.args.plan.now in
    let bundle : PlanBundle = c.index-as_slice-b.result in
    let lay = c.index-as_slice-b-2.result in
    let within : c.args.b < length c.as_slice-2.result.now = (let same = ap length c.as_slice-2.ensures in let long = c.requires.laid.as_many in let below = slice_get_within c.args.plan.now.bundles c.args.b c.requires.new.0 c.requires.new.1 in omega (arith, long, same, below)) in
    let at = read-at c.as_slice-2.result.now c.args.layout.now.bundles c.args.b lay c.as_slice-2.ensures within c.index-as_slice-b-2.is in
    let full = new-full p plan c.args.layout.now c.requires.laid c.args.b lay c.requires.new at in
    let below : c.args.b < length c.as_slice.result.now = (let w = slice_get_within c.args.plan.now.bundles c.args.b c.requires.new.0 c.requires.new.1 in let e = ap length c.as_slice.ensures in omega (arith, w, e)) in
    let there = read-at c.as_slice.result.now plan.bundles c.args.b bundle c.as_slice.ensures below c.index-as_slice-b.is in
    let name : c.internal_name-name.result ≡ digest_from bundle.name = ap (λ (bs : List ℕ). let d : Digest = record { 0 = bs } in d) (c.internal_name-name.ensures ∙ ap digest_of c.as_str.ensures) in
    let same : c.deref.result.now ≡ objects_told p plan lay = c.deref.ensures.value ∙ c.in_ok-objects.ensures in
    let value = c.as_slice-3.ensures.value in
    record {
      bundle = bundle;
      at = there;
      objects = objects_told p plan lay;
      are = objects-are p plan c.args.b lay full;
      text = c.in_ok-file.ensures.exact ∙ (ap (λ v. written v (cab_nodes c.internal_name-name.result (cab_table c.deref.result.now) (cab_data c.deref.result.now))) c.version.ensures
          ∙ (ap (λ os. written p.version (cab_nodes c.internal_name-name.result (cab_table os) (cab_data os))) same ∙ ap (λ d. written p.version (cab_nodes d (cab_table (objects_told p plan lay)) (cab_data (objects_told p plan lay)))) name));
      bytes = subst IsBytes value c.are_bytes.ensures.bytes;
      short = subst (λ f. length f < 2 ^ 63) value c.are_bytes.ensures.small;
      holds = subst (λ d. HoldsCab c.in_ok-file.file.items d (objects_told p plan lay)) name (subst (HoldsCab c.in_ok-file.file.items c.internal_name-name.result) same c.in_ok-file.ensures.holds);
    }
