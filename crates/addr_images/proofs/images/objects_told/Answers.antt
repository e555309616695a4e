use Rattle.std.proofs.Common.{◌≡◌, ◌<◌, length, get_or, sym, ap, ap₂, subst, ◌∙◌, arith}
use Rattle.addr_images.specs.within.Told.{HasHomes, object_told, objects_told}
use Rattle.addr_images.proofs.ToldLemmas.{map-zip-more, map-zip-all, zip-long}
use Rattle.addr_images.proofs.WritingLemmas.{zip-at}
use Rattle.addr_images.proofs.images.objects_told.Goals as goal

pub bounds-members-k : goal.bounds-members-k
bounds-members-k c =
    let same = zip-long (HasHomes c.args.project.now) c.args.lay.now.members c.args.lay.now.refs c.requires in
    let members = ap length c.as_slice-members.ensures in
    let homes = ap length c.as_slice-homes-items.ensures in
    let within = c.loop-k-test.true in
    omega (arith, same, members, homes, within)

pub object_told-requires-clause-within : goal.object_told-requires-clause-within
object_told-requires-clause-within c =
    let R = HasHomes c.args.project.now in
    let same = zip-long R c.args.lay.now.members c.args.lay.now.refs c.requires in
    let homes = ap length c.as_slice-homes-items.ensures in
    let test = c.loop-k-test.true in
    let within : c.loop-k.k < length c.args.lay.now.members = omega (arith, same, homes, test) in
    let here = zip-at R c.args.lay.now.members c.args.lay.now.refs c.loop-k.k 0 c.homes-item.result c.requires within in
    let number : get_or c.args.lay.now.members c.loop-k.k 0 ≡ get_or c.as_slice-members.result.now c.loop-k.k 0 = ap (λ xs. get_or xs c.loop-k.k 0) (sym c.as_slice-members.ensures) in
    subst (λ n. n < length c.args.project.now.assets) number here.0

pub object_told-requires-clause-homes : goal.object_told-requires-clause-homes
object_told-requires-clause-homes c =
    let R = HasHomes c.args.project.now in
    let same = zip-long R c.args.lay.now.members c.args.lay.now.refs c.requires in
    let homes = ap length c.as_slice-homes-items.ensures in
    let test = c.loop-k-test.true in
    let within : c.loop-k.k < length c.args.lay.now.members = omega (arith, same, homes, test) in
    let here = zip-at R c.args.lay.now.members c.args.lay.now.refs c.loop-k.k 0 c.homes-item.result c.requires within in
    let item : get_or c.args.lay.now.refs c.loop-k.k c.homes-item.result ≡ c.as_slice.result.now = ap (λ xs. get_or xs c.loop-k.k c.homes-item.result) (sym c.as_slice-homes-items.ensures) ∙ (sym c.homes-item.is ∙ sym c.as_slice.ensures) in
    let number : get_or c.args.lay.now.members c.loop-k.k 0 ≡ get_or c.as_slice-members.result.now c.loop-k.k 0 = ap (λ xs. get_or xs c.loop-k.k 0) (sym c.as_slice-members.ensures) in
    (subst (λ n. R n c.as_slice.result.now) number (subst (R (get_or c.args.lay.now.members c.loop-k.k 0)) item here)).1

pub loop-k-preserved : goal.loop-k-preserved
loop-k-preserved c =
    let R = HasHomes c.args.project.now in
    let members = c.args.lay.now.members in
    let refs = c.args.lay.now.refs in
    let same = zip-long R members refs c.requires in
    let homes = ap length c.as_slice-homes-items.ensures in
    let test = c.loop-k-test.true in
    let within : c.loop-k.k < length members = omega (arith, same, homes, test) in
    let also : c.loop-k.k < length refs = omega (arith, homes, test) in
    let item : c.as_slice.result.now ≡ get_or refs c.loop-k.k c.homes-item.result = sym (ap (λ xs. get_or xs c.loop-k.k c.homes-item.result) (sym c.as_slice-homes-items.ensures) ∙ (sym c.homes-item.is ∙ sym c.as_slice.ensures)) in
    let number : get_or c.as_slice-members.result.now c.loop-k.k 0 ≡ get_or members c.loop-k.k 0 = ap (λ xs. get_or xs c.loop-k.k 0) c.as_slice-members.ensures in
    map-zip-more (λ q. object_told c.args.project.now c.args.plan.now q.0 q.1) members refs c.loop-k.k 0 c.homes-item.result c.loop-k.objects.items c.push.new.self.items c.in_ok-object.object within also c.loop-k.invariant c.in_ok-push.ensures.items
    (c.in_ok-object.ensures ∙ ap₂ (object_told c.args.project.now c.args.plan.now) number item)

pub returns : goal.returns
unfolding objects_told
returns c =
    let homes = ap length c.as_slice-homes-items.ensures in
    let test = c.loop-k-test.false in
    map-zip-all (λ q. object_told c.args.project.now c.args.plan.now q.0 q.1) c.args.lay.now.members c.args.lay.now.refs c.loop-k.k c.loop-k.objects.items (omega (arith, homes, test)) c.loop-k.invariant
