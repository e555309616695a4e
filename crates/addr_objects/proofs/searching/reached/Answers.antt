use Rattle.std.proofs.Common.{◌≡◌, ◌<◌, ◌≤◌, List, length, refl, subst, arith}
use Rattle.std.proofs.lemmas.Option.{slice_get_read}
use Rattle.addr_history.specs.Unfolding.{Jumps}
use Rattle.addr_history.specs.declared.reading.Place.{Place}
use Rattle.addr_objects.specs.Objects.{objects_in}
use Rattle.addr_objects.specs.within.Search.{Grows}
use Rattle.addr_objects.proofs.SearchLemmas.{searches-end, searches-more, searches-start, tracks-none}
use Rattle.addr_objects.proofs.searching.reached.Goals as goal

pub add-requires : goal.add-requires
add-requires g c = tracks-none c.new-seen.result c.new-found.result.items c.new-seen.ensures.empty

pub loop-n-init : goal.loop-n-init
loop-n-init g c =
    let step = Jumps (objects_in g.I.Image.object_of c.args.images.now) c.args.homes.now.bundles c.args.homes.now.needs in
    record {
      tracks = c.in_ok-add.ensures.tracks;
      searches = searches-start step c.args.start c.add.new.found.items (subst (λ (old : List Place). Grows (λ q. c.args.start ≡ q) old c.add.new.found.items) c.new-found.ensures.items c.in_ok-add.ensures.grows);
    }

pub loop-n-preserved : goal.loop-n-preserved
loop-n-preserved g c =
    let step = Jumps (objects_in g.I.Image.object_of c.args.images.now) c.args.homes.now.bundles c.args.homes.now.needs in
    let found = c.loop-n.found in
    let within : c.loop-n.n < length found.items = (let len = found.ok.0 in let is = c.len.ensures in let less = c.if-n-len.false in omega (arith, len, is, less)) in
    let place = c.index-place.result.now in
    record {
      tracks = c.in_ok-add_steps.ensures.tracks;
      searches = searches-more step c.args.start found.items c.add_steps.new.found.items c.loop-n.n place (slice_get_read found.items (length found.items) c.loop-n.n place refl within c.index-place.ensures) c.loop-n.invariant.searches c.in_ok-add_steps.ensures.grows;
    }

pub returns-then-n-len : goal.returns-then-n-len
returns-then-n-len g c =
    let step = Jumps (objects_in g.I.Image.object_of c.args.images.now) c.args.homes.now.bundles c.args.homes.now.needs in
    let found = c.loop-n.found in
    let past : length found.items ≤ c.loop-n.n = (let len = found.ok.0 in let is = c.len.ensures in let more = c.if-n-len.true in omega (arith, len, is, more)) in
    record {
      rising = c.in_order.ensures.rising;
      within = λ q here. c.loop-n.invariant.searches.led q ((c.in_order.ensures.same q).0 here);
      all = λ q walk. (c.in_order.ensures.same q).1 (searches-end step c.args.start found.items c.loop-n.n past c.loop-n.invariant.searches q walk);
    }
