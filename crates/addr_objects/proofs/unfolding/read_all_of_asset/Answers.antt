use Rattle.std.proofs.Common.{◌∙◌, ℕ, List, inl, refl, subst}
use Rattle.addr_history.specs.Reading.{Spells}
use Rattle.addr_objects.specs.Objects.{objects_in}
use Rattle.addr_objects.specs.within.Homes.{NeededBundles}
use Rattle.addr_objects.specs.within.Search.{Unfolds}
use Rattle.addr_objects.proofs.MissLemmas.{reads-all-of}
use Rattle.addr_objects.proofs.unfolding.read_all_of_asset.Goals as goal

pub returns-in_ok-homes-in-Some : goal.returns-in_ok-homes-in-Some
returns-in_ok-homes-in-Some g c =
    let objects = objects_in g.I.Image.object_of c.args.images.now in
    let unfolds = subst (λ (h : NeededBundles). Unfolds objects h.bundles h.needs (record { guid = c.in-Some.guid; bundle = c.home_of-home.result.0 }) c.unfold.result) c.in_ok-homes-in-Some.ensures c.unfold.ensures in
    let spells = subst (λ (id : List ℕ). Spells id c.in-Some.guid.0) c.as_str.ensures c.in-Some.ensures.reads in
    reads-all-of objects c.args.bundles.now c.args.needs.now c.args.asset.now c.home_of-home.result c.in-Some.guid c.home_of-home.ensures spells c.unfold.result unfolds

pub returns-in-None : goal.returns-in-None
returns-in-None g c =
    (c.home_of-home.result, c.home_of-home.ensures, inl (λ guid spells. c.in-None.ensures.reads guid spells.0 (c.as_str.ensures ∙ spells.1), refl))
