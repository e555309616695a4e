use Rattle.std.proofs.Common.{◌≡◌, [], ◌∷◌}
use Rattle.addr_history.specs.Unfolding.{RefersTo}
use Rattle.addr_history.specs.declared.reading.Place.{Place}
use Rattle.addr_objects.proofs.SearchLemmas.{grows-none, grows-same, is-place, no-place, one-place}
use Rattle.addr_objects.proofs.searching.add_ref.Goals as goal

pub returns-in_ok-add-in-Some-clause-grows : goal.returns-in_ok-add-in-Some-clause-grows
returns-in_ok-add-in-Some-clause-grows c =
    let homes = c.args.homes.now in
    let refers = RefersTo homes.bundles homes.needs c.args.from (c.args.r ∷ []) in
    let place : Place = record { guid = c.args.r.guid; bundle = c.in-Some.bundle } in
    grows-same (λ q. place ≡ q) refers c.args.found.now.items c.add.new.found.items
    (is-place homes.bundles homes.needs c.args.from c.args.r c.in-Some.bundle c.in-Some.ensures) (one-place homes.bundles homes.needs c.args.from c.args.r c.in-Some.bundle c.in-Some.ensures) c.in_ok-add-in-Some.ensures.grows

pub returns-in-None-clause-grows : goal.returns-in-None-clause-grows
returns-in-None-clause-grows c =
    let homes = c.args.homes.now in
    grows-none (RefersTo homes.bundles homes.needs c.args.from (c.args.r ∷ [])) c.args.found.now.items (λ q refers. absurd (no-place homes.bundles homes.needs c.args.from c.args.r c.in-None.ensures q refers))
