use Rattle.addr_objects.specs.Objects.{objects_in}
use Rattle.addr_objects.proofs.SearchLemmas.{jumps-grow}
use Rattle.addr_objects.proofs.searching.add_steps.Goals as goal

pub returns-in_ok-add_refs-in-Some-clause-grows : goal.returns-in_ok-add_refs-in-Some-clause-grows
returns-in_ok-add_refs-in-Some-clause-grows g c =
    let homes = c.args.homes.now in
    jumps-grow (objects_in g.I.Image.object_of c.args.images.now) homes.bundles homes.needs c.args.place c.args.found.now.items c.add_refs.new.found.items _ c.in-Some.ensures c.in_ok-add_refs-in-Some.ensures.grows
