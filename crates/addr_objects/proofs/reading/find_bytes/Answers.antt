use Rattle.addr_objects.specs.Objects.{objects_in}
use Rattle.addr_objects.proofs.Filled.{filled}
use Rattle.addr_objects.proofs.reading.find_bytes.Goals as goal

pub returns-in-Err : goal.returns-in-Err
returns-in-Err g c =
    let found = filled (objects_in g.I.Image.object_of c.args.images.now c.args.b c.in-Some.guid.0) c.in-Err.ensures.err in
    (found.0, (c.in-Some.guid.0, c.in-Some.ensures.reads, found.1))
