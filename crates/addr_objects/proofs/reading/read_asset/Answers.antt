use Rattle.std.proofs.Common.{ℕ, List, sym, subst}
use Rattle.addr_objects.specs.Objects.{objects_in}
use Rattle.addr_history.specs.Reading.{Holds}
use Rattle.addr_objects.proofs.reading.read_asset.Goals as goal

pub returns-in-Ok-None : goal.returns-in-Ok-None
returns-in-Ok-None g c =
    let none = rw c.in-Ok-None.field-0-is at c.in-Ok-None.ensures in
    (c.home_of-home.ensures, λ o held. none o (subst (λ (id : List ℕ). Holds (objects_in g.I.Image.object_of c.args.images.now) c.home_of-home.result id o) (sym c.as_str.ensures) held))
