use Rattle.std.proofs.Common.{◌∙◌, inl, sym}
use Rattle.addr_objects.specs.Objects.{objects_in}
use Rattle.addr_core.proofs.ReadAllSteps.{all_refused}
use Rattle.addr_core.proofs.machine.Core.read_all.Goals as goal

pub returns-in-Err : goal.returns-in-Err
returns-in-Err g c = inl (all_refused (objects_in g.I.Image.object_of c.args.self.now.images) c.args.self.now.rows c.args.self.now.history c.args.op c.args.i c.in-Err.refusal (sym c.row.ensures ∙ c.in-Err.is))
