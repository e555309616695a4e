use Rattle.addr_cab.proofs.OneObject.{one}
use Rattle.addr_cab.proofs.tests.write_one.Goals as goal

pub write_cab-requires : goal.write_cab-requires
write_cab-requires c = rw (c.in_ok-object.ensures, c.to.ensures, c.to-2.ensures) one
