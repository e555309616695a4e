use Rattle.std.proofs.Common.{arith}
use Rattle.addr_unityfs.specs.Flags.{to_sixteen}
use Rattle.addr_unityfs.specs.Sizes.{file_size}
use Rattle.addr_cab.specs.Outside.{with_homes}
use Rattle.addr_cab.proofs.OneObject.{one}
use Rattle.addr_cab.proofs.tests.write_one_file.Goals as goal

pub write_cab_file-requires-clause-objects : goal.write_cab_file-requires-clause-objects
write_cab_file-requires-clause-objects c = rw (c.in_ok-object.ensures, c.to.ensures, c.to-2.ensures) one

pub write_cab_file-requires-clause-small : goal.write_cab_file-requires-clause-small
unfolding file_size to_sixteen with_homes
write_cab_file-requires-clause-small c = rw (c.in_ok-object.ensures, c.to.ensures, c.to-2.ensures) (omega arith)
