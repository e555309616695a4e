use Rattle.std.proofs.Common.{◌≡◌, length, take, vec_len}
use Rattle.addr_layout.specs.Owners.{AreOwners}
use Rattle.addr_images.specs.within.Owners.{entry_rows}
use Rattle.addr_images.proofs.owners.owners_of.Given as goal

abbrev pub invariant-loop-b : goal.invariant-loop-b
invariant-loop-b l = record {
  len : vec_len l.owners ≡ length l.project.entries;
  owners : AreOwners (take l.b (entry_rows l.plan)) l.owners.items;
}
