use Rattle.std.proofs.Common.{◌≡◌, take, vec_len}
use Rattle.addr_layout.specs.Owners.{AreOwners}
use Rattle.addr_layout.proofs.placing.owners_of.Given as goal

abbrev pub invariant-loop-b : goal.invariant-loop-b
invariant-loop-b l = record {
  len : vec_len l.owners ≡ l.size;
  owners : AreOwners (take l.b l.rows) l.owners.items;
}
