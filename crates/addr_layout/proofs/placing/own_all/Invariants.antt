use Rattle.std.proofs.Common.{◌≡◌, take, vec_len}
use Rattle.addr_layout.specs.Owners.{Replaces}
use Rattle.addr_layout.proofs.placing.own_all.Given as goal

abbrev pub invariant-loop-r : goal.invariant-loop-r
invariant-loop-r l = record {
  len : vec_len l.owners ≡ vec_len l.fn.owners;
  replaces : Replaces l.fn.owners.items (take l.r-index l.row) l.b l.owners.items;
}
