use Rattle.std.proofs.Common.{◌≡◌, take, vec_len}
use Rattle.addr_layout.specs.Owners.{Replaces}
use Rattle.addr_images.proofs.owners.own_all.Given as goal

abbrev pub invariant-loop-x : goal.invariant-loop-x
invariant-loop-x l = record {
  len : vec_len l.owners ≡ vec_len l.fn.owners;
  replaces : Replaces l.fn.owners.items (take l.x-index l.entries) l.b l.owners.items;
}
