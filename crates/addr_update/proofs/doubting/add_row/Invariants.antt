use Rattle.std.proofs.Common.{◌≡◌, take, vec_len}
use Rattle.addr_update.specs.within.Turned.{Adds}
use Rattle.addr_update.proofs.doubting.add_row.Given as goal

abbrev pub invariant-loop-c : goal.invariant-loop-c
invariant-loop-c l = record {
  len : vec_len l.back ≡ vec_len l.fn.back;
  added : Adds l.fn.back.items (take l.c-index l.row) l.b l.back.items;
}
