use Rattle.std.proofs.Common.{◌≡◌, take, vec_len}
use Rattle.addr_walks.specs.Marks.{HasLeft}
use Rattle.addr_walks.proofs.marking.unmark.Given as goal

abbrev pub invariant-loop-c : goal.invariant-loop-c
invariant-loop-c l = record {
  len : vec_len l.marks ≡ vec_len l.fn.marks;
  left : HasLeft l.fn.marks.items (take l.c-index l.listed) l.marks.items;
}
