use Rattle.std.proofs.Common.{◌≡◌, take, vec_len}
use Rattle.addr_walks.specs.Marks.{Tracks, Grows}
use Rattle.addr_walks.proofs.marking.Marked.mark_all.Given as goal

abbrev pub invariant-loop-c : goal.invariant-loop-c
invariant-loop-c l = record {
  len : vec_len l.self.marks ≡ vec_len l.fn.self.marks;
  tracks : Tracks l.self.marks.items l.self.queue.items;
  grows : Grows (take l.c-index l.cs) l.fn.self.queue.items l.self.queue.items;
}
