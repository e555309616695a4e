use Rattle.std.proofs.Common.{◌≡◌, ◌-◌, ◌≤◌, length, vec_len}
use Rattle.addr_walks.specs.Marks.{Tracks}
use Rattle.addr_walks.proofs.MarkLemmas.{Searches}
use Rattle.addr_walks.proofs.marking.Marked.spread.Given as goal

abbrev pub invariant-loop-done : goal.invariant-loop-done
invariant-loop-done l = record {
  len : vec_len l.self.marks ≡ vec_len l.fn.self.marks;
  within : l.done ≤ vec_len l.self.queue;
  tracks : Tracks l.self.marks.items l.self.queue.items;
  searches : Searches l.rows l.seeds l.self.queue.items l.done;
}

abbrev pub decreases-loop-done : goal.decreases-loop-done
decreases-loop-done l = length l.rows - l.done
