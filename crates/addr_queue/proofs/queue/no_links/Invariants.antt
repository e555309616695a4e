use Rattle.std.proofs.Common.{◌≡◌, replicate, vec_len}
use Rattle.addr_queue.proofs.queue.no_links.Given as goal

abbrev pub invariant-loop : goal.invariant-loop
invariant-loop l = record {
  items : l.made.items ≡ replicate l.counter 0;
  len : vec_len l.made ≡ l.counter;
}
