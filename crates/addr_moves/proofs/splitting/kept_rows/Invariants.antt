use Rattle.std.proofs.Common.{◌≡◌, vec_len}
use Rattle.addr_moves.specs.within.Split.{AreKeptRows}
use Rattle.addr_moves.proofs.splitting.kept_rows.Given as goal

abbrev pub invariant-loop : goal.invariant-loop
invariant-loop l = record {
  len : vec_len l.rows ≡ l.counter;
  rows : AreKeptRows l.fates 0 l.rows.items;
}

abbrev pub invariant-loop-x : goal.invariant-loop-x
invariant-loop-x l = record {
  len : vec_len l.rows ≡ l.count;
  rows : AreKeptRows l.fates l.x l.rows.items;
}
