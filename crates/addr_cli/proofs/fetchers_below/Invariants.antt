use Rattle.std.proofs.Common.{◌≡◌, length}
use Rattle.addr_cli.proofs.fetchers_below.Given as goal

abbrev pub invariant-loop : goal.invariant-loop
invariant-loop l = length l.fetchers.items ≡ l.counter
