use Rattle.std.proofs.Common.{◌≡◌, replicate, []}
use Rattle.addr_locate.proofs.postings.empty_postings.Given as goal

abbrev pub invariant-loop-made : goal.invariant-loop-made
invariant-loop-made l = l.postings.items ≡ replicate l.made []
