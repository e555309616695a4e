use Rattle.std.proofs.Common.{◌≡◌, ◌+◌, ◌-◌, ◌^◌, min, take, sum_by}
use Rattle.addr_unityfs.proofs.sizes.rows_size.Given as goal

abbrev pub invariant-loop-node : goal.invariant-loop-node
invariant-loop-node l = l.size ≡ min (sum_by (λ n. 21 + n.path) (take l.node-index l.nodes)) (2 ^ 64 - 1)
