use Rattle.std.proofs.Common.{◌≡◌, map, drop}
use Rattle.addr_locate.specs.Merge.{is_match, rows_where, first_filled}
use Rattle.addr_locate.proofs.merging.matching_first.Given as goal

abbrev pub invariant-loop-key : goal.invariant-loop-key
invariant-loop-key l = first_filled (map (λ key. rows_where (is_match l.kind key) l.rows) (drop l.key-index l.keys)) ≡ first_filled (map (λ key. rows_where (is_match l.kind key) l.rows) l.keys)
