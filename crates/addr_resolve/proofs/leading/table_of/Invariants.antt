use Rattle.std.proofs.Common.{take}
use Rattle.std.specs.List.{AllZip}
use Rattle.addr_resolve.specs.within.Leading.{IsLostOf, IsRowOf, first_of}
use Rattle.addr_resolve.proofs.leading.table_of.Given as goal

abbrev pub invariant-loop-place : goal.invariant-loop-place
invariant-loop-place l = record {
  rows : AllZip (IsRowOf (first_of l.firsts) l.cabs l.places) (take l.place-index l.places) l.rows;
  lost : AllZip (IsLostOf (first_of l.firsts) l.cabs l.places) (take l.place-index l.places) l.lost;
}
