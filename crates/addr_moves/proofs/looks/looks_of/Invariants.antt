use Rattle.std.proofs.Common.{take}
use Rattle.std.specs.List.{AllZip}
use Rattle.addr_moves.specs.within.Looks.{IsAwayOf, IsSpoilsOf}
use Rattle.addr_moves.proofs.looks.looks_of.Given as goal

abbrev pub invariant-loop-place : goal.invariant-loop-place
invariant-loop-place l = record {
  spoils : AllZip (IsSpoilsOf l.project l.cabs l.homes l.places) (take l.place-index l.places) l.spoils;
  away : AllZip (IsAwayOf l.cabs l.homes) (take l.place-index l.places) l.away;
}
