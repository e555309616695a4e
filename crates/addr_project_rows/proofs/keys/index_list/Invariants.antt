use Rattle.std.proofs.Common.{◌≡◌, take, None}
use Rattle.addr_project_rows.specs.Firsts.{first_repeat}
use Rattle.addr_project_rows.specs.Lookups.{keys_in, HoldsPlaces}
use Rattle.addr_project_rows.proofs.keys.index_list.Given as goal

abbrev pub invariant-loop-i : goal.invariant-loop-i
invariant-loop-i l = record {
  first : first_repeat (take l.i (keys_in l.key-items)) ≡ None;
  holds : HoldsPlaces (take l.i (keys_in l.key-items)) l.places;
}
