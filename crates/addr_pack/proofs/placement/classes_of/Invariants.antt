use Rattle.std.proofs.Common.{ℕ, ◌<◌}
use Rattle.addr_pack.specs.Classes.{AreClasses}
use Rattle.addr_pack.specs.LongNames.{HasLongName}
use Rattle.addr_pack.proofs.placement.classes_of.Given as goal

abbrev pub invariant-loop-row : goal.invariant-loop-row
invariant-loop-row l = record {
  classes : AreClasses l.project l.row l.classes;
  short : (x size : ℕ) → x < l.row → HasLongName l.project x size → ⊥;
}
