use Rattle.std.proofs.Common.{◌≡◌, ◌==◌, ◌++◌, ◌∷◌, [], false, string_bytes, length}
use denote.Text.{Utf8}
use denote.Shadow.{shadow}
use Rattle.std.specs.List.{list_any}
use Rattle.addr_base.specs.Braces.{braced}
use Rattle.addr_base.proofs.braced_names.push_piece.Given as goal

abbrev pub invariant-names : goal.invariant-names
invariant-names l = record {
  text : shadow (Utf8 l.rest);
  lacks : list_any (λ b. b == 125) l.rest ≡ false;
  read : string_bytes l.made ++ braced l.vars (l.rest ++ 125 ∷ []) ≡ string_bytes l.fn.made ++ braced l.vars (l.piece ++ 125 ∷ []);
}

abbrev pub decreases-names : goal.decreases-names
decreases-names l = length l.rest
