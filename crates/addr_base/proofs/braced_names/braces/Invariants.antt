use Rattle.std.proofs.Common.{◌≡◌, ◌++◌, string_bytes, length}
use denote.Text.{Utf8}
use denote.Shadow.{shadow}
use Rattle.addr_base.specs.Braces.{braced}
use Rattle.addr_base.proofs.braced_names.braces.Given as goal

abbrev pub invariant-pieces : goal.invariant-pieces
invariant-pieces l = record {
  text : shadow (Utf8 l.rest);
  read : string_bytes l.made ++ braced l.vars l.rest ≡ braced l.vars l.text;
}

abbrev pub decreases-pieces : goal.decreases-pieces
decreases-pieces l = length l.rest
