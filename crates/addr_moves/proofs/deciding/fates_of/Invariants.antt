use Rattle.std.proofs.Common.{◌≡◌, List, length}
use Rattle.addr_release.specs.Opened.{Opened}
use Rattle.addr_resolve.specs.Items.{AreNamed, ShowsCabs}
use Rattle.addr_walks.specs.Places.{EachAt}
use Rattle.addr_moves.specs.Fates.{IsFate, comparing}
use Rattle.addr_moves.proofs.deciding.fates_of.Given as goal

abbrev pub invariant-loop-x : goal.invariant-loop-x
invariant-loop-x l = record {
  ways : l.searches.ways ≡ length l.known.rows;
  reach : l.searches.reach ≡ length l.known.refs;
  many : length l.fates ≡ l.x;
  each : EachAt (λ x fate. (was : List Opened) → AreNamed was l.rows → ShowsCabs was l.cabs → IsFate (comparing l.state was l.locator l.project l.now) x fate) l.fates;
}
