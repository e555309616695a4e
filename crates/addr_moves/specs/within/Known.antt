-- What is known of the state's files and of the project, whatever the catalogue is.
use Rattle.std.specs.Prelude.{ℕ, ◌≡◌, ◌<◌, ◌^◌, List, length, map, Option, Some, None}
use Rattle.std.specs.List.{AllZip}
use Rattle.std.specs.List.Sorted.{IsStrictlySortedBy}
use Rattle.std.specs.Ordering.{nat_cmp}
use Rattle.addr_base.specs.declared.ids.Guid.{Guid}
use Rattle.addr_cab.specs.Lookup.{Held}
use Rattle.addr_locate.specs.Rows.{Rows}
use Rattle.addr_locate.specs.declared.rows.BundleRow.{BundleRow}
use Rattle.addr_pack.specs.declared.bundles.Plan.{Plan}
use Rattle.addr_project.specs.Model.{Project}
use Rattle.addr_release.specs.Opened.{Opened}
use Rattle.addr_resolve.specs.Graph.{IsGraph}
use Rattle.addr_resolve.specs.Items.{AreNamed, HoldOne, ShowsCabs}
use Rattle.addr_resolve.specs.Order.{place_cmp}
use Rattle.addr_state.specs.declared.model.State.{State}
use Rattle.addr_update.specs.declared.model.Why.{Why}
use Rattle.addr_update.specs.declared.model.Why.TheVariants.{Before, Unknown, Changed, Led}
use Rattle.addr_update.specs.Doubtful.{IsDoubtful}
use Rattle.addr_update.specs.Moved.{HasChanged, IsLeast, IsLedAway, Update}
use Rattle.addr_walks.specs.Rows.{AreBelow}
use Rattle.addr_walks.specs.Walks.{IsListOf}
use Rattle.addr_moves.specs.Firsts.{AreFirsts}
use Rattle.addr_moves.specs.declared.looks.Homes.{Homes}
use Rattle.addr_moves.specs.declared.known.Known.{Known}
use Rattle.addr_moves.specs.declared.fate.Fate.{Fate}
use Rattle.addr_moves.specs.declared.fate.Fate.TheVariants.{Kept, Moves}
use Rattle.addr_moves.specs.within.Assets.{AreFound}
use Rattle.addr_moves.specs.within.Homes.{AreHomes}
use Rattle.addr_moves.specs.within.Looks.{IsAwayOf, IsSpoilsOf}
use Rattle.addr_moves.specs.within.Ways.{AreBadBelow}

-- how long the tables are
pub record AreSized (p : Project) (k : Known) : Type 0 where
  pub few : length k.places < 2 ^ 32
  pub rising : IsStrictlySortedBy place_cmp k.places
  pub rows : length k.rows ≡ length k.places
  pub spoils : length k.spoils ≡ length k.places
  pub away : length k.away ≡ length k.rows
  pub below : AreBelow k.rows (length k.rows)
  pub refs : length k.refs ≡ length p.assets
  pub refs_below : AreBelow k.refs (length k.refs)
  pub doubted : IsStrictlySortedBy nat_cmp k.doubted

-- what they say of the state's files
pub record IsKnown (s : State) (p : Project) (now : Plan) (cabs : List Held) (bundles : List BundleRow) (k : Known) : Type 0 where
  pub sized : AreSized p k
  pub find : List ℕ → Option ℕ
  pub numbers : AreFirsts (map (λ asset. asset.guid.0) p.assets) find
  pub refs : AllZip (λ asset row. AreFound find asset.refs row) p.assets k.refs
  pub homes : Homes
  pub are_homes : AreHomes s p now bundles homes
  pub spoils : AllZip (IsSpoilsOf p cabs homes k.places) k.places k.spoils
  pub away : AllZip (IsAwayOf cabs homes) k.places k.away
  pub lost : List (Option Guid)
  pub bad : List ℕ
  pub are_bad : AreBadBelow k.spoils k.away lost (length k.places) bad
  pub doubted : IsListOf nat_cmp (IsDoubtful k.rows bad) k.doubted
  pub graph : (was : List Opened) → AreNamed was bundles → ShowsCabs was cabs → IsGraph was k.places k.rows lost
  pub one : (was : List Opened) → ShowsCabs was cabs → HoldOne was

-- why an entry with an old bundle moves, or none where nothing on its way differs
abbrev pub TellsWhy : Update → Guid → Option Why → Type 0
TellsWhy u a None = ((d : Guid) → HasChanged u a d → ⊥) × ((d : Guid) → IsLedAway u a d → ⊥)
TellsWhy u a (Some Before) = ⊥
TellsWhy u a (Some Unknown) = ⊥
TellsWhy u a (Some (Changed d)) = IsLeast (HasChanged u a) d
TellsWhy u a (Some (Led d)) = ((e : Guid) → HasChanged u a e → ⊥) × IsLeast (IsLedAway u a) d

-- an entry with an old bundle is kept there, or moves
abbrev pub fate_by : ℕ → Option Why → Fate
fate_by m None = Kept m
fate_by m (Some why) = Moves why
