-- What lets an entry stay without a look at its own way: each place of the way is as the project has it, and each reference of
-- it is led on and leads to a bundle of the state.
use Rattle.std.specs.Prelude.{ℕ}
use Rattle.std.specs.List.{Contains}
use Rattle.addr_base.specs.declared.ids.Guid.{Guid}
use Rattle.addr_base.specs.declared.images.RefTo.{RefTo}
use Rattle.addr_cab.specs.declared.object.ObjectOut.{ObjectOut}
use Rattle.addr_layout.specs.Agreement.{Place, place}
use Rattle.addr_release.specs.Opened.{Holds, Jumps, LeadsTo}
use Rattle.addr_walks.specs.Walks.{Leads}
use Rattle.addr_update.specs.Moved.{Update, IsAsNow, IsLedOn}

abbrev pub IsClean : Update → Place → Type 0
IsClean u q = IsAsNow u q × ((o : ObjectOut) (r : RefTo) → Holds u.was q o → Contains o.refs r
    → IsLedOn u q r × ((c : ℕ) × LeadsTo u.was q.bundle r.home c))

abbrev pub HasCleanWay : Update → ℕ → Guid → Type 0
HasCleanWay u m a = (q : Place) → Leads (Jumps u.was) (place m a) q → IsClean u q
