-- What an unfolding answers: its items, or the first lost GUID.
use Rattle.std.specs.Prelude.{List, map, Result, Ok, Err}
use Rattle.addr_layout.specs.Agreement.{Place}
use Rattle.addr_release.specs.Opened.{Opened, IsUnfolding}
use Rattle.addr_resolve.specs.Items.{item_view}
use Rattle.addr_resolve.specs.Lost.{IsFirstLost}
use Rattle.addr_resolve.specs.declared.items.Item.{Item}
use Rattle.addr_resolve.specs.declared.unfolding.Stop.{Stop}
use Rattle.addr_resolve.specs.declared.unfolding.Stop.TheVariants.{Lost, NoMemory}

-- the unfolding from a place, or the least GUID that its walk loses
abbrev pub StopsAt : List Opened → Place → Result (List Item) Stop → Type 0
StopsAt files start (Ok items) = IsUnfolding files start (map item_view items)
StopsAt files start (Err (Lost guid)) = IsFirstLost files start guid
StopsAt files start (Err NoMemory) = Unit {0}
