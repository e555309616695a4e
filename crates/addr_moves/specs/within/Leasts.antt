-- The least GUID of a set, where it has one.
use Rattle.std.specs.Prelude.{List, Option, Some, None}
use Rattle.std.specs.List.{Contains}
use Rattle.addr_base.specs.declared.ids.Guid.{Guid}
use Rattle.addr_update.specs.Moved.{IsLeast}

-- the least GUID of a set, or none where it is empty
abbrev pub IsLeastWhere : (Guid → Type 0) → Option Guid → Type 0
IsLeastWhere set None = (d : Guid) → set d → ⊥
IsLeastWhere set (Some d) = IsLeast set d

abbrev pub IsLeastIn : List Guid → Option Guid → Type 0
IsLeastIn guids least = IsLeastWhere (Contains guids) least
