-- A set of GUIDs that tells which of a list's are there.
use Rattle.std.specs.Prelude.{◌≡◌, ◌&&◌, Bool, not, List}
use Rattle.std.specs.BTreeSet.{BTreeSet, contains}
use Rattle.addr_base.specs.declared.ids.Guid.{Guid}
use Rattle.addr_state.specs.Rules.{is_among}
use Rattle.addr_state.specs.Sound.{guid_cmp}

-- the set has a GUID
abbrev pub has_guid : BTreeSet Guid → Guid → Bool
has_guid seen g = contains guid_cmp seen g

-- the set has the GUIDs of the list, and no others
unfoldable pub HasGuids : BTreeSet Guid → List Guid → Type 0
HasGuids seen found = (g : Guid) → has_guid seen g ≡ is_among found g

-- a GUID is in one set, and not in the other
abbrev pub is_new_in : BTreeSet Guid → BTreeSet Guid → Guid → Bool
is_new_in earlier objects g = has_guid objects g && not (has_guid earlier g)
