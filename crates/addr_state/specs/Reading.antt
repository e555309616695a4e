-- The content state that bytes are, or the first fault.
use Rattle.std.specs.Prelude.{codes, ℕ, ◌+◌, ◌==◌, nat_le, List, [], ◌∷◌, ◌++◌, length, Bool, if◌then◌else◌, Option, Some, None, Result, Ok, option_and_then}
use Rattle.serde_json.specs.Data.{Data, Items, no_items, item, Members}
use Rattle.serde_json.specs.Find.{as_array, as_object, as_str}
use Rattle.addr_base.specs.declared.ids.Guid.{Guid}
use Rattle.addr_json.specs.Members.{required, list_of, digest_in, guid_in, size_of, tree_of}
use Rattle.addr_state.specs.declared.error.StateErr.{StateErr}
use Rattle.addr_state.specs.declared.error.StateErr.TheVariants.{Json, Member, Row}
use Rattle.addr_state.specs.declared.model.State.{State}
use Rattle.addr_state.specs.declared.model.StateBundle.{StateBundle}
use Rattle.addr_state.specs.Rules.{texts_ascend, keeps_rules}
use Rattle.addr_reading.specs.Steps.{◌>>=◌, or_fault}

-- what passes a test
abbrev pub only_if : {A : Type 0} → Bool → A → Option A
only_if test x = if test then Some x else None

-- GUIDs
abbrev pub guids_of : Data → Option (List Guid)
guids_of d = list_of guid_in d

-- the members of a bundle, whatever they say
unfoldable pub bundle_read : StateErr → Members → Result StateBundle StateErr
bundle_read fault ms = do
  digest ← or_fault fault (required digest_in (codes "digest") ms)
  entries ← or_fault fault (required guids_of (codes "entries") ms)
  file ← or_fault fault (required as_str (codes "file") ms)
  group ← or_fault fault (required as_str (codes "group") ms)
  id ← or_fault fault (required as_str (codes "id") ms)
  name ← or_fault fault (required as_str (codes "name") ms)
  objects ← or_fault fault (required guids_of (codes "objects") ms)
  size ← or_fault fault (required size_of (codes "size") ms)
  Ok (record { name = name; file = file; id = id; group = group; digest = digest; size = size; entries = entries; objects = objects })

-- a bundle that keeps the rules behind those before it
unfoldable pub row_read : List StateBundle → Data → Result StateBundle StateErr
row_read before d = do
  ms ← or_fault (Row (length before)) (as_object d)
  b ← bundle_read (Row (length before)) ms
  or_fault (Row (length before)) (only_if (keeps_rules before b) b)

-- the bundles before, and those that the items are, up to the first that is none
unfoldable pub rows_read : List StateBundle → Items → Result (List StateBundle) StateErr
rows_read before no_items = Ok before
rows_read before (item d ds) = do
  b ← row_read before d
  rows_read (before ++ b ∷ []) ds

-- how many items an array has
abbrev pub items_count : Items → ℕ
items_count no_items = 0
items_count (item d ds) = items_count ds + 1

-- at most 65,536 bundles
abbrev pub few_items : Data → Option Items
few_items d = option_and_then (λ ds. only_if (nat_le (items_count ds) 65536) ds) (as_array d)

-- names that ascend
abbrev pub fixed_of : Data → Option (List (List ℕ))
fixed_of d = option_and_then (λ ts. only_if (texts_ascend ts) ts) (list_of as_str d)

-- the number 1
abbrev pub version_of : Data → Option ℕ
version_of d = option_and_then (λ n. only_if (n == 1) n) (size_of d)

-- the state that a value is: its top members first, and then its bundles
unfoldable pub value_read : Data → Result State StateErr
value_read tree = do
  ms ← or_fault Member (as_object tree)
  rows ← or_fault Member (required few_items (codes "bundles") ms)
  fixed ← or_fault Member (required fixed_of (codes "fixed") ms)
  version ← or_fault Member (required version_of (codes "version") ms)
  bundles ← rows_read [] rows
  Ok (record { bundles = bundles; fixed = fixed })

-- the state that bytes are
unfoldable pub state_read : List ℕ → Result State StateErr
state_read bytes = do
  tree ← or_fault Json (tree_of bytes)
  value_read tree
