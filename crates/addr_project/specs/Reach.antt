-- What a project shows under a key. No bundle stands in it: builds and updates are proved against it.
use Rattle.std.specs.Prelude.{ℕ, ◌≡◌, not, List, [], ◌∷◌, Bool, false, Option, Some, None}
use Rattle.std.specs.List.{filter, slice_get, Contains, AllZip}
use Rattle.std.specs.Ordering.{nat_cmp}
use Rattle.std.specs.Cmp.Lexicographic.{slice_cmp}
use Rattle.std.specs.Str.{bytes_eq}
use Rattle.std.specs.declared.cmp.Ordering.{Ordering}
use Rattle.addr_base.specs.Ids.{hex_of}
use Rattle.addr_base.specs.declared.ids.Guid.{Guid}
use Rattle.addr_project.specs.declared.model.Asset.{Asset}
use Rattle.addr_project.specs.declared.model.Entry.{Entry}
use Rattle.addr_project.specs.Model.{Project}
use Rattle.addr_project_rows.specs.Firsts.{is_among}
use Rattle.addr_walks.specs.Walks.{Leads, IsListOf}

-- the order of GUIDs is that of their bytes
abbrev pub guid_cmp : Guid → Guid → Ordering
guid_cmp x y = slice_cmp nat_cmp x.0 y.0

-- the asset of a GUID refers to another GUID
abbrev pub Refers : Project → Guid → Guid → Type 0
Refers p x y = (asset : Asset) × Contains p.assets asset × (asset.guid ≡ x) × Contains asset.refs y

-- a walk of references leads from one asset to another, or to itself
abbrev pub Reaches : Project → Guid → Guid → Type 0
Reaches p from to = Leads (Refers p) from to

-- an asset as it is loaded: its GUID, its bytes, and the GUIDs that it refers to
pub record Item : Type 0 where
  pub guid : Guid
  pub bytes : List ℕ
  pub refs : List Guid

-- an asset as an item
abbrev pub item_of : Asset → Item
item_of asset = record { guid = asset.guid; bytes = asset.bytes; refs = asset.refs }

-- items are ordered by their GUIDs
abbrev pub item_cmp : Item → Item → Ordering
item_cmp x y = guid_cmp x.guid y.guid

-- an item is an asset of the project that is reached from a GUID
abbrev pub IsReached : Project → Guid → Item → Type 0
IsReached p from i = (asset : Asset) × Contains p.assets asset × Reaches p from asset.guid × (i ≡ item_of asset)

-- the items of all assets that are reached, in the order of their GUIDs
abbrev pub Reach : Project → Guid → List Item → Type 0
Reach p from items = IsListOf item_cmp (IsReached p from) items

-- a row of an answer: an asset's GUID and type, and the items that it needs
pub record Row : Type 0 where
  pub guid : Guid
  pub kind : List ℕ
  pub items : List Item

-- texts, each once, where it stands first
abbrev pub each_once : List (List ℕ) → List (List ℕ)
each_once [] = []
each_once (text ∷ texts) = text ∷ filter (λ other. not (bytes_eq other text)) (each_once texts)

-- the keys of an entry in order: its address, the 32 digits of its asset's GUID, and its labels, each once
abbrev pub entry_keys : Entry → Asset → List (List ℕ)
entry_keys e asset = each_once (e.address ∷ hex_of asset.guid.0 ∷ e.labels)

-- a key leads to an entry where it is one of the entry's keys
abbrev pub has_key : List ℕ → Entry → Option Asset → Bool
has_key key e (Some asset) = is_among (entry_keys e asset) key
has_key key e None = false

-- an entry of the project has the key
abbrev pub is_under : Project → List ℕ → Entry → Bool
is_under p key e = has_key key e (slice_get p.assets e.asset)

-- what an entry shows
abbrev pub ShowsEntry : Project → Entry → Row → Type 0
ShowsEntry p e row = (asset : Asset) × (slice_get p.assets e.asset ≡ Some asset) × (row.guid ≡ asset.guid) × (row.kind ≡ asset.kind) × Reach p asset.guid row.items

-- the rows under a key, in the order of the entries that have it
abbrev pub Shown : Project → List ℕ → List Row → Type 0
Shown p key shown = AllZip (ShowsEntry p) (filter (is_under p key) p.entries) shown
