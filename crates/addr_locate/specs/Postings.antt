-- The rows of each key, listed beside the rows.
use Rattle.std.specs.Prelude.{ℕ, ◌≡◌, ◌==◌, Bool, true, false, ◌&&◌, not, List, [], ◌∷◌, length, map, filter, Option, Some, None, slice_get, unwrap_or}
use Rattle.std.specs.List.{list_any, list_all}
use Rattle.std.specs.Option.{option_map_or}
use Rattle.addr_base.specs.declared.ids.KeyNo.{KeyNo}
use Rattle.addr_base.specs.declared.ids.RowNo.{RowNo}
use Rattle.addr_locate.specs.declared.rows.AssetRow.{AssetRow}
use Rattle.addr_locate.specs.declared.rows.Kind.{Kind}
use Rattle.addr_locate.specs.Merge.{is_kind, has_key, is_match, has_none, rows_where}
use Rattle.addr_locate.specs.Rows.{Rows, AreRows}

-- no key stands twice
abbrev pub no_key_twice : List KeyNo → Bool
no_key_twice [] = true
no_key_twice (k ∷ ks) = not (list_any (λ c. c.0 == k.0) ks) && no_key_twice ks

-- whether the row with that number is of the asked kind
abbrev pub is_kind_at : Kind → List AssetRow → RowNo → Bool
is_kind_at kind rows row = option_map_or (is_kind kind) (slice_get rows row.0) false

-- the rows that are listed for a key; none for a number that is no key's
abbrev pub listed : List (List RowNo) → Option KeyNo → List RowNo
listed postings None = []
listed postings (Some key) = unwrap_or (slice_get postings key.0) []

-- the numbers of the rows of a key that are of the asked kind
abbrev pub numbers_of_key : Kind → List AssetRow → List (List RowNo) → Option KeyNo → List ℕ
numbers_of_key kind rows postings key = map (λ r. r.0) (filter (is_kind_at kind rows) (listed postings key))

-- whether there is a key and the row matches each
abbrev pub has_each : Kind → List (Option KeyNo) → AssetRow → Bool
has_each kind keys row = not (has_none keys) && list_all (λ key. is_match kind key row) keys

-- for each key exactly the rows that have it are listed, in the order of the rows
abbrev pub ListsRows : List AssetRow → List (List RowNo) → Type 0
ListsRows rows postings = (key : Option KeyNo) → listed postings key ≡ rows_where (has_key key) rows

-- the same while the lists are made, for each key below a number
pub record ArePostings (rows : List AssetRow) (count : ℕ) (postings : List (List RowNo)) : Type 0 where
  pub many : length postings ≡ count
  pub each : (key : KeyNo) (found : List RowNo) → slice_get postings key.0 ≡ Some found → found ≡ rows_where (has_key (Some key)) rows

-- what a locator keeps: its rows are sound, and the rows of each key are listed
pub record IsLocator (rows : Rows) (postings : List (List RowNo)) : Type 0 where
  pub are : AreRows rows
  pub posted : ListsRows rows.assets postings
