-- Arrays by the numbers of assets: how many bundles have an asset, and whether it is an entry; what is made of them.
use Rattle.std.specs.Prelude.{ℕ, ◌≡◌, ◌+◌, ◌-◌, ◌*◌, ◌&&◌, nat_eq, nat_lt, not, Bool, false, List, [], length, slice_index_or}
use Rattle.std.specs.List.{count_by, list_any}
use Rattle.addr_layout.specs.declared.model.LayBundle.{LayBundle}
use Rattle.addr_project.specs.declared.model.Asset.{Asset}
use Rattle.addr_project.specs.declared.model.Entry.{Entry}
use Rattle.addr_project.specs.Model.{Project}
use Rattle.addr_analyze.specs.declared.duplicate.Duplicate.{Duplicate}

-- the bundle has the asset among its members
abbrev pub has_member : ℕ → LayBundle → Bool
has_member n lay = list_any (nat_eq n) lay.members

-- beside each asset stands how many bundles have it
pub record AreCounts (size : ℕ) (bundles : List LayBundle) (counts : List ℕ) : Type 0 where
  pub as_many : length counts ≡ size
  pub each : (n : ℕ) → slice_index_or counts n 0 ≡ count_by (has_member n) bundles

-- each count is greater by how often its number is listed
abbrev pub IsCounted : List ℕ → List ℕ → List ℕ → Type 0
IsCounted old listed new = (n : ℕ) → slice_index_or new n 0 ≡ slice_index_or old n 0 + count_by (nat_eq n) listed

-- an entry's asset has the number
abbrev pub is_of : ℕ → Entry → Bool
is_of n e = nat_eq e.asset n

-- beside each asset stands whether one of the entries is of it
pub record AreMarks (size : ℕ) (entries : List Entry) (marks : List Bool) : Type 0 where
  pub as_many : length marks ≡ size
  pub set : (n : ℕ) → slice_index_or marks n false ≡ list_any (is_of n) entries

-- an asset is no entry and has two copies at least
abbrev pub is_copied : List ℕ → List Bool → ℕ → Bool
is_copied counts marks n = not (slice_index_or marks n false) && nat_lt 1 (slice_index_or counts n 0)

abbrev pub no_asset : Asset
no_asset = record { guid = record { 0 = [] }; kind = []; bytes = []; refs = [] }

-- an asset and its count as a duplicate
abbrev pub duplicate_of : ℕ → Asset → ℕ → Duplicate
duplicate_of n asset count = record { asset = n; guid = asset.guid; bundles = count; wasted = (count - 1) * length asset.bytes }

abbrev pub duplicate_at : Project → List ℕ → ℕ → Duplicate
duplicate_at p counts n = duplicate_of n (slice_index_or p.assets n no_asset) (slice_index_or counts n 0)
