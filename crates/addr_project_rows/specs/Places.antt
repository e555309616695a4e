-- An index of keys: the place of each key, found by its bytes.
use Rattle.std.specs.Prelude.{ℕ, ◌≡◌, List, Some, None}
use Rattle.addr_project_rows.specs.declared.index.Index.{Index}
use Rattle.addr_project_rows.specs.declared.index.Indexed.{Indexed}
use Rattle.addr_project_rows.specs.declared.index.Indexed.TheVariants.{Whole, Repeat}
use Rattle.addr_project_rows.specs.Firsts.{first_repeat}
use Rattle.addr_project_rows.specs.Lookups.{keys_in}

-- the keys of an index
abbrev pub index_keys : Index → List (List ℕ)
index_keys index = keys_in index.keys.items

-- the index of some keys of which none is repeated, or the first row whose key repeats an earlier one
abbrev pub Indexes : List (List ℕ) → Indexed → Type 0
Indexes keys (Whole index) = (first_repeat keys ≡ None) × (index_keys index ≡ keys)
Indexes keys (Repeat row) = first_repeat keys ≡ Some row
