-- Which asset rows some keys lead to, and which bundles these rows need. Rows stand in the order of the catalogue.
use Rattle.std.specs.Prelude.{◌==◌, Bool, true, false, ◌&&◌, not, List, [], ◌∷◌, Option, Some, None, map, filter, slice_get}
use Rattle.std.specs.Option.{option_map_or}
use Rattle.std.specs.List.{list_any, list_all, enumerate_from, flat_map}
use Rattle.addr_base.specs.declared.ids.BundleNo.{BundleNo}
use Rattle.addr_base.specs.declared.ids.KeyNo.{KeyNo}
use Rattle.addr_base.specs.declared.ids.RowNo.{RowNo}
use Rattle.addr_locate.specs.declared.rows.AssetRow.{AssetRow}
use Rattle.addr_locate.specs.declared.rows.Kind.{Kind}
use Rattle.addr_locate.specs.declared.rows.Kind.TheVariants.{Any, Known, Unknown}
use Rattle.addr_locate.specs.declared.rows.Merge.{Merge}
use Rattle.addr_locate.specs.declared.rows.Merge.TheVariants.{UseFirst, Union, Intersection}

-- whether the row is of the asked kind; no row is of an unknown one
abbrev pub is_kind : Kind → AssetRow → Bool
is_kind Any row = true
is_kind (Known t) row = row.kind.0 == t.0
is_kind Unknown row = false

-- whether the row has the key; no row has an unknown one
abbrev pub has_key : Option KeyNo → AssetRow → Bool
has_key None row = false
has_key (Some key) row = list_any (λ k. k.0 == key.0) row.keys

-- whether the row has the key and is of the asked kind
abbrev pub is_match : Kind → Option KeyNo → AssetRow → Bool
is_match kind key row = has_key key row && is_kind kind row

-- the numbers of the rows that pass a test, in the order of the rows
abbrev pub rows_where : (AssetRow → Bool) → List AssetRow → List RowNo
rows_where test rows = map (λ p. record { 0 = p.0 }) (filter (λ p. test p.1) (enumerate_from 0 rows))

-- the first list that isn't empty
abbrev pub first_filled : List (List RowNo) → List RowNo
first_filled [] = []
first_filled ([] ∷ more) = first_filled more
first_filled ((r ∷ rows) ∷ more) = r ∷ rows

-- whether there is no key
abbrev pub has_none : List (Option KeyNo) → Bool
has_none [] = true
has_none (k ∷ keys) = false

-- the rows that the keys lead to: those of the first key that has any, those of some key, or those of each key of some keys
unfoldable pub merged : List AssetRow → List (Option KeyNo) → Merge → Kind → List RowNo
merged rows keys UseFirst kind = first_filled (map (λ key. rows_where (is_match kind key) rows) keys)
merged rows keys Union kind = rows_where (λ row. list_any (λ key. is_match kind key row) keys) rows
merged rows keys Intersection kind = rows_where (λ row. not (has_none keys) && list_all (λ key. is_match kind key row) keys) rows

-- each bundle once, where it stands first
abbrev pub distinct : List BundleNo → List BundleNo
distinct [] = []
distinct (b ∷ bs) = b ∷ filter (λ c. not (c.0 == b.0)) (distinct bs)

-- the bundles of the row with that number, if there is one
abbrev pub deps_of_row : List AssetRow → RowNo → List BundleNo
deps_of_row rows row = option_map_or (λ a. a.deps) (slice_get rows row.0) []

-- the distinct bundles of the rows, in order of first occurrence
unfoldable pub deps_of : List AssetRow → List RowNo → List BundleNo
deps_of rows numbers = distinct (flat_map (deps_of_row rows) numbers)
