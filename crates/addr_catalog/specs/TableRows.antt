-- What the rows of tables keep, which the lists that are made of them rest on.
use Rattle.std.specs.Prelude.{ℕ, ◌≡◌, ◌==◌, ◌<◌, ◌-◌, ◌^◌, List, length, min}
use Rattle.std.specs.List.{list_any, AllByRecursion}
use Rattle.std.specs.BTreeSet.{BTreeSet, contains}
use Rattle.std.specs.Ordering.{nat_cmp}
use Rattle.addr_base.specs.declared.ids.BundleNo.{BundleNo}
use Rattle.addr_tables.specs.Rows.{AreDistinct}
use Rattle.addr_tables.specs.declared.rows.Rows.{Rows}
use Rattle.addr_tables.specs.declared.rows.Tables.{Tables}
use Rattle.addr_catalog.specs.Inverted.{AreNumbersBelow}

-- there are few of each kind, a bucket stands beside each key, no key stands twice, and buckets hold entries
pub record AreTableRows (rows : Rows) : Type 0 where
  pub few_entries : length rows.entries < 2 ^ 31
  pub few_keys : length rows.keys < 2 ^ 31
  pub paired : length rows.buckets ≡ length rows.keys
  pub distinct : AreDistinct rows.keys
  pub placed : AllByRecursion (AreNumbersBelow (length rows.entries)) rows.buckets

-- the set has the numbers of the bundles, and no others
unfoldable pub HasNumbers : BTreeSet ℕ → List BundleNo → Type 0
HasNumbers seen found = (n : ℕ) → contains nat_cmp seen n ≡ list_any (λ b. b.0 == n) found

-- the same tables, with counts that fit four bytes: no number names what comes after those
abbrev pub capped : Tables → Tables
capped t = record t { internals = min t.internals (2 ^ 32 - 1); providers = min t.providers (2 ^ 32 - 1); kinds = min t.kinds (2 ^ 32 - 1) }
