-- What the map of names says.
use Rattle.std.specs.Prelude.{List, MatchOption}
use Rattle.std.specs.BTreeMap.{BTreeMap, get}
use Rattle.std.specs.Cmp.Lexicographic.{slice_cmp}
use Rattle.std.specs.List.{Contains}
use Rattle.std.specs.Ordering.{nat_cmp}
use Rattle.std.specs.declared.cmp.Ordering.{Ordering}
use Rattle.addr_base.specs.declared.ids.BundleNo.{BundleNo}
use Rattle.addr_base.specs.declared.ids.Digest.{Digest}
use Rattle.addr_locate.specs.declared.rows.BundleRow.{BundleRow}
use Rattle.addr_history.specs.Unfolding.{IsNamed, IsFirstNamed}

-- the bundles of a catalogue, and those of them that an operation needs
pub record NeededBundles : Type 0 where
  pub bundles : List BundleRow
  pub needs : List BundleNo

abbrev pub digest_cmp : Digest → Digest → Ordering
digest_cmp x y = slice_cmp nat_cmp x.0 y.0

-- under each digest stands the first of the needed bundles with that name, if one has it
abbrev pub AreHomes : List BundleRow → List BundleNo → BTreeMap Digest BundleNo → Type 0
AreHomes bundles needs by_name = (name : Digest) → MatchOption (get digest_cmp by_name name) ((b : BundleNo) → Contains needs b → IsNamed bundles name b → ⊥) (λ b. IsFirstNamed bundles needs name b)
