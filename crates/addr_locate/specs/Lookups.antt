-- An ordered map of texts: which texts it has. And an ordered set of bundles' numbers.
use Rattle.std.specs.Prelude.{◌≡◌, ◌==◌, ℕ, List, is_some}
use Rattle.std.specs.Borrow.{Bor}
use Rattle.std.specs.List.{list_any}
use Rattle.std.specs.Ordering.{nat_cmp}
use Rattle.std.specs.Str.{bytes_eq}
use Rattle.std.specs.Cmp.Lexicographic.{slice_cmp}
use Rattle.std.specs.BTreeMap.{BTreeMap, get_by}
use Rattle.std.specs.BTreeSet.{BTreeSet, contains}
use Rattle.addr_base.specs.declared.ids.BundleNo.{BundleNo}
use Rattle.addr_locate.specs.Merge.{distinct}

-- the map has exactly these texts
abbrev pub HoldsTexts : {X : Type 0} → List (List ℕ) → BTreeMap (Bor (List ℕ)) X → Type 0
HoldsTexts texts seen = (text : List ℕ) → is_some (get_by (λ k. slice_cmp nat_cmp text k.now) seen) ≡ list_any (λ t. bytes_eq t text) texts

-- the set has the numbers of the bundles, and no others
unfoldable pub HasNumbers : BTreeSet ℕ → List BundleNo → Type 0
HasNumbers seen found = (n : ℕ) → contains nat_cmp seen n ≡ list_any (λ b. b.0 == n) found

-- each of the bundles is found once, where it stands first, and the set has exactly their numbers
pub record AreFound (bundles found : List BundleNo) (seen : BTreeSet ℕ) : Type 0 where
  pub once : found ≡ distinct bundles
  pub has : HasNumbers seen found
