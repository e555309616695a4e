-- Keys of ordered maps that are seen as lists of numbers, and the place that a map keeps for each.
use Rattle.std.specs.Prelude.{◌≡◌, ℕ, List, map, position}
use Rattle.std.specs.BTreeMap.{BTreeMap, get}
use Rattle.std.specs.Str.{bytes_eq}
use Rattle.std.specs.declared.cmp.Ordering.{Ordering}

-- the map has for each key the first place where its list stands, and no other key
abbrev pub HasPlaces : {K : Type 0} → (K → K → Ordering) → (K → List ℕ) → List K → BTreeMap K ℕ → Type 0
HasPlaces {K} cmp list keys places = (q : K) → get cmp places q ≡ position (λ t. bytes_eq t (list q)) (map list keys)
