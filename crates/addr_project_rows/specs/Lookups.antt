-- Keys behind references, and a map that holds the place of each.
use Rattle.std.specs.Prelude.{ℕ, ◌≡◌, List, map}
use Rattle.std.specs.Borrow.{Bor}
use Rattle.std.specs.BTreeMap.{BTreeMap, get_by}
use Rattle.std.specs.Ordering.{nat_cmp}
use Rattle.std.specs.Cmp.Lexicographic.{slice_cmp}
use Rattle.addr_project_rows.specs.Firsts.{place_of}

-- the keys behind their references
abbrev pub keys_in : List (Bor (List ℕ)) → List (List ℕ)
keys_in keys = map (λ key. key.now) keys

-- the map has the place of each key, and of no other
abbrev pub HoldsPlaces : List (List ℕ) → BTreeMap (Bor (List ℕ)) ℕ → Type 0
HoldsPlaces keys places = (key : List ℕ) → get_by (λ k. slice_cmp nat_cmp key k.now) places ≡ place_of keys key
