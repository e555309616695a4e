-- What `analyze` prints of duplicates. Each line ends with a line feed (10), and a space (32) parts its fields.
use Rattle.std.specs.Prelude.{ℕ, List, [], ◌∷◌, ◌++◌, length, codes, decimal}
use Rattle.std.specs.List.{flat_map, sum_by}
use Rattle.addr_analyze.specs.declared.duplicate.Duplicate.{Duplicate}
use Rattle.addr_base.specs.Ids.{hex_of}

-- the 32 digits of the asset's GUID, how many bundles it is copied into, and the bytes of all copies but one
abbrev pub duplicate_line : Duplicate → List ℕ
duplicate_line d = codes "duplicate " ++ (hex_of d.guid.0 ++ 32 ∷ (decimal d.bundles ++ 32 ∷ (decimal d.wasted ++ 10 ∷ [])))

-- how many duplicates there are, and what they waste together
abbrev pub total_line : List Duplicate → List ℕ
total_line found = codes "analyze " ++ (decimal (length found) ++ 32 ∷ (decimal (sum_by (λ d. d.wasted) found) ++ 10 ∷ []))

-- a line for each duplicate, and one for all of them
abbrev pub analyze_text : List Duplicate → List ℕ
analyze_text found = flat_map duplicate_line found ++ total_line found
