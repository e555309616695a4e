-- Lists: the items of an array as a list, and the parts of a name behind their references.
use Rattle.std.proofs.Common.{◌≡◌, ℕ, ◌&&◌, Bool, List, [], ◌∷◌, map, Bor, refl, ap}
use Rattle.std.specs.List.{list_all}
use Rattle.toml.specs.Data.{Data}
use Rattle.toml.specs.View.{view, items_of, items_view}
use Rattle.toml.specs.declared.value.Value.{Value}
use Rattle.addr_project_rows.specs.Fields.{items_list, is_part}

pub items_list_of : (ds : List Data) → items_list (items_of ds) ≡ ds
items_list_of [] = refl
items_list_of (d ∷ ds) = ap (λ (l : List Data). d ∷ l) (items_list_of ds)

pub items_list_view : (vs : List Value) → items_list (items_view vs) ≡ map view vs
items_list_view vs = items_list_of (map view vs)

-- a test of each part behind its reference
pub all_parts : (parts : List (Bor (List ℕ))) → list_all is_part (map (λ part. part.now) parts) ≡ list_all (λ part. is_part part.now) parts
all_parts [] = refl
all_parts (x ∷ xs) = ap (λ (b : Bool). is_part x.now && b) (all_parts xs)
