-- Reading the entries of a catalogue, each by its place.
use Rattle.std.specs.Prelude.{ℕ, ◌+◌, List, [], ◌∷◌, Result, Ok}
use Rattle.addr_reading.specs.Steps.{◌>>=◌}
use Rattle.addr_catalog.specs.declared.error.CatErr.{CatErr}

-- what each of a list is read as, in order and from a place on; the first fault decides
unfoldable pub read_each : {A B : Type 0} → (ℕ → A → Result B CatErr) → ℕ → List A → Result (List B) CatErr
read_each read place [] = Ok []
read_each read place (x ∷ xs) = do
  first ← read place x
  rest ← read_each read (place + 1) xs
  Ok (first ∷ rest)
