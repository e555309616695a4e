-- Seven numbers at the front of a list are an entry's fields.
use Rattle.std.proofs.Common.{◌≡◌, ℕ, ◌-◌, ◌*◌, ◌≤◌, List, [], ◌∷◌, length, get_or, take, drop, refl, sym, ap, ◌∙◌, arith}
use Rattle.std.proofs.lemmas.List.{take_rest}
use Rattle.addr_tables.specs.declared.parts.Fields.{Fields}
use Rattle.addr_tables.specs.Faults.{fields_of}

abbrev pub fields_at_front : List ℕ → Fields
fields_at_front xs = record {
  internal = get_or xs 0 0;
  provider = get_or xs 1 0;
  dep = get_or xs 2 0;
  dep_hash = get_or xs 3 0;
  extra = get_or xs 4 0;
  primary = get_or xs 5 0;
  kind = get_or xs 6 0;
}

front : (xs : List ℕ) → 7 ≤ length xs → fields_of xs ≡ fields_at_front xs ∷ fields_of (drop 7 xs)
unfolding fields_of
front [] h = absurd (omega arith)
front (a ∷ []) h = absurd (omega arith)
front (a ∷ b ∷ []) h = absurd (omega arith)
front (a ∷ b ∷ c ∷ []) h = absurd (omega arith)
front (a ∷ b ∷ c ∷ d ∷ []) h = absurd (omega arith)
front (a ∷ b ∷ c ∷ d ∷ e ∷ []) h = absurd (omega arith)
front (a ∷ b ∷ c ∷ d ∷ e ∷ f ∷ []) h = absurd (omega arith)
front (a ∷ b ∷ c ∷ d ∷ e ∷ f ∷ g ∷ rest) h = refl

pub fields_front : (xs : List ℕ) → 7 ≤ length xs → fields_of xs ≡ fields_at_front xs ∷ fields_of (take (length xs - 7) (drop 7 xs))
fields_front xs h = front xs h ∙ ap (λ (l : List ℕ). fields_at_front xs ∷ fields_of l) (sym (take_rest xs 7))

pub fields_few : (xs : List ℕ) → 7 * length (fields_of xs) ≤ length xs
unfolding fields_of
fields_few [] = omega arith
fields_few (a ∷ []) = omega arith
fields_few (a ∷ b ∷ []) = omega arith
fields_few (a ∷ b ∷ c ∷ []) = omega arith
fields_few (a ∷ b ∷ c ∷ d ∷ []) = omega arith
fields_few (a ∷ b ∷ c ∷ d ∷ e ∷ []) = omega arith
fields_few (a ∷ b ∷ c ∷ d ∷ e ∷ f ∷ []) = omega arith
fields_few (a ∷ b ∷ c ∷ d ∷ e ∷ f ∷ g ∷ rest) = omega (arith, fields_few rest)
