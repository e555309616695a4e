-- A set of written forms, which tells whether a key was there before.
use Rattle.std.specs.Prelude.{◌≡◌, ℕ, List, bytes_eq}
use Rattle.std.specs.List.{list_any}
use Rattle.std.specs.Ordering.{nat_cmp}
use Rattle.std.specs.declared.cmp.Ordering.{Ordering}
use Rattle.std.specs.Cmp.Lexicographic.{slice_cmp}
use Rattle.std.specs.Global.{Vec}
use Rattle.std.specs.BTreeSet.{BTreeSet, contains}
use Rattle.addr_keys.specs.declared.key.Key.{Key}
use Rattle.addr_keys.specs.Format.{key_text}

-- the order of the forms, byte by byte
abbrev pub form_cmp : Vec ℕ → Vec ℕ → Ordering
form_cmp a b = slice_cmp nat_cmp a.items b.items

-- the set has the written forms of the keys, and no others
unfoldable pub HasForms : BTreeSet (Vec ℕ) → List Key → Type 0
HasForms seen keys = (form : Vec ℕ) → contains form_cmp seen form ≡ list_any (λ key. bytes_eq form.items (key_text key)) keys
