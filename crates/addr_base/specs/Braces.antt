-- Names in braces, which are put in at run time: a text is read from the left, and what was put in is not read again.
use Rattle.std.specs.Prelude.{ℕ, zero, suc, ◌+◌, ◌==◌, if◌then◌else◌, List, [], ◌∷◌, ◌++◌, length, find, Option, Some, None, option_map, option_and_then}
use Rattle.std.specs.Str.{bytes_eq}
use Rattle.addr_base.specs.declared.var.Var.{Var}

-- the bytes before the next `}` (125), where there is one
abbrev pub until_close : List ℕ → Option (List ℕ)
until_close [] = None
until_close (b ∷ rest) = if b == 125 then Some [] else option_map (λ bytes. b ∷ bytes) (until_close rest)

-- the first variable of that name
abbrev pub var_of : List Var → List ℕ → Option Var
var_of vars name = find (λ v. bytes_eq v.name name) vars

-- the variable whose name stands before the next `}`, if the byte before that name is a `{` (123)
abbrev pub var_behind : List Var → ℕ → List ℕ → Option Var
var_behind vars b rest = if b == 123 then option_and_then (var_of vars) (until_close rest) else None

-- what is put for a byte, and how many bytes behind it that stands for too: a name and its `}`, or none
abbrev pub put_for : ℕ → Option Var → List ℕ × ℕ
put_for b None = (b ∷ [], 0)
put_for b (Some v) = (v.value, length v.name + 1)

-- what is put for a text, of which so many bytes at its front are done
unfoldable pub braced_past : List Var → ℕ → List ℕ → List ℕ
braced_past vars n [] = []
braced_past vars zero (b ∷ rest) = (put_for b (var_behind vars b rest)).0 ++ braced_past vars (put_for b (var_behind vars b rest)).1 rest
braced_past vars (suc n) (b ∷ rest) = braced_past vars n rest

-- the text with each name in braces replaced by the value of the first variable of that name
abbrev pub braced : List Var → List ℕ → List ℕ
braced vars text = braced_past vars 0 text
