-- The modes of groups by their words.
use Rattle.std.specs.Prelude.{codes, ℕ, List, if◌then◌else◌, Option, Some, None}
use Rattle.std.specs.Str.{bytes_eq}
use Rattle.toml.specs.Data.{Data, string}
use Rattle.addr_project.specs.declared.model.Mode.{Mode}
use Rattle.addr_project.specs.declared.model.Mode.TheVariants.{Together, Separate, Label}

-- a mode by its word
abbrev pub mode_from : List ℕ → Option Mode
mode_from s =
    if bytes_eq s (codes "together") then Some Together
    else if bytes_eq s (codes "separate") then Some Separate
    else if bytes_eq s (codes "label") then Some Label
    else None

-- a mode, whose word is a text
abbrev pub mode_of : Data → Option Mode
mode_of (string s) = mode_from s
mode_of _ = None
