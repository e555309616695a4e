-- What `check` prints of the entries that an update would move. Each line ends with a line feed (10); a space (32) parts its fields.
use Rattle.std.specs.Prelude.{ℕ, ◌++◌, List, [], ◌∷◌, codes, decimal, length}
use Rattle.std.specs.List.{flat_map}
use Rattle.addr_base.specs.Ids.{hex_of}
use Rattle.addr_update.specs.declared.model.Move.{Move}
use Rattle.addr_update.specs.declared.model.Why.{Why}
use Rattle.addr_update.specs.declared.model.Why.TheVariants.{Before, Unknown, Changed, Led}

-- why an entry moves
abbrev pub why_text : Why → List ℕ
why_text Before = codes "before"
why_text Unknown = codes "unknown"
why_text (Changed guid) = codes "changed " ++ hex_of guid.0
why_text (Led guid) = codes "led " ++ hex_of guid.0

-- an entry that moves, by the GUID of its asset
abbrev pub move_line : Move → List ℕ
move_line m = codes "moved " ++ (hex_of m.guid.0 ++ 32 ∷ (why_text m.why ++ 10 ∷ []))

-- a line for each, and one with their number
abbrev pub moves_text : List Move → List ℕ
moves_text moves = flat_map move_line moves ++ (codes "check " ++ (decimal (length moves) ++ 10 ∷ []))
