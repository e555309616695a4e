-- The parts of a script: its limit, the lines of its commands, and where the reading ends; and the parts of a load's line.
use Rattle.std.specs.Prelude.{ℕ, ◌≡◌, ◌≤◌, ◌<◌, ◌+◌, Bool, List, ◌∷◌, ◌++◌, Option, Some, None, Result, Ok, Err, IfSome, length, map, codes}
use Rattle.std.specs.List.{AllByRecursion}
use Rattle.addr_base.specs.declared.var.Var.{Var}
use Rattle.addr_locate.specs.declared.rows.Merge.{Merge}
use Rattle.addr_script.specs.Commands.{asked_keys_field, kind_field, mode_word, one_or_all, set_line, spell, AreKeys, IsKind, IsNone, IsOf, IsSet}
use Rattle.addr_script.specs.Scripts.{IsLimit, ReadsScript, Script, limit_lines}
use Rattle.addr_fields.specs.Fields.{IsCut, IsNumberThen}
use Rattle.addr_fields.specs.Lines.{lines_of}
use Rattle.addr_script.specs.declared.command.Command.{Command}
use Rattle.addr_script.specs.declared.command.Grammar.{Grammar}
use Rattle.addr_script.specs.declared.error.ScriptErr.{ScriptErr}
use Rattle.addr_script.specs.declared.error.ScriptErr.TheVariants.{Line, NoMemory}

-- the line of a load: its caller, three words with a space behind each, and the rest
abbrev pub IsLoadLine : List ℕ → ℕ → List ℕ → List ℕ → List ℕ → List ℕ → Type 0
IsLoadLine line caller all mode kind keys = (a b c d : List ℕ) × (line ≡ codes "load " ++ a) × IsNumberThen a caller b × IsCut 32 b all c × IsCut 32 c mode d × IsCut 32 d kind keys

-- the line that sets a variable: the fields of its name and of its value
abbrev pub IsSetLine : List ℕ → List ℕ → List ℕ → Type 0
IsSetLine line name value = (a : List ℕ) × (line ≡ codes "set " ++ a) × IsCut 32 a name value

-- the words say whether all rows are asked for, how keys are joined, of which type, and which keys
pub record SaysAsk (all mode kind keys : List ℕ) (asked_all : Bool) (asked_mode : Merge) (asked_kind : Option (List ℕ)) (asked_keys : List (List ℕ)) : Type 0 where
  pub which : all ≡ one_or_all asked_all
  pub join : mode ≡ mode_word asked_mode
  pub type : kind ≡ kind_field asked_kind
  pub field : keys ≡ asked_keys_field asked_keys
  pub is_kind : IsKind asked_kind
  pub are_keys : AreKeys asked_keys

-- the lines are those that spell the commands
pub record AreCommands (g : Grammar) (lines : List (List ℕ)) (commands : List Command) : Type 0 where
  pub spelled : lines ≡ map spell commands
  pub each : AllByRecursion (IsOf g) commands

-- the lines begin with the one of the limit, or there is no limit and the first line is no limit's
pub record HasLimit (lines : List (List ℕ)) (limit : Option ℕ) (rest : List (List ℕ)) : Type 0 where
  pub whole : lines ≡ limit_lines limit ++ rest
  pub small : IfSome limit IsLimit
  pub none : limit ≡ None → (n : ℕ) (more : List (List ℕ)) → IsLimit n → lines ≡ limit_lines (Some n) ++ more → ⊥

-- the lines, of which the first is line n of the whole, begin with those that set variables; no other such line follows within the first 100,000
pub record HasSets (lines : List (List ℕ)) (n : ℕ) (vars : List Var) (rest : List (List ℕ)) (next : ℕ) : Type 0 where
  pub whole : lines ≡ map set_line vars ++ rest
  pub each : AllByRecursion IsSet vars
  pub place : next ≡ n + length vars
  pub few : next ≤ 100001
  pub none : next ≤ 100000 → (v : Var) (more : List (List ℕ)) → IsSet v → rest ≡ set_line v ∷ more → ⊥

-- among lines of which the first is line n of the whole, one line is the first bad one: behind lines of commands, and itself none's or past the end
pub record IsBadFrom (g : Grammar) (lines : List (List ℕ)) (n bad : ℕ) : Type 0 where
  pub commands : List Command
  pub line : List ℕ
  pub after : List (List ℕ)
  pub split : lines ≡ map spell commands ++ line ∷ after
  pub each : AllByRecursion (IsOf g) commands
  pub place : bad ≡ n + length commands
  pub wrong : bad ≤ 100000 → IsNone g line
  pub few : bad ≤ 100001

-- what lines are read as where the first of them is line n of the whole: all commands, or the first bad line
abbrev pub ReadsFrom : Grammar → List ℕ → ℕ → Result (List Command) ScriptErr → Type 0
ReadsFrom g bytes n (Ok commands) = AreCommands g (lines_of bytes) commands × (n + length commands ≤ 100001)
ReadsFrom g bytes n (Err (Line bad)) = IsBadFrom g (lines_of bytes) n bad
ReadsFrom g bytes n (Err NoMemory) = Unit {0}

-- what bytes are read as whose head is this, where the lines behind it are read so
abbrev pub script_with : Option ℕ → List Var → Result (List Command) ScriptErr → Result Script ScriptErr
script_with limit vars (Ok commands) = Ok (record { limit = limit; vars = vars; commands = commands })
script_with limit vars (Err e) = Err e

-- bytes begin with a script's head, and line n and those behind it are the rest: however these are read, so are the bytes
abbrev pub BeginsScript : List ℕ → Option ℕ → List Var → List ℕ → ℕ → Type 0
BeginsScript bytes limit vars rest n = (g : Grammar) (read : Result (List Command) ScriptErr) → ReadsFrom g rest n read → ReadsScript g bytes (script_with limit vars read)

-- the first line, which is line n of the whole, is a command's
pub record IsNextCommand (g : Grammar) (bytes : List ℕ) (n : ℕ) (command : Command) (after : List ℕ) : Type 0 where
  pub is : IsOf g command
  pub line : lines_of bytes ≡ spell command ∷ lines_of after
  pub few : n ≤ 100000
  pub shorter : length after < length bytes

-- the first line, which is line n of the whole, is none's or stands past the end
pub record IsNoneNext (g : Grammar) (bytes : List ℕ) (n : ℕ) : Type 0 where
  pub line : List ℕ
  pub after : List (List ℕ)
  pub split : lines_of bytes ≡ line ∷ after
  pub wrong : n ≤ 100000 → IsNone g line

-- why the first line isn't a command's
abbrev pub IsBadNext : Grammar → List ℕ → ℕ → ScriptErr → Type 0
IsBadNext g bytes n (Line bad) = (bad ≡ n) × IsNoneNext g bytes n
IsBadNext g bytes n NoMemory = Unit {0}
