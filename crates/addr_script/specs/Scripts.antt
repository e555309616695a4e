-- Which bytes are a script, and which line of other bytes is the first bad one.
use Rattle.std.specs.Prelude.{ℕ, ◌≡◌, ◌≤◌, ◌-◌, List, [], ◌∷◌, ◌++◌, Option, Some, None, Result, Ok, Err, IfSome, length, map, take, codes, decimal}
use Rattle.std.specs.List.{AllByRecursion}
use Rattle.addr_base.specs.declared.var.Var.{Var}
use Rattle.addr_script.specs.Commands.{set_line, spell, IsOf, IsSet}
use Rattle.addr_script.specs.declared.command.Command.{Command}
use Rattle.addr_script.specs.declared.command.Grammar.{Grammar}
use Rattle.addr_fields.specs.Lines.{lines_of}
use Rattle.addr_script.specs.declared.error.ScriptErr.{ScriptErr}
use Rattle.addr_script.specs.declared.error.ScriptErr.TheVariants.{Line, NoMemory}

-- a script: the most events of its journal, where its first line says so, the variables that it sets, and its commands, in order
pub record Script : Type 0 where
  pub limit : Option ℕ
  pub vars : List Var
  pub commands : List Command

-- a limit of the journal: from 1 to 1,000,000 events
abbrev pub IsLimit : ℕ → Type 0
IsLimit n = (1 ≤ n) × (n ≤ 1000000)

-- the first line of a script that has a limit
abbrev pub limit_lines : Option ℕ → List (List ℕ)
limit_lines None = []
limit_lines (Some n) = (codes "limit " ++ decimal n) ∷ []

-- the lines behind that of the limit: those that set variables, and then those of the commands
abbrev pub body_lines : List Var → List Command → List (List ℕ)
body_lines vars commands = map set_line vars ++ map spell commands

-- the lines are a script's for whoever plays it: the one of its limit, where it has one, those that set variables, and those of its commands; 100,000 at most
pub record IsScript (g : Grammar) (lines : List (List ℕ)) (script : Script) : Type 0 where
  pub spelled : lines ≡ limit_lines script.limit ++ body_lines script.vars script.commands
  pub limit : IfSome script.limit IsLimit
  pub vars : AllByRecursion IsSet script.vars
  pub commands : AllByRecursion (IsOf g) script.commands
  pub few : length lines ≤ 100000

-- line n, from 1, is the first bad one: the lines before it are a script's, and together with it they are none's
pub record IsFirstBad (g : Grammar) (lines : List (List ℕ)) (n : ℕ) : Type 0 where
  pub there : n ≤ length lines
  pub before : (script : Script) × IsScript g (take (n - 1) lines) script
  pub bad : (script : Script) → IsScript g (take n lines) script → ⊥

-- what bytes are read as
abbrev pub ReadsScript : Grammar → List ℕ → Result Script ScriptErr → Type 0
ReadsScript g bytes (Ok script) = IsScript g (lines_of bytes) script
ReadsScript g bytes (Err (Line n)) = IsFirstBad g (lines_of bytes) n
ReadsScript g bytes (Err NoMemory) = Unit {0}
