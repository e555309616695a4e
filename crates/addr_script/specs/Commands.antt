-- The commands of a script, each as the one line that spells it. One space (32) parts the fields of a line.
use Rattle.std.specs.Prelude.{ℕ, ◌≡◌, ◌≢◌, ◌<◌, ◌^◌, ◌==◌, Bool, true, false, List, [], ◌∷◌, ◌++◌, Option, Some, None, map, length, codes, decimal}
use Rattle.std.specs.List.{AllByRecursion, join_with_byte}
use Rattle.std.specs.Str.{IsUtf8}
use Rattle.addr_base.specs.Tokens.{token_of}
use Rattle.addr_base.specs.declared.var.Var.{Var}
use Rattle.addr_locate.specs.declared.rows.Merge.{Merge}
use Rattle.addr_locate.specs.declared.rows.Merge.TheVariants.{UseFirst, Union, Intersection}
use Rattle.addr_script.specs.Causes.{cause_text, IsGivenCause}
use Rattle.addr_script.specs.declared.command.Command.{Command}
use Rattle.addr_script.specs.declared.command.Grammar.{Grammar}
use Rattle.addr_script.specs.declared.command.Grammar.TheVariants.{Simulate, Load as Live}
use Rattle.addr_script.specs.declared.command.Command.TheVariants.{Load, Acquire, Release, Status, Wait, References, Read, ReadAll, Count, Close, Take, Done, Fail}

abbrev pub one_or_all : Bool → List ℕ
one_or_all false = codes "one"
one_or_all true = codes "all"

abbrev pub mode_word : Merge → List ℕ
mode_word UseFirst = codes "first"
mode_word Union = codes "union"
mode_word Intersection = codes "inter"

-- the token of a type, or the mark of any type
abbrev pub kind_field : Option (List ℕ) → List ℕ
kind_field None = codes "%*"
kind_field (Some kind) = token_of kind

-- the tokens of the keys, with a comma (44) between each two
abbrev pub asked_keys_field : List (List ℕ) → List ℕ
asked_keys_field keys = join_with_byte 44 (map token_of keys)

abbrev pub spell : Command → List ℕ
spell (Load caller all mode kind keys) = codes "load " ++ (decimal caller ++ 32 ∷ (one_or_all all ++ 32 ∷ (mode_word mode ++ 32 ∷ (kind_field kind ++ 32 ∷ asked_keys_field keys))))
spell (Acquire caller op) = codes "acquire " ++ (decimal caller ++ 32 ∷ decimal op.0)
spell (Release caller op) = codes "release " ++ (decimal caller ++ 32 ∷ decimal op.0)
spell (Status op) = codes "status " ++ decimal op.0
spell (Wait op) = codes "wait " ++ decimal op.0
spell (References op) = codes "refs " ++ decimal op.0
spell (Read op i) = codes "read " ++ (decimal op.0 ++ 32 ∷ decimal i)
spell (ReadAll op i) = codes "readall " ++ (decimal op.0 ++ 32 ∷ decimal i)
spell (Count b) = codes "count " ++ decimal b.0
spell Close = codes "close"
spell (Take worker) = codes "take " ++ decimal worker
spell (Done worker b) = codes "done " ++ (decimal worker ++ 32 ∷ decimal b.0)
spell (Fail worker b cause) = codes "fail " ++ (decimal worker ++ 32 ∷ (decimal b.0 ++ 32 ∷ cause_text cause))

-- one text or more
abbrev pub AreTexts : List (List ℕ) → Type 0
AreTexts texts = (texts ≢ []) × AllByRecursion IsUtf8 texts

-- one key or more, and so few that a place among them is a number below 2 to the 32nd
abbrev pub AreKeys : List (List ℕ) → Type 0
AreKeys keys = AreTexts keys × (length keys < 2 ^ 32)

-- a type that a load may ask for: any, or one that has a text
abbrev pub IsKind : Option (List ℕ) → Type 0
IsKind None = Unit {0}
IsKind (Some kind) = IsUtf8 kind

-- the commands that a script may have: numbers below 2 to the 32nd, and texts in UTF-8
abbrev pub IsCommand : Command → Type 0
IsCommand (Load caller all mode kind keys) = (caller < 2 ^ 32) × IsKind kind × AreKeys keys
IsCommand (Acquire caller op) = (caller < 2 ^ 32) × (op.0 < 2 ^ 32)
IsCommand (Release caller op) = (caller < 2 ^ 32) × (op.0 < 2 ^ 32)
IsCommand (Status op) = op.0 < 2 ^ 32
IsCommand (Wait op) = op.0 < 2 ^ 32
IsCommand (References op) = op.0 < 2 ^ 32
IsCommand (Read op i) = (op.0 < 2 ^ 32) × (i < 2 ^ 32)
IsCommand (ReadAll op i) = (op.0 < 2 ^ 32) × (i < 2 ^ 32)
IsCommand (Count b) = b.0 < 2 ^ 32
IsCommand Close = Unit {0}
IsCommand (Take worker) = worker < 2 ^ 32
IsCommand (Done worker b) = (worker < 2 ^ 32) × (b.0 < 2 ^ 32)
IsCommand (Fail worker b cause) = (worker < 2 ^ 32) × (b.0 < 2 ^ 32) × IsGivenCause cause

-- the line that sets a variable: its name and its value
abbrev pub set_line : Var → List ℕ
set_line v = codes "set " ++ (token_of v.name ++ 32 ∷ token_of v.value)

abbrev pub IsSet : Var → Type 0
IsSet v = IsUtf8 v.name × IsUtf8 v.value

-- what a line is read as that may set a variable
abbrev pub ReadsSet : List ℕ → Option Var → Type 0
ReadsSet line (Some v) = IsSet v × (line ≡ set_line v)
ReadsSet line None = (v : Var) → IsSet v → line ≡ set_line v → ⊥

-- the line is the command's
abbrev pub Spells : List ℕ → Command → Type 0
Spells line command = IsCommand command × (line ≡ spell command)

-- what a line is read as
abbrev pub ReadsCommand : List ℕ → Option Command → Type 0
ReadsCommand line (Some command) = Spells line command
ReadsCommand line None = (command : Command) → Spells line command → ⊥

-- which commands a script may have: one that a thread plays alone doesn't wait, and one beside workers has the caller 0 and leaves
-- their part to them
abbrev pub takes : Grammar → Command → Bool
takes Simulate (Load caller all mode kind keys) = true
takes Simulate (Acquire caller op) = true
takes Simulate (Release caller op) = true
takes Simulate (Status op) = true
takes Simulate (Wait op) = false
takes Simulate (References op) = true
takes Simulate (Read op i) = true
takes Simulate (ReadAll op i) = true
takes Simulate (Count b) = true
takes Simulate Close = true
takes Simulate (Take worker) = true
takes Simulate (Done worker b) = true
takes Simulate (Fail worker b cause) = true
takes Live (Load caller all mode kind keys) = caller == 0
takes Live (Acquire caller op) = caller == 0
takes Live (Release caller op) = caller == 0
takes Live (Status op) = true
takes Live (Wait op) = true
takes Live (References op) = true
takes Live (Read op i) = true
takes Live (ReadAll op i) = true
takes Live (Count b) = true
takes Live Close = true
takes Live (Take worker) = false
takes Live (Done worker b) = false
takes Live (Fail worker b cause) = false

-- a command of such a script
abbrev pub IsOf : Grammar → Command → Type 0
IsOf g command = IsCommand command × (takes g command ≡ true)

-- the line is of no such script
abbrev pub IsNone : Grammar → List ℕ → Type 0
IsNone g line = (command : Command) → IsOf g command → line ≡ spell command → ⊥
