-- The orders that commands are, with their keys and types by number.
use Rattle.std.specs.Prelude.{ℕ, ◌≡◌, List, [], ◌∷◌, Option, Some, None, map}
use Rattle.std.specs.List.{AllByRecursion}
use Rattle.addr_history.specs.declared.ask.Ask.{Ask}
use Rattle.addr_locate.specs.Rows.{Rows}
use Rattle.addr_script.specs.Commands.{IsOf}
use Rattle.addr_script.specs.declared.command.Command.{Command}
use Rattle.addr_script.specs.declared.command.Command.TheVariants.{Load, Acquire, Release, Status, Wait, References, Read, ReadAll, Count, Close, Take, Done, Fail}
use Rattle.addr_script.specs.declared.command.Grammar.TheVariants.{Load as Live}
use Rattle.addr_simulate.specs.SimText.{ask_of}
use Rattle.addr_live.specs.declared.order.Order.{Order}

-- what a command asks the machine for: a load alone asks
abbrev pub IsAsk : Rows → Command → Option Ask → Type 0
IsAsk rows (Load caller all mode kind keys) ask = ask ≡ Some (ask_of rows all mode kind keys)
IsAsk rows (Acquire caller op) ask = ask ≡ None
IsAsk rows (Release caller op) ask = ask ≡ None
IsAsk rows (Status op) ask = ask ≡ None
IsAsk rows (Wait op) ask = ask ≡ None
IsAsk rows (References op) ask = ask ≡ None
IsAsk rows (Read op i) ask = ask ≡ None
IsAsk rows (ReadAll op i) ask = ask ≡ None
IsAsk rows (Count b) ask = ask ≡ None
IsAsk rows Close ask = ask ≡ None
IsAsk rows (Take worker) ask = ask ≡ None
IsAsk rows (Done worker b) ask = ask ≡ None
IsAsk rows (Fail worker b cause) ask = ask ≡ None

-- an order is a command beside workers, with what it asks for
abbrev pub IsOrder : Rows → Order → Type 0
IsOrder rows o = IsOf Live o.command × IsAsk rows o.command o.ask
