-- Why a command is refused: its exit status, and the one line that it prints.
use Rattle.std.specs.Prelude.{ℕ, List, [], ◌∷◌, ◌++◌, codes, decimal, Result, Ok, Err}
use Rattle.addr_base.specs.declared.depot.DepotErr.{DepotErr}
use Rattle.addr_base.specs.declared.depot.DepotErr.TheVariants.{Fault, NoMemory as DepotNoMemory}
use Rattle.addr_project.specs.Printed.{fault_text, limit_text}
use Rattle.addr_project.specs.declared.limit.Limit.TheVariants.{BundleName}
use Rattle.addr_pack.specs.declared.error.PlanErr.{PlanErr}
use Rattle.addr_pack.specs.declared.error.PlanErr.TheVariants.{NameTooLong, NoMemory as PlanNoMemory}
use Rattle.addr_locate.specs.declared.error.RowsErr.{RowsErr}
use Rattle.addr_locate.specs.declared.error.RowsErr.TheVariants.{Line as RowsLine, NoMemory as RowsNoMemory}
use Rattle.addr_script.specs.declared.error.ScriptErr.{ScriptErr}
use Rattle.addr_script.specs.declared.error.ScriptErr.TheVariants.{Line as ScriptLine, NoMemory as ScriptNoMemory}
use Rattle.addr_cli.specs.declared.refusal.Refusal.{Refusal}
use Rattle.addr_cli.specs.declared.refusal.Refusal.TheVariants.{NoMemory, Usage, Depot, BadProject, NoFile, BadCatalogue, BadRows, BadBundle, BadScript, TooLarge}

abbrev pub refusal_status : Refusal → ℕ
refusal_status NoMemory = 1
refusal_status Usage = 2
refusal_status Depot = 3
refusal_status (BadProject fault) = 4
refusal_status (NoFile token) = 5
refusal_status (BadCatalogue number) = 7
refusal_status (BadRows line) = 7
refusal_status (BadBundle token number) = 8
refusal_status (BadScript line) = 9
refusal_status (TooLarge which count) = 11

-- a file is named by its token
abbrev pub refusal_text : Refusal → List ℕ
refusal_text NoMemory = codes "error 1 memory"
refusal_text Usage = codes "error 2 usage"
refusal_text Depot = codes "error 3 depot"
refusal_text (BadProject fault) = codes "error 4 " ++ fault_text fault
refusal_text (NoFile token) = codes "error 5 " ++ token
refusal_text (BadCatalogue number) = codes "error 7 " ++ decimal number
refusal_text (BadRows line) = codes "error 7 line " ++ decimal line
refusal_text (BadBundle token number) = codes "error 8 " ++ (token ++ (codes " unityfs " ++ decimal number))
refusal_text (BadScript line) = codes "error 9 " ++ decimal line
refusal_text (TooLarge which count) = codes "error 11 " ++ (limit_text which ++ 32 ∷ decimal count)

-- the status of a command that ended so, and all that it prints: its text, or the line of its refusal
abbrev pub ended_status : Result (List ℕ) Refusal → ℕ
ended_status (Ok text) = 0
ended_status (Err refusal) = refusal_status refusal

abbrev pub ended_text : Result (List ℕ) Refusal → List ℕ
ended_text (Ok text) = text
ended_text (Err refusal) = refusal_text refusal ++ 10 ∷ []

-- the refusals that the errors of the layers below become
abbrev pub from_depot : DepotErr → Refusal
from_depot Fault = Depot
from_depot DepotNoMemory = NoMemory

abbrev pub from_rows : RowsErr → Refusal
from_rows (RowsLine line) = BadRows line
from_rows RowsNoMemory = NoMemory

abbrev pub from_script : ScriptErr → Refusal
from_script (ScriptLine line) = BadScript line
from_script ScriptNoMemory = NoMemory

abbrev pub from_plan : PlanErr → Refusal
from_plan (NameTooLong row length) = TooLarge BundleName length
from_plan PlanNoMemory = NoMemory
