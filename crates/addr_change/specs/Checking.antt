-- What `check` ends with: which words ask for it, the text that is printed of its end, and the status of that.
use Rattle.std.specs.Prelude.{ℕ, ◌≡◌, ◌++◌, ◌⊎◌, List, [], ◌∷◌, codes, decimal, unwrap_or, Result, Ok, Err, IfSome}
use Rattle.addr_base.specs.Files.{Store}
use Rattle.addr_base.specs.Ids.{hex_of}
use Rattle.addr_base.specs.Streams.{Stream}
use Rattle.addr_base.specs.Tokens.{token_of}
use Rattle.addr_cab.specs.Numbers.{fault_number as table_fault_number}
use Rattle.addr_catalog.specs.Numbers.{error_number}
use Rattle.addr_check.specs.Checking.{CheckRose, Checks}
use Rattle.addr_check.specs.declared.error.CheckErr.{CheckErr}
use Rattle.addr_check.specs.declared.error.CheckErr.TheVariants as refused
use Rattle.addr_project.specs.Printed.{fault_text, limit_text}
use Rattle.addr_unityfs.specs.Faults.{fault_number}
use Rattle.addr_update.specs.declared.model.Move.{Move}
use Rattle.addr_update.specs.declared.model.NotIntact.{NotIntact}
use Rattle.addr_update.specs.declared.model.NotIntact.TheVariants as wrong
use Rattle.addr_change.specs.CheckText.{moves_text}
use Rattle.addr_change.specs.Printing.{IsUnasked, PrintsOrWants}

-- the words ask what an update of a folder would move
abbrev pub AsksToCheck : List (List ℕ) → List ℕ → Type 0
AsksToCheck words folder = words ≡ codes "check" ∷ folder ∷ []

abbrev pub IsCheckLine : List (List ℕ) → Type 0
IsCheckLine words = (folder : List ℕ) × AsksToCheck words folder

-- the status that checking ends with
abbrev pub checked_status : Result (List Move) CheckErr → ℕ
checked_status (Ok moves) = 0
checked_status (Err refused.NoMemory) = 1
checked_status (Err refused.DepotFault) = 3
checked_status (Err (refused.Project fault)) = 4
checked_status (Err (refused.NoRelease name)) = 5
checked_status (Err (refused.BadRelease name why)) = 6
checked_status (Err (refused.BadCatalogue fault)) = 7
checked_status (Err (refused.TooLarge which count)) = 11

-- what is wrong with a file of a release; a fault that has no number is told with 0
abbrev pub wrong_text : NotIntact → List ℕ
wrong_text wrong.Missing = codes "missing"
wrong_text (wrong.State number) = codes "state " ++ decimal number
wrong_text (wrong.Size said found) = codes "size " ++ (decimal said ++ 32 ∷ decimal found)
wrong_text (wrong.Digest said found) = codes "digest " ++ (hex_of said.0 ++ 32 ∷ hex_of found.0)
wrong_text (wrong.Fs fault) = codes "unityfs " ++ decimal (unwrap_or (fault_number fault) 0)
wrong_text (wrong.Cab fault) = codes "cab " ++ decimal (unwrap_or (table_fault_number fault) 0)
wrong_text wrong.Objects = codes "objects"

-- why it isn't told what would move, in a line; names are told by their tokens
abbrev pub refused_line : CheckErr → List ℕ
refused_line refused.NoMemory = codes "error 1 memory"
refused_line refused.DepotFault = codes "error 3 depot"
refused_line (refused.Project fault) = codes "error 4 " ++ fault_text fault
refused_line (refused.NoRelease name) = codes "error 5 " ++ token_of name
refused_line (refused.BadRelease name why) = codes "error 6 " ++ (token_of name ++ 32 ∷ wrong_text why)
refused_line (refused.BadCatalogue fault) = codes "error 7 " ++ decimal (error_number fault)
refused_line (refused.TooLarge which count) = codes "error 11 " ++ (limit_text which ++ 32 ∷ decimal count)

-- what is printed then: the entries that would move, or the line of the refusal
abbrev pub checked_text : Result (List Move) CheckErr → List ℕ
checked_text (Ok moves) = moves_text moves
checked_text (Err refusal) = refused_line refusal ++ 10 ∷ []

-- the text of an end has to be written before it is printed, and so takes memory
abbrev pub TakesMemory : Result (List Move) CheckErr → Type 0
TakesMemory (Ok moves) = Unit {0}
TakesMemory (Err refused.NoMemory) = ⊥
TakesMemory (Err refused.DepotFault) = ⊥
TakesMemory (Err (refused.Project fault)) = Unit {0}
TakesMemory (Err (refused.NoRelease name)) = Unit {0}
TakesMemory (Err (refused.BadRelease name why)) = Unit {0}
TakesMemory (Err (refused.BadCatalogue fault)) = Unit {0}
TakesMemory (Err (refused.TooLarge which count)) = Unit {0}

-- the end of checking was printed; or its text takes memory and found none, and the one line was printed that says so
abbrev pub PrintsEnd : Result (List Move) CheckErr → ℕ → Stream → Stream → Type 0
PrintsEnd ended status out out_after = PrintsOrWants (TakesMemory ended) (checked_status ended) (checked_text ended) status out out_after

-- the words were asked for, and this is what an update would move, or why it isn't told
pub record IsAsked (words : List (List ℕ)) (depot depot_after : Store) (out out_after : Stream) (status : ℕ) : Type 0 where
  pub folder : List ℕ
  pub asks : AsksToCheck words folder
  pub ended : Result (List Move) CheckErr
  pub answers : IfSome depot.files (λ files. Checks files folder ended)
  pub cause : CheckRose depot.faults depot_after.faults ended
  pub prints : PrintsEnd ended status out out_after

-- how `check` ends: as its words ask, with that end's text and status, or as usage
abbrev pub ChecksTo : List (List ℕ) → Store → Store → Stream → Stream → ℕ → Type 0
ChecksTo words depot depot_after out out_after status =
    IsAsked words depot depot_after out out_after status ⊎ IsUnasked (IsCheckLine words) depot depot_after out out_after status
