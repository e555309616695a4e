-- Files have one answer.
use Rattle.std.specs.Prelude.{ℕ, ◌≡◌, List, Result, Ok, Err}
use Rattle.addr_base.specs.declared.files.MemFile.{MemFile}
use Rattle.addr_update.specs.declared.model.Move.{Move}
use Rattle.addr_check.specs.Checking.{Checks}
use Rattle.addr_check.specs.declared.error.CheckErr.{CheckErr}
use Rattle.addr_check.specs.declared.error.CheckErr.TheVariants.{Project, NoRelease, BadCatalogue, BadRelease, TooLarge, DepotFault, NoMemory}

-- an answer that files alone decide: neither want of memory nor a fault of the depot
abbrev pub IsOfFiles : {T : Type 0} → Result T CheckErr → Type 0
IsOfFiles (Ok done) = Unit {0}
IsOfFiles (Err (Project fault)) = Unit {0}
IsOfFiles (Err (NoRelease name)) = Unit {0}
IsOfFiles (Err (BadCatalogue fault)) = Unit {0}
IsOfFiles (Err (BadRelease name why)) = Unit {0}
IsOfFiles (Err (TooLarge which size)) = Unit {0}
IsOfFiles (Err DepotFault) = ⊥
IsOfFiles (Err NoMemory) = ⊥

-- two such answers are the same
abbrev pub HaveOneAnswer : List MemFile → List ℕ → Type 0
HaveOneAnswer files folder = (x y : Result (List Move) CheckErr) → Checks files folder x → Checks files folder y → IsOfFiles x → IsOfFiles y → x ≡ y
