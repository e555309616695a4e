-- What the laws of resolving speak of.
use Rattle.std.specs.Prelude.{ℕ, ◌≡◌, ◌<◌, ◌^◌, List, length, map, Some, Result, Ok, Err}
use Rattle.addr_base.specs.Files.{file_at}
use Rattle.addr_base.specs.declared.files.MemFile.{MemFile}
use Rattle.addr_project.specs.Reach.{Row}
use Rattle.addr_unityfs.specs.Format.{AreBytes}
use Rattle.addr_resolve.specs.Resolving.{Resolves, row_view}
use Rattle.addr_resolve.specs.declared.error.ResolveErr.{ResolveErr}
use Rattle.addr_resolve.specs.declared.error.ResolveErr.TheVariants.{NoRelease, BadCatalogue, NoKey, BadBundle, DepotFault, NoMemory}
use Rattle.addr_resolve.specs.declared.rows.Resolved.{Resolved}

-- each file is a string of bytes, as a machine can hold it
abbrev pub AreFiles : List MemFile → Type 0
AreFiles files = (name bytes : List ℕ) → file_at name files ≡ Some bytes → AreBytes bytes × (length bytes < 2 ^ 63)

-- an answer that files alone decide: neither want of memory nor a fault of the depot
abbrev pub IsOfFiles : {T : Type 0} → Result T ResolveErr → Type 0
IsOfFiles (Ok done) = Unit {0}
IsOfFiles (Err (NoRelease name)) = Unit {0}
IsOfFiles (Err (BadCatalogue fault)) = Unit {0}
IsOfFiles (Err NoKey) = Unit {0}
IsOfFiles (Err (BadBundle name why)) = Unit {0}
IsOfFiles (Err DepotFault) = ⊥
IsOfFiles (Err NoMemory) = ⊥

-- an answer as plain data
abbrev pub answer_view : Result (List Resolved) ResolveErr → Result (List Row) ResolveErr
answer_view (Ok rows) = Ok (map row_view rows)
answer_view (Err refusal) = Err refusal

-- all answers that files decide under a key say the same
abbrev pub HaveOneAnswer : List MemFile → List ℕ → List ℕ → Type 0
HaveOneAnswer files folder key = (x y : Result (List Resolved) ResolveErr) → Resolves files folder key x → Resolves files folder key y
    → IsOfFiles x → IsOfFiles y → answer_view x ≡ answer_view y
