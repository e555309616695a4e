-- What `load` ends with: which words ask for it, what its files give before the script starts, and how its script is played.
use Rattle.std.specs.Prelude.{ℕ, ◌≡◌, ◌≢◌, ◌≤◌, ◌++◌, ◌⊎◌, List, [], ◌∷◌, codes, decimal, map, Some, None, Result, Ok, Err, IfSome}
use Rattle.addr_base.specs.Faults.{Rose}
use Rattle.addr_base.specs.Files.{Store, file_at}
use Rattle.addr_base.specs.Streams.{Stream}
use Rattle.addr_base.specs.Tokens.{token_of}
use Rattle.addr_base.specs.declared.files.MemFile.{MemFile}
use Rattle.addr_catalog.specs.declared.catalogue.Catalogue.{Catalogue}
use Rattle.addr_fetch.specs.declared.fetch.Fetched.{Fetched}
use Rattle.addr_script.specs.Scripts.{ReadsScript}
use Rattle.addr_script.specs.declared.command.Grammar.TheVariants.{Load as Live}
use Rattle.addr_script.specs.declared.error.ScriptErr.TheVariants.{Line as ScriptLine}
use Rattle.addr_live.specs.Prepares.{PreparesAs}
use Rattle.addr_live.specs.Whole.{PlaysBeside}
use Rattle.addr_live.specs.declared.reading.Prepared.{Prepared}
use Rattle.addr_cli.specs.Outcome.{CountsFault, HasCatalogue, IsBadCatalogue, Prints}
use Rattle.addr_cli.specs.Refusals.{ended_status, ended_text}
use Rattle.addr_cli.specs.declared.refusal.Refusal.{Refusal}
use Rattle.addr_cli.specs.declared.refusal.Refusal.TheVariants.{NoMemory, Usage, Depot, BadProject, NoFile, BadCatalogue, BadRows, BadBundle, BadScript, TooLarge}

-- the words ask to play a script with so many workers on the catalogue of a folder
pub record AsksToLoad (words : List (List ℕ)) (folder : List ℕ) (workers : ℕ) (script : List ℕ) : Type 0 where
  pub line : words ≡ codes "load" ∷ folder ∷ decimal workers ∷ script ∷ []
  pub some : 1 ≤ workers
  pub most : workers ≤ 16

abbrev pub IsLoadLine : List (List ℕ) → Type 0
IsLoadLine words = (folder : List ℕ) × (workers : ℕ) × (script : List ℕ) × AsksToLoad words folder workers script

-- a text that spells a number of workers, from 1 to 16
pub record IsWorkers (text : List ℕ) (n : ℕ) : Type 0 where
  pub some : 1 ≤ n
  pub most : n ≤ 16
  pub spelled : text ≡ decimal n

-- the name of a folder's catalogue
abbrev pub catalogue_name : List ℕ → List ℕ
catalogue_name folder = folder ++ codes "/remote/catalog_main.json"

-- what the files give before the script starts: its orders over the folder's catalogue, else the first fault, of the catalogue before the
-- script
abbrev pub Readies : List MemFile → List ℕ → List ℕ → Result Prepared Refusal → Type 0
Readies files folder script (Ok p) = (c : Catalogue) × HasCatalogue files (catalogue_name folder) c × (bytes : List ℕ) × (file_at script files ≡ Some bytes) × PreparesAs c.locator bytes (Ok p)
Readies files folder script (Err (NoFile token)) = ((file_at (catalogue_name folder) files ≡ None) × (token ≡ token_of (catalogue_name folder))) ⊎ ((c : Catalogue) × HasCatalogue files (catalogue_name folder) c × (file_at script files ≡ None) × (token ≡ token_of script))
Readies files folder script (Err (BadCatalogue n)) = IsBadCatalogue files (catalogue_name folder) n
Readies files folder script (Err (BadScript n)) = (c : Catalogue) × HasCatalogue files (catalogue_name folder) c × (bytes : List ℕ) × (file_at script files ≡ Some bytes) × ReadsScript Live bytes (Err (ScriptLine n))
Readies files folder script (Err NoMemory) = ⊥
Readies files folder script (Err Usage) = ⊥
Readies files folder script (Err Depot) = ⊥
Readies files folder script (Err (BadProject fault)) = ⊥
Readies files folder script (Err (BadRows line)) = ⊥
Readies files folder script (Err (BadBundle token number)) = ⊥
Readies files folder script (Err (TooLarge which count)) = ⊥

-- the same over a depot: its fault only where its count rose, want of memory at any place
abbrev pub ReadiesFrom : Store → Store → List ℕ → List ℕ → Result Prepared Refusal → Type 0
ReadiesFrom old new folder script (Err NoMemory) = Unit {0}
ReadiesFrom old new folder script (Err Depot) = Rose old.faults new.faults
ReadiesFrom old new folder script ended = IfSome old.files (λ files. Readies files folder script ended)

module _ {F : Type 0} (gives : F → List ℕ → ℕ → Fetched → F → Type 0) where
  -- how it ends, the fetchers with it: with the text of the script that was played beside them, or refused before it started
  abbrev pub LoadEnds : Store → Store → List ℕ → List ℕ → List F → List F → F → F → Result (List ℕ) Refusal → Type 0
  LoadEnds old new folder script fetchers back fetch came (Err NoMemory) = Unit {0}
  LoadEnds old new folder script fetchers back fetch came (Ok text) = (new.faults ≡ old.faults) × (p : Prepared) × ReadiesFrom old new folder script (Ok p) × PlaysBeside gives p.locator p.limit (map (λ o. o.command) p.orders.items) fetchers back fetch came text
  LoadEnds old new folder script fetchers back fetch came (Err refusal) = CountsFault {T = Prepared} old new (Err refusal) × ReadiesFrom old new folder script (Err refusal) × (back ≡ fetchers) × (came ≡ fetch)

  -- as its words ask, with one text and the status that is the text's; or as usage, where they are not its words
  abbrev pub LoadsTo : List (List ℕ) → Store → Store → Stream → Stream → List F → List F → F → F → ℕ → Type 0
  LoadsTo words depot depot_after out out_after fetchers back fetch came status =
      ((folder : List ℕ) × (workers : ℕ) × (script : List ℕ) × AsksToLoad words folder workers script × (ended : Result (List ℕ) Refusal)
      × LoadEnds depot depot_after folder script fetchers back fetch came ended × Prints (ended_status ended) (ended_text ended) status out out_after)
      ⊎ ((IsLoadLine words → ⊥) × (depot_after.faults ≡ depot.faults) × Prints 2 (codes "error 2 usage" ++ 10 ∷ []) status out out_after)
