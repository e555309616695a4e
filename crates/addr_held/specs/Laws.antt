-- Files have one answer.
use Rattle.std.specs.Prelude.{ℕ, ◌≡◌, List, Result, Ok, Err}
use Rattle.addr_base.specs.declared.files.MemFile.{MemFile}
use Rattle.addr_catalog.specs.declared.catalogue.Catalogue.{Catalogue}
use Rattle.addr_held.specs.Opening.{HasBadCatalogue, IsWrong, LacksFile, OpensRelease, was_of}
use Rattle.addr_held.specs.declared.error.HeldErr.{HeldErr}
use Rattle.addr_held.specs.declared.error.HeldErr.TheVariants.{NoRelease, BadCatalogue, BadRelease, DepotFault, NoMemory}
use Rattle.addr_held.specs.declared.release.Release.{Release}
use Rattle.addr_release.specs.Held.{IsHeldAs}
use Rattle.addr_release.specs.Opened.{Opened}
use Rattle.addr_resolve.specs.Resolving.{HasCatalogue}
use Rattle.addr_state.specs.declared.model.State.{State}
use Rattle.addr_update.specs.Intact.{AreIntact}

-- a release as its files show it: how they lie in memory doesn't count
pub record Seen : Type 0 where
  pub catalogue : Catalogue
  pub state : State
  pub was : List Opened

abbrev pub seen : Result Release HeldErr → Result Seen HeldErr
seen (Ok r) = Ok (record { catalogue = r.catalogue; state = r.state; was = was_of r })
seen (Err e) = Err e

-- an answer that files alone decide: neither want of memory nor a depot's fault
abbrev pub IsTold : Result Release HeldErr → Type 0
IsTold (Ok r) = Unit {0}
IsTold (Err (NoRelease name)) = Unit {0}
IsTold (Err (BadCatalogue fault)) = Unit {0}
IsTold (Err (BadRelease name why)) = Unit {0}
IsTold (Err DepotFault) = ⊥
IsTold (Err NoMemory) = ⊥

-- two such answers show the same
abbrev pub HasOneAnswer : List MemFile → List ℕ → Type 0
HasOneAnswer files folder = (x y : Result Release HeldErr) → OpensRelease files folder x → OpensRelease files folder y
    → IsTold x → IsTold y → seen x ≡ seen y

-- what files show of a release: its catalogue, its state and what the state's bundles hold, all intact; or what is first wrong
abbrev pub ShowsRelease : List MemFile → List ℕ → Result Seen HeldErr → Type 0
ShowsRelease files folder (Ok r) = IsHeldAs files folder r.catalogue r.state × AreIntact r.state files folder r.was
ShowsRelease files folder (Err (NoRelease name)) = LacksFile files folder name
ShowsRelease files folder (Err (BadCatalogue fault)) = HasBadCatalogue files folder fault
ShowsRelease files folder (Err (BadRelease name why)) = (c : Catalogue) × HasCatalogue files folder c × IsWrong files folder c.state name why
ShowsRelease files folder (Err DepotFault) = ⊥
ShowsRelease files folder (Err NoMemory) = ⊥
