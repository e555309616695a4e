-- The steps of `inspect`: what a bundle's bytes are shown as, and the refusal that a fault of a file becomes.
use Rattle.std.specs.Prelude.{ℕ, ◌≡◌, List, Some, Result, Ok, Err}
use Rattle.addr_base.specs.Tokens.{token_of}
use Rattle.addr_unityfs.specs.Faults.{fault_number}
use Rattle.addr_unityfs.specs.declared.bundle.Bundle.{Bundle}
use Rattle.addr_unityfs.specs.declared.error.FsErr.{FsErr}
use Rattle.addr_cab.specs.Lookup.{Held}
use Rattle.addr_cab.specs.declared.error.CabErr.{CabErr}
use Rattle.addr_texts.specs.InspectText.{inspect_text}
use Rattle.addr_cli.specs.Outcome.{ReadsContents}
use Rattle.addr_cli.specs.declared.refusal.Refusal.{Refusal}
use Rattle.addr_cli.specs.declared.refusal.Refusal.TheVariants.{NoMemory, BadBundle}

-- the bytes of a bundle are shown with what they are read as besides
abbrev pub Shows : List ℕ → Bundle → Result (List ℕ) Refusal → Type 0
Shows bytes bundle (Ok text) = (contents : Result Held CabErr) × ReadsContents bytes bundle contents × (text ≡ inspect_text bundle contents)
Shows bytes bundle (Err NoMemory) = Unit {0}
Shows bytes bundle (Err _) = ⊥

-- the fault of a file with that name
abbrev pub IsBadBundle : List ℕ → FsErr → Refusal → Type 0
IsBadBundle file fault NoMemory = Unit {0}
IsBadBundle file fault (BadBundle token number) = (fault_number fault ≡ Some number) × (token ≡ token_of file)
IsBadBundle file fault _ = ⊥
