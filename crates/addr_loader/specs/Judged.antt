-- What given bytes are judged as: the first property of the row's bundle that they don't have.
use Rattle.std.specs.Prelude.{ℕ, ◌≡◌, ◌≢◌, List, length, Option, Some, None, Result, Ok, Err}
use Rattle.addr_base.specs.Ids.{digest_of}
use Rattle.addr_base.specs.declared.cause.Cause.{Cause}
use Rattle.addr_base.specs.declared.cause.Cause.TheVariants.{BadSize, BadDigest, BadImage, NoMemory, Missing, Refused, TooLong, Fault}
use Rattle.addr_base.specs.declared.cause.Layer.TheVariants.{UnityFs, Cab}
use Rattle.addr_base.specs.declared.ids.Digest.{Digest}
use Rattle.addr_unityfs.specs.Arriving.{read_with}
use Rattle.addr_unityfs.specs.Faults.{bundle_read, fault_number}
use Rattle.addr_unityfs.specs.declared.bundle.Bundle.{Bundle}
use Rattle.addr_unityfs.specs.declared.error.FsErr.{FsErr}
use Rattle.addr_cab.specs.Lookup.{Held, CabRead}
use Rattle.addr_cab.specs.Numbers as cab
use Rattle.addr_cab.specs.declared.error.CabErr.{CabErr}
use Rattle.addr_fetch.specs.declared.fetch.Poured.{Poured}
use Rattle.addr_fetch.specs.declared.fetch.Poured.TheVariants as poured

-- the bytes are a bundle with a table; the first fault of the bundle; that of the table
abbrev pub HoldsImage : List ℕ → Held → Type 0
HoldsImage bytes c = (b : Bundle) × (bundle_read bytes ≡ Ok b) × CabRead bytes b (Ok c)

abbrev pub IsNoBundle : List ℕ → ℕ → Type 0
IsNoBundle bytes n = (e : FsErr) × (bundle_read bytes ≡ Err e) × (fault_number e ≡ Some n)

abbrev pub IsNoTable : List ℕ → ℕ → Type 0
IsNoTable bytes n = (b : Bundle) × (e : CabErr) × (bundle_read bytes ≡ Ok b) × CabRead bytes b (Err e) × (cab.fault_number e ≡ Some n)

abbrev pub ReadsImage : List ℕ → Result Held Cause → Type 0
ReadsImage bytes (Ok c) = HoldsImage bytes c
ReadsImage bytes (Err (BadImage UnityFs n)) = IsNoBundle bytes n
ReadsImage bytes (Err (BadImage Cab n)) = IsNoTable bytes n
ReadsImage bytes (Err NoMemory) = Unit {0}
ReadsImage bytes (Err _) = ⊥

-- the bytes have the row's size and digest
abbrev pub HasRow : ℕ → Digest → List ℕ → Type 0
HasRow size digest bytes = (length bytes ≡ size) × (digest_of bytes ≡ digest.0)

abbrev pub JudgedAs : ℕ → Digest → List ℕ → Option Cause → Type 0
JudgedAs size digest bytes None = HasRow size digest bytes × (c : Held) × HoldsImage bytes c
JudgedAs size digest bytes (Some (BadSize want got)) = (want ≡ size) × (got ≡ length bytes) × (got ≢ size)
JudgedAs size digest bytes (Some (BadDigest want got)) = (want ≡ digest) × (got.0 ≡ digest_of bytes) × (length bytes ≡ size) × (got.0 ≢ want.0)
JudgedAs size digest bytes (Some (BadImage UnityFs n)) = HasRow size digest bytes × IsNoBundle bytes n
JudgedAs size digest bytes (Some (BadImage Cab n)) = HasRow size digest bytes × IsNoTable bytes n
JudgedAs size digest bytes (Some NoMemory) = Unit {0}
JudgedAs size digest bytes (Some _) = ⊥

-- the length that is told of a whole file is that of the bytes
abbrev pub IsCounted : Poured → List ℕ → Type 0
IsCounted (poured.Whole n) bytes = length bytes ≡ n
IsCounted poured.Missing bytes = Unit {0}
IsCounted (poured.Refused code) bytes = Unit {0}
IsCounted (poured.TooLong n) bytes = Unit {0}
IsCounted (poured.Fault n) bytes = Unit {0}
IsCounted poured.NoMemory bytes = Unit {0}

-- how a fetch ends that poured these bytes, with that answer
abbrev pub EndsPoured : ℕ → Digest → List ℕ → Poured → Option Cause → Type 0
EndsPoured size digest bytes (poured.Whole n) cause = JudgedAs size digest bytes cause
EndsPoured size digest bytes poured.Missing cause = cause ≡ Some Missing
EndsPoured size digest bytes (poured.Refused code) cause = cause ≡ Some (Refused code)
EndsPoured size digest bytes (poured.TooLong n) cause = cause ≡ Some (TooLong n)
EndsPoured size digest bytes (poured.Fault n) cause = cause ≡ Some (Fault n)
EndsPoured size digest bytes poured.NoMemory cause = cause ≡ Some NoMemory

-- a file that came whole: its digest, and what it is read as
abbrev pub IsWhole : ℕ → List ℕ → Digest → Result (List ℕ × Bundle) FsErr → Type 0
IsWhole size bytes digest read = (length bytes ≡ size) × (digest.0 ≡ digest_of bytes) × (read ≡ read_with bytes (bundle_read bytes))
