-- What the bytes that came so far decide of a file whose length is known: its first fault, before the rest is there.
use Rattle.std.specs.Prelude.{ℕ, List, length, take, drop, Bool, ◌||◌, Option, Some, None, Result, Ok, Err, nat_lt, ◌==◌, if◌then◌else◌}
use Rattle.std.specs.Int.{w32, from_be_bytes}
use Rattle.addr_unityfs.specs.Faults.{Head, Sections, info_end, header_read, sections_read, behind_read, bundle_read}
use Rattle.addr_unityfs.specs.declared.error.FsErr.{FsErr}
use Rattle.addr_unityfs.specs.declared.error.FsErr.TheVariants.{Short}

-- a fault of the bytes so far is told, unless it is only that a field is not in yet
abbrev pub told : FsErr → Option FsErr
told (Short at) = None
told e = Some e

abbrev pub fault_of : {A : Type 0} → Result A FsErr → Option FsErr
fault_of (Ok x) = None
fault_of (Err e) = Some e

-- behind the header: the tests on it and on the sections at once, all others when the blocks info is in
abbrev pub early_behind : ℕ → List ℕ → Head → Result Sections FsErr → Option FsErr
early_behind total bytes h (Err e) = Some e
early_behind total bytes h (Ok l) = if nat_lt (length bytes) (info_end h l) then None else fault_of (behind_read total h l bytes)

-- the signature and the version as soon as they are in, all other tests on the header when the whole header is
abbrev pub early_read : ℕ → List ℕ → Result (Head × ℕ) FsErr → Option FsErr
early_read total bytes (Err e) = told e
early_read total bytes (Ok x) = early_behind total bytes x.0 (sections_read total x.0 x.1)

-- of bytes that are at most the file
unfoldable pub early_of : ℕ → List ℕ → Option FsErr
early_of total bytes = if length bytes == total then fault_of (bundle_read bytes) else early_read total bytes (header_read bytes)

-- of the bytes that came, of which those past the file are not looked at
abbrev pub early_at : ℕ → List ℕ → Option FsErr
early_at total fed = early_of total (take total fed)

-- the version field, and whether it isn't one of this profile
abbrev pub version_in : List ℕ → ℕ
version_in bytes = from_be_bytes w32 (take 4 (drop 8 bytes))

abbrev pub is_other_version : ℕ → Bool
is_other_version v = nat_lt v 6 || nat_lt 8 v
