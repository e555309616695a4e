-- What a reader of a file that arrives stands for: the length of the file, and the bytes that came.
use Rattle.std.specs.Prelude.{◌≡◌, ◌≢◌, ℕ, ◌-◌, ◌^◌, List, length, Option, Some, None, Result, Ok, Err, nat_lt, min, if◌then◌else◌}
use Rattle.sha2.specs.Hashers.{Holds256}
use Rattle.addr_base.specs.Ids.{digest_of}
use Rattle.addr_unityfs.specs.declared.arriving.BundleReader.{BundleReader}
use Rattle.addr_unityfs.specs.declared.arriving.Arrived.{Arrived}
use Rattle.addr_unityfs.specs.declared.arriving.Arrived.TheVariants.{Size, File}
use Rattle.addr_unityfs.specs.declared.bundle.Bundle.{Bundle}
use Rattle.addr_unityfs.specs.declared.error.FsErr.{FsErr}
use Rattle.addr_unityfs.specs.Faults.{bundle_read}
use Rattle.addr_unityfs.specs.within.Kept.{Kept}

-- the length that the file has, with which the reader was begun
abbrev pub total_of : BundleReader → ℕ
total_of r = r.total

-- how many bytes the reader keeps
abbrev pub held_of : BundleReader → ℕ
held_of r = length r.kept.items

-- a count, where a u64 says it
abbrev pub count_of : ℕ → Option ℕ
count_of n = if nat_lt n (2 ^ 64) then Some n else None

-- the reader took these bytes: all are digested and counted, and those of the file are kept until a fault is known
pub record Took (r : BundleReader) (fed : List ℕ) : Type 0 where
  pub hash : Holds256 r.hasher fed
  pub count : r.count ≡ count_of (length fed)
  pub kept : Kept r.total r.stage r.kept.items fed

-- what is read of a file, with its bytes
abbrev pub read_with : List ℕ → Result Bundle FsErr → Result (List ℕ × Bundle) FsErr
read_with bytes (Ok b) = Ok (bytes, b)
read_with bytes (Err e) = Err e

-- what became of the bytes that came, which they alone determine
abbrev pub IsArrived : ℕ → List ℕ → Arrived → Type 0
IsArrived total fed (Size got) = (length fed ≢ total) × (got ≡ min (length fed) (2 ^ 64 - 1))
IsArrived total fed (File digest read) = (length fed ≡ total) × (digest.0 ≡ digest_of fed) × (read ≡ read_with fed (bundle_read fed))
