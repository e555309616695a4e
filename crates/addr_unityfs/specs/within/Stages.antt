-- How far the bytes so far are read, as a function of them.
use Rattle.std.specs.Prelude.{ℕ, List, length, Bool, true, false, Option, Some, None, Result, Ok, Err, is_err, nat_lt, ◌==◌, if◌then◌else◌}
use Rattle.addr_unityfs.specs.declared.bundle.Bundle.{Bundle}
use Rattle.addr_unityfs.specs.Faults as faults
use Rattle.addr_unityfs.specs.Faults.{Sections, info_end, ◌>>=◌, Tail, whole, signature_at, version_at, text_at, header_read, sections_read, behind_read}
use Rattle.addr_unityfs.specs.declared.error.FsErr.{FsErr}
use Rattle.addr_unityfs.specs.declared.error.FsErr.TheVariants.{Short}
use Rattle.addr_unityfs.specs.declared.stage.Stage.{Stage}
use Rattle.addr_unityfs.specs.declared.stage.Stage.TheVariants.{Head, Info, Rest, Bad}

-- behind the version
unfoldable pub start_at : Tail → Result Tail FsErr
start_at c = do
  signed ← signature_at c
  version ← version_at signed
  Ok version.1

-- the two texts
unfoldable pub texts_at : Tail → Result (List ℕ × Tail) FsErr
texts_at c = do
  generation ← text_at c
  text_at generation.1

abbrev pub text_open : Result Tail FsErr → Bool
text_open (Err e) = false
text_open (Ok c) = is_err (texts_at c)

-- whether bytes end within one of the header's texts
unfoldable pub in_text : List ℕ → Bool
in_text bytes = text_open (start_at (whole bytes))

abbrev pub told_stage : List ℕ → FsErr → Stage
told_stage bytes (Short at) = Head (in_text bytes)
told_stage bytes e = Bad e

abbrev pub done_stage : Result Bundle FsErr → Stage
done_stage (Ok b) = Rest
done_stage (Err e) = Bad e

abbrev pub laid_stage : ℕ → List ℕ → faults.Head → Result Sections FsErr → Stage
laid_stage total bytes h (Err e) = Bad e
laid_stage total bytes h (Ok l) = if nat_lt (length bytes) (info_end h l) then Info (info_end h l) else done_stage (behind_read total h l bytes)

abbrev pub header_stage : ℕ → List ℕ → Result (faults.Head × ℕ) FsErr → Stage
header_stage total bytes (Err e) = if length bytes == total then Bad e else told_stage bytes e
header_stage total bytes (Ok x) = laid_stage total bytes x.0 (sections_read total x.0 x.1)

unfoldable pub stage_of : ℕ → List ℕ → Stage
stage_of total bytes = header_stage total bytes (header_read bytes)

abbrev pub fault_in : Stage → Option FsErr
fault_in (Head text) = None
fault_in (Info until) = None
fault_in Rest = None
fault_in (Bad e) = Some e

abbrev pub is_bad : Stage → Bool
is_bad (Head text) = false
is_bad (Info until) = false
is_bad Rest = false
is_bad (Bad e) = true
