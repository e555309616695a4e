-- What the laws of builds speak of: the catalogue on the way.
use Rattle.std.specs.Prelude.{ℕ, ◌≡◌, ◌⊎◌, List, Some}
use Rattle.addr_base.specs.Files.{file_at}
use Rattle.addr_base.specs.declared.files.MemFile.{MemFile}
use Rattle.addr_project.specs.Model.{Project}
use Rattle.addr_release.specs.Built.{IsReleaseOf, Release}
use Rattle.addr_release.specs.Names.{catalogue_path}

-- the catalogue is the old one, or that of the project's release
abbrev pub IsOldOrNew : Project → List ℕ → List MemFile → List MemFile → Type 0
IsOldOrNew p folder old files = (file_at (catalogue_path folder) files ≡ file_at (catalogue_path folder) old)
    ⊎ ((r : Release) × IsReleaseOf p r × (file_at (catalogue_path folder) files ≡ Some r.catalogue))
