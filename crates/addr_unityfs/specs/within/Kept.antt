-- What a reader keeps of the bytes that came.
use Rattle.std.specs.Prelude.{◌≡◌, ℕ, ◌-◌, List, [], ◌++◌, length, take, false, if◌then◌else◌}
use Rattle.addr_unityfs.specs.declared.stage.Stage.{Stage}
use Rattle.addr_unityfs.specs.within.Stages.{is_bad}

-- the kept bytes are those of the file that came, and once a fault is known the first of them
pub record Kept (total : ℕ) (stage : Stage) (kept fed : List ℕ) : Type 0 where
  pub rest : List ℕ
  pub parts : take total fed ≡ kept ++ rest
  pub all : is_bad stage ≡ false → rest ≡ []

-- what is kept when a piece comes
abbrev pub kept_with : Stage → ℕ → List ℕ → List ℕ → List ℕ
kept_with stage total kept piece = if is_bad stage then kept else kept ++ take (total - length kept) piece
