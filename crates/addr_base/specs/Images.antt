-- An object of a bundle: its bytes and its references.
use Rattle.std.specs.Prelude.{ℕ, List}
use Rattle.addr_base.specs.declared.images.RefTo.{RefTo}

pub record Object : Type 0 where
  pub bytes : List ℕ
  pub refs : List RefTo
