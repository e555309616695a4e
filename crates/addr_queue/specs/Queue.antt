-- A queue as callers see it: how many bundles it is for, and those that are in it, the first to leave first.
use Rattle.std.specs.Prelude.{ℕ, ◌==◌, Bool, List}
use Rattle.std.specs.List.{list_any}
use Rattle.addr_base.specs.declared.ids.BundleNo.{BundleNo}

pub record Ordered : Type 0 where
  pub room : ℕ
  pub bundles : List BundleNo

-- whether the bundle is one of some
abbrev pub is_among : BundleNo → List BundleNo → Bool
is_among b bs = list_any (λ c. c.0 == b.0) bs
