-- A place that is filled holds something.
use Rattle.std.proofs.Common.{◌≡◌, true, Option, Some, None, is_some, refl}
use Rattle.std.proofs.lemmas.Bool.{false≢true}

pub filled : {A : Type 0} (o : Option A) → is_some o ≡ true → (x : A) × (o ≡ Some x)
filled None is = absurd (false≢true is)
filled (Some x) is = (x, refl)
