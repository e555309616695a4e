-- The object of the tests, which can be written.
use Rattle.std.proofs.Common.{[], ◌∷◌, ◌++◌, ℕ, refl, arith, replicate}
use Rattle.addr_base.specs.declared.ids.Guid.{Guid}
use Rattle.addr_base.specs.declared.images.Home.TheVariants.{Own, Other}
use Rattle.addr_base.specs.declared.images.RefTo.{RefTo}
use Rattle.addr_cab.specs.declared.object.ObjectOut.{ObjectOut}
use Rattle.addr_cab.specs.Outside.{with_homes}
use Rattle.addr_cab.specs.Written.{CanWrite}
use Rattle.addr_cab.proofs.InOrder.{ascends}

abbrev pub last : ℕ → Guid
last n = record { 0 = replicate 15 0 ++ n ∷ [] }

abbrev pub own : RefTo
own = record { guid = last 1; home = Own }

abbrev pub other : RefTo
other = record { guid = last 2; home = Other (record { 0 = replicate 16 0 }) }

abbrev pub object : ObjectOut
object = record { guid = last 1; bytes = 65 ∷ []; refs = own ∷ other ∷ [] }

pub one : CanWrite (object ∷ [])
unfolding with_homes
one = record {
  ascend = ascends (λ o. o.guid.0) (object ∷ []) (refl, tt);
  own = (((λ e. refl), ((λ e. absurd cc), tt)), tt);
  few = omega arith;
  few_refs = (omega arith, tt);
  few_outside = omega arith;
}
