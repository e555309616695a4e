use Rattle.std.proofs.Common.{[], ◌∷◌, ◌++◌, ℕ, refl, arith, replicate}
use Rattle.addr_base.specs.declared.ids.Digest.{Digest}
use Rattle.addr_base.specs.declared.ids.Guid.{Guid}
use Rattle.addr_base.specs.declared.images.Home.TheVariants.{Own, Other}
use Rattle.addr_base.specs.declared.images.RefTo.{RefTo}
use Rattle.addr_cab.specs.declared.object.ObjectOut.{ObjectOut}
use Rattle.addr_cab.specs.Outside.{with_homes}
use Rattle.addr_cab.specs.Written.{CanWrite}
use Rattle.addr_cab.proofs.InOrder.{ascends}
use Rattle.addr_cab.proofs.tests.write_two.Goals as goal

abbrev last : ℕ → Guid
last n = record { 0 = replicate 15 0 ++ n ∷ [] }

abbrev all : ℕ → Digest
all n = record { 0 = replicate 16 n }

abbrev to : ℕ → RefTo
to n = record { guid = last n; home = Own }

abbrev into : ℕ → ℕ → RefTo
into n bundle = record { guid = last n; home = Other (all bundle) }

abbrev first : ObjectOut
first = record { guid = last 1; bytes = 97 ∷ 98 ∷ []; refs = to 2 ∷ into 2 2 ∷ [] }

abbrev second : ObjectOut
second = record { guid = last 2; bytes = 99 ∷ []; refs = into 1 1 ∷ [] }

both : CanWrite (first ∷ second ∷ [])
unfolding with_homes
both = record {
  ascend = ascends (λ o. o.guid.0) (first ∷ second ∷ []) (refl, (refl, tt));
  own = (((λ e. refl), ((λ e. absurd cc), tt)), (((λ e. absurd cc), tt), tt));
  few = omega arith;
  few_refs = (omega arith, (omega arith, tt));
  few_outside = omega arith;
}

pub write_cab-requires : goal.write_cab-requires
write_cab-requires c = rw (c.in_ok-object.ensures, c.in_ok-object-2.ensures, c.to.ensures, c.to-2.ensures, c.to-3.ensures) both
