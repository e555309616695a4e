use Rattle.std.proofs.Common.{◌≡◌, ◌++◌, ℕ, List, map, length, decimal}
use Rattle.std.specs.List.{AllByRecursion}
use Rattle.addr_base.specs.declared.ids.BundleNo.{BundleNo}
use Rattle.addr_locate.specs.PlainFields.{IsSmall}
use Rattle.addr_locate.proofs.ListFieldLemmas.{pieces}
use Rattle.addr_locate.proofs.plain_lists.number_list.Given as goal

-- the elements so far and the rest are the field
pub record SoFar (field : List ℕ) (xs : List (BundleNo)) (rest : List ℕ) : Type 0 where
  pub cut : pieces field ≡ map (λ (b : BundleNo). decimal b.0) xs ++ pieces rest
  pub each : AllByRecursion IsSmall xs

abbrev pub invariant-loop-digits : goal.invariant-loop-digits
invariant-loop-digits l = SoFar l.fn.field l.deps l.rest

abbrev pub decreases-loop-digits : goal.decreases-loop-digits
decreases-loop-digits l = length l.rest
