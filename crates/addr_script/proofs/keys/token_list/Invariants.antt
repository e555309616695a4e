use Rattle.std.proofs.Common.{◌≡◌, ◌++◌, ℕ, List, map, length}
use Rattle.std.specs.List.{AllByRecursion}
use Rattle.std.specs.Str.{IsUtf8}
use Rattle.addr_base.specs.Tokens.{token_of}
use Rattle.addr_script.proofs.KeyLemmas.{pieces}
use Rattle.addr_script.proofs.keys.token_list.Given as goal

-- the keys so far and the rest are the field
pub record SoFar (field : List ℕ) (keys : List (List ℕ)) (rest : List ℕ) : Type 0 where
  pub cut : pieces field ≡ map token_of keys ++ pieces rest
  pub each : AllByRecursion IsUtf8 keys

abbrev pub invariant-loop-token : goal.invariant-loop-token
invariant-loop-token l = SoFar l.fn.field l.keys l.rest

abbrev pub decreases-loop-token : goal.decreases-loop-token
decreases-loop-token l = length l.rest
