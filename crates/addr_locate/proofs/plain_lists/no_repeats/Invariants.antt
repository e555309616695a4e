use Rattle.std.proofs.Common.{◌≡◌, ◌==◌, ℕ, true, take, is_some, nat_cmp}
use Rattle.std.specs.BTreeMap.{get}
use Rattle.std.specs.List.{list_any}
use Rattle.addr_locate.specs.Rows.{no_repeats}
use Rattle.addr_locate.proofs.plain_lists.no_repeats.Given as goal

abbrev pub invariant-loop-dep : goal.invariant-loop-dep
invariant-loop-dep l = record {
  holds : (n : ℕ) → is_some (get nat_cmp l.seen n) ≡ list_any (λ c. c.0 == n) (take l.dep-index l.deps);
  once : no_repeats (take l.dep-index l.deps) ≡ true;
}
