use Rattle.std.proofs.Common.{ℕ, map, take}
use Rattle.toml.specs.View.{table_view}
use Rattle.addr_isolate.specs.Document.{Keeps}
use Rattle.addr_isolate.specs.Shallow.{AreShallow, AreShallowAt}
use Rattle.addr_isolate.proofs.members.kept.Given as goal

abbrev pub invariant-loop-name : goal.invariant-loop-name
invariant-loop-name l = record {
  keeps : Keeps (map (λ name. name.now) (take l.name-index l.names)) (table_view l.table) (table_view l.new);
  shallow : (n : ℕ) → AreShallowAt n (map (λ name. name.now) (take l.name-index l.names)) (table_view l.table) → AreShallow n (table_view l.new);
}
