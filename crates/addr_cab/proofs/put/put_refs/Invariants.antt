use Rattle.std.proofs.Common.{◌≡◌, ◌++◌, take}
use Rattle.std.specs.List.{flat_map, AllByRecursion}
use Rattle.addr_cab.specs.Spelling.{ref_text}
use Rattle.addr_cab.specs.Written.{IsTypedRef}
use Rattle.addr_cab.proofs.put.put_refs.Given as goal

abbrev pub invariant-loop-reference : goal.invariant-loop-reference
invariant-loop-reference l = record {
  text : l.out.items ≡ l.initial.out.items ++ flat_map (ref_text l.names.names.now) (take l.reference-index l.refs);
  typed : AllByRecursion IsTypedRef (take l.reference-index l.refs);
}
