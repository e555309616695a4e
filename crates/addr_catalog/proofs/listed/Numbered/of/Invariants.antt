use Rattle.std.proofs.Common.{◌≡◌, map, take}
use Rattle.addr_locate.specs.Rows.{texts_once}
use Rattle.addr_catalog.specs.Listed.{HasPlaces}
use Rattle.addr_catalog.proofs.listed.Numbered.of.Given as goal

abbrev pub invariant-loop-key : goal.invariant-loop-key
invariant-loop-key g l = record {
  once : map g.K.Listed.list l.once.items ≡ texts_once (map g.K.Listed.list (take l.key-index l.keys));
  places : HasPlaces g.K.Ord.cmp g.K.Listed.list l.once.items l.places;
}
