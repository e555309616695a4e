use Rattle.std.proofs.Common.{◌≡◌, true, take}
use Rattle.addr_locate.specs.Lookups.{HoldsTexts}
use Rattle.addr_locate.specs.Rows.{no_text_twice}
use Rattle.addr_locate.proofs.plain_lists.no_text_twice.Given as goal

abbrev pub invariant-loop-key : goal.invariant-loop-key
invariant-loop-key l = record {
  holds : HoldsTexts (take l.key-index l.keys) l.seen;
  once : no_text_twice (take l.key-index l.keys) ≡ true;
}
