use Rattle.std.proofs.Common.{◌≡◌, map, drop}
use Rattle.addr_base.specs.declared.ids.KeyNo.{KeyNo}
use Rattle.addr_locate.specs.Changes.{change_each}
use Rattle.addr_locate.proofs.PostingLemmas.{with_row}
use Rattle.addr_locate.proofs.postings.post_row.Given as goal

abbrev pub invariant-loop-key : goal.invariant-loop-key
invariant-loop-key l = change_each (with_row l.row) (map (λ (k : KeyNo). k.0) (drop l.key-index l.keys)) l.postings ≡ change_each (with_row l.row) (map (λ (k : KeyNo). k.0) l.keys) l.initial.postings
