use Rattle.addr_locate.proofs.PostingLemmas.{lists_same}
use Rattle.addr_locate.proofs.locator.Locator.has_row.Goals as goal

pub has_match-requires : goal.has_match-requires
has_match-requires c = lists_same c.self.inside.assets c.as_slice.result.now c.self.inside.postings.items c.as_slice-2.result.now c.as_slice.ensures c.as_slice-2.ensures.value c.self.invariant.posted
