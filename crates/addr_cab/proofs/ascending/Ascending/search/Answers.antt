use Rattle.std.proofs.Common.{rules, [], nat_cmp}
use Rattle.std.specs.Cmp.Lexicographic.{slice_cmp}
use Rattle.std.proofs.lemmas.Fn.{always_returns_same}
use Rattle.addr_cab.proofs.InOrder.{searched}
use Rattle.addr_cab.proofs.RowLaws.{guid_of}
use Rattle.addr_cab.proofs.ascending.Ascending.search.Goals as goal

-- the closure compares an object's GUID with the one that is looked for
pub returns : goal.returns
returns c =
    let facts = c.binary_search_by.ensures in
    let by_guid = facts.position (λ o. slice_cmp nat_cmp o.guid.0 c.args.guid.0) (always_returns_same _ _ _ (λ a r f' k. search rules)) in
    searched guid_of c.args.self.rows.now (record { guid = record { 0 = [] }; offset = 0; size = 0; refs = [] }) c.args.guid.0 c.binary_search_by.result c.args.self.ascend facts.bound by_guid
