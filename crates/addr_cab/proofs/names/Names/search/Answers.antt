use Rattle.std.proofs.Common.{rules, [], nat_cmp}
use Rattle.std.specs.Cmp.Lexicographic.{slice_cmp}
use Rattle.std.proofs.lemmas.Fn.{always_returns_same}
use Rattle.addr_cab.proofs.InOrder.{place_searched}
use Rattle.addr_cab.proofs.RowLaws.{name_of}
use Rattle.addr_cab.proofs.names.Names.search.Goals as goal

-- the closure compares a name with the one that is looked for
pub returns : goal.returns
returns c =
    let facts = c.binary_search_by.ensures in
    let by_name = facts.position (λ d. slice_cmp nat_cmp d.0 c.args.name.0) (always_returns_same _ _ _ (λ a r f' k. search rules)) in
    place_searched name_of c.args.self.names.now (record { 0 = [] }) c.args.name.0 c.binary_search_by.result c.args.self.ascend facts.bound by_name
