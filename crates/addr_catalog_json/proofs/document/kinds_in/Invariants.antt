use Rattle.std.proofs.Common.{◌≡◌, drop}
use Rattle.serde_json.specs.View.{items_view}
use Rattle.addr_catalog_json.specs.Document.{kind_of}
use Rattle.addr_json.specs.Members.{all_items}
use Rattle.addr_json.proofs.MemberLemmas.{found_and}
use Rattle.addr_catalog_json.proofs.document.kinds_in.Given as goal

abbrev pub invariant-loop-value : goal.invariant-loop-value
invariant-loop-value l = found_and l.kinds (all_items kind_of (items_view (drop l.value-index l.values))) ≡ all_items kind_of (items_view l.values)
