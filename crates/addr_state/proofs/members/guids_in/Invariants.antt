use Rattle.std.proofs.Common.{◌≡◌, drop}
use Rattle.addr_json.specs.Members.{guid_in}
use Rattle.serde_json.specs.View.{items_view}
use Rattle.addr_json.specs.Members.{all_items}
use Rattle.addr_json.proofs.MemberLemmas.{found_and}
use Rattle.addr_state.proofs.members.guids_in.Given as goal

abbrev pub invariant-loop-value : goal.invariant-loop-value
invariant-loop-value l = found_and l.guids (all_items guid_in (items_view (drop l.value-index l.values))) ≡ all_items guid_in (items_view l.values)
