use Rattle.std.proofs.Common.{◌≡◌, ◌++◌, map, take, string_bytes}
use Rattle.std.specs.List.{flat_map}
use Rattle.addr_change.specs.ResolvedText.{item_line}
use Rattle.addr_resolve.specs.Items.{item_view}
use Rattle.addr_change.proofs.resolved_text.put_items.Given as goal

abbrev pub invariant-loop-item : goal.invariant-loop-item
invariant-loop-item l = string_bytes l.text ≡ string_bytes l.fn.text ++ flat_map item_line (map item_view (take l.item-index l.items))
