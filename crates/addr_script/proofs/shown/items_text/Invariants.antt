use Rattle.std.proofs.Common.{◌≡◌, string_bytes, take}
use Rattle.addr_script.specs.Replies.{items_text}
use Rattle.addr_script.proofs.shown.items_text.Given as goal

abbrev pub invariant-loop-item : goal.invariant-loop-item
invariant-loop-item l = string_bytes l.text ≡ items_text (take l.item-index l.items)
