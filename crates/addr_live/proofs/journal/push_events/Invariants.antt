use Rattle.std.proofs.Common.{◌≡◌, ◌++◌, take, string_bytes}
use Rattle.addr_live.specs.LiveText.{events_text}
use Rattle.addr_live.proofs.journal.push_events.Given as goal

abbrev pub invariant-loop-event : goal.invariant-loop-event
invariant-loop-event l = string_bytes l.text ≡ string_bytes l.fn.text ++ events_text l.locator (take l.event-index l.events)
