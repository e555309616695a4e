-- What a `read` and a `readall` of a script are told.
use Rattle.std.specs.Prelude.{ℕ, ◌≡◌, List, Result}
use Rattle.addr_base.specs.declared.ids.OpId.{OpId}
use Rattle.addr_locate.specs.Rows.{Rows}
use Rattle.addr_history.specs.Reading.{Reads}
use Rattle.addr_history.specs.Unfolding.{ReadsAll}
use Rattle.addr_history.specs.declared.event.Event.{Event}
use Rattle.addr_history.specs.declared.reading.Item2.{Item2}
use Rattle.addr_history.specs.declared.reading.ReadErr.{ReadErr}
use Rattle.addr_script.specs.declared.reply.Reply.{Reply}
use Rattle.addr_simulate.specs.SimText.{read_all_answer, read_answer, sim_objects}

-- the reply to what is read of the images of a script
abbrev pub IsToldRead : Rows → List Event → OpId → ℕ → Reply → Type 0
IsToldRead rows h op i reply = (answer : Result (List ℕ) ReadErr) × Reads sim_objects rows h op i answer × (reply ≡ read_answer answer)

abbrev pub IsToldReadAll : Rows → List Event → OpId → ℕ → Reply → Type 0
IsToldReadAll rows h op i reply = (answer : Result (List Item2) ReadErr) × ReadsAll sim_objects rows h op i answer × (reply ≡ read_all_answer answer)
