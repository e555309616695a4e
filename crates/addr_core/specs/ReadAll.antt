-- What reading an asset with all that it leads to answers, and when it may want memory.
use Rattle.std.specs.Prelude.{ℕ, ◌≡◌, ◌⊎◌, List, Option, Result, Ok, Err}
use Rattle.addr_base.specs.Images.{Object}
use Rattle.addr_base.specs.declared.ids.OpId.{OpId}
use Rattle.addr_base.specs.declared.ids.RowNo.{RowNo}
use Rattle.addr_history.specs.Reading.{row_reply}
use Rattle.addr_history.specs.Unfolding.{ReadsAll}
use Rattle.addr_history.specs.declared.reading.Item2.{Item2}
use Rattle.addr_history.specs.declared.reading.ReadErr.{ReadErr}
use Rattle.addr_history.specs.declared.reading.ReadErr.TheVariants as reading
use Rattle.addr_objects.specs.Objects.{objects_in}
use Rattle.addr_core.specs.Machine.{Machine}

-- the answer, or want of memory, but only where the row may be read: no refusal that looks at no image takes memory
abbrev pub AnswersReadAll : {I : Type 0} → (I → List ℕ → Option Object) → Machine I → OpId → ℕ → Result (List Item2) ReadErr → Type 0
AnswersReadAll held m op i result =
    ReadsAll (objects_in held m.images) m.rows m.history op i result
    ⊎ ((result ≡ Err reading.NoMemory) × (row : RowNo) × (row_reply m.rows m.history op i ≡ Ok row))
