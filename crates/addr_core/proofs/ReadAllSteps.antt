-- What reading with all that is led to answers, from what is kept.
use Rattle.std.proofs.Common.{◌≡◌, ◌⊎◌, inl, inr, ℕ, true, List, Option, Some, Result, Ok, Err, slice_get, refl, sym, ◌∙◌, ap, if◌then◌else◌}
use Rattle.std.proofs.lemmas.Bool.{cases_Bool}
use Rattle.addr_base.specs.Images.{Object}
use Rattle.addr_base.specs.declared.ids.BundleNo.{BundleNo}
use Rattle.addr_base.specs.declared.ids.OpId.{OpId}
use Rattle.addr_base.specs.declared.ids.RowNo.{RowNo}
use Rattle.addr_locate.specs.Rows.{Rows}
use Rattle.addr_locate.specs.declared.rows.AssetRow.{AssetRow}
use Rattle.addr_history.specs.Answers.{status_reply}
use Rattle.addr_history.specs.Counts.{is_unreleased, needs_of_op, rows_of_op}
use Rattle.addr_history.specs.Reading.{ready_row, row_reply}
use Rattle.addr_history.specs.Status.{status_of}
use Rattle.addr_history.specs.Unfolding.{ReadsAll}
use Rattle.addr_history.specs.declared.answers.NoHandle.{NoHandle as NoHandleErr}
use Rattle.addr_history.specs.declared.answers.OpStatus.{OpStatus}
use Rattle.addr_history.specs.declared.event.Event.{Event}
use Rattle.addr_history.specs.declared.reading.Item2.{Item2}
use Rattle.addr_history.specs.declared.reading.ReadErr.{ReadErr}
use Rattle.addr_history.specs.declared.reading.ReadErr.TheVariants.{NoHandle, NoAsset, Pending, Failed, Absent, NoMemory}
use Rattle.addr_objects.specs.Objects.{ReadsAllOfAsset}
use Rattle.addr_core.proofs.ReadSteps.{no_absent, no_want}

abbrev no_status : Result OpStatus NoHandleErr
no_status = Err (record {})

-- an operation with a row that may be read is unreleased
pub ready_open : (rows : Rows) (h : List Event) (op : OpId) (i : ℕ) (row : RowNo) → row_reply rows h op i ≡ Ok row → is_unreleased h op ≡ true
unfolding row_reply status_reply
ready_open rows h op i row is = elim (cases_Bool (is_unreleased h op)) [
  | inl now ↦ now
  | inr gone ↦
      let none : status_reply rows h op ≡ no_status = ap (λ t. let r : Result OpStatus NoHandleErr = if t then Ok (status_of rows h op) else no_status in r) gone in
      absurd (cc (sym (ap (λ f. ready_row f (slice_get (rows_of_op rows h op) i)) none) ∙ is))
]

pub all_refused : (objects : BundleNo → List ℕ → Option Object) (rows : Rows) (h : List Event) (op : OpId) (i : ℕ) (e : ReadErr) → row_reply rows h op i ≡ Err e → ReadsAll objects rows h op i (Err e)
unfolding row_reply
all_refused objects rows h op i NoHandle is = is
all_refused objects rows h op i NoAsset is = is
all_refused objects rows h op i Pending is = is
all_refused objects rows h op i (Failed b cause) is = is
all_refused objects rows h op i (Absent b) is = absurd (no_absent (status_reply rows h op) (slice_get (rows_of_op rows h op) i) b is)
all_refused objects rows h op i NoMemory is = absurd (no_want (status_reply rows h op) (slice_get (rows_of_op rows h op) i) is)

-- what the row's asset leads to is the answer
pub all_answer : (objects : BundleNo → List ℕ → Option Object) (rows : Rows) (h : List Event) (op : OpId) (i : ℕ) (row : RowNo) (a : AssetRow) (result : Result (List Item2) ReadErr) → row_reply rows h op i ≡ Ok row → slice_get rows.assets row.0 ≡ Some a
    → ReadsAllOfAsset objects rows.bundles (needs_of_op rows h op) a result → ReadsAll objects rows h op i result ⊎ ((result ≡ Err NoMemory) × (r : RowNo) × (row_reply rows h op i ≡ Ok r))
all_answer objects rows h op i row a (Ok items) ready is (home, first, start, begins, unfolds) = inl (a, home, record { row = row; ready = ready; is = is; first = first }, start, begins, unfolds)
all_answer objects rows h op i row a (Err (Absent b)) ready is (home, first, missed) = inl (a, home, record { row = row; ready = ready; is = is; first = first }, missed)
all_answer objects rows h op i row a (Err NoMemory) ready is found = inr (refl, row, ready)
all_answer objects rows h op i row a (Err NoHandle) ready is found = absurd found
all_answer objects rows h op i row a (Err NoAsset) ready is found = absurd found
all_answer objects rows h op i row a (Err Pending) ready is found = absurd found
all_answer objects rows h op i row a (Err (Failed b cause)) ready is found = absurd found
