-- What reading an asset is answered. What the images hold is an argument: for a bundle and the 16 bytes of a GUID, the object in
-- the image that was handed to the bundle's last Done.
use Rattle.std.specs.Prelude.{ℕ, ◌≡◌, List, Option, Some, None, Result, Ok, Err, slice_get}
use Rattle.addr_base.specs.Ids.{Are16Bytes, hex_of}
use Rattle.addr_base.specs.Images.{Object}
use Rattle.addr_base.specs.declared.ids.BundleNo.{BundleNo}
use Rattle.addr_base.specs.declared.ids.OpId.{OpId}
use Rattle.addr_base.specs.declared.ids.RowNo.{RowNo}
use Rattle.addr_locate.specs.Rows.{Rows}
use Rattle.addr_locate.specs.declared.rows.AssetRow.{AssetRow}
use Rattle.addr_history.specs.declared.answers.NoHandle.{NoHandle as NoHandleErr}
use Rattle.addr_history.specs.declared.answers.OpStatus.{OpStatus}
use Rattle.addr_history.specs.declared.answers.OpStatus.TheVariants as status
use Rattle.addr_history.specs.declared.event.Event.{Event}
use Rattle.addr_history.specs.declared.reading.ReadErr.{ReadErr}
use Rattle.addr_history.specs.declared.reading.ReadErr.TheVariants.{NoHandle, NoAsset, Pending, Failed, Absent, NoMemory}
use Rattle.addr_history.specs.Counts.{rows_of_op}
use Rattle.addr_history.specs.Answers.{status_reply}

-- a row that may be read: the operation has a status, the row is there, and the status is Ready; else the first refusal
abbrev pub ready_row : Result OpStatus NoHandleErr → Option RowNo → Result RowNo ReadErr
ready_row (Err none) row = Err NoHandle
ready_row (Ok found) None = Err NoAsset
ready_row (Ok status.Pending) (Some row) = Err Pending
ready_row (Ok status.Ready) (Some row) = Ok row
ready_row (Ok (status.Failed b cause)) (Some row) = Err (Failed b cause)

-- the operation's i-th row, or the first refusal of reading it that looks at no image
unfoldable pub row_reply : Rows → List Event → OpId → ℕ → Result RowNo ReadErr
row_reply rows h op i = ready_row (status_reply rows h op) (slice_get (rows_of_op rows h op) i)

-- the operation's i-th row may be read: the asset row that it is, and that row's first dependency
pub record MayRead (rows : Rows) (h : List Event) (op : OpId) (i : ℕ) (asset : AssetRow) (home : BundleNo) : Type 0 where
  pub row : RowNo
  pub ready : row_reply rows h op i ≡ Ok row
  pub is : slice_get rows.assets row.0 ≡ Some asset
  pub first : slice_get asset.deps 0 ≡ Some home

-- an id is the text of a GUID with those 16 bytes
abbrev pub Spells : List ℕ → List ℕ → Type 0
Spells id guid = Are16Bytes guid × (id ≡ hex_of guid)

-- a bundle holds an object under the GUID that an id is the text of
abbrev pub Holds : (BundleNo → List ℕ → Option Object) → BundleNo → List ℕ → Object → Type 0
Holds objects b id o = (guid : List ℕ) × Spells id guid × (objects b guid ≡ Some o)

-- read: the bytes of the row's object in the row's first dependency, which is named where it holds none; want of memory is no answer
abbrev pub Reads : (BundleNo → List ℕ → Option Object) → Rows → List Event → OpId → ℕ → Result (List ℕ) ReadErr → Type 0
Reads objects rows h op i (Ok bytes) = (a : AssetRow) × (b : BundleNo) × MayRead rows h op i a b × (o : Object) × Holds objects b a.id o × (bytes ≡ o.bytes)
Reads objects rows h op i (Err (Absent b)) = (a : AssetRow) × MayRead rows h op i a b × ((o : Object) → Holds objects b a.id o → ⊥)
Reads objects rows h op i (Err NoHandle) = row_reply rows h op i ≡ Err NoHandle
Reads objects rows h op i (Err NoAsset) = row_reply rows h op i ≡ Err NoAsset
Reads objects rows h op i (Err Pending) = row_reply rows h op i ≡ Err Pending
Reads objects rows h op i (Err (Failed b cause)) = row_reply rows h op i ≡ Err (Failed b cause)
Reads objects rows h op i (Err NoMemory) = ⊥
