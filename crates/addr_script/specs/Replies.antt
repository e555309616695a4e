-- The replies to commands, and the line that each is printed as.
use Rattle.std.specs.Prelude.{ℕ, ◌==◌, nat_le, List, ◌∷◌, ◌++◌, Some, None, length, codes, decimal, if◌then◌else◌}
use Rattle.std.specs.List.{flat_map}
use Rattle.addr_base.specs.Ids.{digest_of, hex_of}
use Rattle.addr_history.specs.declared.answers.BundleState.{BundleState}
use Rattle.addr_history.specs.declared.answers.BundleState.TheVariants.{Resident, Fetching, Queued, Absent}
use Rattle.addr_history.specs.declared.answers.Next.{Next}
use Rattle.addr_history.specs.declared.answers.Next.TheVariants.{Bundle, Idle, End}
use Rattle.addr_history.specs.declared.answers.OpStatus.{OpStatus}
use Rattle.addr_history.specs.declared.answers.OpStatus.TheVariants.{Pending, Ready, Failed}
use Rattle.addr_history.specs.declared.answers.Settled.{Settled}
use Rattle.addr_history.specs.declared.answers.Settled.TheVariants.{Kept, Dropped}
use Rattle.addr_history.specs.declared.reading.Item2.{Item2}
use Rattle.addr_script.specs.Causes.{cause_text}
use Rattle.addr_script.specs.declared.reply.Reply.{Reply}
use Rattle.addr_script.specs.declared.reply.Reply.TheVariants.{Opened, NoLocation, JournalFull, Closed, Acquired, Released, NoHandle, Status, References, Next as NextReply, Settled as SettledReply, NotTaken, Noted, NowClosed, Counted, NoBundle, Bytes, All, NoAsset, AbsentFrom}

abbrev pub status_text : OpStatus → List ℕ
status_text Pending = codes "pending"
status_text Ready = codes "ready"
status_text (Failed b cause) = codes "failed " ++ (decimal b.0 ++ 32 ∷ cause_text cause)

abbrev pub state_word : BundleState → List ℕ
state_word Resident = codes "resident"
state_word Fetching = codes "fetching"
state_word Queued = codes "queued"
state_word Absent = codes "absent"

abbrev pub next_text : Next → List ℕ
next_text (Bundle b) = codes "bundle " ++ decimal b.0
next_text Idle = codes "idle"
next_text End = codes "end"

abbrev pub settled_word : Settled → List ℕ
settled_word Kept = codes "kept"
settled_word Dropped = codes "dropped"

-- bytes: themselves in hex where there are 1 to 64, `-` where there are none, else `#` (35) and their digest
unfoldable pub content_text : List ℕ → List ℕ
content_text bytes = if length bytes == 0 then codes "-" else if nat_le (length bytes) 64 then hex_of bytes else 35 ∷ hex_of (digest_of bytes)

-- one asset of an unfolding, behind a space (32): its GUID, how many bytes it has and how they are shown, with a colon (58) between each two
abbrev pub item_text : Item2 → List ℕ
item_text item = 32 ∷ (hex_of item.guid.0 ++ 58 ∷ (decimal (length item.bytes) ++ 58 ∷ content_text item.bytes))

abbrev pub items_text : List Item2 → List ℕ
items_text items = flat_map item_text items

-- a key is named by its token, and `%-` says that there is none to name
unfoldable pub reply_text : Reply → List ℕ
reply_text (Opened op) = codes "op " ++ decimal op.0
reply_text (NoLocation (Some token)) = codes "no-location " ++ token
reply_text (NoLocation None) = codes "no-location %-"
reply_text (JournalFull used reserved needed) = codes "journal-full " ++ (decimal used ++ 32 ∷ (decimal reserved ++ 32 ∷ decimal needed))
reply_text Closed = codes "closed"
reply_text Acquired = codes "acquired"
reply_text Released = codes "released"
reply_text NoHandle = codes "no-handle"
reply_text (Status status) = status_text status
reply_text (References references) = codes "refs " ++ decimal references
reply_text (NextReply next) = next_text next
reply_text (SettledReply settled) = settled_word settled
reply_text NotTaken = codes "not-taken"
reply_text Noted = codes "failed"
reply_text NowClosed = codes "close"
reply_text (Counted count state) = codes "count " ++ (decimal count ++ 32 ∷ state_word state)
reply_text NoBundle = codes "no-bundle"
reply_text (Bytes length content) = codes "bytes " ++ (decimal length ++ 32 ∷ content)
reply_text (All count items) = codes "all " ++ (decimal count ++ items)
reply_text NoAsset = codes "no-asset"
reply_text (AbsentFrom b) = codes "absent " ++ decimal b.0
