-- How the reader's cursors are seen, and what its calls promise.
use Rattle.std.specs.Prelude.{◌≡◌, Result, Ok, Err, ◌⊎◌}
use Rattle.addr_unityfs.specs.declared.cursor.Cursor.{Cursor}
use Rattle.addr_unityfs.specs.declared.error.FsErr.{FsErr}
use Rattle.addr_unityfs.specs.declared.error.FsErr.TheVariants.{NoMemory}
use Rattle.addr_unityfs.specs.declared.header as headers
use Rattle.addr_unityfs.specs.declared.sections as places
use Rattle.addr_unityfs.specs.Faults.{Tail, Head, Sections}

abbrev pub tail : Cursor → Tail
tail c = record { end = c.end; rest = c.rest.now }

abbrev pub head : headers.Head.Head → Head
head h = record { version = h.version; size = h.size; stored = h.stored; plain = h.plain; flags = h.flags }

abbrev pub sections : places.Sections.Sections → Sections
sections l = record { info = l.info; from = l.from; to = l.to }

-- what a call returned, seen by view, is what reading gives
abbrev pub Reads : {X Y : Type 0} → (X → Y) → Result X FsErr → Result Y FsErr → Type 0
Reads view (Ok x) read = read ≡ Ok (view x)
Reads view (Err e) read = read ≡ Err e

-- the same of a call that takes memory
abbrev pub Gives : {X Y : Type 0} → (X → Y) → Result X FsErr → Result Y FsErr → Type 0
Gives view (Ok x) read = read ≡ Ok (view x)
Gives view (Err e) read = (e ≡ NoMemory) ⊎ (read ≡ Err e)
