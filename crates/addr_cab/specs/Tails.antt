-- How the reader's cursors are seen, and what its calls promise.
use Rattle.std.specs.Prelude.{◌≡◌, Result, Ok, Err, ◌⊎◌}
use Rattle.addr_unityfs.specs.Faults.{Tail}
use Rattle.addr_cab.specs.declared.cursor.Cursor.{Cursor}
use Rattle.addr_cab.specs.declared.parts.Parts as code
use Rattle.addr_cab.specs.declared.error.CabErr.{CabErr}
use Rattle.addr_cab.specs.declared.error.CabErr.TheVariants.{NoMemory}
use Rattle.addr_cab.specs.Faults.{Parts}

abbrev pub tail : Cursor → Tail
tail c = record { end = c.end; rest = c.rest.now }

abbrev pub parts : code.Parts → Parts
parts p = record { outside = p.outside.items; rows = p.rows.items; end = p.end; rest = tail p.rest }

-- what a call returned, seen by view, is what reading gives
abbrev pub Reads : {X Y : Type 0} → (X → Y) → Result X CabErr → Result Y CabErr → Type 0
Reads view (Ok x) read = read ≡ Ok (view x)
Reads view (Err e) read = read ≡ Err e

-- the same of a call that takes memory
abbrev pub Gives : {X Y : Type 0} → (X → Y) → Result X CabErr → Result Y CabErr → Type 0
Gives view (Ok x) read = read ≡ Ok (view x)
Gives view (Err e) read = (e ≡ NoMemory) ⊎ (read ≡ Err e)
