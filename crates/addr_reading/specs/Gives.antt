-- What a call promises of what reading gives: memory may be refused, and nothing else may keep it from the answer.
use Rattle.std.specs.Prelude.{◌≡◌, ◌≢◌, ◌⊎◌, Result, Ok, Err}

-- what a call answered, seen by a view, is what reading gives, unless memory was refused
abbrev pub Gives : {X Y E : Type 0} → E → (X → Y) → Result X E → Result Y E → Type 0
Gives no_memory view (Ok x) read = read ≡ Ok (view x)
Gives no_memory view (Err e) read = e ≢ no_memory → read ≡ Err e

-- the same of a call that takes no memory
abbrev pub Reads : {X Y E : Type 0} → (X → Y) → Result X E → Result Y E → Type 0
Reads view (Ok x) read = read ≡ Ok (view x)
Reads view (Err e) read = read ≡ Err e

-- reading gives no want of memory
abbrev pub IsNamed : {A E : Type 0} → E → Result A E → Type 0
IsNamed no_memory read = read ≢ Err no_memory

-- reading gives a value, or a fault that isn't want of memory
abbrev pub IsDecided : {A E : Type 0} → E → Result A E → Type 0
IsDecided {A} {E} no_memory read = ((x : A) × (read ≡ Ok x)) ⊎ ((fault : E) × (read ≡ Err fault) × (fault ≢ no_memory))
