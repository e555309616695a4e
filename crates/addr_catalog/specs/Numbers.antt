-- The numbers by which programs print faults.
use Rattle.std.specs.Prelude.{ℕ}
use Rattle.addr_catalog.specs.declared.error.CatErr.{CatErr}
use Rattle.addr_catalog.specs.declared.error.CatErr.TheVariants.{Json, Member, Table, Provider, Options, Depends, NoMemory}

-- the number of a fault, and 0 for want of memory
abbrev pub error_number : CatErr → ℕ
error_number NoMemory = 0
error_number Json = 1
error_number (Member which) = 2
error_number (Table fault) = 3
error_number (Provider entry) = 4
error_number (Options entry) = 5
error_number (Depends entry) = 6
