-- The numbers by which programs print the faults of an asset table.
use Rattle.std.specs.Prelude.{ℕ, Option, Some, None}
use Rattle.addr_cab.specs.declared.error.CabErr.{CabErr}
use Rattle.addr_cab.specs.declared.error.CabErr.TheVariants.{Short, Magic, Order, Range, Ref, Trailing, Nodes, NoMemory}

-- want of memory has none
abbrev pub fault_number : CabErr → Option ℕ
fault_number (Short at) = Some 1
fault_number Magic = Some 2
fault_number (Order at) = Some 3
fault_number (Range at) = Some 4
fault_number (Ref at) = Some 5
fault_number (Trailing at) = Some 6
fault_number Nodes = Some 7
fault_number NoMemory = None
