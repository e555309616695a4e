-- The lines of a server: where it listens, and how each connection ended.
use Rattle.std.specs.Prelude.{ℕ, List, [], ◌∷◌, ◌++◌, codes, decimal}
use Rattle.addr_http.specs.declared.answering.Served.{Served}
use Rattle.addr_http.specs.declared.answering.Served.TheVariants.{Answered, Broken, NoMemory}

-- `serving <port>`
abbrev pub port_line : ℕ → List ℕ
port_line port = codes "serving " ++ (decimal port ++ 10 ∷ [])

-- a status, `broken` or `memory`
abbrev pub served_line : Served → List ℕ
served_line (Answered status) = decimal status ++ 10 ∷ []
served_line Broken = codes "broken" ++ 10 ∷ []
served_line NoMemory = codes "memory" ++ 10 ∷ []

-- `error 14 net` and `error 1 memory`
abbrev pub net_line : List ℕ
net_line = codes "error 14 net" ++ 10 ∷ []

abbrev pub memory_line : List ℕ
memory_line = codes "error 1 memory" ++ 10 ∷ []
