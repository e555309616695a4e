-- What `serve` ends with: which words ask for it, and the status that its end has.
use Rattle.std.specs.Prelude.{ℕ, ◌≡◌, ◌≢◌, ◌<◌, ◌≤◌, ◌^◌, ◌++◌, List, [], ◌∷◌, codes, decimal, IfSome, ◌⊎◌}
use Rattle.addr_base.specs.Faults.{Rose}
use Rattle.addr_base.specs.Files.{Store}
use Rattle.addr_base.specs.Streams.{Stream}
use Rattle.addr_wire.specs.Listeners.{ListenNow}
use Rattle.addr_serve.specs.Serving.{Serves}
use Rattle.addr_serve.specs.declared.serving.Ended.{Ended}
use Rattle.addr_serve.specs.declared.serving.Ended.TheVariants.{Done, Memory, Net, Sink}
use Rattle.addr_cli.specs.Outcome.{Prints}

-- a text that spells a number of connections, from 1 to 1,000,000
pub record IsConnections (text : List ℕ) (n : ℕ) : Type 0 where
  pub some : 1 ≤ n
  pub most : n ≤ 1000000
  pub spelled : text ≡ decimal n

-- the words ask to serve so many connections at a port, with the files of a folder
pub record AsksToServe (words : List (List ℕ)) (folder : List ℕ) (port connections : ℕ) : Type 0 where
  pub line : words ≡ codes "serve" ∷ folder ∷ decimal port ∷ decimal connections ∷ []
  pub small : port < 2 ^ 16
  pub some : 1 ≤ connections
  pub most : connections ≤ 1000000

abbrev pub IsServeLine : List (List ℕ) → Type 0
IsServeLine words = (folder : List ℕ) × (port : ℕ) × (connections : ℕ) × AsksToServe words folder port connections

-- the status that serving ends with
abbrev pub served_status : Ended → ℕ
served_status Done = 0
served_status Memory = 1
served_status Sink = 13
served_status Net = 14

-- the connections were served that the words ask for, and this is how it ended; a port that isn't 0 is the one that was bound
abbrev pub HasServed : List (List ℕ) → Store → Store → ListenNow → ListenNow → Stream → Stream → Ended → Type 0
HasServed words depot depot_after listen listen_after out out_after ended =
    (folder : List ℕ) × (port : ℕ) × (connections : ℕ) × AsksToServe words folder port connections
    × Serves folder depot.files connections depot.faults depot_after.faults ended listen listen_after out.written out_after.written
    × (port ≢ 0 → ended ≡ Done → IfSome listen_after.port (λ bound. bound ≡ port))

-- nothing but the line of usage was written
pub record IsRefused (words : List (List ℕ)) (depot depot_after : Store) (listen listen_after : ListenNow) (out out_after : Stream) (status : ℕ) : Type 0 where
  pub other : IsServeLine words → ⊥
  pub unread : depot_after.faults ≡ depot.faults
  pub unheard : listen_after ≡ listen
  pub prints : Prints 2 (codes "error 2 usage" ++ 10 ∷ []) status out out_after

-- how `serve` ends: as its words ask, with that end's status, or refused
abbrev pub ServesTo : List (List ℕ) → Store → Store → ListenNow → ListenNow → Stream → Stream → ℕ → Type 0
ServesTo words depot depot_after listen listen_after out out_after status =
    ((ended : Ended) × HasServed words depot depot_after listen listen_after out out_after ended × (status ≡ served_status ended))
    ⊎ IsRefused words depot depot_after listen listen_after out out_after status

-- the causes of a status: 14 only where the listener's count of faults rose, which it does under no other but 13, and 13 exactly
-- where the sink's rose; a fault of the depot has no status here, since it is answered to the one who asked
pub record HasServeCauses (listen listen_after : ListenNow) (out out_after : Stream) (status : ℕ) : Type 0 where
  pub net_rose : status ≡ 14 → Rose listen.faults listen_after.faults
  pub net_kept : status ≢ 14 → status ≢ 13 → listen_after.faults ≡ listen.faults
  pub sink_rose : status ≡ 13 → Rose out.faults out_after.faults
  pub sink_kept : status ≢ 13 → out_after.faults ≡ out.faults
  pub answered : status ≢ 3

-- words of `serve` are never usage, and other words are nothing else but where the sink failed
abbrev pub IsServeUsage : List (List ℕ) → ℕ → Type 0
IsServeUsage words status = (IsServeLine words → status ≢ 2) × ((IsServeLine words → ⊥) → (status ≡ 2) ⊎ (status ≡ 13))
