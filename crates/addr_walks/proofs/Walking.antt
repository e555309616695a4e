-- Walks: what is kept along them, what takes walks to walks, and two walks joined.
use Rattle.addr_walks.specs.Walks.{Leads}
use Rattle.addr_walks.specs.Walks.Leads.{stays, goes}

-- what holds at the start and is kept by each step holds at the end
pub kept-along : {X : Type 0} (step : X → X → Type 0) (keeps : X → Type 0) → ((x y : X) → keeps x → step x y → keeps y) → (x y : X) → keeps x → Leads step x y → keeps y
kept-along step keeps kept x y here stays = here
kept-along step keeps kept x y here (goes {x = m} {y = z} before last) = kept m z (kept-along step keeps kept x m here before) last

-- a map that takes steps to steps takes walks to walks
pub Leads-map : {X Y : Type 0} (step : X → X → Type 0) (other : Y → Y → Type 0) (f : X → Y) → ((x y : X) → step x y → other (f x) (f y)) → (x y : X) → Leads step x y → Leads other (f x) (f y)
Leads-map step other f takes x y stays = stays
Leads-map step other f takes x y (goes {x = m} {y = z} before last) = goes (Leads-map step other f takes x m before) (takes m z last)

pub Leads-join : {X : Type 0} (step : X → X → Type 0) (x y z : X) → Leads step x y → Leads step y z → Leads step x z
Leads-join step x y z first stays = first
Leads-join step x y z first (goes {x = m} {y = w} before last) = goes (Leads-join step x y m first before) last
