-- The walk through bundles agrees with the walk through the project: what building stands on.
use Rattle.std.specs.Prelude.{ℕ, List}
use Rattle.std.specs.List.{Contains}
use Rattle.addr_base.specs.declared.ids.Guid.{Guid}
use Rattle.addr_pack.specs.declared.bundles.Plan.{Plan}
use Rattle.addr_project.specs.Model.{Project}
use Rattle.addr_project.specs.Reach.{Refers, Reaches}
use Rattle.addr_walks.specs.Closure.{IsDeps}
use Rattle.addr_walks.specs.Walks.{Leads}
use Rattle.addr_layout.specs.Members.{HasEntry, Member, EachPlaced}
use Rattle.addr_layout.specs.Needs.{Home, Needs}

-- an asset in a bundle
pub record Place : Type 0 where
  pub bundle : ℕ
  pub guid : Guid

-- the place of an asset in a bundle
abbrev pub place : ℕ → Guid → Place
place b g = record { bundle = b; guid = g }

-- a reference is followed to its home
abbrev pub Follows : Project → Plan → Place → Place → Type 0
Follows p plan from to = Refers p from.guid to.guid × Home p plan from.bundle to.guid to.bundle

-- from an asset in a bundle, following steps comes to exactly the assets that the project reaches, each standing where one comes,
-- in bundles that are all among the first one's dependencies
pub record AgreesOver (p : Project) (follows : Place → Place → Type 0) (stands : Place → Type 0) (needs : ℕ → ℕ → Type 0) (b : ℕ) (a : Guid) : Type 0 where
  pub found : (d : Guid) → Reaches p a d → (c : ℕ) × Leads follows (place b a) (place c d)
  pub only : (c : ℕ) (d : Guid) → Leads follows (place b a) (place c d) → Reaches p a d
  pub held : (c : ℕ) (d : Guid) → Leads follows (place b a) (place c d) → stands (place c d)
  pub needed : (c : ℕ) (d : Guid) (deps : List ℕ) → IsDeps needs b deps → Leads follows (place b a) (place c d) → Contains deps c

-- by homes of the placement, members, and what these need
abbrev pub Agrees : Project → Plan → ℕ → Guid → Type 0
Agrees p plan b a = AgreesOver p (Follows p plan) (λ q. Member p plan q.bundle q.guid) (Needs p plan) b a

-- it does so from each entry, where each stands in a bundle
abbrev pub WalkAgrees : Project → Plan → Type 0
WalkAgrees p plan = EachPlaced p plan → (b : ℕ) (a : Guid) → HasEntry p plan b a → Agrees p plan b a
