-- The one history of a lock, what each pass knows of it, and the rule that every step keeps.
use Rattle.std.specs.Prelude.{◌≡◌, ◌⊎◌, ℕ, ◌+◌, ◌-◌, ◌==◌, ◌<◌, ◌≤◌, Bool, false, List, [], ◌∷◌, ◌++◌, map, length, slice_index, Option, Some, None, MatchOption}
use Rattle.std.specs.List.{filter}
use mathlib.Core.Option.{some}
use lib.ListN.{get_elem?}
use Rattle.atomic_table.specs.Table.{State}
use Rattle.addr_turn.specs.declared.board.Role.{Role}
use Rattle.addr_turn.specs.declared.board.Role.TheVariants.{Idle}
use Rattle.addr_turn.specs.declared.board.View.{View}
use Rattle.addr_turn.specs.Queue.{stage, Queue}
use Rattle.addr_turn.specs.Numbers.{number_bound, times, single}

-- whether the entry's number, where it has one, is k
abbrev pub is_number : Option ℕ → ℕ → Bool
is_number None k = false
is_number (Some n) k = n == k

-- the entries of the number k, in order
unfoldable pub own : {E : Type 0} → (E → Option ℕ) → ℕ → List E → List E
own number k log = filter (λ e. is_number (number e) k) log

-- xs is a prefix of ys
abbrev pub IsPrefix : {E : Type 0} → List E → List E → Type 0
IsPrefix {E} xs ys = (zs : List E) × (xs ++ zs ≡ ys)

-- x stands at the place i
abbrev pub At : {A : Type 0} → List A → ℕ → A → Type 0
At xs i x = get_elem? xs i ≡ some x

module _ {E F : Type 0} where
  -- the numbers that a pass or one met into it had
  abbrev pub had : View E F → List (ℕ × ℕ)
  had v = (v.number, 1) ∷ map single v.others

  -- the numbers of its domain that no pass ever had: the spare ones, those that were given up too
  abbrev pub unused : View E F → List (ℕ × ℕ)
  unused v = (v.low, v.spare) ∷ v.given_up

  -- the domain of a pass
  abbrev pub domain : View E F → List (ℕ × ℕ)
  domain v = had v ++ unused v

  -- in how many parts of domains k stands, over all passes
  abbrev pub claims : ℕ → List (View E F) → ℕ
  claims k [] = 0
  claims k (v ∷ vs) = times k (domain v) + claims k vs

  -- how many spare numbers all passes have
  abbrev pub spares_of : List (View E F) → ℕ
  spares_of [] = 0
  spares_of (v ∷ vs) = v.spare + spares_of vs

  -- the number k stands in the domain
  abbrev pub InDomain : View E F → ℕ → Type 0
  InDomain v k = 0 < times k (domain v)

  -- no number stands in both domains
  abbrev pub AreApart : View E F → View E F → Type 0
  AreApart v w = (k : ℕ) → k < number_bound → times k (domain v) + times k (domain w) ≤ 1

  -- the domain of v is shared out between a and b
  abbrev pub SharedOut : View E F → View E F → View E F → Type 0
  SharedOut v a b = (k : ℕ) → times k (domain v) ≡ times k (domain a) + times k (domain b)

  -- how far the pass is with a turn
  abbrev pub role_of : View E F → Role
  role_of v = v.role

  -- what the first pass knows
  abbrev pub first_view : F → View E F
  first_view part = record { role = Idle; number = 0; low = 1; spare = number_bound - 1; share = 0; seen = []; shorter = []; mine = []; others = []; given_up = []; bare = []; fixed = Some part }

  -- what is left of a pass that was met into another
  abbrev pub spent_view : View E F
  spent_view = record { role = Idle; number = number_bound; low = number_bound + 1; spare = 0; share = 0; seen = []; shorter = []; mine = []; others = []; given_up = []; bare = []; fixed = None }

-- what a pass knows of the history, where who tells the number that the pass had which recorded the entry at a place
pub record Knows {E F : Type 0} (number : E → Option ℕ) (log : List E) (part : F) (who : ℕ → ℕ) (v : View E F) : Type 0 where
  pub prefix : IsPrefix v.seen log
  pub shorter : IsPrefix v.shorter log
  pub mine : v.number < number_bound → own number v.number log ≡ v.mine
  -- all its entries stand in what it has seen
  pub mine_seen : v.number < number_bound → own number v.number v.seen ≡ v.mine
  pub others : (i k : ℕ) (es : List E) → At v.others i (k, es) → k < number_bound → own number k log ≡ es
  pub whole : 2 < stage v.role → v.seen ≡ log
  pub same_part : (f : F) → v.fixed ≡ Some f → f ≡ part
  -- who recorded had no number that is spare or was given up
  pub idle : (p : ℕ) → p < length log → times (who p) (unused v) ≡ 0
  pub bare_in : (i p : ℕ) → At v.bare i p → (e : E) × At log p e × (number e ≡ None) × InDomain v (who p)
  pub bare_all : (p : ℕ) (e : E) → At log p e → number e ≡ None → InDomain v (who p) → (i : ℕ) × At v.bare i p

-- a pass recorded the entry, with its number or with none
abbrev pub Signed : Option ℕ → ℕ → Type 0
Signed n k = (k < number_bound) × ((j : ℕ) → n ≡ Some j → j ≡ k)

-- all that a pass knows where the history is the log: whose each entry is, and that the parts of its domain have no number in common
pub record IsKnown {E F : Type 0} (number : E → Option ℕ) (log : List E) (part : F) (v : View E F) : Type 0 where
  pub who : ℕ → ℕ
  pub knows : Knows number log part who v
  pub signed : (p : ℕ) (e : E) → At log p e → Signed (number e) (who p)
  pub apart : (k : ℕ) → k < number_bound → times k (domain v) ≤ 1

module _ {E F : Type 0} where
  -- the domain of the pass is every number
  abbrev pub HasAll : View E F → Type 0
  HasAll v = (k : ℕ) → k < number_bound → InDomain v k

  -- the entry e at the place p is one of the pass's, or of one that was met
  abbrev pub Accounted : (E → Option ℕ) → View E F → ℕ → E → Type 0
  Accounted number v p e = MatchOption (number e) ((i : ℕ) × At v.bare i p)
      (λ k. ((i : ℕ) × At v.mine i e) ⊎ ((i : ℕ) × (es : List E) × (j : ℕ) × At v.others i (k, es) × At es j e))

-- where the domain is every number, each entry of the log is accounted for
abbrev pub AllAccounted : {E F : Type 0} → (E → Option ℕ) → View E F → List E → Type 0
AllAccounted {E} number v log = HasAll v → (p : ℕ) (e : E) → At log p e → Accounted number v p e

module _ {S E F : Type 0} (entries : S → List E) (fixed : S → F) (number : E → Option ℕ) where
  -- the state stands for the history and for the fixed part
  abbrev pub Stands : List E → F → S → Type 0
  Stands log part state = (entries state ≡ log) × (fixed state ≡ part)

  -- the rule: one history and one fixed part, which all passes know
  pub record Ruled (s : State (Option S) (View E F)) : Type 0 where
    pub log : List E
    pub part : F
    pub who : ℕ → ℕ
    pub queue : Queue role_of (Stands log part) s
    pub recorded : slice_index s.words 2 ≡ length log
    pub knows : (j : ℕ) (d : View E F) → At s.views j d → Knows number log part who d
    pub signed : (p : ℕ) (e : E) → At log p e → Signed (number e) (who p)
    -- each number stands in one part of one domain
    pub once : (k : ℕ) → k < number_bound → claims k s.views ≡ 1
    pub room : length s.views + spares_of s.views ≤ number_bound
