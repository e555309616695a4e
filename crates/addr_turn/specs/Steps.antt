-- What each kind of step tells the pass that makes it: me before, the number found, me' after.
use Rattle.std.specs.Prelude.{◌≡◌, ℕ, ◌+◌, ◌-◌, ◌%◌, ◌<◌, List, [], ◌∷◌, ◌++◌, length, nat_le, if◌then◌else◌, Option, Some, None}
use Rattle.atomic_table.specs.Table.{Me, Step}
use Rattle.addr_turn.specs.declared.board.Role.{Role}
use Rattle.addr_turn.specs.declared.board.Role.TheVariants.{Idle, Drawn, Turn, Glanced, Out}
use Rattle.addr_turn.specs.declared.board.View.{View}
use Rattle.addr_turn.specs.Numbers.{number_bound}
use Rattle.addr_turn.specs.Queue.{ticket}
use Rattle.addr_turn.specs.OneHistory.{own, IsPrefix, IsKnown}

module _ {E : Type 0} where
  -- the entry where it has a number
  abbrev pub numbered : Option ℕ → E → List E
  numbered None e = []
  numbered (Some n) e = e ∷ []

  -- of two lists the longer one, the first where they are as long
  unfoldable pub longer : List E → List E → List E
  longer xs ys = if nat_le (length ys) (length xs) then xs else ys

  -- the other one
  unfoldable pub shorter_of : List E → List E → List E
  shorter_of xs ys = if nat_le (length ys) (length xs) then ys else xs

-- the place where the entry has none
abbrev pub bare_at : Option ℕ → ℕ → List ℕ
bare_at None p = p ∷ []
bare_at (Some n) p = []

module _ {E F : Type 0} where
  -- the same pass at another role
  abbrev pub with_role : View E F → Role → View E F
  with_role v r = record v { role = r }

  -- the same pass at another role, having seen more
  abbrev pub with_seen : View E F → Role → List E → View E F
  with_seen v r log = record v { role = r; seen = log }

  -- an entry with this number may be recorded by the pass
  abbrev pub IsOfPass : Option ℕ → View E F → Type 0
  IsOfPass n v = (k : ℕ) → n ≡ Some k → k ≡ v.number

  -- the pass after it recorded e
  abbrev pub recorded_as : (E → Option ℕ) → View E F → E → View E F
  recorded_as number v e = record v { seen = v.seen ++ e ∷ []; mine = v.mine ++ numbered (number e) e; bare = v.bare ++ bare_at (number e) (length v.seen) }

  -- the same pass, of which the next split takes that many spare numbers
  abbrev pub with_share : ℕ → View E F → View E F
  with_share share v = record v { share = share }

  -- a pass after its `share` lowest spare numbers went to another
  abbrev pub kept_view : View E F → View E F
  kept_view v = record v { low = v.low + v.share; spare = v.spare - v.share }

  -- that other pass: the lowest of them is its number
  abbrev pub given_view : View E F → View E F
  given_view v = record v { number = v.low; low = v.low + 1; spare = v.share - 1; share = 0; shorter = []; mine = []; others = []; given_up = []; bare = [] }

  -- v after w was met into it
  abbrev pub met_view : View E F → View E F → View E F
  met_view v w = record v { seen = longer v.seen w.seen; shorter = shorter_of v.seen w.seen; others = v.others ++ (w.number, w.mine) ∷ w.others; given_up = v.given_up ++ (w.low, w.spare) ∷ w.given_up; bare = v.bare ++ w.bare }

module _ {E F : Type 0} (number : E → Option ℕ) where
  -- the history that is found is seen: what had been seen is a prefix of it, and it has all the pass's entries
  abbrev pub Sees : View E F → Role → ℕ → View E F → Type 0
  Sees v r found w = IsPrefix v.seen w.seen × (length w.seen ≡ found) × (v.number < number_bound → own number v.number w.seen ≡ v.mine) × (w ≡ with_seen v r w.seen)

  -- all that the pass knows holds of what it has seen
  abbrev pub KnowsSeen : View E F → Type 0
  KnowsSeen v = (part : F) × IsKnown number v.seen part v

  -- it holds of some history, which is the lock's
  abbrev pub KnowsSome : View E F → Type 0
  KnowsSome v = (log : List E) × (part : F) × IsKnown number log part v

module _ {S E F : Type 0} (entries : S → List E) (fixed : S → F) (number : E → Option ℕ) where
  -- a pass, with the slot where it has it
  abbrev Holder : Type 0
  Holder = Me (Option S) (View E F)

  -- what a step tells: a fact of the step, the pass before it, the number that is found, and the pass after it
  abbrev Tells : Type 1
  Tells = Step (Option S) → Holder → ℕ → Holder → Type 0

  -- draw: the pass holds a ticket, which is found modulo 2^64
  abbrev pub drawn : Tells
  drawn st me found me' = (ticket me'.0.role % 18446744073709551616 ≡ found) × (me' ≡ (with_role me.0 (Drawn (ticket me'.0.role)), me.1))

  -- look: the pass is at its turn where its ticket is found, else as before
  abbrev pub looked : Tells
  looked st me found me' = (found ≡ ticket me.0.role % 18446744073709551616 → me' ≡ (with_role me.0 (Turn (ticket me.0.role)), me.1))
      × ((found ≡ ticket me.0.role % 18446744073709551616 → ⊥) → me' ≡ me)

  -- glance in turn: the pass has seen the history whose length is found
  abbrev pub glanced_in_turn : Tells
  glanced_in_turn st me found me' = Sees number me.0 (Glanced (ticket me.0.role)) found me'.0 × (me'.1 ≡ me.1)

  -- glance: the same with no ticket, and what the pass knows holds of the list that it has seen
  abbrev pub glanced : Tells
  glanced st me found me' = Sees number me.0 me.0.role found me'.0 × KnowsSeen number me'.0 × (me'.1 ≡ me.1)

  -- the pass has the state in hand, which stands for what it has seen; all that a pass knows holds there
  abbrev pub IsFor : View E F → S → Type 0
  IsFor v state = (entries state ≡ v.seen) × ((f : F) → v.fixed ≡ Some f → f ≡ fixed state) × IsKnown number (entries state) (fixed state) v

  -- a turn has begun: the state stands for a history of which what had been seen is a prefix, and nothing else of the pass is another
  abbrev pub Begun : View E F → S → View E F → Type 0
  Begun v state w = IsPrefix v.seen (entries state) × (w ≡ with_seen v w.role (entries state)) × (own number v.number (entries state) ≡ v.mine) × (v.fixed ≡ Some (fixed state))

  -- the state has one new entry, of the pass's number or of none
  abbrev pub MayRecord : View E F → S → Type 0
  MayRecord v state = (e : E) × (entries state ≡ v.seen ++ e ∷ []) × IsOfPass (number e) v

  -- the pass after it recorded the state's new entry
  abbrev pub HasRecorded : View E F → S → View E F → Type 0
  HasRecorded v state w = (e : E) → entries state ≡ v.seen ++ e ∷ [] → w ≡ recorded_as number v e

  -- the state is as the pass has seen it
  abbrev pub IsAsSeen : View E F → S → Type 0
  IsAsSeen v state = (entries state ≡ v.seen) × (v.fixed ≡ Some (fixed state))

  -- take out: the pass has the slot with the state, which stands for what it has seen
  abbrev pub took : Tells
  took st me found me' = (state : S) × IsFor me'.0 state × (me' ≡ (with_role me.0 (Out (ticket me.0.role)), (0, Some state) ∷ me.1))

  -- record: the pass has recorded the new entry of the state in its slot
  abbrev pub recorded : Tells
  recorded st me found me' = (x : S) (e : E) → me.1 ≡ (0, Some x) ∷ [] → entries x ≡ me.0.seen ++ e ∷ [] → me' ≡ (recorded_as number me.0 e, me.1)

  -- put home: the pass is at its turn, without the slot
  abbrev pub put : Tells
  put st me found me' = me' ≡ (with_role me.0 (Turn (ticket me.0.role)), [])

  -- serve: the pass holds no ticket
  abbrev pub served : Tells
  served st me found me' = me' ≡ (with_role me.0 Idle, me.1)

  -- plan: the next split takes as many spare numbers as the step's first operand says
  abbrev pub planned : Tells
  planned st me found me' = me' ≡ (with_share st.first me.0, me.1)

  -- compare: nothing is changed, and what the pass knows holds of some history
  abbrev pub compared : Tells
  compared st me found me' = (me' ≡ me) × KnowsSome number me.0
