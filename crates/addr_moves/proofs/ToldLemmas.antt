-- Moves and the numbers of moved entries: one more entry, and what they are of an update.
use Rattle.std.proofs.Common.{◌≡◌, ◌<◌, ◌≤◌, ◌+◌, ◌⊎◌, inl, inr, ℕ, true, List, [], ◌∷◌, ◌++◌, length, get_or, Some, Less, refl, sym, ap, subst, ◌∙◌, arith}
use Rattle.std.proofs.lemmas.Bool.{cases_order, false≢true}
use Rattle.std.proofs.lemmas.List.Elements.{All-from_recursion, Contains-append_left, Contains-push, Contains-push_cases, Contains-get_or, recursion_from_All}
use Rattle.std.proofs.lemmas.Option.{slice_get_within}
use Rattle.std.specs.List.{AllZip, Contains, slice_get}
use Rattle.std.specs.List.Sorted.{IsStrictlySortedBy}
use Rattle.std.specs.Ordering.{nat_cmp}
use Rattle.addr_base.specs.declared.ids.Guid.{Guid}
use Rattle.addr_layout.specs.Members.{IsEntryOf}
use Rattle.addr_layout.proofs.RankLemmas.{same-some}
use Rattle.addr_locate.specs.Rows.{Rows}
use Rattle.addr_pack.specs.declared.bundles.Plan.{Plan}
use Rattle.addr_project.specs.declared.model.Entry.{Entry}
use Rattle.addr_project.specs.declared.model.Group.{Group}
use Rattle.addr_project.specs.Model.{Project}
use Rattle.addr_release.proofs.ImageLemmas.{beside}
use Rattle.addr_release.specs.Opened.{Opened}
use Rattle.addr_resolve.proofs.UnfoldLemmas.{less-nat}
use Rattle.addr_state.specs.declared.model.State.{State}
use Rattle.addr_update.specs.declared.model.Move.{Move}
use Rattle.addr_update.specs.declared.model.Why.{Why}
use Rattle.addr_update.specs.Moved.{IsIn, IsKept, IsKeptNo, IsMoved, IsMovedNo, IsReason, Update}
use Rattle.addr_update.proofs.SplitLemmas.{kept-not-moved, one-first, reason-moves, same-in}
use Rattle.addr_walks.proofs.Lists.{Contains-here, Contains-later, Contains-none, IsListOf-same, above-head}
use Rattle.addr_walks.proofs.Zips.{zip-push}
use Rattle.addr_walks.specs.Walks.{IsListOf}
use Rattle.addr_moves.specs.declared.fate.Fate.{Fate}
use Rattle.addr_moves.specs.declared.fate.Fate.TheVariants.{Free, Kept, Moves}
use Rattle.addr_moves.specs.Fates.{AreFates, AreMoves, IsFate, IsMove, comparing}
use Rattle.addr_moves.specs.within.Told.{ListsMoved, MovesBelow, Tells, TellsMoves, with_move, with_moved}
use Rattle.addr_moves.proofs.HolderLemmas.{one-group}

-- ---- ascending numbers, one more

pub sorted-push : (xs : List ℕ) (y : ℕ) → IsStrictlySortedBy nat_cmp xs → ((x : ℕ) → Contains xs x → x < y) → IsStrictlySortedBy nat_cmp (xs ++ y ∷ [])
unfolding IsStrictlySortedBy
sorted-push [] y rising above = (tt, tt)
sorted-push (x ∷ xs) y rising above = (
  recursion_from_All (λ z. nat_cmp x z ≡ Less) (xs ++ y ∷ []) (λ k d within. behind (xs ++ y ∷ []) k d within (λ z here. later z (Contains-push_cases xs y z here))),
  sorted-push xs y rising.1 (λ z here. above z (Contains-later x xs z here)),
)
  where
    behind : (zs : List ℕ) (k d : ℕ) → k < length zs → ((z : ℕ) → Contains zs z → nat_cmp x z ≡ Less) → nat_cmp x (get_or zs k d) ≡ Less
    behind zs k d within each = each (get_or zs k d) (Contains-get_or zs k d within)

    later : (z : ℕ) → Contains xs z ⊎ (y ≡ z) → nat_cmp x z ≡ Less
    later z (inl here) = above-head nat_cmp x xs z rising here
    later z (inr same) = less-nat x z (subst (λ w. x < w) same (above x (Contains-here x xs)))

-- a set of numbers below a bound, and the bound itself
pub list-more : (set next : ℕ → Type 0) (k : ℕ) (xs : List ℕ) → ((x : ℕ) → set x → x < k) → ((x : ℕ) → set x → next x) → next k → ((x : ℕ) → next x → set x ⊎ (k ≡ x)) → IsListOf nat_cmp set xs → IsListOf nat_cmp next (xs ++ k ∷ [])
list-more set next k xs below up own down list = record {
  rising = sorted-push xs k list.rising (λ x here. below x (list.within x here));
  within = λ x here. by_side x (Contains-push_cases xs k x here);
  all = λ x is. by_next x (down x is);
}
  where
    by_side : (x : ℕ) → Contains xs x ⊎ (k ≡ x) → next x
    by_side x (inl here) = up x (list.within x here)
    by_side x (inr same) = subst next same own

    by_next : (x : ℕ) → set x ⊎ (k ≡ x) → Contains (xs ++ k ∷ []) x
    by_next x (inl is) = Contains-append_left xs (k ∷ []) x (list.all x is)
    by_next x (inr same) = subst (Contains (xs ++ k ∷ [])) same (Contains-push xs k)

-- ---- one more entry

module _ (fates : List Fate) where
  pub moved-none : ListsMoved fates 0 []
  unfolding IsStrictlySortedBy
  moved-none = record { rising = tt; within = λ x here. absurd (Contains-none x here); all = λ x (less, why, at). absurd (omega (arith, less)) }

  wider : (k x : ℕ) → MovesBelow fates k x → MovesBelow fates (k + 1) x
  wider k x (less, why, at) = (omega (arith, less), why, at)

  or-last : (k x : ℕ) → MovesBelow fates (k + 1) x → MovesBelow fates k x ⊎ (k ≡ x)
  or-last k x (less, why, at) = by_order (cases_order x k)
    where
      by_order : (x ≡ k) ⊎ ((x < k) ⊎ (k < x)) → MovesBelow fates k x ⊎ (k ≡ x)
      by_order (inl same) = inr (sym same)
      by_order (inr (inl before)) = inl (before, why, at)
      by_order (inr (inr after)) = absurd (omega (arith, less, after))

  -- an entry that doesn't move
  same-moved : (k : ℕ) (fate : Fate) (xs : List ℕ) → slice_get fates k ≡ Some fate → ((why : Why) → fate ≡ Moves why → ⊥) → ListsMoved fates k xs → ListsMoved fates (k + 1) xs
  same-moved k fate xs at never list = IsListOf-same (MovesBelow fates k) (MovesBelow fates (k + 1)) (wider k) (λ x is. by_side x is (or-last k x is)) xs list
    where
      by_side : (x : ℕ) → MovesBelow fates (k + 1) x → MovesBelow fates k x ⊎ (k ≡ x) → MovesBelow fates k x
      by_side x is (inl before) = before
      by_side x (less, why, there) (inr same) = absurd (never why (same-some fate (Moves why) (sym at ∙ (ap (slice_get fates) same ∙ there))))

  one-moved : (k : ℕ) (why : Why) (xs : List ℕ) → slice_get fates k ≡ Some (Moves why) → ListsMoved fates k xs → ListsMoved fates (k + 1) (xs ++ k ∷ [])
  one-moved k why xs at list = list-more (MovesBelow fates k) (MovesBelow fates (k + 1)) k xs (λ x is. is.0) (wider k) (omega arith, why, at) (or-last k) list

  pub moved-more : (k : ℕ) (fate : Fate) (xs : List ℕ) → slice_get fates k ≡ Some fate → ListsMoved fates k xs → ListsMoved fates (k + 1) (with_moved fate k xs)
  moved-more k Free xs at list = same-moved k Free xs at (λ why is. absurd (cc is)) list
  moved-more k (Kept m) xs at list = same-moved k (Kept m) xs at (λ why is. absurd (cc is)) list
  moved-more k (Moves why) xs at list = one-moved k why xs at list

  pub moved-all : (k : ℕ) (xs : List ℕ) → length fates ≤ k → ListsMoved fates k xs → ListsMoved fates (length fates) xs
  moved-all k xs all list = IsListOf-same (MovesBelow fates k) (MovesBelow fates (length fates)) (λ x (less, why, at). (slice_get_within fates x (Moves why) at, why, at)) (λ x (less, why, at). (omega (arith, less, all), why, at)) xs list

  module _ (p : Project) where
    pub tells-none : TellsMoves p fates 0 []
    tells-none = ([], moved-none, tt)

    pub tells-more : (k : ℕ) (fate : Fate) (a : Guid) (moves : List Move) → slice_get fates k ≡ Some fate → IsEntryOf p k a → TellsMoves p fates k moves → TellsMoves p fates (k + 1) (with_move fate a moves)
    tells-more k Free a moves at entry (xs, list, zip) = (xs, same-moved k Free xs at (λ why is. absurd (cc is)) list, zip)
    tells-more k (Kept m) a moves at entry (xs, list, zip) = (xs, same-moved k (Kept m) xs at (λ why is. absurd (cc is)) list, zip)
    tells-more k (Moves why) a moves at entry (xs, list, zip) = (xs ++ k ∷ [], one-moved k why xs at list, zip-push (Tells p fates) xs moves k (record { guid = a; why = why }) zip (entry, at))

    pub tells-all : (k : ℕ) (moves : List Move) → length fates ≤ k → TellsMoves p fates k moves → TellsMoves p fates (length fates) moves
    tells-all k moves all (xs, list, zip) = (xs, moved-all k xs all list, zip)

-- ---- of an update

module _ (u : Update) (fates : List Fate) (are : AreFates u fates) where
  fate-moves : (x : ℕ) (why : Why) → slice_get fates x ≡ Some (Moves why) → IsMovedNo u x
  fate-moves x why at = let is = are.each x (Moves why) at in (is.0, is.1, is.2, is.3, reason-moves u is.0 why is.4)

  -- the fate of an entry of a fixed group
  pub fate-at : (x : ℕ) (a : Guid) (g : Group) → IsIn u.project x a g → (fate : Fate) × (slice_get fates x ≡ Some fate)
  fate-at x a g (e, at, numbered, group) = beside u.project.entries fates x e are.many at

  moves-fate : (x : ℕ) → IsMovedNo u x → (why : Why) × (slice_get fates x ≡ Some (Moves why))
  moves-fate x (a, g, in', fixed, moved) = by_fate (fate-at x a g in')
    where
      by_kind : (fate : Fate) → slice_get fates x ≡ Some fate → IsFate u x fate → (why : Why) × (slice_get fates x ≡ Some (Moves why))
      by_kind Free at (d, h, also, free) = absurd (let same = one-group u.project x a d g h in' also in let is = sym fixed ∙ (ap (λ (k : Group). k.fixed) same ∙ free) in false≢true (sym is))
      by_kind (Kept m) at (d, h, also, too, keeps) = absurd (kept-not-moved u a m (subst (λ y. IsKept u y m) (same-in u.project x d a h g also in') keeps) moved)
      by_kind (Moves why) at is = (why, at)

      by_fate : (fate : Fate) × (slice_get fates x ≡ Some fate) → (why : Why) × (slice_get fates x ≡ Some (Moves why))
      by_fate (fate, at) = by_kind fate at (are.each x fate at)

  pub moved-list : (xs : List ℕ) → ListsMoved fates (length fates) xs → IsListOf nat_cmp (IsMovedNo u) xs
  moved-list xs list = IsListOf-same (MovesBelow fates (length fates)) (IsMovedNo u) (λ x (less, why, at). fate-moves x why at) (λ x no. from x (moves-fate x no)) xs list
    where
      from : (x : ℕ) → (why : Why) × (slice_get fates x ≡ Some (Moves why)) → MovesBelow fates (length fates) x
      from x (why, at) = (slice_get_within fates x (Moves why) at, why, at)

  -- a kept entry's fate, and back
  pub fate-kept : (x m : ℕ) → slice_get fates x ≡ Some (Kept m) → IsKeptNo u m x
  fate-kept x m at = are.each x (Kept m) at

  pub kept-fate : (x m : ℕ) → IsKeptNo u m x → slice_get fates x ≡ Some (Kept m)
  kept-fate x m (a, g, in', fixed, keeps) = by_fate (fate-at x a g in')
    where
      by_kind : (fate : Fate) → slice_get fates x ≡ Some fate → IsFate u x fate → slice_get fates x ≡ Some (Kept m)
      by_kind Free at (d, h, also, free) = absurd (let same = one-group u.project x a d g h in' also in let is = sym fixed ∙ (ap (λ (k : Group). k.fixed) same ∙ free) in false≢true (sym is))
      by_kind (Kept n) at (d, h, also, too, others) =
          let same = one-first u a n m (subst (λ y. IsKept u y n) (same-in u.project x d a h g also in') others).old keeps.old in
          at ∙ ap (λ k. Some (Kept k)) same
      by_kind (Moves why) at (d, h, also, too, reason) = absurd (kept-not-moved u a m keeps (subst (IsMoved u) (same-in u.project x d a h g also in') (reason-moves u d why reason)))

      by_fate : (fate : Fate) × (slice_get fates x ≡ Some fate) → slice_get fates x ≡ Some (Kept m)
      by_fate (fate, at) = by_kind fate at (are.each x fate at)

  tell : (x : ℕ) (move : Move) → Tells u.project fates x move → IsMove u x move
  tell x move (entry, at) =
      let is = are.each x (Moves move.why) at in
      let same = same-in u.project x is.0 move.guid is.1 is.1 is.2 (entry.0, entry.1, entry.2, group is.2 entry) in
      (is.1, subst (λ a. IsIn u.project x a is.1) same is.2, is.3, subst (λ a. IsReason u a move.why) same is.4)
    where
      group : IsIn u.project x (are.each x (Moves move.why) at).0 (are.each x (Moves move.why) at).1 → (entry : IsEntryOf u.project x move.guid) → slice_get u.project.groups entry.0.group ≡ Some (are.each x (Moves move.why) at).1
      group (e, there, numbered, of) (f, also, other) = subst (λ (y : Entry). slice_get u.project.groups y.group ≡ Some (are.each x (Moves move.why) at).1) (same-some e f (sym there ∙ also)) of

  pub told-moves : (moves : List Move) → TellsMoves u.project fates (length fates) moves → AreMoves u moves
  told-moves moves (xs, list, zip) = (xs, moved-list xs list, retold xs moves zip)
    where
      retold : (ys : List ℕ) (ms : List Move) → AllZip (Tells u.project fates) ys ms → AllZip (IsMove u) ys ms
      retold [] [] zip' = tt
      retold [] (m ∷ ms) zip' = absurd zip'
      retold (y ∷ ys) [] zip' = absurd zip'
      retold (y ∷ ys) (m ∷ ms) zip' = (tell y m zip'.0, retold ys ms zip'.1)

pub are-moves : (s : State) (was : List Opened) (r : Rows) (p : Project) (now : Plan) (fates : List Fate) (moves : List Move) → AreFates (comparing s was r p now) fates → TellsMoves p fates (length fates) moves → AreMoves (comparing s was r p now) moves
are-moves s was r p now fates moves are told = told-moves (comparing s was r p now) fates are moves told
