-- Each entry is kept in one bundle or has one reason to move, so what is kept and what moves are the entries of fixed groups.
use Rattle.std.proofs.Common.{◌≡◌, ℕ, ◌⊎◌, inl, inr, true, List, Some, sym, ap, subst, ◌∙◌}
use Rattle.std.specs.Cmp.{nat_cmp_total}
use Rattle.std.specs.List.{Contains, slice_get}
use Rattle.addr_base.specs.declared.ids.Guid.{Guid}
use Rattle.addr_project.specs.declared.model.Entry.{Entry}
use Rattle.addr_project.specs.declared.model.Group.{Group}
use Rattle.addr_project.specs.Kept.{IsKept as IsKeptProject}
use Rattle.addr_project.specs.Model.{Project}
use Rattle.addr_project.proofs.OnceLemmas.{to_map}
use Rattle.addr_release.proofs.FaithfulLemmas.{HasAssets, has-assets}
use Rattle.addr_state.specs.declared.model.StateBundle.{StateBundle}
use Rattle.addr_walks.proofs.Lists.{Contains-slice_get, one-list}
use Rattle.addr_layout.proofs.PlacedLemmas.{one-entry}
use Rattle.addr_layout.proofs.RankLemmas.{same-some}
use Rattle.addr_update.specs.declared.model.KeptBundle.{KeptBundle}
use Rattle.addr_update.specs.declared.model.Why.{Why}
use Rattle.addr_update.specs.declared.model.Why.TheVariants.{Before, Unknown, Changed, Led}
use Rattle.addr_update.specs.Laws.{NumbersSplit, ReasonsTell}
use Rattle.addr_update.specs.Moved.{Update, HasChanged, IsIn, IsKept, IsKeptNo, IsLeast, IsLedAway, IsMoved, IsMovedNo, IsOld, IsReason, MovedBefore, Stays}
use Rattle.addr_update.specs.Placement.{CanMove, IsKeptAs, IsSplit}
use Rattle.addr_update.proofs.DecidedLemmas.{Decided, some-old}
use Rattle.addr_update.proofs.SplitLemmas.{kept-not-moved, one-first, one-reason, reason-moves, same-in}
use Rattle.addr_update.proofs.WaysLemmas.{before-of, some-away, some-changed}

-- the group of an entry is one
same-group : (p : Project) (x : ℕ) (a d : Guid) (g h : Group) → IsIn p x a g → IsIn p x d h → g ≡ h
same-group p x a d g h (e, at, numbered, of) (f, also, other, group) =
    let entry : e ≡ f = same-some e f (sym at ∙ also) in
    same-some g h (sym of ∙ (ap (λ (y : Entry). slice_get p.groups y.group) entry ∙ group))

same-record : (j k : KeptBundle) → j.name ≡ k.name → j.group ≡ k.group → j.entries ≡ k.entries → j ≡ k
same-record j k name group entries = λ i. record { name = name i; group = group i; entries = entries i }

module _ (u : Update) (project : IsKeptProject u.project) where
  assets : HasAssets u.project
  assets = has-assets u.project project

  -- an entry is kept, or has a reason
  pub reason-of : (a : Guid) → ((m : ℕ) × IsKept u a m) ⊎ ((why : Why) × IsReason u a why)
  reason-of a = by_before (before-of u assets a)
    where
      by_away : (before : ¬ MovedBefore u a) → (m : ℕ) (old : IsOld u a m) → ((d : Guid) → ¬ HasChanged u a d) → ((d : Guid) × IsLeast (IsLedAway u a) d) ⊎ ((d : Guid) → ¬ IsLedAway u a d) → ((m : ℕ) × IsKept u a m) ⊎ ((why : Why) × IsReason u a why)
      by_away before m old same (inl (d, least)) = inr (Led d, (before, (λ unknown. unknown m old), same, least))
      by_away before m old same (inr none) = inl (m, record { old = old; before = before; same = same; led = none })

      by_changed : (before : ¬ MovedBefore u a) → (m : ℕ) (old : IsOld u a m) → ((d : Guid) × IsLeast (HasChanged u a) d) ⊎ ((d : Guid) → ¬ HasChanged u a d) → ((m : ℕ) × IsKept u a m) ⊎ ((why : Why) × IsReason u a why)
      by_changed before m old (inl (d, least)) = inr (Changed d, (before, (λ unknown. unknown m old), least))
      by_changed before m old (inr none) = by_away before m old none (some-away u assets a m old)

      by_old : (before : ¬ MovedBefore u a) → Decided ((m : ℕ) × IsOld u a m) → ((m : ℕ) × IsKept u a m) ⊎ ((why : Why) × IsReason u a why)
      by_old before (inl (m, old)) = by_changed before m old (some-changed u assets a m old)
      by_old before (inr none) = inr (Unknown, (before, λ m old. none (m, old)))

      by_before : Decided (MovedBefore u a) → ((m : ℕ) × IsKept u a m) ⊎ ((why : Why) × IsReason u a why)
      by_before (inl moved) = inr (Before, moved)
      by_before (inr before) = by_old before (some-old u a)

  -- the old bundle of a kept entry stays
  kept-stays : (m x : ℕ) → IsKeptNo u m x → (old : StateBundle) × Stays u m old
  kept-stays m x (a, g, is-in, fixed, kept) =
      let has = kept.old.0 in
      let named : has.5.name ≡ has.0.group = has.7 in
      let same : g ≡ has.5 = by_number has.4 has.5 has.6 in
      (has.0, (has.1, has.3, (g, Contains-slice_get u.project.groups is-in.0.group g is-in.3, fixed, ap (λ (y : Group). y.name) same ∙ named)))
    where
      by_number : (y : ℕ) (h : Group) → IsIn u.project y a h → g ≡ h
      by_number y h (e, at, numbered, group) =
          let same : y ≡ x = one-entry u.project project y x a (e, at, numbered) (is-in.0, is-in.1, is-in.2) in
          same-group u.project x a a g h is-in (e, ap (slice_get u.project.entries) (sym same) ∙ at, numbered, group)

  module _ (kept : List KeptBundle) (moved : List ℕ) (split : IsSplit u kept moved) where
    entry-of : (x : ℕ) (a : Guid) (g : Group) → IsIn u.project x a g → g.fixed ≡ true → Contains moved x ⊎ ((k : KeptBundle) × Contains kept k × Contains k.entries x)
    entry-of x a g is-in fixed = by_reason (reason-of a)
      where
        by_reason : ((m : ℕ) × IsKept u a m) ⊎ ((why : Why) × IsReason u a why) → Contains moved x ⊎ ((k : KeptBundle) × Contains kept k × Contains k.entries x)
        by_reason (inr (why, is)) = inl (split.moves.all x (a, g, is-in, fixed, reason-moves u a why is))
        by_reason (inl (m, keeps)) =
            let no : IsKeptNo u m x = (a, g, is-in, fixed, keeps) in
            let old = kept-stays m x no in
            let k = split.all m old.0 old.1 in
            inr (k.0, k.1, k.2.entries.all x no)

    same-kept : (j k : KeptBundle) (m : ℕ) (old other : StateBundle) → IsKeptAs u j m old → IsKeptAs u k m other → j ≡ k
    same-kept j k m old other first second =
        let own : old ≡ other = same-some old other (sym first.stays.0 ∙ second.stays.0) in
        let name : first.group.name ≡ second.group.name = first.group_name ∙ (ap (λ (s : StateBundle). s.group) own ∙ sym second.group_name) in
        same-record j k (first.name ∙ (ap (λ (s : StateBundle). s.name) own ∙ sym second.name))
        (project.groups_once j.group k.group second.group.name
        (to_map (λ (g : Group). g.name) u.project.groups j.group first.group first.group_at ∙ ap Some name)
        (to_map (λ (g : Group). g.name) u.project.groups k.group second.group second.group_at))
        (one-list nat_cmp_total (IsKeptNo u m) j.entries k.entries first.entries second.entries)

    pub can-move : CanMove u.project kept moved
    can-move = record {
      each = entry-of;
      moves = λ x here. (let no = split.moves.within x here in (no.0, no.1, no.2, no.3));
      keeps = λ k x here in'. (let from = split.bundles k here in let no = from.2.entries.within x in' in (no.0, no.1, no.2, no.3));
      apart = λ k x here in' there.
          let from = split.bundles k here in
          let no = from.2.entries.within x in' in
          let other = split.moves.within x there in
          kept-not-moved u no.0 from.0 no.4 (subst (IsMoved u) (same-in u.project x other.0 no.0 other.1 no.1 other.2 no.2) other.4);
      one = λ j k x here there in' also.
          let first = split.bundles j here in
          let second = split.bundles k there in
          let one-no = first.2.entries.within x in' in
          let two-no = second.2.entries.within x also in
          let same : first.0 ≡ second.0 = one-first u one-no.0 first.0 second.0 one-no.4.old (subst (λ d. IsKept u d second.0) (same-in u.project x two-no.0 one-no.0 two-no.1 one-no.1 two-no.2 one-no.2) two-no.4).old in
          same-kept j k second.0 first.1 second.1 (subst (λ n. IsKeptAs u j n first.1) same first.2) second.2;
    }

  -- ---- together

  pub reasons-tell : ReasonsTell u
  reasons-tell = record {
    each = reason-of;
    apart = kept-not-moved u;
    one = one-reason u;
    old = one-first u;
    moved = λ a. (moved-has a (reason-of a), λ (why, is). reason-moves u a why is);
  }
    where
      moved-has : (a : Guid) → ((m : ℕ) × IsKept u a m) ⊎ ((why : Why) × IsReason u a why) → IsMoved u a → (why : Why) × IsReason u a why
      moved-has a (inl (m, keeps)) moved = absurd (kept-not-moved u a m keeps moved)
      moved-has a (inr has) moved = has

  pub numbers-split : NumbersSplit u
  numbers-split = record {
    each = λ x a (g, is-in, fixed). by_reason x a g is-in fixed (reason-of a);
    apart = λ m x (a, g, is-in, fixed, keeps) (d, h, also, too, moved).
        kept-not-moved u a m keeps (subst (IsMoved u) (same-in u.project x d a h g also is-in) moved);
    one = λ m n x (a, g, is-in, fixed, keeps) (d, h, also, too, other).
        one-first u a m n keeps.old (subst (λ y. IsKept u y n) (same-in u.project x d a h g also is-in) other).old;
    can = can-move;
  }
    where
      by_reason : (x : ℕ) (a : Guid) (g : Group) → IsIn u.project x a g → g.fixed ≡ true → ((m : ℕ) × IsKept u a m) ⊎ ((why : Why) × IsReason u a why) → ((m : ℕ) × IsKeptNo u m x) ⊎ IsMovedNo u x
      by_reason x a g is-in fixed (inl (m, keeps)) = inl (m, (a, g, is-in, fixed, keeps))
      by_reason x a g is-in fixed (inr (why, is)) = inr (a, g, is-in, fixed, reason-moves u a why is)
