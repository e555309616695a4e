-- Kept and moved entries: at most one reason and one old bundle each, and none is both.
use Rattle.std.proofs.Common.{◌≡◌, ◌<◌, ℕ, ◌⊎◌, inl, inr, Less, Equal, Greater, refl, sym, ap, ◌∙◌}
use Rattle.std.proofs.lemmas.Bool.{cases_order}
use Rattle.std.specs.List.{slice_get}
use Rattle.std.specs.declared.cmp.Ordering.{Ordering}
use Rattle.std.specs.Ordering.{ordering_reverse}
use Rattle.addr_base.specs.declared.ids.Guid.{Guid}
use Rattle.addr_layout.proofs.GuidLemmas.{exact-guid, guid_total}
use Rattle.addr_layout.proofs.RankLemmas.{same-some}
use Rattle.addr_project.specs.declared.model.Asset.{Asset}
use Rattle.addr_project.specs.declared.model.Entry.{Entry}
use Rattle.addr_project.specs.declared.model.Group.{Group}
use Rattle.addr_project.specs.Model.{Project}
use Rattle.addr_project.specs.Reach.{guid_cmp}
use Rattle.addr_update.specs.declared.model.Why.{Why}
use Rattle.addr_update.specs.declared.model.Why.TheVariants.{Before, Unknown, Changed, Led}
use Rattle.addr_update.specs.Moved.{Update, HasChanged, IsIn, IsKept, IsLeast, IsLedAway, IsMoved, IsOld, IsReason}

-- a set of GUIDs has at most one least
pub one-least : (set : Guid → Type 0) (d e : Guid) → IsLeast set d → IsLeast set e → d ≡ e
one-least set d e first second = by_order (guid_cmp d e) refl
  where
    by_order : (o : Ordering) → guid_cmp d e ≡ o → d ≡ e
    by_order Less less = absurd (second.1 d first.0 less)
    by_order Equal same = exact-guid d e same
    by_order Greater more = absurd (first.1 e second.0 (guid_total.antisymm e d ∙ ap ordering_reverse more))

-- an entry has at most one old bundle
pub one-first : (u : Update) (a : Guid) (m n : ℕ) → IsOld u a m → IsOld u a n → m ≡ n
one-first u a m n first second = by_order (cases_order m n)
  where
    by_order : (m ≡ n) ⊎ ((m < n) ⊎ (n < m)) → m ≡ n
    by_order (inl same) = same
    by_order (inr (inl less)) = absurd (second.1 m less first.0)
    by_order (inr (inr more)) = absurd (first.1 n more second.0)

pub kept-not-moved : (u : Update) (a : Guid) (m : ℕ) → IsKept u a m → IsMoved u a → ⊥
kept-not-moved u a m kept (inl before) = kept.before before
kept-not-moved u a m kept (inr (inl unknown)) = unknown m kept.old
kept-not-moved u a m kept (inr (inr (inl (d, changed)))) = kept.same d changed
kept-not-moved u a m kept (inr (inr (inr (d, led)))) = kept.led d led

-- the entry with a number is that of one asset
pub same-in : (p : Project) (x : ℕ) (a d : Guid) (g h : Group) → IsIn p x a g → IsIn p x d h → a ≡ d
same-in p x a d g h (e, at, (asset, there, is), of) (f, also, (other, too, are), group) =
    let entry : e ≡ f = same-some e f (sym at ∙ also) in
    let same : asset ≡ other = same-some asset other (sym there ∙ (ap (λ (y : Entry). slice_get p.assets y.asset) entry ∙ too)) in
    sym is ∙ (ap (λ (y : Asset). y.guid) same ∙ are)

module _ (u : Update) where
  pub one-reason : (a : Guid) (why other : Why) → IsReason u a why → IsReason u a other → why ≡ other
  one-reason a Before Before first second = refl
  one-reason a Before Unknown first second = absurd (second.0 first)
  one-reason a Before (Changed e) first second = absurd (second.0 first)
  one-reason a Before (Led e) first second = absurd (second.0 first)
  one-reason a Unknown Before first second = absurd (first.0 second)
  one-reason a Unknown Unknown first second = refl
  one-reason a Unknown (Changed e) first second = absurd (second.1 first.1)
  one-reason a Unknown (Led e) first second = absurd (second.1 first.1)
  one-reason a (Changed d) Before first second = absurd (first.0 second)
  one-reason a (Changed d) Unknown first second = absurd (first.1 second.1)
  one-reason a (Changed d) (Changed e) first second = ap Changed (one-least (HasChanged u a) d e first.2 second.2)
  one-reason a (Changed d) (Led e) first second = absurd (second.2 d first.2.0)
  one-reason a (Led d) Before first second = absurd (first.0 second)
  one-reason a (Led d) Unknown first second = absurd (first.1 second.1)
  one-reason a (Led d) (Changed e) first second = absurd (first.2 e second.2.0)
  one-reason a (Led d) (Led e) first second = ap Led (one-least (IsLedAway u a) d e first.3 second.3)

  pub reason-moves : (a : Guid) (why : Why) → IsReason u a why → IsMoved u a
  reason-moves a Before is = inl is
  reason-moves a Unknown is = inr (inl is.1)
  reason-moves a (Changed d) is = inr (inr (inl (d, is.2.0)))
  reason-moves a (Led d) is = inr (inr (inr (d, is.3.0)))
