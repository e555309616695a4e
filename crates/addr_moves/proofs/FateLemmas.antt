-- What becomes of an entry, from what is known of it.
use Rattle.std.proofs.Common.{◌≡◌, ◌↔◌, ℕ, Bool, true, false, IsTrue, Option, Some, None, refl, sym, ap, ◌∙◌}
use Rattle.std.proofs.lemmas.Bool.{false≢true}
use Rattle.addr_base.specs.declared.ids.Guid.{Guid}
use Rattle.addr_layout.specs.Members.{IsEntryOf}
use Rattle.addr_project.specs.declared.model.Group.{Group}
use Rattle.addr_project.specs.Model.{Project}
use Rattle.addr_update.specs.declared.model.Why.{Why}
use Rattle.addr_update.specs.declared.model.Why.TheVariants.{Before, Unknown, Changed, Led}
use Rattle.addr_update.specs.Moved.{IsIn, IsOld, IsUnknown, MovedBefore, Update}
use Rattle.addr_moves.specs.declared.fate.Fate.{Fate}
use Rattle.addr_moves.specs.declared.fate.Fate.TheVariants.{Free, Kept, Moves}
use Rattle.addr_moves.specs.Fates.{IsFate, IsGroupOf}
use Rattle.addr_moves.specs.within.Known.{TellsWhy, fate_by}
use Rattle.addr_moves.proofs.HolderLemmas.{is-in}

module _ (u : Update) (x : ℕ) (a : Guid) (g : Group) (entry : IsEntryOf u.project x a) (of : IsGroupOf u.project x g) where
  in-project : IsIn u.project x a g
  in-project = is-in u.project x a g entry of

  pub is-free : g.fixed ≡ false → IsFate u x Free
  is-free free = (a, g, is-in u.project x a g entry of, free)

  pub has-moved : g.fixed ≡ true → (t : Bool) → t ≡ true → IsTrue t ↔ MovedBefore u a → IsFate u x (Moves Before)
  has-moved fixed t is tells = (a, g, is-in u.project x a g entry of, fixed, tells.0 is)

  not-before : (t : Bool) → t ≡ false → IsTrue t ↔ MovedBefore u a → MovedBefore u a → ⊥
  not-before t is tells before = false≢true (sym is ∙ tells.1 before)

  pub is-unknown : g.fixed ≡ true → (t : Bool) → t ≡ false → IsTrue t ↔ MovedBefore u a → IsUnknown u a → IsFate u x (Moves Unknown)
  is-unknown fixed t is tells unknown = (a, g, is-in u.project x a g entry of, fixed, (not-before t is tells, unknown))

  pub is-fate : g.fixed ≡ true → (t : Bool) → t ≡ false → IsTrue t ↔ MovedBefore u a → (m : ℕ) → IsOld u a m → (why : Option Why) → TellsWhy u a why → IsFate u x (fate_by m why)
  is-fate fixed t is tells m old None (same, led) = (a, g, is-in u.project x a g entry of, fixed, record { old = old; before = not-before t is tells; same = same; led = led })
  is-fate fixed t is tells m old (Some Before) why = absurd why
  is-fate fixed t is tells m old (Some Unknown) why = absurd why
  is-fate fixed t is tells m old (Some (Changed d)) why = (a, g, is-in u.project x a g entry of, fixed, (not-before t is tells, (λ unknown. unknown m old), why))
  is-fate fixed t is tells m old (Some (Led d)) (same, why) = (a, g, is-in u.project x a g entry of, fixed, (not-before t is tells, (λ unknown. unknown m old), same, why))
