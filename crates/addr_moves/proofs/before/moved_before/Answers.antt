use Rattle.std.proofs.Common.{◌≡◌, ◌↔◌, ◌+◌, ℕ, Bool, IsTrue, List, length, subst, sym, ap, ◌∙◌}
use Rattle.std.proofs.lemmas.List.{length_push}
use Rattle.addr_base.specs.declared.ids.Guid.{Guid}
use Rattle.addr_layout.specs.Members.{IsEntryOf}
use Rattle.addr_pack.specs.declared.bundles.Plan.{Plan}
use Rattle.addr_release.specs.Opened.{Opened}
use Rattle.addr_state.specs.declared.model.State.{State}
use Rattle.addr_update.specs.Moved.{MovedBefore}
use Rattle.addr_walks.proofs.Lists.{EachAt-push}
use Rattle.addr_walks.specs.Places.{EachAt}
use Rattle.addr_moves.specs.Fates.{comparing}
use Rattle.addr_moves.proofs.HolderLemmas.{before-last}
use Rattle.addr_moves.proofs.before.moved_before.Goals as goal

pub loop-x-preserved : goal.loop-x-preserved
loop-x-preserved c =
    let p = c.args.project.now in
    let r = c.args.locator.now in
    let x = c.loop-x.x in
    let before = c.loop-x.before in
    let is = c.is_before.result in
    let fits : ℕ → Bool → Type 0 = λ y t. (a : Guid) (s : State) (was : List Opened) (now : Plan) → IsEntryOf p y a → IsTrue t ↔ MovedBefore (comparing s was r p now) a in
    record {
      many = ap length c.in_ok-push.ensures.ok ∙ (length_push before is ∙ ap (λ n. n + 1) c.loop-x.invariant.many);
      each = subst (EachAt fits) (sym c.in_ok-push.ensures.ok) (EachAt-push fits before is c.loop-x.invariant.each
          (subst (λ y. fits y is) (sym c.loop-x.invariant.many) (before-last p r c.moved_digits-digits.result x c.guid_of.result is c.moved_digits-digits.ensures c.guid_of.ensures c.is_before.ensures)));
    }
