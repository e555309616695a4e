use Rattle.std.proofs.Common.{◌≡◌, ◌+◌, ℕ, List, Option, length, subst, sym, ap, ◌∙◌}
use Rattle.std.proofs.lemmas.List.{length_push}
use Rattle.addr_base.specs.declared.ids.Guid.{Guid}
use Rattle.addr_locate.specs.Rows.{Rows}
use Rattle.addr_pack.specs.declared.bundles.Plan.{Plan}
use Rattle.addr_project.specs.declared.model.Group.{Group}
use Rattle.addr_release.specs.Opened.{Opened}
use Rattle.addr_update.specs.Moved.{IsIn}
use Rattle.addr_walks.proofs.Lists.{EachAt-push}
use Rattle.addr_walks.specs.Places.{EachAt}
use Rattle.addr_moves.specs.Fates.{comparing}
use Rattle.addr_moves.specs.Olds.{TellsOld}
use Rattle.addr_moves.proofs.HolderLemmas.{tells-at}
use Rattle.addr_moves.proofs.olds.old_bundles.Goals as goal

pub loop-x-preserved : goal.loop-x-preserved
loop-x-preserved c =
    let p = c.args.project.now in
    let s = c.args.state.now in
    let x = c.loop-x.x in
    let olds = c.loop-x.olds in
    let old = c.old_of.result in
    let fits : ℕ → Option ℕ → Type 0 = λ y o. (a : Guid) (g : Group) (was : List Opened) (r : Rows) (now : Plan) → IsIn p y a g → TellsOld (comparing s was r p now) a o in
    record {
      many = ap length c.in_ok-push.ensures.ok ∙ (length_push olds old ∙ ap (λ n. n + 1) c.loop-x.invariant.many);
      each = subst (EachAt fits) (sym c.in_ok-push.ensures.ok) (EachAt-push fits olds old c.loop-x.invariant.each
          (subst (λ y. fits y old) (sym c.loop-x.invariant.many) (tells-at s p c.kept.ensures x c.guid_of-guid.result c.group_of.result.now old c.guid_of-guid.ensures c.group_of.ensures c.old_of.ensures)));
    }
