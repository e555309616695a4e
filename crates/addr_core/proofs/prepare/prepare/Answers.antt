use Rattle.std.proofs.Common.{◌∙◌, ◌≡◌, ap, sym, List, Option, Err, length, take, if◌then◌else◌}
use Rattle.addr_locate.specs.Rows.{are_bundles}
use Rattle.addr_base.specs.declared.ids.KeyNo.{KeyNo}
use Rattle.addr_locate.specs.Merge.{merged}
use Rattle.addr_history.specs.Answers.{has_no_row}
use Rattle.addr_history.specs.declared.error.LoadErr.TheVariants.{NoLocation}
use Rattle.addr_core.proofs.Preparing.{empty_has_no_row, reply_closed, reply_none, reply_full, reply_ok, needed_is}
use Rattle.addr_base.specs.declared.ids.RowNo.{RowNo}
use Rattle.addr_core.proofs.WantedSteps.{same_wanted}
use Rattle.addr_core.proofs.prepare.prepare.Goals as goal

pub returns-then-now : goal.returns-then-now
returns-then-now c = reply_closed c.args.now.now.locator.now c.args.now.now.limit c.args.now.now.events.now c.args.ask.now (sym c.args.now.now.known.now_closed ∙ c.if-now.true)

pub returns-then-is_empty : goal.returns-then-is_empty
returns-then-is_empty c =
    let rows = c.args.now.now.locator.now in
    let ask = c.args.ask.now in
    let found : c.as_slice-2.result.now ≡ merged rows.assets ask.keys ask.mode ask.kind = c.as_slice-2.ensures ∙ c.in_ok-found.ensures.rows ∙ ap (λ (k : List (Option KeyNo)). merged rows.assets k ask.mode ask.kind) c.as_slice.ensures in
    reply_none rows c.args.now.now.limit c.args.now.now.events.now ask (sym c.args.now.now.known.now_closed ∙ c.if-now.false) (ap has_no_row (sym found) ∙ sym (empty_has_no_row c.as_slice-2.result.now) ∙ sym c.is_empty.ensures ∙ c.if-is_empty.true)
    ∙ ap (λ f. Err (NoLocation f)) (sym c.first_missing.ensures)

pub returns-then-passes : goal.returns-then-passes
returns-then-passes c =
    let rows = c.args.now.now.locator.now in
    let ask = c.args.ask.now in
    let h = c.args.now.now.events.now in
    let found : c.as_slice-2.result.now ≡ merged rows.assets ask.keys ask.mode ask.kind = c.as_slice-2.ensures ∙ c.in_ok-found.ensures.rows ∙ ap (λ (k : List (Option KeyNo)). merged rows.assets k ask.mode ask.kind) c.as_slice.ensures in
    let needs : c.as_slice-4.result.now ≡ _ = c.as_slice-4.ensures ∙ c.in_ok-needs.ensures.needs in
    reply_full rows c.args.now.now.limit h ask c.used-used.result c.reserved-reserved.result c.needed-needed.result (sym c.args.now.now.known.now_closed ∙ c.if-now.false) (ap has_no_row (sym found) ∙ sym (empty_has_no_row c.as_slice-2.result.now) ∙ sym c.is_empty.ensures ∙ c.if-is_empty.false)
    c.used-used.ensures c.reserved-reserved.ensures (needed_is rows c.args.now.now.limit h ask c.as_slice-4.result.now c.needed-needed.result c.needed-needed.ensures.exact needs) (sym c.passes.ensures ∙ c.if-passes.true)

pub returns : goal.returns
returns c =
    let rows = c.args.now.now.locator.now in
    let ask = c.args.ask.now in
    let h = c.args.now.now.events.now in
    let found : c.as_slice-2.result.now ≡ merged rows.assets ask.keys ask.mode ask.kind = c.as_slice-2.ensures ∙ c.in_ok-found.ensures.rows ∙ ap (λ (k : List (Option KeyNo)). merged rows.assets k ask.mode ask.kind) c.as_slice.ensures in
    let needs : c.as_slice-4.result.now ≡ _ = c.as_slice-4.ensures ∙ c.in_ok-needs.ensures.needs in (
      same_wanted (c.in_ok-rows.ensures ∙ ap (λ (l : List RowNo). if ask.all then l else take 1 l) (c.as_slice-5.ensures ∙ c.in_ok-found.ensures.rows ∙ ap (λ (k : List (Option KeyNo)). merged rows.assets k ask.mode ask.kind) c.as_slice.ensures)) c.in_ok-needs.ensures.needs,
      reply_ok rows c.args.now.now.limit h ask c.used-used.result c.reserved-reserved.result c.needed-needed.result (sym c.args.now.now.known.now_closed ∙ c.if-now.false) (ap has_no_row (sym found) ∙ sym (empty_has_no_row c.as_slice-2.result.now) ∙ sym c.is_empty.ensures ∙ c.if-is_empty.false)
          c.used-used.ensures c.reserved-reserved.ensures (needed_is rows c.args.now.now.limit h ask c.as_slice-4.result.now c.needed-needed.result c.needed-needed.ensures.exact needs) (sym c.passes.ensures ∙ c.if-passes.false),
    )

pub needed-needed-requires-clause-within : goal.needed-needed-requires-clause-within
needed-needed-requires-clause-within c = ap (are_bundles (length c.args.now.now.locator.now.bundles)) c.as_slice-4.ensures ∙ c.in_ok-needs.ensures.within
