use Rattle.std.proofs.Common.{◌≡◌, ℕ, List, length, get_or, slice_get, Some, sym, subst, ap, ◌∙◌, arith}
use Rattle.std.proofs.lemmas.List.Elements.{Contains-get_or}
use Rattle.std.proofs.lemmas.Option.{slice_get-get_or}
use Rattle.addr_update.specs.within.Turned.{IsTurned}
use Rattle.addr_update.proofs.TurnLemmas.{none-at, none-more, turned-all, turned-more, turned-none}
use Rattle.addr_update.proofs.doubting.reversed.Goals as goal

pub loop-init : goal.loop-init
loop-init c = record { len = c.new-back.ensures.len; none = none-at c.new-back.result.items c.new-back.ensures.items }

pub loop-preserved : goal.loop-preserved
loop-preserved c = record { len = (let more = c.in_ok-push.ensures.len in let old = c.loop.invariant.len in omega (arith, more, old)); none = none-more c.loop.back.items c.push.new.self.items c.new.result c.new.ensures c.in_ok-push.ensures.items c.loop.invariant.none }

pub loop-b-init : goal.loop-b-init
loop-b-init c = record { len = (let old = c.loop.invariant.len in let low = c.loop-test.false in let high = c.loop.auto.counter-end in omega (arith, old, low, high)); turned = turned-none c.args.rows.now c.loop.back.items c.loop.invariant.none }

pub add_row-requires : goal.add_row-requires
add_row-requires c = record {
  below = λ k d small.
      let row : List ℕ = c.as_slice.result.now in
      let at : slice_get c.args.rows.now c.loop-b.b ≡ Some row = slice_get-get_or c.args.rows.now c.loop-b.b c.index-rows-b.result c.loop-b-test.true ∙ ap Some (sym c.index-rows-b.is ∙ sym c.as_slice.ensures) in
      let below = c.requires.below.each c.loop-b.b (get_or row k d) (row, at, Contains-get_or row k d small) in
      let long = c.loop-b.invariant.len in
      omega (arith, below, long);
}

pub loop-b-preserved : goal.loop-b-preserved
loop-b-preserved c = record { len = c.in_ok-add_row.ensures.len ∙ c.loop-b.invariant.len; turned = turned-more c.args.rows.now c.loop-b.back.items c.add_row.new.back.items c.loop-b.b c.as_slice.result.now (slice_get-get_or c.args.rows.now c.loop-b.b c.index-rows-b.result c.loop-b-test.true ∙ ap Some (sym c.index-rows-b.is ∙ sym c.as_slice.ensures)) c.loop-b.invariant.turned c.in_ok-add_row.ensures.added }

pub returns-clause-many : goal.returns-clause-many
returns-clause-many c = ap length c.from_vec.ensures ∙ (let whole = c.loop-b.back.ok in let long = c.loop-b.invariant.len in omega (arith, whole, long))

pub returns-clause-turned : goal.returns-clause-turned
returns-clause-turned c = subst (IsTurned c.args.rows.now) (sym c.from_vec.ensures) (turned-all c.args.rows.now c.loop-b.back.items c.loop-b.b c.loop-b-test.false c.loop-b.invariant.turned)
