use Rattle.std.proofs.Common.{◌∙◌, ◌++◌, ap, map, decimal, List, [], ℕ}
use Rattle.addr_base.specs.declared.ids.BundleNo.{BundleNo}
use Rattle.addr_locate.specs.PlainFields.{IsSmall}
use Rattle.addr_locate.proofs.ElementLemmas.{number_free, number_own}
use Rattle.addr_locate.proofs.ListFieldLemmas.{pieces, pieces_of_cut, one_piece, no_list, list_step, list_end, same_list}
use Rattle.addr_locate.proofs.plain_lists.number_list.Goals as goal

pub returns-in-None-clause-found : goal.returns-in-None-clause-found
returns-in-None-clause-found c = λ deps is.
    let f : BundleNo → List ℕ = λ b. decimal b.0 in
    let cut = c.loop-digits.invariant.cut ∙ ap (λ (r : List (List ℕ)). map f c.loop-digits.deps ++ r) (pieces_of_cut c.loop-digits.rest.now c.in-Some.digits.now c.in-Some.after.now c.in-Some.ensures) in
    no_list f IsSmall number_free c.args.field.now (map f c.loop-digits.deps) c.in-Some.digits.now (pieces c.in-Some.after.now) cut (λ b small e. c.in-None.ensures b.0 (small, e)) deps is.0 is.1 is.2

pub loop-digits-preserved : goal.loop-digits-preserved
loop-digits-preserved c =
    let f : BundleNo → List ℕ = λ b. decimal b.0 in
    let step = list_step f IsSmall c.args.field.now c.loop-digits.deps c.loop-digits.rest.now c.in-Some.digits.now c.in-Some.after.now (record { 0 = c.in-Some-number.n }) c.push.new.self c.loop-digits.invariant.cut c.loop-digits.invariant.each c.in-Some.ensures c.in-Some-number.ensures.0 c.in-Some-number.ensures.1 c.in_ok-push-in-Some-number.ensures.ok in
    record { cut = step.0; each = step.1 }

pub returns-in_ok-push-in-Some-number-2-clause-found : goal.returns-in_ok-push-in-Some-number-2-clause-found
returns-in_ok-push-in-Some-number-2-clause-found c =
    let f : BundleNo → List ℕ = λ b. decimal b.0 in
    list_end f IsSmall c.args.field.now c.loop-digits.deps c.loop-digits.rest.now (record { 0 = c.in-Some-number-2.n }) c.push-in-Some-number-2.new.self c.loop-digits.invariant.cut c.loop-digits.invariant.each c.in_default.ensures c.in-Some-number-2.ensures.0 c.in-Some-number-2.ensures.1 c.in_ok-push-in-Some-number-2.ensures.ok

pub returns-in_ok-push-in-Some-number-2-clause-only : goal.returns-in_ok-push-in-Some-number-2-clause-only
returns-in_ok-push-in-Some-number-2-clause-only c = λ other is.
    let f : BundleNo → List ℕ = λ b. decimal b.0 in
    let found = list_end f IsSmall c.args.field.now c.loop-digits.deps c.loop-digits.rest.now (record { 0 = c.in-Some-number-2.n }) c.push-in-Some-number-2.new.self c.loop-digits.invariant.cut c.loop-digits.invariant.each c.in_default.ensures c.in-Some-number-2.ensures.0 c.in-Some-number-2.ensures.1 c.in_ok-push-in-Some-number-2.ensures.ok in
    same_list f IsSmall number_free number_own c.args.field.now other c.push-in-Some-number-2.new.self is.0 found.0 is.1 found.1 is.2 found.2

pub returns-in-None-number-clause-found : goal.returns-in-None-number-clause-found
returns-in-None-number-clause-found c = λ deps is.
    let f : BundleNo → List ℕ = λ b. decimal b.0 in
    let last = ap (λ (r : List (List ℕ)). map f c.loop-digits.deps ++ r) (one_piece c.loop-digits.rest.now c.in_default.ensures) in
    no_list f IsSmall number_free c.args.field.now (map f c.loop-digits.deps) c.loop-digits.rest.now [] (c.loop-digits.invariant.cut ∙ last) (λ b small e. c.in-None-number.ensures b.0 (small, e)) deps is.0 is.1 is.2
