-- What is summed over the Loads of a legal history is summed over its operations: so are the count of a bundle and the references.
use Rattle.std.proofs.Common.{◌≡◌, ℕ, ◌+◌, ◌≤◌, zero, suc, false, ◌&&◌, cond, List, [], ◌∷◌, ◌++◌, map, Option, Some, refl, sym, ◌∙◌, ap, subst, arith, find}
use Rattle.std.proofs.lemmas.Bool.{eq-eqb}
use Rattle.std.proofs.lemmas.List.Sums.{sum_by_push, sum_by-cons}
use Rattle.std.proofs.lemmas.List.Folds.{find-append}
use Rattle.std.specs.List.{count_by, sum_by, range_with_len}
use Rattle.std.specs.Option.{option_or, option_map_or}
use Rattle.addr_base.specs.declared.ids.BundleNo.{BundleNo}
use Rattle.addr_base.specs.declared.ids.OpId.{OpId}
use Rattle.addr_locate.specs.Rows.{Rows}
use Rattle.addr_history.specs.declared.ask.Ask.{Ask}
use Rattle.addr_history.specs.declared.event.Event.{Event}
use Rattle.addr_history.specs.declared.event.Event.TheVariants.{Load, Acquire, Release, Take, Done, Fail, Close}
use Rattle.addr_history.specs.Events.{is_in, is_load, is_load_of, needs_of, needs_of_event}
use Rattle.addr_history.specs.Counts.{loads_of, operations_of, references_of, references_at, references_in, is_open_load, is_unreleased, count_of, needs_of_op}
use Rattle.addr_history.specs.Legal.{IsAnswer, Legal}
use Rattle.addr_history.proofs.Legality.{load_facts, by_events, prefix, loads_push, no_load_past, unreleased_is}
use Rattle.addr_history.proofs.Counting.{one_if, find_none, sum_same, sum_members}
use Rattle.addr_history.proofs.CountSteps.{none_loaded}

-- the operations from a number on
abbrev operations : ℕ → ℕ → List OpId
operations from n = map (λ m. record { 0 = m }) (range_with_len from n)

sum_last : (f : OpId → ℕ) (n from : ℕ) → sum_by f (operations from (suc n)) ≡ sum_by f (operations from n) + f (record { 0 = from + n })
sum_last f zero from =
    let at : from ≡ from + zero = omega arith in
    let same : f (record { 0 = from }) ≡ f (record { 0 = from + zero }) = ap (λ m. f (let r : OpId = record { 0 = m } in r)) at in
    omega (arith, same, sum_by-cons f (record { 0 = from }) [])
sum_last f (suc n) from =
    let at : (from + 1) + n ≡ from + suc n = omega arith in
    let same : f (record { 0 = (from + 1) + n }) ≡ f (record { 0 = from + suc n }) = ap (λ m. f (let r : OpId = record { 0 = m } in r)) at in
    omega (arith, same, sum_last f n (from + 1), sum_by-cons f (record { 0 = from }) (operations (from + 1) (suc n)), sum_by-cons f (record { 0 = from }) (operations (from + 1) n))

-- a number for the operation that an event opened
abbrev at_op : (OpId → ℕ) → Event → ℕ
at_op f (Load op caller ask) = f op
at_op f (Acquire op caller) = 0
at_op f (Release op caller) = 0
at_op f (Take b worker) = 0
at_op f (Done b worker) = 0
at_op f (Fail b worker cause) = 0
at_op f Close = 0

module _ (rows : Rows) (limit : ℕ) where
  summed : (f : OpId → ℕ) (h : List Event) → Legal rows limit h → sum_by (at_op f) h ≡ sum_by f (operations_of h)
  summed f = by_events rows limit (λ h. sum_by (at_op f) h ≡ sum_by f (operations_of h)) (ap (λ n. sum_by f (operations 0 n)) (sym none_loaded)) step
    where
      other : (h : List Event) (e : Event) → is_load e ≡ false → at_op f e ≡ 0 → sum_by (at_op f) h ≡ sum_by f (operations_of h) → sum_by (at_op f) (h ++ e ∷ []) ≡ sum_by f (operations_of (h ++ e ∷ []))
      other h e none nothing before =
          let same : loads_of h ≡ loads_of (h ++ e ∷ []) = omega (arith, loads_push h e, ap one_if none) in
          let again : sum_by f (operations_of h) ≡ sum_by f (operations_of (h ++ e ∷ [])) = ap (λ n. sum_by f (operations 0 n)) same in
          omega (arith, sum_by_push (at_op f) h e, nothing, before, again)

      step : (h : List Event) (e : Event) → Legal rows limit h → IsAnswer rows limit h e → sum_by (at_op f) h ≡ sum_by f (operations_of h) → sum_by (at_op f) (h ++ e ∷ []) ≡ sum_by f (operations_of (h ++ e ∷ []))
      step h (Load op c k) legal answer before =
          let facts = load_facts rows limit h op c k answer in
          let more : suc (loads_of h) ≡ loads_of (h ++ Load op c k ∷ []) = omega (arith, loads_push h (Load op c k)) in
          let again : sum_by f (operations 0 (suc (loads_of h))) ≡ sum_by f (operations_of (h ++ Load op c k ∷ [])) = ap (λ n. sum_by f (operations 0 n)) more in
          let at : op.0 ≡ 0 + loads_of h = omega (arith, facts.number) in
          let it : f op ≡ f (record { 0 = 0 + loads_of h }) = ap (λ n. f (let r : OpId = record { 0 = n } in r)) at in
          omega (arith, sum_by_push (at_op f) h (Load op c k), sum_last f (loads_of h) 0, it, before, again)
      step h (Acquire o c) legal answer before = other h (Acquire o c) refl refl before
      step h (Release o c) legal answer before = other h (Release o c) refl refl before
      step h (Take o w) legal answer before = other h (Take o w) refl refl before
      step h (Done o w) legal answer before = other h (Done o w) refl refl before
      step h (Fail o w k) legal answer before = other h (Fail o w k) refl refl before
      step h Close legal answer before = other h Close refl refl before

  -- the Load of an operation is the one that is found
  load_found : (h before : List Event) (op : OpId) (caller : ℕ) (ask : Ask) (after : List Event) → before ++ Load op caller ask ∷ after ≡ h → Legal rows limit h → find (is_load_of op) h ≡ Some (Load op caller ask)
  load_found h before op caller ask after is legal =
      let whole : Legal rows limit (before ++ Load op caller ask ∷ after) = subst (Legal rows limit) (sym is) legal in
      let facts = load_facts rows limit before op caller ask (whole.answers before (Load op caller ask) after refl) in
      let le : loads_of before ≤ op.0 = omega (arith, facts.number) in
      let none = no_load_past rows limit before (prefix rows limit before (Load op caller ask ∷ after) whole) op le in
      ap (find (is_load_of op)) (sym is)
      ∙ find-append (is_load_of op) before (Load op caller ask ∷ after)
      ∙ ap (λ (o : Option Event). option_or o (find (is_load_of op) (Load op caller ask ∷ after))) (find_none (is_load_of op) before none)
      ∙ ap (λ t. cond t (Some (Load op caller ask)) (find (is_load_of op) after)) (eq-eqb op.0 op.0 refl)

  pub counts_unreleased : (h : List Event) (b : BundleNo) → Legal rows limit h → count_of rows h b ≡ count_by (λ op. is_unreleased h op && is_in b (needs_of_op rows h op)) (operations_of h)
  unfolding count_of needs_of_op
  counts_unreleased h b legal = sum_members h (λ e. one_if (is_open_load h e && is_in b (needs_of_event rows e))) (at_op asks) at ∙ summed asks h legal
    where
      asks : OpId → ℕ
      asks op = one_if (is_unreleased h op && is_in b (option_map_or (needs_of_event rows) (find (is_load_of op) h) []))

      at : (before : List Event) (e : Event) (after : List Event) → before ++ e ∷ after ≡ h → one_if (is_open_load h e && is_in b (needs_of_event rows e)) ≡ at_op asks e
      at before (Load op c k) after is =
          ap (λ t. one_if (t && is_in b (needs_of rows k))) (sym (unreleased_is h op))
          ∙ ap (λ (o : Option Event). one_if (is_unreleased h op && is_in b (option_map_or (needs_of_event rows) o []))) (sym (load_found h before op c k after is legal))
      at before (Acquire o c) after is = refl
      at before (Release o c) after is = refl
      at before (Take o w) after is = refl
      at before (Done o w) after is = refl
      at before (Fail o w k) after is = refl
      at before Close after is = refl

  pub sums_references : (h : List Event) → Legal rows limit h → references_in h ≡ sum_by (references_of h) (operations_of h)
  unfolding references_in
  sums_references h legal = sum_same (references_at h) (at_op (references_of h)) at h ∙ summed (references_of h) h legal
    where
      at : (e : Event) → references_at h e ≡ at_op (references_of h) e
      at (Load op c k) = refl
      at (Acquire o c) = refl
      at (Release o c) = refl
      at (Take o w) = refl
      at (Done o w) = refl
      at (Fail o w k) = refl
      at Close = refl
