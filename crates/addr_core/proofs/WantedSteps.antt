-- What each event does to what is kept for operations: their rows and the bundles that they need.
use Rattle.std.proofs.Common.{◌≡◌, inl, inr, ℕ, ◌-◌, ◌≤◌, Bool, true, false, ltb, List, [], ◌∷◌, ◌++◌, length, set, Option, refl, sym, ◌∙◌, ap, subst, arith, length-append}
use Rattle.std.proofs.lemmas.Bool.{false≢true, eq-eqb, ne_eqb, cases_eq, cases_lt}
use Rattle.std.proofs.lemmas.List.{length-set}
use Rattle.std.specs.Prelude.{unwrap_or}
use Rattle.addr_base.specs.declared.ids.BundleNo.{BundleNo}
use Rattle.addr_base.specs.declared.ids.OpId.{OpId}
use Rattle.addr_base.specs.declared.ids.RowNo.{RowNo}
use Rattle.addr_locate.specs.Rows.{Rows}
use Rattle.addr_history.specs.declared.ask.Ask.{Ask}
use Rattle.addr_history.specs.declared.event.Event.{Event}
use Rattle.addr_history.specs.declared.event.Event.TheVariants.{Load, Release}
use Rattle.addr_history.specs.Events.{is_load, is_load_of}
use Rattle.addr_history.specs.Counts.{references_of, is_unreleased, loads_of}
use Rattle.addr_history.specs.Legal.{IsAnswer, Legal}
use Rattle.addr_history.proofs.Counting.{one_if, references_given}
use Rattle.addr_history.proofs.CountSteps.{no_load_of}
use Rattle.addr_history.proofs.Legality.{load_facts, unreleased_is, unreleased_parts, loads_push, load_below, no_load_past, extend}
use Rattle.addr_history.proofs.StatusSteps.{found_kept, found_new, needs_kept, needs_new, unreleased_before}
use Rattle.addr_core.specs.within.Wanting.{nothing, wanted_at, wanted_of, wanted_of_op}
use Rattle.addr_core.specs.within.Kept.{AreWanted}
use Rattle.addr_queue.proofs.Changing.{get_set_other, get_left, get_end, slice_there}
use Rattle.addr_core.specs.declared.wanted.Wanted.{Wanted}

abbrev pub wanted_by : List RowNo → List BundleNo → Wanted
wanted_by rows needs = record { rows = rows; needs = needs }

pub same_wanted : {r s : List RowNo} {n m : List BundleNo} → r ≡ s → n ≡ m → wanted_by r n ≡ wanted_by s m
same_wanted {r} {s} {n} {m} found asked = ap (λ x. wanted_by x n) found ∙ ap (wanted_by s) asked

module _ (rows : Rows) (limit : ℕ) where
  -- what is kept for an unreleased operation is what it wants
  pub wanted_are : (h : List Event) → Legal rows limit h → (wanted : List Wanted) → AreWanted rows h wanted → (op : OpId) → is_unreleased h op ≡ true → wanted_at wanted op ≡ wanted_of_op rows h op
  wanted_are h legal wanted are op is =
      let there = slice_there wanted op.0 (omega (arith, are.many, load_below rows limit h legal op (unreleased_parts h op is).0)) in
      ap (λ (o : Option Wanted). unwrap_or o nothing) there.1 ∙ are.each op there.0 there.1 is

  still : (h : List Event) (e : Event) → Legal rows limit (h ++ e ∷ []) → (op : OpId) → is_load_of op e ≡ false → is_unreleased (h ++ e ∷ []) op ≡ true → (is_unreleased h op ≡ true) × (wanted_of_op rows (h ++ e ∷ []) op ≡ wanted_of_op rows h op)
  still h e legal op other now =
      let was = unreleased_before rows limit h e legal op other now in
      let loaded = (unreleased_parts h op was).0 in
      (was, same_wanted (found_kept rows limit h e op loaded) (needs_kept rows limit h e op loaded))

  pub wanted_calm : (h : List Event) (e : Event) → Legal rows limit (h ++ e ∷ []) → is_load e ≡ false → (wanted : List Wanted) → AreWanted rows h wanted → AreWanted rows (h ++ e ∷ []) wanted
  wanted_calm h e legal other wanted are = record {
    many = let none = ap one_if other in omega (arith, are.many, loads_push h e, none);
    each = λ op w at now. let before = still h e legal op (no_load_of op e other) now in are.each op w at before.0 ∙ sym before.1;
  }

  pub wanted_load : (h : List Event) → Legal rows limit h → (o : OpId) (caller : ℕ) (ask : Ask) → IsAnswer rows limit h (Load o caller ask) → (wanted : List Wanted) → AreWanted rows h wanted → AreWanted rows (h ++ Load o caller ask ∷ []) (wanted ++ wanted_of rows ask ∷ [])
  wanted_load h legal o caller ask answer wanted are = record {
    many = omega (arith, length-append wanted (wanted_of rows ask ∷ []), are.many, loads_push h (Load o caller ask));
    each = λ op w at now. elim (cases_lt op.0 (length wanted)) [
      | inl lt ↦
          let before = still h (Load o caller ask) (extend rows limit h (Load o caller ask) legal answer) op (ne_eqb o.0 op.0 (λ same. omega (arith, number, are.many))) now in
          are.each op w (get_left wanted op.0 w (wanted_of rows ask) lt at) before.0 ∙ sym before.1
      | inr le ↦
          let end = get_end wanted op.0 w (wanted_of rows ask) le at in
          let same : op ≡ o = ap (λ n. let r : OpId = record { 0 = n } in r) (omega (arith, end.0, are.many, number)) in
          let past = no_load_past rows limit h legal o (omega (arith, number)) in
          end.1 ∙ sym (ap (wanted_of_op rows (h ++ Load o caller ask ∷ [])) same ∙ same_wanted (found_new rows limit h o caller ask past) (needs_new rows limit h o caller ask past))
    ];
  }
    where
      number : o.0 ≡ loads_of h
      number = (load_facts rows limit h o caller ask answer).number

  -- what was kept for an operation is given up with its last reference
  pub wanted_release : (h : List Event) (o : OpId) (caller : ℕ) → Legal rows limit (h ++ Release o caller ∷ []) → references_of h o ≤ 1 → (wanted : List Wanted) → AreWanted rows h wanted → AreWanted rows (h ++ Release o caller ∷ []) (set wanted o.0 nothing)
  wanted_release h o caller legal last wanted are = record {
    many = length-set wanted o.0 nothing ∙ calm.many;
    each = λ op w at now. elim (cases_eq op.0 o.0) [
      | inl same ↦ absurd (false≢true (sym (ap (ltb 0) (gone op same)) ∙ sym (unreleased_is (h ++ Release o caller ∷ []) op) ∙ now))
      | inr other ↦ calm.each op w (sym (get_set_other wanted o.0 op.0 nothing other) ∙ at) now
    ];
  }
    where
      calm : AreWanted rows (h ++ Release o caller ∷ []) wanted
      calm = wanted_calm h (Release o caller) legal refl wanted are

      gone : (op : OpId) → op.0 ≡ o.0 → references_of (h ++ Release o caller ∷ []) op ≡ 0
      gone op same =
          let few : references_of h op ≤ 1 = subst (λ (p : OpId). references_of h p ≤ 1) (ap (λ n. let r : OpId = record { 0 = n } in r) (sym same)) last in
          let less : references_of (h ++ Release o caller ∷ []) op ≡ references_of h op - 1 = references_given h o caller op ∙ ap (λ t. references_of h op - one_if t) (eq-eqb op.0 o.0 same) in
          omega (arith, few, less)
