-- A read of a machine whose images are those of a script.
use Rattle.std.proofs.Common.{◌≡◌, inl, inr, true, subst, ℕ, List, Option, Some, None, Result, Ok, Err, slice_get, sym, ap, ◌∙◌}
use Rattle.addr_base.specs.Images.{Object}
use Rattle.addr_base.specs.declared.ids.BundleNo.{BundleNo}
use Rattle.addr_base.specs.declared.ids.OpId.{OpId}
use Rattle.addr_locate.specs.declared.rows.AssetRow.{AssetRow}
use Rattle.addr_history.specs.Counts.{needs_of_op}
use Rattle.addr_history.specs.Events.{is_in}
use Rattle.addr_history.specs.Reading.{Holds, MayRead, Reads}
use Rattle.addr_history.specs.Unfolding.{IsMissedIn, IsStart, ReadsAll, bundle_no, object_at}
use Rattle.addr_history.specs.declared.reading.Item2.{Item2}
use Rattle.addr_history.specs.declared.reading.Place.{Place}
use Rattle.addr_history.specs.declared.reading.ReadErr.{ReadErr}
use Rattle.addr_history.specs.declared.reading.ReadErr.TheVariants.{NoHandle, NoAsset, Pending, Failed, Absent, NoMemory}
use Rattle.addr_core.specs.Machine.{Machine, AnswersRead, ReadyHave}
use Rattle.addr_objects.specs.Objects.{object_under, objects_in}
use Rattle.addr_core.specs.ReadAll.{AnswersReadAll}
use Rattle.addr_core.proofs.ReadSteps.{home_needed, home_ready}
use Rattle.addr_simulate.specs.SimText.{sim_objects}
use Rattle.addr_simulate.proofs.WalkLemmas.{miss_same, unfolding_same}

module _ {I : Type 0} (held : I → List ℕ → Option Object) (same : (image : I) (b : BundleNo) (guid : List ℕ) → held image guid ≡ sim_objects b guid) where
  sim_holds : (images : List (Option I)) (b : BundleNo) (id : List ℕ) (o : Object) → Holds (objects_in held images) b id o → Holds sim_objects b id o
  sim_holds images b id o (guid, spells, is) = (guid, spells, at (slice_get images b.0) is)
    where
      at : (place : Option (Option I)) → object_under held place guid ≡ Some o → sim_objects b guid ≡ Some o
      at None found = cc
      at (Some None) found = cc
      at (Some (Some image)) found = sym (same image b guid) ∙ found

  holds_back : (images : List (Option I)) (b : BundleNo) (id : List ℕ) (o : Object) (image : I) → slice_get images b.0 ≡ Some (Some image) → Holds sim_objects b id o → Holds (objects_in held images) b id o
  holds_back images b id o image there (guid, spells, is) = (guid, spells, ap (λ (place : Option (Option I)). object_under held place guid) there ∙ same image b guid ∙ is)

  pub reads_sim : (m : Machine I) → ReadyHave m → (op : OpId) (i : ℕ) (result : Result (List ℕ) ReadErr) → (result ≡ Err NoMemory → ⊥) → AnswersRead held m op i result → Reads sim_objects m.rows m.history op i result
  unfolding ReadyHave
  reads_sim m have op i result given (inr (want, bytes, found)) = absurd (given want)
  reads_sim m have op i (Ok bytes) given (inl (a, b, may, o, holds, is)) = (a, b, may, o, sim_holds m.images b a.id o holds, is)
  reads_sim m have op i (Err (Absent b)) given (inl (a, may, none)) =
      let image = have op (home_ready m.rows m.history op i a b may) b (home_needed m.rows m.history op i a b may) in
      (a, may, λ o holds. none o (holds_back m.images b a.id o image.0 image.1 holds))
  reads_sim m have op i (Err NoHandle) given (inl is) = is
  reads_sim m have op i (Err NoAsset) given (inl is) = is
  reads_sim m have op i (Err Pending) given (inl is) = is
  reads_sim m have op i (Err (Failed b cause)) given (inl is) = is
  reads_sim m have op i (Err NoMemory) given (inl never) = absurd never

  module _ (m : Machine I) (have : ReadyHave m) (op : OpId) (i : ℕ) (a : AssetRow) (home : BundleNo) (may : MayRead m.rows m.history op i a home) where
    -- each bundle that the operation needs has an image, which holds what a script's image does
    agree : (q : Place) → is_in (bundle_no q.bundle) (needs_of_op m.rows m.history op) ≡ true → object_at (objects_in held m.images) q ≡ object_at sim_objects q
    unfolding ReadyHave
    agree q needed =
        let image = have op (home_ready m.rows m.history op i a home may) (bundle_no q.bundle) needed in
        ap (λ (place : Option (Option I)). object_under held place q.guid.0) image.1 ∙ same image.0 (bundle_no q.bundle) q.guid.0

    starts_needed : (start : Place) → IsStart a home start → is_in (bundle_no start.bundle) (needs_of_op m.rows m.history op) ≡ true
    starts_needed start (spells, at) = subst (λ n. is_in (bundle_no n) (needs_of_op m.rows m.history op) ≡ true) (sym at) (home_needed m.rows m.history op i a home may)

    missed_sim : (b : BundleNo) → IsMissedIn (objects_in held m.images) m.rows.bundles (needs_of_op m.rows m.history op) a home b → IsMissedIn sim_objects m.rows.bundles (needs_of_op m.rows m.history op) a home b
    missed_sim b (inl none) = inl none
    missed_sim b (inr (start, begins, least)) = inr (start, begins, miss_same m.rows.bundles (needs_of_op m.rows m.history op) (objects_in held m.images) sim_objects agree start (starts_needed start begins) b least)

  pub reads_all_sim : (m : Machine I) → ReadyHave m → (op : OpId) (i : ℕ) (result : Result (List Item2) ReadErr) → (result ≡ Err NoMemory → ⊥) → AnswersReadAll held m op i result → ReadsAll sim_objects m.rows m.history op i result
  reads_all_sim m have op i result given (inr (want, row, ready)) = absurd (given want)
  reads_all_sim m have op i (Ok items) given (inl (a, home, may, start, begins, unfolds)) =
      (a, home, may, start, begins, unfolding_same m.rows.bundles (needs_of_op m.rows m.history op) (objects_in held m.images) sim_objects (agree m have op i a home may) start (starts_needed m have op i a home may start begins) items unfolds)
  reads_all_sim m have op i (Err (Absent b)) given (inl (a, home, may, missed)) = (a, home, may, missed_sim m have op i a home may b missed)
  reads_all_sim m have op i (Err NoHandle) given (inl is) = is
  reads_all_sim m have op i (Err NoAsset) given (inl is) = is
  reads_all_sim m have op i (Err Pending) given (inl is) = is
  reads_all_sim m have op i (Err (Failed b cause)) given (inl is) = is
  reads_all_sim m have op i (Err NoMemory) given (inl never) = absurd never
