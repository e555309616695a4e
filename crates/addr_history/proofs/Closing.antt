-- After Close there is no Load; and a Take, a Done and a Fail speak of bundles of the rows.
use Rattle.std.proofs.Common.{◌≡◌, ℕ, ◌<◌, Bool, true, false, ◌||◌, List, [], ◌∷◌, ◌++◌, length, Some, refl, sym, ◌∙◌, ap, subst, append_assoc}
use Rattle.std.proofs.lemmas.Bool.{false≢true}
use Rattle.std.proofs.lemmas.List.Folds.{list_any-append}
use Rattle.std.specs.List.{list_any}
use Rattle.addr_base.specs.declared.ids.BundleNo.{BundleNo}
use Rattle.addr_locate.specs.Rows.{Rows}
use Rattle.addr_history.specs.declared.event.Event.{Event}
use Rattle.addr_history.specs.declared.event.Event.TheVariants.{Load, Acquire, Release, Take, Done, Fail, Close}
use Rattle.addr_history.specs.Events.{is_load, is_close, bundle_of}
use Rattle.addr_history.specs.Counts.{is_closed}
use Rattle.addr_history.specs.Legal.{IsAnswer, Legal}
use Rattle.addr_history.proofs.Legality.{load_facts, done_facts, fail_facts, prefix}
use Rattle.addr_history.proofs.Ranges.{Sound, take_facts, queued_below, fetched_below, fetched_by_some}

right : (s : Bool) {t : Bool} → t ≡ true → (s || t) ≡ true
right true is = refl
right false is = is

closed_since : (before mid : List Event) → is_closed (before ++ Close ∷ mid) ≡ true
unfolding is_closed
closed_since before mid = list_any-append is_close before (Close ∷ mid) ∙ right (list_any is_close before) refl

module _ (rows : Rows) (limit : ℕ) where
  refused : (h : List Event) (e : Event) → is_closed h ≡ true → IsAnswer rows limit h e → is_load e ≡ false
  refused h (Load op c k) closed answer = absurd (false≢true (sym (load_facts rows limit h op c k answer).opened ∙ closed))
  refused h (Acquire op c) closed answer = refl
  refused h (Release op c) closed answer = refl
  refused h (Take b w) closed answer = refl
  refused h (Done b w) closed answer = refl
  refused h (Fail b w k) closed answer = refl
  refused h Close closed answer = refl

  none_later : (before mid after : List Event) → Legal rows limit (before ++ Close ∷ (mid ++ after)) → list_any is_load after ≡ false
  none_later before mid [] legal = refl
  none_later before mid (e ∷ after) legal =
      let answer : IsAnswer rows limit (before ++ Close ∷ mid) e = legal.answers (before ++ Close ∷ mid) e after (sym (append_assoc before (Close ∷ mid) (e ∷ after))) in
      ap (λ t. t || list_any is_load after) (refused (before ++ Close ∷ mid) e (closed_since before mid) answer)
      ∙ none_later before (mid ++ e ∷ []) after (subst (λ (l : List Event). Legal rows limit (before ++ Close ∷ l)) (sym (append_assoc mid (e ∷ []) after)) legal)

  pub closed_for_loads : (before after : List Event) → Legal rows limit (before ++ Close ∷ after) → list_any is_load after ≡ false
  closed_for_loads before after legal = none_later before [] after legal

  same_one : (b o : BundleNo) → Some o ≡ Some b → o ≡ b
  same_one b o is = cc

  pub speaks_of_bundle : Sound rows → (before : List Event) (e : Event) (after : List Event) (b : BundleNo) → Legal rows limit (before ++ e ∷ after) → bundle_of e ≡ Some b → b.0 < length rows.bundles
  speaks_of_bundle sound before e after b legal is = at e (legal.answers before e after refl) is
    where
      was : Legal rows limit before
      was = prefix rows limit before (e ∷ after) legal

      at : (x : Event) → IsAnswer rows limit before x → bundle_of x ≡ Some b → b.0 < length rows.bundles
      at (Load op c k) answer given = cc
      at (Acquire op c) answer given = cc
      at (Release op c) answer given = cc
      at (Take o w) answer given = subst (λ (p : BundleNo). p.0 < length rows.bundles) (same_one b o given) (queued_below rows sound before o (take_facts rows limit before o w answer))
      at (Done o w) answer given = subst (λ (p : BundleNo). p.0 < length rows.bundles) (same_one b o given) (fetched_below rows limit sound before was o (fetched_by_some before o w (done_facts rows limit before o w answer)))
      at (Fail o w k) answer given = subst (λ (p : BundleNo). p.0 < length rows.bundles) (same_one b o given) (fetched_below rows limit sound before was o (fetched_by_some before o w (fail_facts rows limit before o w k answer)))
      at Close answer given = cc
