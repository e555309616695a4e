-- Beside kept bundles: walks through new and kept bundles agree with the project, and rows of both close the needs of both.
use Rattle.std.proofs.Common.{◌≡◌, ◌≢◌, ℕ, ◌⊎◌, inl, inr, Bool, true, false, List, [], get_or, Some, refl, sym, ap, subst, ◌∙◌, arith}
use Rattle.std.proofs.lemmas.Bool.{false≢true}
use Rattle.std.proofs.lemmas.Option.{slice_get_within, slice_get-get_or}
use Rattle.std.specs.Bool.{MatchBool}
use Rattle.std.specs.List.{Contains, slice_get}
use Rattle.addr_base.specs.declared.ids.Guid.{Guid}
use Rattle.addr_pack.specs.declared.bundles.Plan.{Plan}
use Rattle.addr_pack.specs.declared.bundles.PlanBundle.{PlanBundle}
use Rattle.addr_project.specs.Model.{Project}
use Rattle.addr_project.specs.Reach.{Refers}
use Rattle.addr_walks.specs.Rows.{Edge}
use Rattle.addr_walks.specs.Walks.Leads.{stays}
use Rattle.addr_layout.specs.declared.model.LayBundle.{LayBundle}
use Rattle.addr_layout.specs.declared.model.Layout.{Layout}
use Rattle.addr_layout.specs.Agreement.{Place, place}
use Rattle.addr_layout.specs.Direct.{Closes}
use Rattle.addr_layout.specs.KeptBundles.{AreKeptHomes, FollowsWith, HaveDirect, IsKeptAt, IsNewAt, NeedsWith, StandsWith, WalkAgreesWith}
use Rattle.addr_layout.specs.Layout.{IsBare, IsFull, IsLayout}
use Rattle.addr_layout.specs.Members.{EachPlaced, HasEntry}
use Rattle.addr_layout.proofs.AgreementLemmas.{LeadsOn, agrees-over, holds-on, needs-on, some-home}
use Rattle.addr_layout.proofs.DirectLemmas.{deps-same}
use Rattle.addr_layout.proofs.RankLemmas.{same-some}

not-both : (plan : Plan) (b : ℕ) → IsNewAt plan b → IsKeptAt plan b → ⊥
not-both plan b (bundle, at, new) (other, there, kept) = false≢true (sym new ∙ (ap (λ (x : PlanBundle). x.kept) (same-some bundle other (sym at ∙ there)) ∙ kept))

new-or-kept : (plan : Plan) (b : ℕ) (bundle : PlanBundle) → slice_get plan.bundles b ≡ Some bundle → IsNewAt plan b ⊎ IsKeptAt plan b
new-or-kept plan b bundle at = by_test bundle.kept refl
  where
    by_test : (t : Bool) → bundle.kept ≡ t → IsNewAt plan b ⊎ IsKeptAt plan b
    by_test true is = inr (bundle, at, is)
    by_test false is = inl (bundle, at, is)

-- ---- walks

module _ (p : Project) (plan : Plan) (holds : ℕ → Guid → Type 0) (homes : ℕ → Guid → Guid → ℕ → Type 0) (names : ℕ → ℕ → Type 0) (are : AreKeptHomes p plan holds homes names) (placed : EachPlaced p plan) where
  -- an entry stands in its bundle
  entry-stands : (b : ℕ) (a : Guid) → HasEntry p plan b a → StandsWith holds p plan (place b a)
  entry-stands b a (x, (bundle, at, here), entry) = by_kind (new-or-kept plan b bundle at)
    where
      by_kind : IsNewAt plan b ⊎ IsKeptAt plan b → StandsWith holds p plan (place b a)
      by_kind (inl new) = inl (new, (a, (x, (bundle, at, here), entry), stays))
      by_kind (inr kept) = inr (kept, are.entries b a kept (x, (bundle, at, here), entry))

  some-step : (b : ℕ) (x y : Guid) → StandsWith holds p plan (place b x) → Refers p x y → (c : ℕ) × FollowsWith homes p plan (place b x) (place c y)
  some-step b x y (inl (new, member)) refers = let home = some-home p plan placed b y in (home.0, (refers, inl (new, home.1)))
  some-step b x y (inr (kept, held)) refers = let home = are.some b x y kept held refers in (home.0, (refers, inr (kept, home.1)))

  stands-on : (q s : Place) → StandsWith holds p plan q → FollowsWith homes p plan q s → StandsWith holds p plan s
  stands-on q s (inl (new, member)) (refers, inl (also, inl has)) = entry-stands s.bundle s.guid has
  stands-on q s (inl (new, member)) (refers, inl (also, inr (none, same))) = inl (subst (IsNewAt plan) same new, holds-on p plan q s member (refers, inr (none, same)))
  stands-on q s (inl (new, member)) (refers, inr (kept, home)) = absurd (not-both plan q.bundle new kept)
  stands-on q s (inr (kept, held)) (refers, inl (new, home)) = absurd (not-both plan q.bundle new kept)
  stands-on q s (inr (kept, held)) (refers, inr (also, home)) = are.stand q.bundle s.bundle q.guid s.guid kept held refers home

  needed-on : (q s : Place) → StandsWith holds p plan q → FollowsWith homes p plan q s → q.bundle ≢ s.bundle → NeedsWith names p plan q.bundle s.bundle
  needed-on q s (inl (new, member)) (refers, inl (also, home)) apart = inl (new, needs-on p plan q s member (refers, home) apart)
  needed-on q s (inl (new, member)) (refers, inr (kept, home)) apart = absurd (not-both plan q.bundle new kept)
  needed-on q s (inr (kept, held)) (refers, inl (new, home)) apart = absurd (not-both plan q.bundle new kept)
  needed-on q s (inr (kept, held)) (refers, inr (also, home)) apart = inr (kept, are.needed q.bundle s.bundle q.guid s.guid kept held refers home apart)

  kept-leads : LeadsOn p (FollowsWith homes p plan) (StandsWith holds p plan) (NeedsWith names p plan)
  kept-leads = record { refers = λ q s stands follows. follows.0; some = some-step; kept = stands-on; needed = needed-on }

pub kept-walk-agrees : (p : Project) (plan : Plan) (holds : ℕ → Guid → Type 0) (homes : ℕ → Guid → Guid → ℕ → Type 0) (names : ℕ → ℕ → Type 0) → WalkAgreesWith holds homes names p plan
kept-walk-agrees p plan holds homes names are placed b a has =
    agrees-over p (FollowsWith homes p plan) (StandsWith holds p plan) (NeedsWith names p plan) (kept-leads p plan holds homes names are placed) b a (entry-stands p plan holds homes names are placed b a has)

-- ---- rows

module _ (p : Project) (plan : Plan) (layout : Layout) (rows : List (List ℕ)) (laid : IsLayout p plan layout) (have : HaveDirect plan layout rows) where
  none : LayBundle
  none = record { members = []; refs = []; direct = [] }

  -- a new bundle's row is the list of what it needs
  new-row : (b : ℕ) → IsNewAt plan b → (lay : LayBundle) × (slice_get rows b ≡ Some lay.direct) × IsFull p plan b lay
  new-row b (bundle, at, new) = (lay, have.new b lay (bundle, at, new) there, by_test is.0.kept kept-not is.2)
    where
      lay : LayBundle
      lay = get_or layout.bundles b none

      there : slice_get layout.bundles b ≡ Some lay
      there = slice_get-get_or layout.bundles b none (let within = slice_get_within plan.bundles b bundle at in let same = laid.as_many in omega arith)

      is : (other : PlanBundle) × (slice_get plan.bundles b ≡ Some other) × MatchBool other.kept (IsBare lay) (IsFull p plan b lay)
      is = laid.laid b lay there

      kept-not : is.0.kept ≡ false
      kept-not = ap (λ (x : PlanBundle). x.kept) (same-some is.0 bundle (sym is.1 ∙ at)) ∙ new

      by_test : (t : Bool) → t ≡ false → MatchBool t (IsBare lay) (IsFull p plan b lay) → IsFull p plan b lay
      by_test true not-new bare = absurd (cc not-new)
      by_test false not-new full = full

  edge-needs : (b c : ℕ) → Edge rows b c → NeedsWith (Edge rows) p plan b c
  edge-needs b c (row, at, here) = by_kind (new-or-kept plan b bundle there)
    where
      bundle : PlanBundle
      bundle = get_or plan.bundles b (record { name = []; group = 0; kept = false; entries = [] })

      there : slice_get plan.bundles b ≡ Some bundle
      there = slice_get-get_or plan.bundles b (record { name = []; group = 0; kept = false; entries = [] }) (let within = slice_get_within rows b row at in let same = have.as_many in omega arith)

      by_kind : IsNewAt plan b ⊎ IsKeptAt plan b → NeedsWith (Edge rows) p plan b c
      by_kind (inl new) =
          let own = new-row b new in
          inl (new, own.2.direct.within c (subst (λ (xs : List ℕ). Contains xs c) (same-some row own.0.direct (sym at ∙ own.1)) here))
      by_kind (inr kept) = inr (kept, (row, at, here))

  needs-edge : (b c : ℕ) → NeedsWith (Edge rows) p plan b c → Edge rows b c
  needs-edge b c (inl (new, needs)) = let own = new-row b new in (own.0.direct, own.1, own.2.direct.all c needs)
  needs-edge b c (inr (kept, edge)) = edge

  pub kept-closes : Closes (NeedsWith (Edge rows) p plan) rows
  kept-closes b deps = (
    deps-same (Edge rows) (NeedsWith (Edge rows) p plan) edge-needs needs-edge b deps,
    deps-same (NeedsWith (Edge rows) p plan) (Edge rows) needs-edge edge-needs b deps,
  )
