-- For whoever writes the rows of an update's entries: the edges of rows of needs are the needs, so closing them gives each
-- bundle's dependencies.
use Rattle.std.proofs.Common.{◌≡◌, ℕ, ◌<◌, List, [], length, get_or, map, Some, inl, inr, arith}
use Rattle.std.proofs.lemmas.Option.{slice_get-get_or, slice_get_within}
use Rattle.std.specs.List.{AllZip, slice_get}
use Rattle.addr_layout.proofs.DirectLemmas.{deps-same}
use Rattle.addr_layout.specs.Counts.{IsDepsCountOver}
use Rattle.addr_layout.specs.Direct.{Closes}
use Rattle.addr_locate.specs.declared.rows.BundleRow.{BundleRow}
use Rattle.addr_locate.specs.declared.rows.PlainAsset.{PlainAsset}
use Rattle.addr_pack.specs.declared.bundles.Plan.{Plan}
use Rattle.addr_project.specs.declared.model.Entry.{Entry}
use Rattle.addr_project.specs.Model.{Project}
use Rattle.addr_release.specs.Built.{IsEntryRowAs}
use Rattle.addr_update.specs.After.{IsOldAt, IsRowOfOld, NeedsAfter}
use Rattle.addr_update.specs.Moved.{Update}
use Rattle.addr_walks.specs.Closure.{IsDeps}
use Rattle.addr_walks.specs.Rows.{Edge}
use Rattle.addr_walks.proofs.Lists.{EachAt-same}
use Rattle.addr_walks.proofs.Zips.{zip-left}
use Rattle.addr_needs.specs.Needed.{AreNeeds}

-- a step to the same things gives the same rows of entries, and the same counts
row-same : (step other : ℕ → ℕ → Type 0) → ((b c : ℕ) → step b c → other b c) → ((b c : ℕ) → other b c → step b c) → (p : Project) (plan : Plan) (e : Entry) (row : PlainAsset)
    → IsEntryRowAs p plan step e row → IsEntryRowAs p plan other e row
row-same step other to from p plan e row is = record {
  asset = is.asset;
  at = is.at;
  id = is.id;
  kind = is.kind;
  bundle = is.bundle;
  has = is.has;
  deps = deps-same step other to from is.bundle (map (λ d. d.0) row.deps) is.deps;
  keys = is.keys;
}

count-same : (step other : ℕ → ℕ → Type 0) → ((b c : ℕ) → step b c → other b c) → ((b c : ℕ) → other b c → step b c) → (plan : Plan) (n : ℕ) → IsDepsCountOver step plan n → IsDepsCountOver other plan n
count-same step other to from plan n (lists, are, is) = (lists, record { as_many = are.as_many; each = EachAt-same (IsDeps step) (IsDeps other) lists (deps-same step other to from) are.each }, is)

module _ (u : Update) (plan : Plan) (rows : List (List ℕ)) (are : AreNeeds u plan rows) where
  pub edge-needs : (b c : ℕ) → Edge rows b c → NeedsAfter u plan b c
  edge-needs b c (row, at, here) = (are.each b row at).within c here

  pub needs-edge : (b c : ℕ) → NeedsAfter u plan b c → Edge rows b c
  needs-edge b c needs = (get_or rows b [], there, (are.each b (get_or rows b []) there).all c needs)
    where
      as-many : length rows ≡ length plan.bundles
      as-many = are.as_many

      inside : NeedsAfter u plan b c → b < length plan.bundles
      inside (inl ((bundle, at, new), more)) = slice_get_within plan.bundles b bundle at
      inside (inr ((bundle, at, kept), more)) = slice_get_within plan.bundles b bundle at

      there : slice_get rows b ≡ Some (get_or rows b [])
      there = slice_get-get_or rows b [] (let within = inside needs in omega (arith, as-many, within))

  -- closing the rows gives the dependencies
  pub closes-needs : Closes (NeedsAfter u plan) rows
  closes-needs b deps = (deps-same (Edge rows) (NeedsAfter u plan) edge-needs needs-edge b deps, deps-same (NeedsAfter u plan) (Edge rows) needs-edge edge-needs b deps)

  pub edge-row : (p : Project) (e : Entry) (row : PlainAsset) → IsEntryRowAs p plan (Edge rows) e row → IsEntryRowAs p plan (NeedsAfter u plan) e row
  edge-row p e row is = row-same (Edge rows) (NeedsAfter u plan) edge-needs needs-edge p plan e row is

  pub edge-count : (n : ℕ) → IsDepsCountOver (Edge rows) plan n → IsDepsCountOver (NeedsAfter u plan) plan n
  edge-count n is = count-same (Edge rows) (NeedsAfter u plan) edge-needs needs-edge plan n is

  pub needs-count : (n : ℕ) → IsDepsCountOver (NeedsAfter u plan) plan n → IsDepsCountOver (Edge rows) plan n
  needs-count n is = count-same (NeedsAfter u plan) (Edge rows) needs-edge edge-needs plan n is

-- the number of a kept bundle finds its row among those of the state
pub old-row : (u : Update) (plan : Plan) (rows : List BundleRow) → AllZip IsRowOfOld u.state.bundles rows → (b m : ℕ) (is : IsOldAt u plan b m) → (row : BundleRow) × (slice_get rows m ≡ Some row) × IsRowOfOld is.old row
old-row u plan rows are b m is = zip-left IsRowOfOld u.state.bundles rows are m is.old is.stays.0
