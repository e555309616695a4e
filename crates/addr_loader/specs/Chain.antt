-- A worker's fetches, one for each of its Takes, and how each ends.
use Rattle.std.specs.Prelude.{ℕ, ◌≡◌, ◌≢◌, ◌⊎◌, ◌++◌, min, List, [], ◌∷◌, length, slice_get, Option, Some, None, Result, Ok, Err}
use Rattle.addr_base.specs.Ids.{digest_of}
use Rattle.addr_base.specs.declared.cause.Cause.{Cause}
use Rattle.addr_base.specs.declared.cause.Cause.TheVariants as causes
use Rattle.addr_base.specs.declared.cause.Layer.TheVariants.{UnityFs, Cab}
use Rattle.addr_base.specs.declared.ids.BundleNo.{BundleNo}
use Rattle.addr_base.specs.declared.ids.Digest.{Digest}
use Rattle.addr_locate.specs.Rows.{Rows}
use Rattle.addr_locate.specs.declared.rows.BundleRow.{BundleRow}
use Rattle.addr_history.specs.declared.event.Event.{Event}
use Rattle.addr_history.specs.declared.event.Event.TheVariants.{Take, Done, Fail}
use Rattle.addr_loader.specs.Judged.{JudgedAs}
use Rattle.addr_fetch.specs.declared.fetch.Fetched.{Fetched}
use Rattle.addr_fetch.specs.declared.fetch.Fetched.TheVariants as fetched

-- how a fetch with that answer ends: with no cause it is done
abbrev pub EndsAs : ℕ → Digest → Fetched → Option Cause → Type 0
EndsAs size digest (fetched.Given bytes) cause = JudgedAs size digest bytes cause
EndsAs size digest fetched.Missing cause = cause ≡ Some causes.Missing
EndsAs size digest (fetched.Refused code) cause = cause ≡ Some (causes.Refused code)
EndsAs size digest (fetched.TooLong n) cause = cause ≡ Some (causes.TooLong n)
EndsAs size digest (fetched.Fault n) cause = cause ≡ Some (causes.Fault n)
EndsAs size digest fetched.NoMemory cause = cause ≡ Some causes.NoMemory

-- one Take: the bundle, the answer to it, and the cause of its Fail, where it isn't done
pub record Fetching : Type 0 where
  pub b : BundleNo
  pub answer : Fetched
  pub cause : Option Cause

abbrev pub end_of : ℕ → BundleNo → Option Cause → Event
end_of worker b None = Done b worker
end_of worker b (Some cause) = Fail b worker cause

-- the events that a worker's fetches make
abbrev pub events_of : ℕ → List Fetching → List Event
events_of worker [] = []
events_of worker (x ∷ xs) = Take x.b worker ∷ end_of worker x.b x.cause ∷ events_of worker xs

-- the limit of a fetch
abbrev pub fetch_limit : ℕ → ℕ
fetch_limit size = min size 1073741824

module _ {F : Type 0} (gives : F → List ℕ → ℕ → Fetched → F → Type 0) (rows : Rows) where
  -- one call of the fetcher with the bundle's id; or none, where memory lacked for the id
  abbrev pub Fetches : F → Fetching → F → Type 0
  Fetches f x g = ((row : BundleRow) × (slice_get rows.bundles x.b.0 ≡ Some row) × gives f row.id (fetch_limit row.size) x.answer g × EndsAs row.size row.digest x.answer x.cause)
      ⊎ ((x.answer ≡ fetched.NoMemory) × (x.cause ≡ Some causes.NoMemory) × (g ≡ f))

  -- one after the other, from one state of the fetcher to another
  abbrev pub Chain : F → List Fetching → F → Type 0
  Chain f [] g = g ≡ f
  Chain f (x ∷ xs) g = (m : F) × Fetches f x m × Chain m xs g
