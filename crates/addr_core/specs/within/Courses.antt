-- How far one operation is, as the machine keeps it, and what an event does to it; and the operations that wait for a bundle.
use Rattle.std.specs.Prelude.{ℕ, ◌==◌, ◌<◌, ◌≡◌, ◌+◌, ◌-◌, ◌^◌, min, Bool, true, List, [], ◌∷◌, ◌++◌, map, slice_get, Some, is_some, if◌then◌else◌}
use Rattle.std.specs.List.{count_by}
use Rattle.addr_base.specs.declared.ids.BundleNo.{BundleNo}
use Rattle.addr_history.specs.declared.answers.OpStatus.{OpStatus}
use Rattle.addr_history.specs.Events.{is_in}
use Rattle.addr_core.specs.declared.courses.Course.{Course}
use Rattle.addr_queue.specs.Changes.{change}

-- a course after an event: one of its bundles came; one failed; it has one reference less; one more
abbrev pub woken : Course → Course
woken c = record { missing = c.missing - 1; failed = c.failed; references = c.references }

abbrev pub failed_by : OpStatus → Course → Course
failed_by status c = if is_some c.failed then c else record { missing = c.missing; failed = Some status; references = c.references }

abbrev pub given_back : Course → Course
given_back c = record { missing = c.missing; failed = c.failed; references = c.references - 1 }

abbrev pub acquired : Course → Course
acquired c = record { missing = c.missing; failed = c.failed; references = min (c.references + 1) (2 ^ 32 - 1) }

-- how often a number stands in a list
abbrev pub times_in : ℕ → List ℕ → ℕ
times_in n ns = count_by (λ k. k == n) ns

-- those that wait for a bundle, and room for more of them
pub record Waiting : Type 0 where
  pub ops : List ℕ
  pub spare : ℕ

abbrev pub waiting_lists : List Waiting → List (List ℕ)
waiting_lists waits = map (λ w. w.ops) waits

-- each bundle that passes a test has room for one more
abbrev pub HasRoom : (BundleNo → Bool) → List BundleNo → List Waiting → Type 0
HasRoom test needs waits = (b : BundleNo) (w : Waiting) → is_in b needs ≡ true → test b ≡ true → slice_get waits b.0 ≡ Some w → 0 < w.spare

-- an operation waits for those of some bundles that pass a test
abbrev pub waited_each : (BundleNo → Bool) → ℕ → List BundleNo → List (List ℕ) → List (List ℕ)
waited_each test op [] waits = waits
waited_each test op (b ∷ bs) waits = waited_each test op bs (if test b then change (λ ops. ops ++ op ∷ []) b.0 waits else waits)
