-- Where one bundle stands, as the machine keeps it, and what an event does to it; the queue and images that follow.
use Rattle.std.specs.Prelude.{ℕ, ◌==◌, ◌+◌, ◌-◌, ◌^◌, min, Bool, false, ◌&&◌, ◌||◌, not, nat_lt, nat_le, List, [], ◌∷◌, ◌++◌, filter, slice_get, Option, Some, None, is_some, if◌then◌else◌}
use Rattle.addr_base.specs.declared.ids.BundleNo.{BundleNo}
use Rattle.addr_queue.specs.declared.slots.Slot.{Slot}

-- whether a worker is the one that may be there
abbrev pub is_by : ℕ → Option ℕ → Bool
is_by worker None = false
is_by worker (Some w) = w == worker

-- a slot after an event: taken by a worker; its fetch ended; its count one less; its count one more
abbrev pub taken : ℕ → Slot → Slot
taken worker s = record { count = s.count; resident = s.resident; fetcher = Some worker; queued = false }

abbrev pub ended : Bool → Slot → Slot
ended kept s = record { count = s.count; resident = kept; fetcher = None; queued = s.queued }

abbrev pub let_go : Slot → Slot
let_go s = record { count = s.count - 1; resident = s.resident && nat_lt 1 s.count; fetcher = s.fetcher; queued = s.queued && nat_lt 1 s.count }

abbrev pub is_free : Slot → Bool
is_free s = not s.resident && not (is_some s.fetcher)

abbrev pub taken_in : Slot → Slot
taken_in s = record { count = min (s.count + 1) (2 ^ 32 - 1); resident = s.resident; fetcher = s.fetcher; queued = s.queued || is_free s }

-- whether the slot at a bundle's place passes a test
abbrev pub passes_from : (Slot → Bool) → Option Slot → Bool
passes_from test None = false
passes_from test (Some s) = test s

abbrev pub passes : (Slot → Bool) → List Slot → BundleNo → Bool
passes test slots b = passes_from test (slice_get slots b.0)

-- whether a bundle leaves the queue when its count is one less; whether it isn't resident; whether it is absent; whether nobody needs it
abbrev pub leaves : Slot → Bool
leaves s = s.queued && nat_le s.count 1

abbrev pub is_missing : Slot → Bool
is_missing s = not s.resident

abbrev pub is_out : Slot → Bool
is_out s = not s.resident && not (is_some s.fetcher) && not s.queued

abbrev pub is_idle : Slot → Bool
is_idle s = s.count == 0

-- the queue after those of some bundles that pass a test left it, one after another, or joined it
abbrev pub left_each : (BundleNo → Bool) → List BundleNo → List BundleNo → List BundleNo
left_each test [] order = order
left_each test (b ∷ bs) order = left_each test bs (if test b then filter (λ c. not (c.0 == b.0)) order else order)

abbrev pub joined_each : (BundleNo → Bool) → List BundleNo → List BundleNo → List BundleNo
joined_each test [] order = order
joined_each test (b ∷ bs) order = joined_each test bs (if test b then order ++ b ∷ [] else order)
