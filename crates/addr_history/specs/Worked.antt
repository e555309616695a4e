-- Worked examples, reply by reply: two bundles A and B, and three assets, as the plain rows below spell them.
--   asset 0 under tree, G1, green needs A; asset 1 under bush, G2, green needs B, A; asset 2 under green, G3 needs A
use Rattle.std.specs.Prelude.{ℕ, ◌≡◌, true, false, List, [], ◌∷◌, ◌++◌, Option, Some, None, Ok, Err, codes}
use Rattle.addr_base.specs.declared.cause.Cause.TheVariants.{Missing}
use Rattle.addr_base.specs.declared.ids.BundleNo.{BundleNo}
use Rattle.addr_base.specs.declared.ids.KeyNo.{KeyNo}
use Rattle.addr_base.specs.declared.ids.OpId.{OpId}
use Rattle.addr_locate.specs.Rows.{Rows}
use Rattle.addr_locate.specs.declared.rows.AssetRow.{AssetRow}
use Rattle.addr_locate.specs.declared.rows.BundleRow.{BundleRow}
use Rattle.addr_locate.specs.declared.rows.Kind.{Kind}
use Rattle.addr_locate.specs.declared.rows.Kind.TheVariants.{Any, Unknown}
use Rattle.addr_locate.specs.declared.rows.Merge.{Merge}
use Rattle.addr_locate.specs.declared.rows.Merge.TheVariants.{UseFirst, Union, Intersection}
use Rattle.addr_history.specs.declared.answers.BundleState.TheVariants.{Resident, Fetching, Queued, Absent}
use Rattle.addr_history.specs.declared.answers.Next.TheVariants.{Bundle, Idle, End}
use Rattle.addr_history.specs.declared.answers.OpStatus.TheVariants.{Pending, Ready, Failed}
use Rattle.addr_history.specs.declared.answers.Settled.TheVariants.{Kept, Dropped}
use Rattle.addr_history.specs.declared.ask.Ask.{Ask}
use Rattle.addr_history.specs.declared.error.AcquireErr.TheVariants as acquires
use Rattle.addr_history.specs.declared.error.LoadErr.TheVariants.{Closed, NoLocation, JournalFull}
use Rattle.addr_history.specs.declared.event.Event.{Event}
use Rattle.addr_history.specs.declared.event.Event.TheVariants.{Load, Acquire, Release, Take, Done, Fail, Close}
use Rattle.addr_history.specs.Counts.{references_of}
use Rattle.addr_history.specs.Answers.{load_reply, acquire_reply, release_reply, status_reply, take_reply, done_reply, close_reply, count_reply}

abbrev pub bundle : List ℕ → ℕ → BundleRow
bundle name size = record { key = name; size = size; digest = record { 0 = [] }; name = name; id = name }

abbrev pub asset : List ℕ → List BundleNo → List KeyNo → AssetRow
asset id deps keys = record { id = id; kind = record { 0 = 0 }; deps = deps; keys = keys }

-- the two bundles, and the six keys by number
abbrev pub a : BundleNo
a = record { 0 = 0 }

abbrev pub b : BundleNo
b = record { 0 = 1 }

abbrev pub tree : KeyNo
tree = record { 0 = 0 }

abbrev pub green : KeyNo
green = record { 0 = 2 }

abbrev pub bush : KeyNo
bush = record { 0 = 3 }

abbrev pub sample : Rows
sample = record {
  bundles = bundle (codes "A") 100 ∷ bundle (codes "B") 200 ∷ [];
  assets =
      asset (codes "G1") (a ∷ []) (tree ∷ record { 0 = 1 } ∷ green ∷ [])
      ∷ asset (codes "G2") (b ∷ a ∷ []) (bush ∷ record { 0 = 4 } ∷ green ∷ [])
      ∷ asset (codes "G3") (a ∷ []) (green ∷ record { 0 = 5 } ∷ [])
      ∷ [];
  keys = codes "tree" ∷ codes "G1" ∷ codes "green" ∷ codes "bush" ∷ codes "G2" ∷ codes "G3" ∷ [];
  kinds = codes "Mesh" ∷ [];
}

abbrev pub op : ℕ → OpId
op n = record { 0 = n }

-- the first row under one key
abbrev pub one : KeyNo → Ask
one key = record { keys = Some key ∷ []; mode = UseFirst; kind = Any; all = false }

-- all rows of some keys, of any kind or of one that no row has
abbrev pub every : Merge → Kind → List (Option KeyNo) → Ask
every mode kind keys = record { keys = keys; mode = mode; kind = kind; all = true }

-- a number stands for an image here
abbrev pub image : ℕ
image = 7

-- which keys lead nowhere, and which first key is named
pub record Located : Type 0 where
  pub first_of_several : load_reply sample 1000 [] (one green) ≡ Ok (op 0)
  pub unknown_passed : load_reply sample 1000 [] (record { keys = None ∷ Some bush ∷ []; mode = UseFirst; kind = Any; all = false }) ≡ Ok (op 0)
  pub union : load_reply sample 1000 [] (every Union Any (None ∷ Some green ∷ [])) ≡ Ok (op 0)
  pub unknown_named : load_reply sample 1000 [] (every Intersection Any (Some green ∷ None ∷ [])) ≡ Err (NoLocation (Some 1))
  pub none_named : load_reply sample 1000 [] (every Intersection Any (Some tree ∷ Some bush ∷ [])) ≡ Err (NoLocation None)
  pub kind_named : load_reply sample 1000 [] (every Union Unknown (Some green ∷ [])) ≡ Err (NoLocation (Some 0))

-- one bundle for two operations: it stays until the second is released
abbrev pub shared : List Event
shared = Load (op 0) 0 (one tree) ∷ Load (op 1) 0 (one tree) ∷ Take a 1 ∷ Done a 1 ∷ []

pub record Shared : Type 0 where
  pub second : load_reply sample 1000 (Load (op 0) 0 (one tree) ∷ []) (one tree) ≡ Ok (op 1)
  pub taken : take_reply sample (Load (op 0) 0 (one tree) ∷ Load (op 1) 0 (one tree) ∷ []) ≡ Bundle a
  pub kept : done_reply sample (Load (op 0) 0 (one tree) ∷ Load (op 1) 0 (one tree) ∷ Take a 1 ∷ []) 1 a image ≡ Ok Kept
  pub stays : count_reply sample (shared ++ Release (op 0) 0 ∷ []) a ≡ Some (1, Resident)
  pub goes : count_reply sample (shared ++ Release (op 0) 0 ∷ Release (op 1) 0 ∷ []) a ≡ Some (0, Absent)
  pub idle : take_reply sample (shared ++ Release (op 0) 0 ∷ Release (op 1) 0 ∷ []) ≡ Idle
  pub end : take_reply sample (shared ++ Release (op 0) 0 ∷ Release (op 1) 0 ∷ Close ∷ []) ≡ End

-- a bundle whose operation is released while it is fetched: dropped, unless another load came before it was done
abbrev pub dropped : List Event
dropped = Load (op 0) 0 (one tree) ∷ Take a 1 ∷ Release (op 0) 0 ∷ []

pub record Fetched : Type 0 where
  pub fetching : count_reply sample dropped a ≡ Some (0, Fetching)
  pub dropping : done_reply sample dropped 1 a image ≡ Ok Dropped
  pub absent : count_reply sample (dropped ++ Done a 1 ∷ []) a ≡ Some (0, Absent)
  pub not_queued : take_reply sample (dropped ++ Load (op 1) 0 (one tree) ∷ []) ≡ Idle
  pub not_taken : done_reply sample (dropped ++ Load (op 1) 0 (one tree) ∷ []) 2 a image ≡ Err image
  pub keeping : done_reply sample (dropped ++ Load (op 1) 0 (one tree) ∷ []) 1 a image ≡ Ok Kept
  pub ready : status_reply sample (dropped ++ Load (op 1) 0 (one tree) ∷ Done a 1 ∷ []) (op 1) ≡ Ok Ready

-- a bundle that failed: the first operation stays failed, a later one fetches it anew
abbrev pub failed : List Event
failed = Load (op 0) 0 (one bush) ∷ Take b 1 ∷ Fail b 1 Missing ∷ Load (op 1) 0 (one bush) ∷ []

abbrev pub retried : List Event
retried = failed ++ Take a 1 ∷ Take b 2 ∷ Done a 1 ∷ Done b 2 ∷ []

pub record Retried : Type 0 where
  pub first_taken : take_reply sample (Load (op 0) 0 (one bush) ∷ []) ≡ Bundle b
  pub told : status_reply sample (Load (op 0) 0 (one bush) ∷ Take b 1 ∷ Fail b 1 Missing ∷ []) (op 0) ≡ Ok (Failed b Missing)
  pub older_first : take_reply sample failed ≡ Bundle a
  pub then_retried : take_reply sample (failed ++ Take a 1 ∷ []) ≡ Bundle b
  pub pending : status_reply sample (failed ++ Take a 1 ∷ Take b 2 ∷ Done a 1 ∷ []) (op 1) ≡ Ok Pending
  pub still_failed : status_reply sample retried (op 0) ≡ Ok (Failed b Missing)
  pub ready : status_reply sample retried (op 1) ≡ Ok Ready
  pub counted : count_reply sample retried b ≡ Some (2, Resident)
  pub released : release_reply retried (op 0) ≡ Ok tt
  pub twice : release_reply (retried ++ Release (op 0) 0 ∷ []) (op 0) ≡ Err (record {})
  pub gone : status_reply sample (retried ++ Release (op 0) 0 ∷ []) (op 0) ≡ Err (record {})

-- a limit of 5 events: what is used, owed and needed
abbrev pub filled : List Event
filled = Load (op 0) 0 (one tree) ∷ []

pub record Filled : Type 0 where
  pub first : load_reply sample 5 [] (one tree) ≡ Ok (op 0)
  pub full : load_reply sample 5 filled (one tree) ≡ Err (JournalFull 1 4 2)
  pub full_again : load_reply sample 5 (filled ++ Release (op 0) 0 ∷ []) (one tree) ≡ Err (JournalFull 2 1 4)
  pub close : close_reply (filled ++ Release (op 0) 0 ∷ []) ≡ true
  pub closed : close_reply (filled ++ Release (op 0) 0 ∷ Close ∷ []) ≡ false
  pub refused : load_reply sample 5 (filled ++ Release (op 0) 0 ∷ Close ∷ []) (one tree) ≡ Err Closed

-- an operation that is acquired once more: it stays until its second Release
abbrev pub held_twice : List Event
held_twice = filled ++ Acquire (op 0) 0 ∷ []

abbrev pub held_once : List Event
held_once = held_twice ++ Release (op 0) 0 ∷ []

abbrev pub let_go : List Event
let_go = held_once ++ Release (op 0) 0 ∷ []

pub record Acquired : Type 0 where
  pub first : load_reply sample 7 [] (one tree) ≡ Ok (op 0)
  pub more : acquire_reply sample 7 filled (op 0) ≡ Ok tt
  pub full : acquire_reply sample 7 held_twice (op 0) ≡ Err (acquires.JournalFull 2 5 2)
  pub two : references_of held_twice (op 0) ≡ 2
  pub released : release_reply held_twice (op 0) ≡ Ok tt
  pub queued : count_reply sample held_once a ≡ Some (1, Queued)
  pub released_again : release_reply held_once (op 0) ≡ Ok tt
  pub absent : count_reply sample let_go a ≡ Some (0, Absent)
  pub no_release : release_reply let_go (op 0) ≡ Err (record {})
  pub no_acquire : acquire_reply sample 7 let_go (op 0) ≡ Err acquires.NoHandle
  pub fuller : acquire_reply sample 6 filled (op 0) ≡ Err (acquires.JournalFull 1 4 2)
