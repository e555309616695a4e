-- No fault of a state is want of memory.
use Rattle.std.proofs.Common.{◌≡◌, ℕ, List, [], ◌∷◌, ◌++◌, length, codes, Option}
use Rattle.serde_json.specs.Data.{Data, Items, no_items, item, Members}
use Rattle.serde_json.specs.Find.{as_object, as_str}
use Rattle.addr_reading.specs.Gives.{IsNamed}
use Rattle.addr_reading.proofs.StepLaws.{ok_named, fault_named, then_named}
use Rattle.addr_json.specs.Members.{required, digest_in, size_of, tree_of}
use Rattle.addr_state.specs.Reading.{only_if, guids_of, bundle_read, row_read, rows_read, few_items, fixed_of, version_of, value_read, state_read}
use Rattle.addr_state.specs.Rules.{keeps_rules}
use Rattle.addr_reading.specs.Steps.{or_fault}
use Rattle.addr_state.specs.declared.error.StateErr.{StateErr}
use Rattle.addr_state.specs.declared.error.StateErr.TheVariants.{Json, Member, Row, NoMemory}
use Rattle.addr_state.specs.declared.model.StateBundle.{StateBundle}

-- the fault is another one
abbrev IsFault : StateErr → Type 0
IsFault fault = fault ≡ NoMemory → ⊥

named : {A : Type 0} (fault : StateErr) (o : Option A) → IsFault fault → IsNamed NoMemory (or_fault fault o)
named fault o other = fault_named NoMemory fault o other

json : IsFault Json
json same = cc

member : IsFault Member
member same = cc

row : (n : ℕ) → IsFault (Row n)
row n same = cc

bundle_named : (fault : StateErr) (ms : Members) → IsFault fault → IsNamed NoMemory (bundle_read fault ms)
unfolding bundle_read
bundle_named fault ms some =
    then_named NoMemory _ _ (named fault (required digest_in (codes "digest") ms) some) (λ digest. then_named NoMemory _ _ (named fault (required guids_of (codes "entries") ms) some) (λ entries.
    then_named NoMemory _ _ (named fault (required as_str (codes "file") ms) some) (λ file. then_named NoMemory _ _ (named fault (required as_str (codes "group") ms) some) (λ group.
    then_named NoMemory _ _ (named fault (required as_str (codes "id") ms) some) (λ id. then_named NoMemory _ _ (named fault (required as_str (codes "name") ms) some) (λ name.
    then_named NoMemory _ _ (named fault (required guids_of (codes "objects") ms) some) (λ objects. then_named NoMemory _ _ (named fault (required size_of (codes "size") ms) some) (λ size. ok_named NoMemory _))))))))

row_named : (before : List StateBundle) (d : Data) → IsNamed NoMemory (row_read before d)
unfolding row_read
row_named before d =
    then_named NoMemory _ _ (named (Row (length before)) (as_object d) (row (length before))) (λ ms. then_named NoMemory _ _ (bundle_named (Row (length before)) ms (row (length before)))
    (λ b. named (Row (length before)) (only_if (keeps_rules before b) b) (row (length before))))

rows_named : (before : List StateBundle) (ds : Items) → IsNamed NoMemory (rows_read before ds)
unfolding rows_read
rows_named before no_items = ok_named NoMemory before
rows_named before (item d ds) = then_named NoMemory _ _ (row_named before d) (λ b. rows_named (before ++ b ∷ []) ds)

value_named : (tree : Data) → IsNamed NoMemory (value_read tree)
unfolding value_read
value_named tree =
    then_named NoMemory _ _ (named Member (as_object tree) member) (λ ms. then_named NoMemory _ _ (named Member (required few_items (codes "bundles") ms) member) (λ rows.
    then_named NoMemory _ _ (named Member (required fixed_of (codes "fixed") ms) member) (λ fixed. then_named NoMemory _ _ (named Member (required version_of (codes "version") ms) member) (λ version.
    then_named NoMemory _ _ (rows_named [] rows) (λ bundles. ok_named NoMemory _)))))

pub state_named : (bytes : List ℕ) → IsNamed NoMemory (state_read bytes)
unfolding state_read
state_named bytes = then_named NoMemory _ _ (named Json (tree_of bytes) json) (λ tree. value_named tree)
