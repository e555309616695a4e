-- No fault of a document is want of memory.
use Rattle.std.proofs.Common.{ℕ, List, [], codes, Option, None}
use Rattle.serde_json.specs.Data.{Data, Members}
use Rattle.serde_json.specs.Find.{as_object, as_str}
use Rattle.addr_reading.specs.Gives.{IsNamed}
use Rattle.addr_reading.specs.Steps.{or_fault}
use Rattle.addr_reading.proofs.StepLaws.{ok_named, fault_named, then_named}
use Rattle.addr_json.specs.Members.{tree_of, required, optional, list_of}
use Rattle.addr_catalog_json.specs.Document.{texts_of, kind_of, state_of, strings_read, members_read, document_read}
use Rattle.addr_catalog_json.specs.declared.error.DocErr.TheVariants.{Json, Member, NoMemory}

json_named : {A : Type 0} (o : Option A) → IsNamed NoMemory (or_fault Json o)
json_named o = fault_named NoMemory Json o (λ same. cc)

member_named : {A : Type 0} (which : ℕ) (o : Option A) → IsNamed NoMemory (or_fault (Member which) o)
member_named which o = fault_named NoMemory (Member which) o (λ same. cc)

strings_named : (ms : Members) → IsNamed NoMemory (strings_read ms)
unfolding strings_read
strings_named ms =
    then_named NoMemory _ _ (member_named 3 (required as_str (codes "m_KeyDataString") ms)) (λ key. then_named NoMemory _ _ (member_named 4 (required as_str (codes "m_BucketDataString") ms)) (λ bucket.
    then_named NoMemory _ _ (member_named 5 (required as_str (codes "m_EntryDataString") ms)) (λ entry. then_named NoMemory _ _ (member_named 6 (required as_str (codes "m_ExtraDataString") ms)) (λ extra. ok_named NoMemory _))))

members_named : (tree : Data) → IsNamed NoMemory (members_read tree)
unfolding members_read
members_named tree =
    then_named NoMemory _ _ (member_named 0 (as_object tree)) (λ ms. then_named NoMemory _ _ (member_named 1 (required texts_of (codes "m_ProviderIds") ms)) (λ providers.
    then_named NoMemory _ _ (member_named 2 (required texts_of (codes "m_InternalIds") ms)) (λ internals. then_named NoMemory _ _ (strings_named ms) (λ strings.
    then_named NoMemory _ _ (member_named 7 (required (list_of kind_of) (codes "m_resourceTypes") ms)) (λ kinds. then_named NoMemory _ _ (member_named 8 (optional texts_of [] (codes "m_InternalIdPrefixes") ms)) (λ prefixes.
    then_named NoMemory _ _ (member_named 9 (optional state_of None (codes "m_ContentState") ms)) (λ state. ok_named NoMemory _)))))))

pub document_named : (bytes : List ℕ) → IsNamed NoMemory (document_read bytes)
unfolding document_read
document_named bytes = then_named NoMemory _ _ (json_named (tree_of bytes)) (λ tree. members_named tree)
