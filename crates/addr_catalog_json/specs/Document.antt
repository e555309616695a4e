-- The document of a catalogue: the members of its JSON object, or the first that is faulty, by its number. Members that have
-- no number here are passed over.
use Rattle.std.specs.Prelude.{codes, ℕ, List, [], Option, Some, None, Result, Ok, option_and_then, option_map}
use Rattle.serde_json.specs.Data.{Data, Members}
use Rattle.serde_json.specs.Find.{as_object, as_str, get}
use Rattle.addr_base.specs.declared.ids.Digest.{Digest}
use Rattle.addr_reading.specs.Steps.{◌>>=◌, or_fault}
use Rattle.addr_json.specs.Members.{tree_of, required, optional, list_of, digest_in}
use Rattle.addr_catalog_json.specs.declared.document.Document.{Document}
use Rattle.addr_catalog_json.specs.declared.document.Strings.{Strings}
use Rattle.addr_catalog_json.specs.declared.error.DocErr.{DocErr}
use Rattle.addr_catalog_json.specs.declared.error.DocErr.TheVariants.{Json, Member}

-- texts
abbrev pub texts_of : Data → Option (List (List ℕ))
texts_of d = list_of as_str d

-- a resource type by its class
abbrev pub kind_of : Data → Option (List ℕ)
kind_of d = option_and_then as_str (get (codes "m_ClassName") d)

-- the digest of a content state
abbrev pub state_of : Data → Option (Option Digest)
state_of d = option_map Some (digest_in d)

-- the texts of the four tables
unfoldable pub strings_read : Members → Result Strings DocErr
strings_read ms = do
  key ← or_fault (Member 3) (required as_str (codes "m_KeyDataString") ms)
  bucket ← or_fault (Member 4) (required as_str (codes "m_BucketDataString") ms)
  entry ← or_fault (Member 5) (required as_str (codes "m_EntryDataString") ms)
  extra ← or_fault (Member 6) (required as_str (codes "m_ExtraDataString") ms)
  Ok (record { key = key; bucket = bucket; entry = entry; extra = extra })

-- the members of the document
unfoldable pub members_read : Data → Result Document DocErr
members_read tree = do
  ms ← or_fault (Member 0) (as_object tree)
  providers ← or_fault (Member 1) (required texts_of (codes "m_ProviderIds") ms)
  internals ← or_fault (Member 2) (required texts_of (codes "m_InternalIds") ms)
  strings ← strings_read ms
  kinds ← or_fault (Member 7) (required (list_of kind_of) (codes "m_resourceTypes") ms)
  prefixes ← or_fault (Member 8) (optional texts_of [] (codes "m_InternalIdPrefixes") ms)
  state ← or_fault (Member 9) (optional state_of None (codes "m_ContentState") ms)
  Ok (record { lists = record { providers = providers; internals = internals; kinds = kinds; prefixes = prefixes }; strings = strings; state = state })

-- the document that bytes are
unfoldable pub document_read : List ℕ → Result Document DocErr
document_read bytes = do
  tree ← or_fault Json (tree_of bytes)
  members_read tree
