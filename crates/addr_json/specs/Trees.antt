-- The values that are written: a digest or a GUID by its lower-case hex digits, and arrays of texts.
use Rattle.std.specs.Prelude.{ℕ, List, map}
use Rattle.serde_json.specs.Data.{Data, string, array, Members, put}
use Rattle.serde_json.specs.View.{items_of}
use Rattle.addr_base.specs.Ids.{hex_of}
use Rattle.addr_base.specs.declared.ids.Digest.{Digest}
use Rattle.addr_base.specs.declared.ids.Guid.{Guid}

abbrev pub digest_tree : Digest → Data
digest_tree digest = string (hex_of digest.0)

abbrev pub guid_tree : Guid → Data
guid_tree guid = string (hex_of guid.0)

abbrev pub texts_tree : List (List ℕ) → Data
texts_tree texts = array (items_of (map string texts))

-- an object's members with a text at a key, in place of the member there
abbrev pub with_text : List ℕ → List ℕ → Members → Members
with_text key text ms = put key (string text) ms
