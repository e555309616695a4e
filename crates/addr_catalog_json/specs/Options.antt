-- The options of a bundle: the JSON object in the extra data of its entry.
use Rattle.std.specs.Prelude.{codes, ℕ, List, Option, Some, None, option_and_then}
use Rattle.serde_json.specs.Data.{Members}
use Rattle.serde_json.specs.Find.{as_object, as_str}
use Rattle.serde_json.specs.Read.{read}
use Rattle.addr_base.specs.declared.ids.Digest.{Digest}
use Rattle.addr_catalog_json.specs.declared.options.BundleOptions.{BundleOptions}
use Rattle.addr_json.specs.Members.{required, size_of}
use Rattle.addr_catalog_json.specs.Members.{hash_of}

abbrev pub options_from : Option Digest → Option (List ℕ) → Option ℕ → Option BundleOptions
options_from (Some digest) (Some name) (Some size) = Some (record { digest = digest; name = name; size = size })
options_from _ _ _ = None

-- the options that an object holds
unfoldable pub options_in : Members → Option BundleOptions
options_in ms = options_from (required hash_of (codes "m_Hash") ms) (required as_str (codes "m_BundleName") ms) (required size_of (codes "m_BundleSize") ms)

-- the options of the object that a text is
unfoldable pub options_read : List ℕ → Option BundleOptions
options_read text = option_and_then options_in (option_and_then as_object (read text))
