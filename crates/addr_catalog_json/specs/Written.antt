-- The texts that are written for a document and for the options of a bundle: JSON with no space, and the members of each object
-- in byte order of their names.
use Rattle.std.specs.Prelude.{codes, ℕ, List, [], map, Option, Some, None}
use Rattle.serde_json.specs.Data.{Data, number, string, array, object, unsigned, no_items, Members, no_members, member}
use Rattle.serde_json.specs.View.{items_of}
use Rattle.serde_json.specs.Written.{compact_text}
use Rattle.addr_base.specs.declared.ids.Digest.{Digest}
use Rattle.addr_json.specs.Trees.{digest_tree, texts_tree}
use Rattle.addr_catalog_json.specs.declared.document.Document.{Document}
use Rattle.addr_catalog_json.specs.declared.options.BundleOptions.{BundleOptions}

-- a resource type by its class; the assembly is not told
abbrev pub kind_tree : List ℕ → Data
kind_tree kind = object (member (codes "m_AssemblyName") (string []) (member (codes "m_ClassName") (string kind) no_members))

abbrev pub kinds_tree : List (List ℕ) → Data
kinds_tree kinds = array (items_of (map kind_tree kinds))

-- the state's digest, which is left out where there is none
abbrev pub with_state : Option Digest → Members → Members
with_state None ms = ms
with_state (Some state) ms = member (codes "m_ContentState") (digest_tree state) ms

-- the members that are the same in each document, and those of this one
abbrev pub document_tree : Document → Data
document_tree d =
    object (member (codes "m_BucketDataString") (string d.strings.bucket)
    (with_state d.state
    (member (codes "m_EntryDataString") (string d.strings.entry)
    (member (codes "m_ExtraDataString") (string d.strings.extra)
    (member (codes "m_InstanceProviderData") (object no_members)
    (member (codes "m_InternalIdPrefixes") (texts_tree d.lists.prefixes)
    (member (codes "m_InternalIds") (texts_tree d.lists.internals)
    (member (codes "m_KeyDataString") (string d.strings.key)
    (member (codes "m_LocatorId") (string (codes "AddressablesMainContentCatalog"))
    (member (codes "m_ProviderIds") (texts_tree d.lists.providers)
    (member (codes "m_ResourceProviderData") (array no_items)
    (member (codes "m_SceneProviderData") (object no_members)
    (member (codes "m_resourceTypes") (kinds_tree d.lists.kinds) no_members)))))))))))))

unfoldable pub document_text : Document → List ℕ
document_text d = compact_text (document_tree d)

-- the options of a bundle; no check sum is told
abbrev pub options_tree : BundleOptions → Data
options_tree o =
    object (member (codes "m_BundleName") (string o.name)
    (member (codes "m_BundleSize") (number (unsigned o.size))
    (member (codes "m_Crc") (number (unsigned 0))
    (member (codes "m_Hash") (digest_tree o.digest) no_members))))

unfoldable pub options_text : BundleOptions → List ℕ
options_text o = compact_text (options_tree o)
