-- The members of a document put one after the other into an object, as they are written.
use Rattle.std.specs.Prelude.{codes, Option, Some, None}
use Rattle.std.specs.Option.{IfSome}
use Rattle.serde_json.specs.Data.{array, object, no_items, Members, no_members, put}
use Rattle.addr_base.specs.Ids.{Are16Bytes}
use Rattle.addr_base.specs.declared.ids.Digest.{Digest}
use Rattle.addr_catalog_json.specs.declared.document.Lists.{Lists}
use Rattle.addr_catalog_json.specs.declared.document.Strings.{Strings}
use Rattle.addr_json.specs.Trees.{digest_tree, texts_tree, with_text}
use Rattle.addr_catalog_json.specs.Written.{kinds_tree}

-- the members that are the same in each document
unfoldable pub with_fixed : Members → Members
with_fixed ms =
    put (codes "m_SceneProviderData") (object no_members)
    (put (codes "m_ResourceProviderData") (array no_items)
    (with_text (codes "m_LocatorId") (codes "AddressablesMainContentCatalog")
    (put (codes "m_InstanceProviderData") (object no_members) ms)))

unfoldable pub with_strings : Strings → Members → Members
with_strings s ms =
    with_text (codes "m_KeyDataString") s.key
    (with_text (codes "m_ExtraDataString") s.extra
    (with_text (codes "m_EntryDataString") s.entry
    (with_text (codes "m_BucketDataString") s.bucket ms)))

unfoldable pub with_lists : Lists → Members → Members
with_lists l ms =
    put (codes "m_resourceTypes") (kinds_tree l.kinds)
    (put (codes "m_ProviderIds") (texts_tree l.providers)
    (put (codes "m_InternalIds") (texts_tree l.internals)
    (put (codes "m_InternalIdPrefixes") (texts_tree l.prefixes) ms)))

abbrev pub with_digest : Option Digest → Members → Members
with_digest None ms = ms
with_digest (Some state) ms = put (codes "m_ContentState") (digest_tree state) ms

-- a state's digest has 16 bytes
abbrev pub IsWellStated : Option Digest → Type 0
IsWellStated state = IfSome state (λ digest. Are16Bytes digest.0)
