-- The members that are put one after the other are those of the document, in the order of their names.
use Rattle.std.proofs.Common.{◌≡◌, Option, Some, None, refl}
use Rattle.serde_json.specs.Data.{object, no_members}
use Rattle.addr_base.specs.declared.ids.Digest.{Digest}
use Rattle.addr_catalog_json.specs.declared.document.Document.{Document}
use Rattle.addr_catalog_json.specs.declared.document.Lists.{Lists}
use Rattle.addr_catalog_json.specs.declared.document.Strings.{Strings}
use Rattle.addr_catalog_json.specs.within.Put.{with_fixed, with_strings, with_lists, with_digest}
use Rattle.addr_catalog_json.specs.Written.{document_tree}

by_state : (lists : Lists) (strings : Strings) (state : Option Digest) → object (with_digest state (with_lists lists (with_strings strings (with_fixed no_members)))) ≡ document_tree (record { lists = lists; strings = strings; state = state })
unfolding with_fixed with_strings with_lists
by_state lists strings None = refl
by_state lists strings (Some state) = refl

pub members_written : (d : Document) → object (with_digest d.state (with_lists d.lists (with_strings d.strings (with_fixed no_members)))) ≡ document_tree d
members_written d = by_state d.lists d.strings d.state
