-- The text that is written for a state: JSON with no space, and the members of each object in byte order of their names.
use Rattle.std.specs.Prelude.{codes, ℕ, List, map}
use Rattle.serde_json.specs.Data.{Data, Members, number, string, array, object, unsigned, no_members, member}
use Rattle.serde_json.specs.View.{items_of}
use Rattle.serde_json.specs.Written.{compact_text}
use Rattle.addr_base.specs.declared.ids.Guid.{Guid}
use Rattle.addr_json.specs.Trees.{digest_tree, guid_tree, texts_tree}
use Rattle.addr_state.specs.declared.model.State.{State}
use Rattle.addr_state.specs.declared.model.StateBundle.{StateBundle}

abbrev pub guids_tree : List Guid → Data
guids_tree guids = array (items_of (map guid_tree guids))

abbrev pub bundle_members : StateBundle → Members
bundle_members b =
    member (codes "digest") (digest_tree b.digest)
    (member (codes "entries") (guids_tree b.entries)
    (member (codes "file") (string b.file)
    (member (codes "group") (string b.group)
    (member (codes "id") (string b.id)
    (member (codes "name") (string b.name)
    (member (codes "objects") (guids_tree b.objects)
    (member (codes "size") (number (unsigned b.size)) no_members)))))))

abbrev pub bundle_tree : StateBundle → Data
bundle_tree b = object (bundle_members b)

abbrev pub state_tree : State → Data
state_tree s =
    object (member (codes "bundles") (array (items_of (map bundle_tree s.bundles)))
    (member (codes "fixed") (texts_tree s.fixed)
    (member (codes "version") (number (unsigned 1)) no_members)))

unfoldable pub state_text : State → List ℕ
state_text s = compact_text (state_tree s)
