-- The members of a bundle and of a state put one after the other into an object, as they are written.
use Rattle.std.specs.Prelude.{codes, map}
use Rattle.serde_json.specs.Data.{array, number, unsigned, Members, put}
use Rattle.serde_json.specs.View.{items_of}
use Rattle.addr_state.specs.declared.model.State.{State}
use Rattle.addr_state.specs.declared.model.StateBundle.{StateBundle}
use Rattle.addr_json.specs.Trees.{digest_tree, texts_tree, with_text}
use Rattle.addr_state.specs.Written.{guids_tree, bundle_tree}

unfoldable pub with_names : StateBundle → Members → Members
with_names b ms =
    with_text (codes "name") b.name
    (with_text (codes "id") b.id
    (with_text (codes "group") b.group
    (with_text (codes "file") b.file ms)))

unfoldable pub with_ids : StateBundle → Members → Members
with_ids b ms =
    put (codes "objects") (guids_tree b.objects)
    (put (codes "entries") (guids_tree b.entries)
    (put (codes "digest") (digest_tree b.digest) ms))

unfoldable pub with_size : StateBundle → Members → Members
with_size b ms = put (codes "size") (number (unsigned b.size)) ms

unfoldable pub with_parts : State → Members → Members
with_parts s ms =
    put (codes "version") (number (unsigned 1))
    (put (codes "fixed") (texts_tree s.fixed)
    (put (codes "bundles") (array (items_of (map bundle_tree s.bundles))) ms))
