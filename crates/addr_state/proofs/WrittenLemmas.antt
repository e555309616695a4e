-- The members that are put one after the other are those of the bundle, or of the state, in the order of their names.
use Rattle.std.proofs.Common.{◌≡◌, refl}
use Rattle.serde_json.specs.Data.{object, no_members}
use Rattle.addr_state.specs.declared.model.State.{State}
use Rattle.addr_state.specs.declared.model.StateBundle.{StateBundle}
use Rattle.addr_state.specs.within.Put.{with_names, with_ids, with_size, with_parts}
use Rattle.addr_state.specs.Written.{bundle_tree, state_tree}

pub members_written : (b : StateBundle) → object (with_size b (with_ids b (with_names b no_members))) ≡ bundle_tree b
unfolding with_names with_ids with_size
members_written b = refl

pub parts_written : (s : State) → object (with_parts s no_members) ≡ state_tree s
unfolding with_parts
parts_written s = refl
