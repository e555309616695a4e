-- A state that keeps the rules.
use Rattle.std.specs.Prelude.{ℕ, true, false, ◌≡◌, ◌≢◌, ◌≤◌, ◌<◌, ◌⊎◌, List, [], ◌∷◌, ◌++◌, length, map, codes, Some}
use Rattle.std.specs.List.{Contains, slice_get}
use Rattle.std.specs.List.Sorted.{IsStrictlySortedBy}
use Rattle.std.specs.Cmp.Lexicographic.{slice_cmp}
use Rattle.std.specs.Ordering.{nat_cmp}
use Rattle.std.specs.declared.cmp.Ordering.{Ordering}
use Rattle.addr_base.specs.Escapes.{escaped}
use Rattle.addr_base.specs.declared.ids.Guid.{Guid}
use Rattle.addr_state.specs.declared.model.State.{State}
use Rattle.addr_state.specs.declared.model.StateBundle.{StateBundle}
use Rattle.addr_state.specs.Files.{HasNameBytes, side_file}

-- GUIDs in the order of their bytes
abbrev pub guid_cmp : Guid → Guid → Ordering
guid_cmp x y = slice_cmp nat_cmp x.0 y.0

-- the rules of a bundle alone
pub record IsWellFormed (b : StateBundle) : Type 0 where
  pub group_filled : 1 ≤ length b.group
  pub group_short : length b.group ≤ 255
  pub group_free : b.group ≢ codes "Content Update"
  pub name_short : length b.name ≤ 200
  pub name_bytes : HasNameBytes b.name
  pub name_front : (rest : List ℕ) × (b.name ≡ (escaped b.group ++ 95 ∷ []) ++ rest)
  pub file : (b.file ≡ side_file false b.name b.digest) ⊎ (b.file ≡ side_file true b.name b.digest)
  pub id_short : length b.id ≤ 1400
  pub entries_rise : IsStrictlySortedBy guid_cmp b.entries
  pub objects_rise : IsStrictlySortedBy guid_cmp b.objects
  pub entries_objects : (g : Guid) → Contains b.entries g → Contains b.objects g

-- no GUID is an entry of two bundles
abbrev pub EntriesOnce : List StateBundle → Type 0
EntriesOnce bs = (i j : ℕ) (b c : StateBundle) (g : Guid) → i < j → slice_get bs i ≡ Some b → slice_get bs j ≡ Some c → Contains b.entries g → Contains c.entries g → ⊥

-- the rules of a state
pub record IsSound (s : State) : Type 0 where
  pub few : length s.bundles ≤ 65536
  pub fixed_rise : IsStrictlySortedBy (slice_cmp nat_cmp) s.fixed
  pub names_rise : IsStrictlySortedBy (slice_cmp nat_cmp) (map (λ b. b.name) s.bundles)
  pub formed : (i : ℕ) (b : StateBundle) → slice_get s.bundles i ≡ Some b → IsWellFormed b
  pub once : EntriesOnce s.bundles
