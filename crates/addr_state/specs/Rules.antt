-- The rules that a bundle of a state keeps, alone and against the bundles before it.
use Rattle.std.specs.Prelude.{ℕ, ◌-◌, option_map, ◌&&◌, ◌||◌, nat_le, nat_eq, not, Bool, true, false, List, [], ◌∷◌, ◌++◌, length, codes, Option, Some, None}
use Rattle.std.specs.List.{list_all, list_any, flat_map, slice_get, starts_with}
use Rattle.std.specs.Str.{bytes_eq}
use Rattle.std.specs.Cmp.Lexicographic.{slice_cmp}
use Rattle.std.specs.Ordering.{is_lt, nat_cmp}
use Rattle.addr_base.specs.Escapes.{escaped}
use Rattle.addr_base.specs.declared.ids.Digest.{Digest}
use Rattle.addr_base.specs.declared.ids.Guid.{Guid}
use Rattle.addr_state.specs.declared.model.StateBundle.{StateBundle}
use Rattle.addr_state.specs.Files.{is_bundle_byte, side_file}

-- bytes stand above others in byte order, or there are no others
abbrev pub is_above : List ℕ → Option (List ℕ) → Bool
is_above bytes None = true
is_above bytes (Some before) = is_lt (slice_cmp nat_cmp before bytes)

-- each stands above the one before it, and the first above what is told
unfoldable pub ascends : {A : Type 0} → (A → List ℕ) → Option (List ℕ) → List A → Bool
ascends key before [] = true
ascends key before (x ∷ xs) = is_above (key x) before && ascends key (Some (key x)) xs

-- GUIDs ascend strictly
abbrev pub guids_ascend : List Guid → Bool
guids_ascend guids = ascends (λ (g : Guid). g.0) None guids

-- texts ascend strictly in byte order
abbrev pub texts_ascend : List (List ℕ) → Bool
texts_ascend texts = ascends (λ (t : List ℕ). t) None texts

-- a GUID is one of a list
abbrev pub is_among : List Guid → Guid → Bool
is_among guids guid = list_any (λ g. bytes_eq g.0 guid.0) guids

-- 1 to 255 bytes, and not the name that a build gives no group
abbrev pub is_group : List ℕ → Bool
is_group group = nat_le 1 (length group) && (nat_le (length group) 255 && not (bytes_eq group (codes "Content Update")))

-- up to 200 bytes of names, at their front the spelling of the group and `_`
abbrev pub is_name : List ℕ → List ℕ → Bool
is_name group name = nat_le (length name) 200 && (list_all is_bundle_byte name && starts_with nat_eq name (escaped group ++ 95 ∷ []))

-- the file of the bundle on one of the two sides
abbrev pub is_file : List ℕ → List ℕ → Digest → Bool
is_file file name digest = bytes_eq file (side_file false name digest) || bytes_eq file (side_file true name digest)

-- the texts of a bundle
unfoldable pub has_texts : Option (List ℕ) → StateBundle → Bool
has_texts above b = is_group b.group && (is_name b.group b.name && (is_above b.name above && (is_file b.file b.name b.digest && nat_le (length b.id) 1400)))

-- an entry is an object of the bundle, and no entry of an earlier one
abbrev pub is_entry : List Guid → List Guid → Guid → Bool
is_entry earlier objects guid = is_among objects guid && not (is_among earlier guid)

-- the lists of a bundle
unfoldable pub has_lists : List Guid → StateBundle → Bool
has_lists earlier b = (guids_ascend b.entries && guids_ascend b.objects) && list_all (is_entry earlier b.objects) b.entries

-- the name of the last bundle
abbrev pub last_name : List StateBundle → Option (List ℕ)
last_name bs = option_map (λ b. b.name) (slice_get bs (length bs - 1))

-- the entries of bundles
unfoldable pub entries_of : List StateBundle → List Guid
entries_of bs = flat_map (λ b. b.entries) bs

-- a bundle keeps the rules behind the bundles before it
abbrev pub keeps_rules : List StateBundle → StateBundle → Bool
keeps_rules before b = has_texts (last_name before) b && has_lists (entries_of before) b
