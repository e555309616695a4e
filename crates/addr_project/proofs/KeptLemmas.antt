-- What a project keeps, from the tests of its file and of its asset files.
use Rattle.std.proofs.Common.{◌≡◌, ℕ, zero, suc, ◌+◌, ◌≤◌, nat_lt, nat_le, Bool, true, false, not, cond, List, [], ◌∷◌, length, map, Option, Some, None, Ok, refl, sym, ap, subst, ◌∙◌, arith}
use Rattle.std.proofs.lemmas.Bool.{false≢true}
use Rattle.std.proofs.lemmas.Bool.Decides.{nat_tests}
use Rattle.std.proofs.lemmas.List.{length-map}
use Rattle.std.specs.Cmp.Lexicographic.{slice_cmp}
use Rattle.std.specs.List.{position, position_or_len, AllByRecursion, Contains, slice_get}
use Rattle.std.specs.List.Sorted.{IsStrictlySortedBy}
use Rattle.std.specs.Option.{option_map}
use Rattle.std.specs.Ordering.{nat_cmp}
use Rattle.addr_base.specs.Ids.{Are16Bytes}
use Rattle.addr_base.specs.declared.ids.Guid.{Guid}
use Rattle.addr_project.specs.declared.model.Asset.{Asset}
use Rattle.addr_project.specs.declared.model.Entry.{Entry}
use Rattle.addr_project.specs.declared.rows.AssetRow.{AssetRow}
use Rattle.addr_project.specs.declared.rows.EntryRow.{EntryRow}
use Rattle.addr_project.specs.declared.rows.ProjectFile.{ProjectFile}
use Rattle.addr_project.specs.AssetFiles.{KeepsRows}
use Rattle.addr_project.specs.Checked.{entries_of}
use Rattle.addr_expansion.specs.Expansion.{Outcome, bad, circular, given, expanded, reply_to, outcome_of}
use Rattle.addr_expansion.specs.Replies.{replies}
use Rattle.addr_project.specs.Faults.{count_fault, key_fault, link_fault, text_fault, file_fault, guids_of, entry_guids, names_of, is_reserved, lacks_group, lacks_ref, lacks_asset}
use Rattle.addr_project_rows.specs.Firsts.{first_repeat, is_among}
use Rattle.addr_project.specs.Kept.{HasTexts, IsKept, IsKeptEntry, IsText, asset_guids}
use Rattle.addr_project.specs.Model.{Project}
use Rattle.addr_project.specs.Reading.{entry_from, place, text_given}
use Rattle.addr_project.specs.declared.model.Group.{Group}
use Rattle.addr_base.specs.declared.var.Var.{Var}
use Rattle.addr_walks.specs.Once.{AreOnce}
use Rattle.addr_project.proofs.OnceLemmas.{none-parts, once_from, known_at, known_place, from_map, to_map, get_contained, contained_get, any_fails}
use Rattle.addr_expansion.proofs.ReplyLemmas.{position-map}
use Rattle.addr_project.proofs.TreeLemmas.{AreGoodRows, AreSpelled, version_text}
use Rattle.addr_project.proofs.BoundLemmas.{bounded}

map-none : {A B : Type 0} (f : A → B) (o : Option A) → option_map f o ≡ None → o ≡ None
map-none f None is = refl
map-none f (Some x) is = absurd (cc)

-- a test finds no row: each fails it
front : {X : Type 0} (test : X → Bool) (x : X) (xs : List X) (t : Bool) → test x ≡ t → position test (x ∷ xs) ≡ None → (test x ≡ false) × (position test xs ≡ None)
front test x xs true is none =
    let small : nat_lt 0 (length (x ∷ xs)) ≡ true = grind (arith, nat_tests) in
    let first : cond (nat_lt 0 (length (x ∷ xs))) (Some 0) None ≡ None = sym (ap (λ (b : Bool). cond (nat_lt (cond (not b) (1 + position_or_len test xs) 0) (length (x ∷ xs))) (Some (cond (not b) (1 + position_or_len test xs) 0)) None) is) ∙ none in
    let found : Some 0 ≡ None = sym (ap (λ (b : Bool). cond b (Some 0) None) small) ∙ first in
    absurd (cc)
front test x xs false is none = (is, rest (nat_lt (position_or_len test xs) (length xs)) refl)
  where
    whole : cond (nat_lt (1 + position_or_len test xs) (length (x ∷ xs))) (Some (1 + position_or_len test xs)) None ≡ None
    whole = sym (ap (λ (b : Bool). cond (nat_lt (cond (not b) (1 + position_or_len test xs) 0) (length (x ∷ xs))) (Some (cond (not b) (1 + position_or_len test xs) 0)) None) is) ∙ none

    rest : (b : Bool) → nat_lt (position_or_len test xs) (length xs) ≡ b → position test xs ≡ None
    rest true within =
        let more : nat_lt (1 + position_or_len test xs) (length (x ∷ xs)) ≡ true = grind (arith, nat_tests) in
        let found : Some (1 + position_or_len test xs) ≡ None = sym (ap (λ (b : Bool). cond b (Some (1 + position_or_len test xs)) None) more) ∙ whole in
        absurd (cc)
    rest false past = ap (λ (b : Bool). cond b (Some (position_or_len test xs)) None) past

short_text : (t : List ℕ) (b : Bool) → nat_le (length t) 1024 ≡ b → length (text_given (reply_to (given t))) ≤ 1024
short_text t true short = rw short (grind (arith, nat_tests))
short_text t false long = rw long (omega arith)

short_reply : (o : Outcome) → length (text_given (reply_to o)) ≤ 1024
short_reply bad = omega arith
short_reply circular = omega arith
short_reply (given t) = short_text t (nat_le (length t) 1024) refl

pub short_expanded : (vs : List Var) (text t : List ℕ) → expanded vs text ≡ Ok t → length t ≤ 1024
unfolding expanded
short_expanded vs text t is = subst (λ r. length (text_given r) ≤ 1024) is (short_reply (outcome_of vs (suc (length vs)) text))

labels-same : (guids names : List (List ℕ)) (es : List EntryRow) → map (λ e. e.labels) (map (entry_from guids names) es) ≡ map (λ e. e.labels) es
labels-same guids names [] = refl
labels-same guids names (e ∷ es) = ap (λ (l : List (List (List ℕ))). e.labels ∷ l) (labels-same guids names es)

-- where a test finds no row, each fails it
none_passes : {X : Type 0} (test : X → Bool) (xs : List X) → position test xs ≡ None → AllByRecursion (λ x. test x ≡ false) xs
none_passes test [] none = tt
none_passes test (x ∷ xs) none =
    let (first, rest) = front test x xs (test x) refl none in
    (first, none_passes test xs rest)

all_at : {X : Type 0} (P : X → Type 0) (xs : List X) (i : ℕ) (x : X) → AllByRecursion P xs → slice_get xs i ≡ Some x → P x
all_at P [] i x all at = absurd (cc)
all_at P (k ∷ xs) zero x (first, rest) at = let same : k ≡ x = cc in subst P same first
all_at P (k ∷ xs) (suc i) x (first, rest) at = all_at P xs i x rest at

-- of a mapped list and of what is mapped
all_map : {X Y : Type 0} (P : Y → Type 0) (f : X → Y) (xs : List X) → AllByRecursion (λ x. P (f x)) xs → AllByRecursion P (map f xs)
all_map P f [] all = tt
all_map P f (x ∷ xs) (first, rest) = (first, all_map P f xs rest)

all_unmap : {X Y : Type 0} (P : Y → Type 0) (f : X → Y) (xs : List X) → AllByRecursion P (map f xs) → AllByRecursion (λ x. P (f x)) xs
all_unmap P f [] all = tt
all_unmap P f (x ∷ xs) (first, rest) = (first, all_unmap P f xs rest)

is_known : (b : Bool) → not b ≡ false → b ≡ true
is_known true known = refl
is_known false known = absurd (false≢true (sym known))

-- an entry's numbers are those of its asset and of its group
module _ (p : Project) (guids names : List (List ℕ)) (assets : length guids ≡ length p.assets) (groups : length names ≡ length p.groups) where
  kept_entries : (es : List EntryRow) → AllByRecursion (λ e. lacks_group names e ≡ false) es → AllByRecursion (λ e. lacks_asset guids e ≡ false) es → AllByRecursion (IsKeptEntry p) (map (entry_from guids names) es)
  kept_entries [] grouped known = tt
  kept_entries (e ∷ es) (group, grouped) (asset, known) =
      let asset_small = known_place guids e.guid.0 (is_known (is_among guids e.guid.0) asset) in
      let group_small = known_place names e.group (is_known (is_among names e.group) group) in
      (record { asset = omega (arith, asset_small); group = omega (arith, group_small) }, kept_entries es grouped known)

-- entries of one asset have one GUID
module _ (guids names : List (List ℕ)) (es : List EntryRow) (known : AllByRecursion (λ e. lacks_asset guids e ≡ false) es) where
  guid_at : (i n : ℕ) → slice_get (map (λ e. e.asset) (map (entry_from guids names) es)) i ≡ Some n
      → (row : EntryRow) × (slice_get es i ≡ Some row) × (slice_get guids n ≡ Some row.guid.0)
  guid_at i n at =
      let (e, entry, number) = from_map (λ (e : Entry). e.asset) (map (entry_from guids names) es) i n at in
      let (row, here, made) = from_map (entry_from guids names) es i e entry in
      let found : slice_get guids (place guids row.guid.0) ≡ Some row.guid.0 = known_at guids row.guid.0 (is_known (is_among guids row.guid.0) (all_at (λ e. lacks_asset guids e ≡ false) es i row known here)) in
      let same : place guids row.guid.0 ≡ n = ap (λ (e : Entry). e.asset) made ∙ number in
      (row, here, ap (slice_get guids) (sym same) ∙ found)

  entries_differ : AreOnce (entry_guids es) → AreOnce (map (λ e. e.asset) (map (entry_from guids names) es))
  entries_differ once i j n at_i at_j =
      let (one, one_at, one_is) = guid_at i n at_i in
      let (other, other_at, other_is) = guid_at j n at_j in
      let same : one.guid.0 ≡ other.guid.0 = cc in
      once i j one.guid.0 (to_map (λ (e : EntryRow). e.guid.0) es i one one_at) (to_map (λ (e : EntryRow). e.guid.0) es j other other_at ∙ ap Some (sym same))

-- each reference is the GUID of an asset
refs_known : (assets : List Asset) → AllByRecursion (λ a. lacks_ref (asset_guids assets) a.refs ≡ false) assets
    → (a : Asset) (r : Guid) → Contains assets a → Contains a.refs r → (b : Asset) × Contains assets b × (b.guid ≡ r)
refs_known assets known a r asset ref =
    let (i, at) = get_contained assets a asset in
    let (j, here) = get_contained a.refs r ref in
    let found = is_known (is_among (asset_guids assets) r.0) (any_fails (λ (g : Guid). not (is_among (asset_guids assets) g.0)) a.refs j r (all_at (λ (a : Asset). lacks_ref (asset_guids assets) a.refs ≡ false) assets i a known at) here) in
    let (b, there, same) = from_map (λ (a : Asset). a.guid.0) assets (place (asset_guids assets) r.0) r.0 (known_at (asset_guids assets) r.0 found) in
    (b, contained_get assets (place (asset_guids assets) r.0) b there, λ i. record { 0 = same i })

spelled : (guids names : List (List ℕ)) (es : List EntryRow) → AllByRecursion (λ e. AreSpelled e.address e.labels) es → AllByRecursion (λ e. HasTexts (entry_from guids names e)) es
spelled guids names [] all = tt
spelled guids names (e ∷ es) (first, rest) = (record { address = first.address_is; labels = first.labels_are }, spelled guids names es rest)

pub kept_from : (f : ProjectFile) (assets : List Asset) (local remote : List ℕ) → file_fault f ≡ None → AreGoodRows f → KeepsRows f.assets assets
    → expanded f.variables f.local ≡ Ok local → expanded f.variables f.remote ≡ Ok remote
    → IsKept (record { version = f.version; local = local; remote = remote; variables = f.variables; groups = f.groups; assets = assets; entries = entries_of f })
unfolding file_fault key_fault link_fault
kept_from f assets local remote none good kept local_is remote_is =
    let tests = none-parts _ _ none in
    let names = none-parts _ _ (none-parts _ _ tests.1).0 in
    let guids_once = none-parts _ _ names.0 in
    let entries_once = none-parts _ _ guids_once.1 in
    let names_once = none-parts _ _ entries_once.1 in
    let free = none-parts _ _ names_once.1 in
    let grouped = none-parts _ _ names.1 in
    let known = none-parts _ _ grouped.1 in
    let listed = none-parts _ _ known.1 in
    let texts = none-parts _ _ (none-parts _ _ tests.1).1 in
    let p : Project = record { version = f.version; local = local; remote = remote; variables = f.variables; groups = f.groups; assets = assets; entries = entries_of f } in
    let many : length (guids_of f.assets) ≡ length assets = ap length (sym kept.guids) ∙ length-map assets (λ (a : Asset). a.guid.0) in
    let in_assets = none_passes (lacks_asset (guids_of f.assets)) f.entries (map-none _ _ listed.0) in
    let refs : position (λ (a : Asset). lacks_ref (asset_guids assets) a.refs) assets ≡ None =
    sym (position-map (lacks_ref (asset_guids assets)) (λ (a : Asset). a.refs) assets)
    ∙ (λ i. position (lacks_ref (kept.guids i)) (kept.refs i))
    ∙ position-map (lacks_ref (guids_of f.assets)) (λ (a : AssetRow). a.refs) f.assets
    ∙ map-none _ _ known.0 in
    let counts : count_fault f.variables f.groups (map (λ (a : Asset). a.refs) assets) (map (λ (e : Entry). e.labels) (entries_of f)) ≡ None =
    (λ i. count_fault f.variables f.groups (kept.refs i) (labels-same (guids_of f.assets) (names_of f.groups) f.entries i)) ∙ tests.0 in
    record {
      guids = all_unmap Are16Bytes (λ (a : Asset). a.guid.0) assets (subst (AllByRecursion Are16Bytes) (sym kept.guids) (all_map Are16Bytes (λ (a : AssetRow). a.guid.0) f.assets good.guids));
      assets_once = once_from (asset_guids assets) (ap first_repeat kept.guids ∙ map-none _ _ guids_once.0);
      refs_named = refs_known assets (none_passes (λ (a : Asset). lacks_ref (asset_guids assets) a.refs) assets refs);
      entries = kept_entries p (guids_of f.assets) (names_of f.groups) many (length-map f.groups (λ (g : Group). g.name)) f.entries (none_passes (lacks_group (names_of f.groups)) f.entries (map-none _ _ grouped.0)) in_assets;
      entries_once = entries_differ (guids_of f.assets) (names_of f.groups) f.entries in_assets (once_from (entry_guids f.entries) (map-none _ _ entries_once.0));
      labels = all_map (λ (e : Entry). IsStrictlySortedBy (slice_cmp nat_cmp) e.labels) (entry_from (guids_of f.assets) (names_of f.groups)) f.entries good.labels;
      groups_once = once_from (names_of f.groups) (map-none _ _ names_once.0);
      none_reserved = none_passes is_reserved f.groups (map-none _ _ free.0);
      variables_once = good.variables;
      counts = counts;
      sizes = kept.sizes;
      local = short_expanded f.variables f.local local local_is;
      remote = short_expanded f.variables f.remote remote remote_is;
      values = (λ i. text_fault (sym local_is i) (sym remote_is i) (replies f.variables)) ∙ texts.0;
      version = good.version;
      texts = record {
        version = version_text f.version good.version;
        variables = good.names;
        groups = good.groups;
        assets = all_unmap IsText (λ (a : Asset). a.kind) assets (subst (AllByRecursion IsText) (sym kept.kinds) (all_map IsText (λ (a : AssetRow). a.kind) f.assets good.kinds));
        entries = all_map HasTexts (entry_from (guids_of f.assets) (names_of f.groups)) f.entries (spelled (guids_of f.assets) (names_of f.groups) f.entries good.texts);
      };
      bounds = bounded p counts kept.sizes;
    }
