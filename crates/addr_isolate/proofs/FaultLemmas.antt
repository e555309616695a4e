-- A file without a fault has none with one group more and an entry of some of its assets each, where there is room for them.
use Rattle.std.proofs.Common.{◌≡◌, ℕ, ◌+◌, ◌<◌, ◌≤◌, nat_lt, not, Bool, true, false, ◌||◌, cond, List, [], ◌∷◌, ◌++◌, length, get_or, take, drop, map, Option, Some, None, refl, sym, ap, subst, ◌∙◌, arith, append_assoc, length-append, take-append-drop}
use Rattle.std.proofs.lemmas.Bool.{false≢true}
use Rattle.std.proofs.lemmas.Bool.Decides.{nat_tests}
use Rattle.std.proofs.lemmas.List.{append-nil, get_or_default, length-map, length-take-le, map-append}
use Rattle.std.proofs.lemmas.List.Folds.{list_any-append}
use Rattle.std.proofs.lemmas.Option.{slice_get_read}
use Rattle.std.specs.Cmp.Lexicographic.{bytes_decides}
use Rattle.std.specs.List.{AllByRecursion, position, position_or_len, slice_get}
use Rattle.std.specs.Option.{option_map, option_or}
use Rattle.std.specs.Prelude.{codes}
use Rattle.std.specs.Str.{bytes_eq}
use Rattle.addr_base.specs.declared.ids.Guid.{Guid}
use Rattle.addr_project.specs.declared.error.ProjectErr.TheVariants.{DuplicateGroup, DuplicateGuid, OverLimit, ReservedGroup, UnknownGroup, UnknownRef}
use Rattle.addr_project.specs.declared.limit.Limit.{Limit}
use Rattle.addr_project.specs.declared.limit.Limit.TheVariants as limit
use Rattle.addr_project.specs.declared.limit.Part.TheVariants as part
use Rattle.addr_project.specs.declared.model.Group.{Group}
use Rattle.addr_project.specs.declared.model.Mode.TheVariants.{Together}
use Rattle.addr_project.specs.declared.rows.EntryRow.{EntryRow}
use Rattle.addr_project.specs.declared.rows.ProjectFile.{ProjectFile}
use Rattle.addr_project.specs.Faults.{count_fault, entry_guids, file_fault, guids_of, is_reserved, key_fault, lacks_asset, lacks_group, link_fault, names_of, over_labels, passes}
use Rattle.addr_project.specs.Limits.{most}
use Rattle.addr_project.specs.Reading.{place}
use Rattle.addr_project.proofs.OnceLemmas.{known_at, known_place, none-parts}
use Rattle.addr_project_rows.specs.Firsts.{first_from, first_of, first_repeat, is_among, number_if}
use Rattle.addr_project_rows.proofs.FirstLemmas.{first_from-append, first_where-is}
use Rattle.addr_walks.specs.Once.{AreOnce}
use Rattle.addr_walks.proofs.Lists.{slice_get-append_left}
use Rattle.addr_isolate.proofs.FileLemmas.{entry_made, file_with}

none-both : {A : Type 0} (a b : Option A) → a ≡ None → b ≡ None → option_or a b ≡ None
none-both None b first rest = rest
none-both (Some x) b first rest = absurd (cc)

none_from_map : {A B : Type 0} (f : A → B) (o : Option A) → option_map f o ≡ None → o ≡ None
none_from_map f None is = refl
none_from_map f (Some x) is = absurd (cc)

-- ---- keys of which none is repeated

no_number : (t : Bool) (n : ℕ) → cond t (Some n) None ≡ None → t ≡ false
no_number true n is = absurd (cc)
no_number false n is = refl

among-append : (xs ys : List (List ℕ)) (key : List ℕ) → is_among (xs ++ ys) key ≡ (is_among xs key || is_among ys key)
among-append xs ys key = list_any-append (λ k. bytes_eq k key) xs ys

-- keys that are none of others, and none of them twice, repeat none after the others
none-after : (xs before ys : List (List ℕ)) → AllByRecursion (λ y. is_among xs y ≡ false) ys → first_from (number_if is_among) before ys ≡ None → first_from (number_if is_among) (xs ++ before) ys ≡ None
unfolding first_from
none-after xs before [] apart none = refl
none-after xs before (y ∷ ys) apart none =
    let parts = none-parts _ _ none in
    let here : is_among (xs ++ before) y ≡ false = among-append xs before y ∙ (λ i. apart.0 i || no_number (is_among before y) (length before) parts.0 i) in
    let rest = none-after xs (before ++ y ∷ []) ys apart.1 parts.1 in
    none-both _ _ (ap (λ b. cond b (Some (length (xs ++ before))) None) here) (ap (λ zs. first_from (number_if is_among) zs ys) (append_assoc xs before (y ∷ [])) ∙ rest)

once-join : (xs ys : List (List ℕ)) → first_repeat xs ≡ None → first_repeat ys ≡ None → AllByRecursion (λ y. is_among xs y ≡ false) ys → first_repeat (xs ++ ys) ≡ None
once-join xs ys first second apart =
    first_from-append (number_if is_among) [] xs ys
    ∙ none-both _ _ first (ap (λ zs. first_from (number_if is_among) zs ys) (sym (append-nil xs)) ∙ none-after xs [] ys apart second)

pub none-repeats : (keys : List (List ℕ)) → AreOnce keys → first_repeat keys ≡ None
none-repeats keys once = by_first (first_repeat keys) refl
  where
    by_first : (o : Option ℕ) → first_repeat keys ≡ o → first_repeat keys ≡ None
    by_first None is = is
    by_first (Some n) is =
        let first = first_where-is is_among keys n is in
        let key : List ℕ = get_or keys n [] in
        let here : slice_get keys n ≡ Some key = slice_get_read keys (length keys) n key refl first.small (get_or_default keys n [] key first.small) in
        let at = known_at (take n keys) key (first.passes []) in
        let front = known_place (take n keys) key (first.passes []) in
        let long : length (take n keys) ≡ n = length-take-le n keys (let small = first.small in omega (arith, small)) in
        let there = subst (λ ks. slice_get ks (place (take n keys) key) ≡ Some key) (take-append-drop n keys) (slice_get-append_left (take n keys) (drop n keys) (place (take n keys) key) key at) in
        let same : place (take n keys) key ≡ n = once (place (take n keys) key) n key there here in
        absurd (omega (arith, same, front, long))

none-alone : (key : List ℕ) → first_repeat (key ∷ []) ≡ None
unfolding first_from
none-alone key = refl

-- ---- tests that find no row

none-found : {X : Type 0} (test : X → Bool) (xs : List X) → AllByRecursion (λ x. test x ≡ false) xs → position_or_len test xs ≡ length xs
none-found test [] all = refl
none-found test (x ∷ xs) all = ap (λ b. cond (not b) (1 + position_or_len test xs) 0) all.0 ∙ (let rest = none-found test xs all.1 in omega (arith, rest))

pub all-fail : {X : Type 0} (test : X → Bool) (xs : List X) → AllByRecursion (λ x. test x ≡ false) xs → position test xs ≡ None
all-fail test xs all =
    let past : nat_lt (position_or_len test xs) (length xs) ≡ false = (let same = none-found test xs all in grind (arith, nat_tests)) in
    ap (λ b. cond b (Some (position_or_len test xs)) None) past

front : {X : Type 0} (test : X → Bool) (x : X) (xs : List X) (t : Bool) → test x ≡ t → position test (x ∷ xs) ≡ None → (test x ≡ false) × (position test xs ≡ None)
front test x xs true is none =
    let small : nat_lt 0 (length (x ∷ xs)) ≡ true = grind (arith, nat_tests) in
    let first : cond (nat_lt 0 (length (x ∷ xs))) (Some 0) None ≡ None = sym (ap (λ (b : Bool). cond (nat_lt (cond (not b) (1 + position_or_len test xs) 0) (length (x ∷ xs))) (Some (cond (not b) (1 + position_or_len test xs) 0)) None) is) ∙ none in
    let found : Some 0 ≡ None = sym (ap (λ (b : Bool). cond b (Some 0) None) small) ∙ first in
    absurd (cc)
front test x xs false is none = (is, rest (nat_lt (position_or_len test xs) (length xs)) refl)
  where
    whole : cond (nat_lt (1 + position_or_len test xs) (length (x ∷ xs))) (Some (1 + position_or_len test xs)) None ≡ None
    whole = sym (ap (λ (b : Bool). cond (nat_lt (cond (not b) (1 + position_or_len test xs) 0) (length (x ∷ xs))) (Some (cond (not b) (1 + position_or_len test xs) 0)) None) is) ∙ none

    rest : (b : Bool) → nat_lt (position_or_len test xs) (length xs) ≡ b → position test xs ≡ None
    rest true within =
        let more : nat_lt (1 + position_or_len test xs) (length (x ∷ xs)) ≡ true = grind (arith, nat_tests) in
        let found : Some (1 + position_or_len test xs) ≡ None = sym (ap (λ (b : Bool). cond b (Some (1 + position_or_len test xs)) None) more) ∙ whole in
        absurd (cc)
    rest false past = ap (λ (b : Bool). cond b (Some (position_or_len test xs)) None) past

pub fails-all : {X : Type 0} (test : X → Bool) (xs : List X) → position test xs ≡ None → AllByRecursion (λ x. test x ≡ false) xs
fails-all test [] none = tt
fails-all test (x ∷ xs) none = let parts = front test x xs (test x) refl none in (parts.0, fails-all test xs parts.1)

all-join : {X : Type 0} (P : X → Type 0) (xs ys : List X) → AllByRecursion P xs → AllByRecursion P ys → AllByRecursion P (xs ++ ys)
all-join P [] ys first rest = rest
all-join P (x ∷ xs) ys first rest = (first.0, all-join P xs ys first.1 rest)

all-map : {X : Type 0} (P Q : X → Type 0) → ((x : X) → P x → Q x) → (xs : List X) → AllByRecursion P xs → AllByRecursion Q xs
all-map P Q takes [] all = tt
all-map P Q takes (x ∷ xs) all = (takes x all.0, all-map P Q takes xs all.1)

-- ---- there is room

-- a group of this name and these entries can be added
pub record IsRoom (f : ProjectFile) (group : List ℕ) (guids : List Guid) : Type 0 where
  pub groups : length f.groups + 1 ≤ most limit.Groups
  pub entries : length f.entries + length guids ≤ most limit.Entries
  pub fresh : is_among (names_of f.groups) group ≡ false
  pub free : bytes_eq group (codes "Content Update") ≡ false
  pub once : first_repeat (map (λ g. g.0) guids) ≡ None
  pub apart : AllByRecursion (λ y. is_among (entry_guids f.entries) y ≡ false) (map (λ g. g.0) guids)
  pub named : AllByRecursion (λ g. is_among (guids_of f.assets) g.0 ≡ true) guids

within-limit : (which : Limit) (n : ℕ) → n ≤ most which → passes which n ≡ None
within-limit which n small = by_test (nat_lt (most which) n) refl
  where
    by_test : (b : Bool) → nat_lt (most which) n ≡ b → passes which n ≡ None
    by_test true over = absurd (let bad : most which < n = grind (arith, nat_tests) in omega (arith, bad, small))
    by_test false fits = ap (λ b. cond b (Some (OverLimit which n)) None) fits

first_of-join : {A B : Type 0} (answer : A → Option B) (xs ys : List A) → first_of answer xs ≡ None → first_of answer ys ≡ None → first_of answer (xs ++ ys) ≡ None
first_of-join answer [] ys first rest = rest
first_of-join answer (x ∷ xs) ys first rest =
    let parts = none-parts _ _ first in
    none-both _ _ parts.0 (first_of-join answer xs ys parts.1 rest)

none-over : (group : List ℕ) (guids : List Guid) → first_of over_labels (map (λ e. e.labels) (map (entry_made group) guids)) ≡ None
none-over group [] = refl
none-over group (g ∷ gs) = none-both _ _ refl (none-over group gs)

guids-made : (group : List ℕ) (guids : List Guid) → entry_guids (map (entry_made group) guids) ≡ map (λ g. g.0) guids
guids-made group [] = refl
guids-made group (g ∷ gs) = ap (λ ks. g.0 ∷ ks) (guids-made group gs)

not-false : (b : Bool) → not b ≡ false → b ≡ true
not-false true is = refl
not-false false is = absurd (false≢true (sym is))

or-first : (a b : Bool) → a ≡ true → (a || b) ≡ true
or-first true b is = refl
or-first false b is = absurd (false≢true is)

or-second : (a b : Bool) → b ≡ true → (a || b) ≡ true
or-second true b is = refl
or-second false b is = is

module _ (f : ProjectFile) (group : List ℕ) (guids : List Guid) (room : IsRoom f group guids) where
  abbrev added : Group
  added = record { name = group; mode = Together; fixed = false; remote = false }

  names-more : names_of (f.groups ++ added ∷ []) ≡ names_of f.groups ++ group ∷ []
  names-more = map-append (λ (g : Group). g.name) f.groups (added ∷ [])

  counts : count_fault f.variables f.groups (map (λ a. a.refs) f.assets) (map (λ e. e.labels) f.entries) ≡ None
      → count_fault f.variables (f.groups ++ added ∷ []) (map (λ a. a.refs) f.assets) (map (λ e. e.labels) (f.entries ++ map (entry_made group) guids)) ≡ None
  unfolding count_fault
  counts none =
      let c0 = none-parts _ _ none in
      let c1 = none-parts _ _ c0.1 in
      let c2 = none-parts _ _ c1.1 in
      let c3 = none-parts _ _ c2.1 in
      let c4 = none-parts _ _ c3.1 in
      let labels = map-append (λ (e : EntryRow). e.labels) f.entries (map (entry_made group) guids) in
      let many : length (map (λ (e : EntryRow). e.labels) (f.entries ++ map (entry_made group) guids)) ≤ most limit.Entries = (
      let all = length-map (f.entries ++ map (entry_made group) guids) (λ (e : EntryRow). e.labels) in
      let parts = length-append f.entries (map (entry_made group) guids) in
      let new = length-map guids (entry_made group) in
      let fits = room.entries in
      omega (arith, all, parts, new, fits)) in
      let groups : length (f.groups ++ added ∷ []) ≤ most limit.Groups = (let parts = length-append f.groups (added ∷ []) in let fits = room.groups in omega (arith, parts, fits)) in
      none-both _ _ c0.0 (none-both _ _ (within-limit limit.Groups _ groups) (none-both _ _ c2.0 (none-both _ _ (within-limit limit.Entries _ many)
      (none-both _ _ (ap (first_of over_labels) labels ∙ first_of-join over_labels (map (λ (e : EntryRow). e.labels) f.entries) _ c4.0 (none-over group guids)) c4.1))))

  keys : key_fault f.groups f.assets f.entries ≡ None → key_fault (f.groups ++ added ∷ []) f.assets (f.entries ++ map (entry_made group) guids) ≡ None
  unfolding key_fault
  keys none =
      let k0 = none-parts _ _ none in
      let k1 = none-parts _ _ k0.1 in
      let k2 = none-parts _ _ k1.1 in
      let k3 = none-parts _ _ k2.1 in
      let all : entry_guids (f.entries ++ map (entry_made group) guids) ≡ entry_guids f.entries ++ map (λ g. g.0) guids =
      map-append (λ (e : EntryRow). e.guid.0) f.entries (map (entry_made group) guids) ∙ ap (λ ks. entry_guids f.entries ++ ks) (guids-made group guids) in
      let entries = ap first_repeat all ∙ once-join (entry_guids f.entries) (map (λ g. g.0) guids) (none_from_map (DuplicateGuid part.Entry) _ k1.0) room.once room.apart in
      let groups = ap first_repeat names-more ∙ once-join (names_of f.groups) (group ∷ []) (none_from_map DuplicateGroup _ k2.0) (none-alone group) (room.fresh, tt) in
      let reserved = all-fail is_reserved (f.groups ++ added ∷ []) (all-join (λ (g : Group). is_reserved g ≡ false) f.groups (added ∷ []) (fails-all is_reserved f.groups (none_from_map ReservedGroup _ k3.0)) (room.free, tt)) in
      none-both _ _ k0.0 (none-both _ _ (ap (option_map (DuplicateGuid part.Entry)) entries) (none-both _ _ (ap (option_map DuplicateGroup) groups) (none-both _ _ (ap (option_map ReservedGroup) reserved) refl)))

  old-group : (e : EntryRow) → lacks_group (names_of f.groups) e ≡ false → lacks_group (names_of (f.groups ++ added ∷ [])) e ≡ false
  old-group e has =
      let there = ap (λ ns. is_among ns e.group) names-more ∙ among-append (names_of f.groups) (group ∷ []) e.group ∙ or-first (is_among (names_of f.groups) e.group) _ (not-false _ has) in
      ap not there

  new-groups : (gs : List Guid) → AllByRecursion (λ e. lacks_group (names_of (f.groups ++ added ∷ [])) e ≡ false) (map (entry_made group) gs)
  new-groups [] = tt
  new-groups (g ∷ gs) =
      let there = ap (λ ns. is_among ns group) names-more ∙ among-append (names_of f.groups) (group ∷ []) group ∙ or-second (is_among (names_of f.groups) group) (is_among (group ∷ []) group) (or-first (bytes_eq group group) false ((bytes_decides group group).1 refl)) in
      (ap not there, new-groups gs)

  new-assets : (gs : List Guid) → AllByRecursion (λ g. is_among (guids_of f.assets) g.0 ≡ true) gs → AllByRecursion (λ e. lacks_asset (guids_of f.assets) e ≡ false) (map (entry_made group) gs)
  new-assets [] all = tt
  new-assets (g ∷ gs) all = (ap not all.0, new-assets gs all.1)

  links : link_fault (names_of f.groups) (guids_of f.assets) f.assets f.entries ≡ None → link_fault (names_of (f.groups ++ added ∷ [])) (guids_of f.assets) f.assets (f.entries ++ map (entry_made group) guids) ≡ None
  unfolding link_fault
  links none =
      let l0 = none-parts _ _ none in
      let l1 = none-parts _ _ l0.1 in
      let l2 = none-parts _ _ l1.1 in
      let old = fails-all (lacks_group (names_of f.groups)) f.entries (none_from_map UnknownGroup _ l0.0) in
      let grouped = all-fail (lacks_group (names_of (f.groups ++ added ∷ []))) (f.entries ++ map (entry_made group) guids) (all-join _ f.entries (map (entry_made group) guids) (all-map _ _ old-group f.entries old) (new-groups guids)) in
      let known = all-fail (lacks_asset (guids_of f.assets)) (f.entries ++ map (entry_made group) guids) (all-join _ f.entries (map (entry_made group) guids) (fails-all (lacks_asset (guids_of f.assets)) f.entries (none_from_map (UnknownRef part.Entry) _ l2.0)) (new-assets guids room.named)) in
      none-both _ _ (ap (option_map UnknownGroup) grouped) (none-both _ _ l1.0 (none-both _ _ (ap (option_map (UnknownRef part.Entry)) known) refl))

  pub file-stays : file_fault f ≡ None → file_fault (file_with f group guids) ≡ None
  unfolding file_fault
  file-stays none =
      let t0 = none-parts _ _ none in
      let t1 = none-parts _ _ t0.1 in
      let names = none-parts _ _ t1.0 in
      none-both _ _ (counts t0.0) (none-both _ _ (none-both _ _ (keys names.0) (links names.1)) t1.1)
