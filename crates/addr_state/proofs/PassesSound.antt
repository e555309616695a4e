-- A state that passes the tests keeps the rules.
use Rattle.std.proofs.Common.{◌≡◌, ◌⊎◌, inl, inr, ℕ, zero, suc, ◌<◌, ◌&&◌, nat_le, nat_eq, not, true, false, List, [], ◌∷◌, ◌++◌, length, drop, map, codes, Option, Some, None, refl, sym, ap, subst, ◌∙◌, arith, Ordering, Less, Equal, Greater, nat_cmp, bytes_eq}
use Rattle.std.proofs.lemmas.Bool.{and_parts, or_cases, leb-true, not-true, false≢true, eqb-true, eq-eqb}
use Rattle.std.proofs.lemmas.Cmp.{nat_list_cmp_total}
use Rattle.std.proofs.lemmas.List.Elements.{Contains-append_left, Contains-append_right, All-contains}
use Rattle.std.proofs.lemmas.List.Sums.{AllPass-from_list_all}
use Rattle.std.proofs.lemmas.Slice.Eq.{bytes_eq-Decides, starts_is}
use Rattle.std.specs.Cmp.Lexicographic.{slice_cmp}
use Rattle.std.specs.List.{AllByRecursion, Contains, list_all, slice_get, starts_with}
use Rattle.std.specs.List.Sorted.{IsStrictlySortedBy}
use Rattle.std.specs.Ordering.{is_lt}
use Rattle.addr_base.specs.Escapes.{escaped}
use Rattle.addr_base.specs.declared.ids.Guid.{Guid}
use Rattle.addr_state.specs.declared.model.State.{State}
use Rattle.addr_state.specs.declared.model.StateBundle.{StateBundle}
use Rattle.addr_state.specs.Sound.{IsWellFormed, IsSound}
use Rattle.addr_state.specs.Files.{is_bundle_byte, side_file}
use Rattle.addr_state.specs.Rules.{is_above, ascends, guids_ascend, is_among, is_group, is_name, is_file, has_texts, is_entry, has_lists, last_name, entries_of, keeps_rules}
use Rattle.addr_state.specs.within.Kept.{PassesTests, rows_keep}
use Rattle.addr_state.proofs.SoundTests.{key_cmp, among_contained, contained_among}
use Rattle.addr_state.proofs.SoundPasses.{AreBehind, last_is}
use Rattle.addr_state.proofs.RowLemmas.{entries_more}

-- ---- lists that ascend

is_less : (o : Ordering) → is_lt o ≡ true → o ≡ Less
is_less Less e = refl
is_less Equal e = absurd cc
is_less Greater e = absurd cc

abbrev Over : {A : Type 0} → (A → List ℕ) → List ℕ → List A → Type 0
Over key b xs = AllByRecursion (λ y. slice_cmp nat_cmp b (key y) ≡ Less) xs

far : {A : Type 0} (key : A → List ℕ) (b c : List ℕ) (xs : List A) → slice_cmp nat_cmp b c ≡ Less → ascends key (Some c) xs ≡ true → Over key b xs
unfolding ascends
far key b c [] less up = tt
far key b c (y ∷ ys) less up =
    let p = and_parts (is_above (key y) (Some c)) _ up in
    let more = nat_list_cmp_total.trans b c (key y) less (is_less (slice_cmp nat_cmp c (key y)) p.0) in
    (more, far key b (key y) ys more p.1)

after : {A : Type 0} (key : A → List ℕ) (b : List ℕ) (xs : List A) → ascends key (Some b) xs ≡ true → Over key b xs
unfolding ascends
after key b [] up = tt
after key b (y ∷ ys) up =
    let p = and_parts (is_above (key y) (Some b)) _ up in
    let less = is_less (slice_cmp nat_cmp b (key y)) p.0 in
    (less, far key b (key y) ys less p.1)

sorted : {A : Type 0} (key : A → List ℕ) (before : Option (List ℕ)) (xs : List A) → ascends key before xs ≡ true → IsStrictlySortedBy (key_cmp key) xs
unfolding ascends IsStrictlySortedBy
sorted key before [] up = tt
sorted key before (x ∷ xs) up =
    let p = and_parts (is_above (key x) before) _ up in
    (after key (key x) xs p.1, sorted key (Some (key x)) xs p.1)

over_too : (b c : List ℕ) (ys : List (List ℕ)) → slice_cmp nat_cmp b c ≡ Less → AllByRecursion (λ y. slice_cmp nat_cmp c y ≡ Less) ys → AllByRecursion (λ y. slice_cmp nat_cmp b y ≡ Less) ys
over_too b c [] less over = tt
over_too b c (y ∷ ys) less over = (nat_list_cmp_total.trans b c y less over.0, over_too b c ys less over.1)

-- ---- a bundle

entry_at : (earlier objects gs : List Guid) (g : Guid) → list_all (is_entry earlier objects) gs ≡ true → Contains gs g → (is_among objects g ≡ true) × (not (is_among earlier g) ≡ true)
entry_at earlier objects gs g all here =
    and_parts (is_among objects g) (not (is_among earlier g)) (All-contains (λ (h : Guid). is_entry earlier objects h ≡ true) gs g (AllPass-from_list_all (is_entry earlier objects) gs all) here)

formed : (above : Option (List ℕ)) (earlier : List Guid) (b : StateBundle) → has_texts above b ≡ true → has_lists earlier b ≡ true → IsWellFormed b
unfolding has_texts has_lists
formed above earlier b texts lists =
    let g = and_parts (is_group b.group) _ texts in
    let n = and_parts (is_name b.group b.name) _ g.1 in
    let u = and_parts (is_above b.name above) _ n.1 in
    let f = and_parts (is_file b.file b.name b.digest) _ u.1 in
    let filled = and_parts (nat_le 1 (length b.group)) _ g.0 in
    let short = and_parts (nat_le (length b.group) 255) _ filled.1 in
    let named = and_parts (nat_le (length b.name) 200) _ n.0 in
    let bytes = and_parts (list_all is_bundle_byte b.name) _ named.1 in
    let front = escaped b.group ++ 95 ∷ [] in
    let l = and_parts (guids_ascend b.entries && guids_ascend b.objects) _ lists in
    let up = and_parts (guids_ascend b.entries) _ l.0 in
    record {
      group_filled = leb-true 1 (length b.group) filled.0;
      group_short = leb-true (length b.group) 255 short.0;
      group_free = λ is. false≢true (sym (not-true (bytes_eq b.group (codes "Content Update")) short.1) ∙ (bytes_eq-Decides b.group (codes "Content Update")).1 is);
      name_short = leb-true (length b.name) 200 named.0;
      name_bytes = AllPass-from_list_all is_bundle_byte b.name bytes.0;
      name_front = (drop (length front) b.name, (starts_is {E = nat_eq} (λ x y. (eqb-true x y, eq-eqb x y)) b.name front (starts_with nat_eq b.name front) refl).0 bytes.1);
      file = files (or_cases (bytes_eq b.file (side_file false b.name b.digest)) (bytes_eq b.file (side_file true b.name b.digest)) f.0);
      id_short = leb-true (length b.id) 1400 f.1;
      entries_rise = sorted (λ (h : Guid). h.0) None b.entries up.0;
      objects_rise = sorted (λ (h : Guid). h.0) None b.objects up.1;
      entries_objects = λ h here. among_contained b.objects h (entry_at earlier b.objects b.entries h l.1 here).0;
    }
  where
    files : (bytes_eq b.file (side_file false b.name b.digest) ≡ true) ⊎ (bytes_eq b.file (side_file true b.name b.digest) ≡ true) → (b.file ≡ side_file false b.name b.digest) ⊎ (b.file ≡ side_file true b.name b.digest)
    files (inl e) = inl ((bytes_eq-Decides b.file (side_file false b.name b.digest)).0 e)
    files (inr e) = inr ((bytes_eq-Decides b.file (side_file true b.name b.digest)).0 e)

name_above : (above : Option (List ℕ)) (b : StateBundle) → has_texts above b ≡ true → is_above b.name above ≡ true
unfolding has_texts
name_above above b texts =
    let g = and_parts (is_group b.group) _ texts in
    let n = and_parts (is_name b.group b.name) _ g.1 in
    (and_parts (is_above b.name above) _ n.1).0

entry_new : (earlier : List Guid) (b : StateBundle) (g : Guid) → has_lists earlier b ≡ true → Contains b.entries g → Contains earlier g → ⊥
unfolding has_lists
entry_new earlier b g lists here there =
    let l = and_parts (guids_ascend b.entries && guids_ascend b.objects) _ lists in
    false≢true (sym (not-true (is_among earlier g) (entry_at earlier b.objects b.entries g l.1 here).1) ∙ contained_among earlier g there)

-- ---- bundle after bundle

no_item : (i : ℕ) (b : StateBundle) → slice_get [] i ≡ Some b → ⊥
no_item zero b is = cc
no_item (suc i) b is = cc

one_more : (before : List StateBundle) (b : StateBundle) (bs : List StateBundle) → keeps_rules before b ≡ true → AreBehind (before ++ b ∷ []) bs → AreBehind before (b ∷ bs)
unfolding IsStrictlySortedBy
one_more before b bs rules t = record {
  formed = here;
  first = λ c rest is. (let same : b ≡ c = cc in subst (λ (d : StateBundle). is_above d.name (last_name before) ≡ true) same (name_above (last_name before) b texts));
  rise = (names bs t.first t.rise, t.rise);
  new = news;
  once = onces;
}
  where
    texts : has_texts (last_name before) b ≡ true
    texts = (and_parts (has_texts (last_name before) b) _ rules).0

    lists : has_lists (entries_of before) b ≡ true
    lists = (and_parts (has_texts (last_name before) b) _ rules).1

    here : (i : ℕ) (c : StateBundle) → slice_get (b ∷ bs) i ≡ Some c → IsWellFormed c
    here zero c is = let same : b ≡ c = cc in subst IsWellFormed same (formed (last_name before) (entries_of before) b texts lists)
    here (suc i) c is = t.formed i c is

    names : (cs : List StateBundle) → ((c : StateBundle) (rest : List StateBundle) → cs ≡ c ∷ rest → is_above c.name (last_name (before ++ b ∷ [])) ≡ true) → IsStrictlySortedBy (slice_cmp nat_cmp) (map (λ d. d.name) cs)
        → AllByRecursion (λ y. slice_cmp nat_cmp b.name y ≡ Less) (map (λ (d : StateBundle). d.name) cs)
    names [] first rise = tt
    names (c ∷ cs) first rise =
        let less = is_less (slice_cmp nat_cmp b.name c.name) (sym (ap (is_above c.name) (last_is before b)) ∙ first c cs refl) in
        (less, over_too b.name c.name (map (λ (d : StateBundle). d.name) cs) less rise.0)

    news : (i : ℕ) (c : StateBundle) (g : Guid) → slice_get (b ∷ bs) i ≡ Some c → Contains c.entries g → Contains (entries_of before) g → ⊥
    news zero c g is inside there = let same : c ≡ b = cc in entry_new (entries_of before) b g lists (subst (λ (d : StateBundle). Contains d.entries g) same inside) there
    news (suc i) c g is inside there = t.new i c g is inside (subst (λ (gs : List Guid). Contains gs g) (sym (entries_more before b)) (Contains-append_left (entries_of before) b.entries g there))

    onces : (i j : ℕ) (c d : StateBundle) (g : Guid) → i < j → slice_get (b ∷ bs) i ≡ Some c → slice_get (b ∷ bs) j ≡ Some d → Contains c.entries g → Contains d.entries g → ⊥
    onces i zero c d g less at_i at_j in_c in_d = omega (arith, less)
    onces zero (suc j) c d g less at_i at_j in_c in_d =
        let same : c ≡ b = cc in
        t.new j d g at_j in_d (subst (λ (gs : List Guid). Contains gs g) (sym (entries_more before b)) (Contains-append_right (entries_of before) b.entries g (subst (λ (e : StateBundle). Contains e.entries g) same in_c)))
    onces (suc i) (suc j) c d g less at_i at_j in_c in_d = t.once i j c d g (omega (arith, less)) at_i at_j in_c in_d

behind : (before bs : List StateBundle) → rows_keep before bs ≡ true → AreBehind before bs
unfolding rows_keep IsStrictlySortedBy
behind before [] keep = record {
  formed = λ i b is. absurd (no_item i b is);
  first = λ b rest is. absurd cc;
  rise = tt;
  new = λ i b g is here there. no_item i b is;
  once = λ i j b c g less at_i at_j in_b in_c. no_item i b at_i;
}
behind before (b ∷ bs) keep = one_more before b bs (and_parts (keeps_rules before b) _ keep).0 (behind (before ++ b ∷ []) bs (and_parts (keeps_rules before b) _ keep).1)

pub passes_sound : (s : State) → PassesTests s → IsSound s
passes_sound s sound =
    let b = behind [] s.bundles sound.rows in
    record {
      few = sound.few;
      fixed_rise = sorted (λ (t : List ℕ). t) None s.fixed sound.fixed;
      names_rise = b.rise;
      formed = b.formed;
      once = b.once;
    }
