-- A project in which each duplicate is an entry has none, and shows the same under each text that isn't a duplicate's digits.
use Rattle.std.proofs.Common.{◌≡◌, ◌≢◌, ℕ, zero, suc, ◌-◌, ◌*◌, ◌<◌, ◌≤◌, ◌⊎◌, inl, inr, Bool, true, false, cond, List, [], ◌∷◌, ◌++◌, length, get_or, map, Some, refl, sym, ap, subst, ◌∙◌, arith, append-nil}
use Rattle.std.proofs.lemmas.Bool.{cases_eq, cases_order, false≢true}
use Rattle.std.proofs.lemmas.Cmp.{tied_itself}
use Rattle.std.proofs.lemmas.List.Elements.{All-contains, All-from_recursion, Contains-append_right, filter-append}
use Rattle.std.proofs.lemmas.Map.Keys.{sorted_tail}
use Rattle.std.proofs.lemmas.Option.{slice_get_within}
use Rattle.std.specs.Cmp.{IsTotalOrder, nat_cmp_total}
use Rattle.std.specs.List.{AllZip, Contains, count_by, filter, slice_get}
use Rattle.std.specs.List.Sorted.{IsStrictlySortedBy}
use Rattle.std.specs.Ordering.{nat_cmp}
use Rattle.std.specs.declared.cmp.Ordering.{Ordering}
use Rattle.addr_base.specs.Ids.{Are16Bytes, hex_of}
use Rattle.addr_base.specs.declared.ids.Guid.{Guid}
use Rattle.addr_layout.specs.declared.model.Layout.{Layout}
use Rattle.addr_layout.specs.Laws.{AtMostOne}
use Rattle.addr_layout.specs.Layout.{IsLayout}
use Rattle.addr_layout.specs.Members.{IsEntry, IsEntryOf, IsNumbered, Member, RefersWithin}
use Rattle.addr_layout.proofs.GuidLemmas.{same-guid}
use Rattle.addr_layout.proofs.RankLemmas.{same-some}
use Rattle.addr_pack.specs.declared.bundles.Plan.{Plan}
use Rattle.addr_pack.specs.Placement.{IsPlaced}
use Rattle.addr_pack.specs.SameBundle.{Same}
use Rattle.addr_pack.proofs.NameLemmas.{digits_apart}
use Rattle.addr_pack.proofs.UniqueLemmas.{one_placement}
use Rattle.addr_project.specs.declared.model.Asset.{Asset}
use Rattle.addr_project.specs.declared.model.Entry.{Entry}
use Rattle.addr_project.specs.Faults.{names_of}
use Rattle.addr_project.specs.Kept.{IsKept}
use Rattle.addr_project.specs.Model.{Project}
use Rattle.addr_project.specs.Reach.{ShowsEntry, has_key, is_under}
use Rattle.addr_project.proofs.KeyLemmas.{keys}
use Rattle.addr_walks.specs.Walks.{IsListOf, Leads}
use Rattle.addr_walks.specs.Walks.Leads.{stays, goes}
use Rattle.addr_walks.proofs.Lists.{Contains-cases, Contains-here, Contains-later, Contains-map, Contains-none, Contains-slice_get, map-Contains, slice_get-Contains, slice_get-append_left, above-head}
use Rattle.addr_walks.proofs.Walking.{Leads-join, Leads-map}
use Rattle.addr_walks.proofs.Zips.{zip-push}
use Rattle.addr_analyze.specs.declared.duplicate.Duplicate.{Duplicate}
use Rattle.addr_analyze.specs.Counting.{has_member}
use Rattle.addr_analyze.specs.Duplicates.{AreDuplicates, IsDuplicate}
use Rattle.addr_analyze.specs.Isolation.{IsDigitsOf, IsIsolated, NoneCopied, ShowsOwn, ShowsSame, entry_in, isolated_in, IsFreeName, numbered_name}
use Rattle.addr_analyze.proofs.CopyLemmas.{copies-counted}
use Rattle.addr_analyze.proofs.DuplicateLemmas.{guid-order, one-duplicate}

slice_get-append_cases : {X : Type 0} (xs ys : List X) (k : ℕ) (y : X) → slice_get (xs ++ ys) k ≡ Some y → (slice_get xs k ≡ Some y) ⊎ Contains ys y
slice_get-append_cases [] ys k y at = inr (Contains-slice_get ys k y at)
slice_get-append_cases (x ∷ xs) ys zero y at = inl at
slice_get-append_cases (x ∷ xs) ys (suc k) y at = slice_get-append_cases xs ys k y at

-- ---- lists

-- what stands beside a list with one element more
zip-split : {A B : Type 0} (R : A → B → Type 0) (xs : List A) (x : A) (zs : List B) → AllZip R (xs ++ x ∷ []) zs → (ys : List B) × (y : B) × AllZip R xs ys × R x y × (zs ≡ ys ++ y ∷ [])
zip-split R [] x [] zip = absurd zip
zip-split R [] x (z ∷ []) zip = ([], z, tt, zip.0, refl)
zip-split R [] x (z ∷ (w ∷ ws)) zip = absurd zip.1
zip-split R (a ∷ as') x [] zip = absurd zip
zip-split R (a ∷ as') x (z ∷ zs) zip =
    let rest = zip-split R as' x zs zip.1 in
    (z ∷ rest.0, rest.1, (zip.0, rest.2), rest.3, ap (λ ws. z ∷ ws) rest.4)

none-passes : {X Y : Type 0} (p : Y → Bool) (f : X → Y) (xs : List X) → ((x : X) → Contains xs x → p (f x) ≡ true → ⊥) → filter p (map f xs) ≡ []
none-passes p f [] fails = refl
none-passes {X} {Y} p f (x ∷ xs) fails = by_test (p (f x)) refl (none-passes p f xs (λ y here. fails y (Contains-later x xs y here)))
  where
    by_test : (t : Bool) → p (f x) ≡ t → filter p (map f xs) ≡ [] → cond t (f x ∷ filter p (map f xs)) (filter p (map f xs)) ≡ []
    by_test true passes rest = absurd (fails x (Contains-here x xs) passes)
    by_test false is rest = rest

-- one element of an ascending list passes, and no other
one-passes : {X Y : Type 0} {cmp : X → X → Ordering} → IsTotalOrder cmp → (p : Y → Bool) (f : X → Y) (xs : List X) (x : X) → IsStrictlySortedBy cmp xs → Contains xs x → p (f x) ≡ true
    → ((y : X) → Contains xs y → p (f y) ≡ true → y ≡ x) → filter p (map f xs) ≡ f x ∷ []
one-passes o p f [] x rising here passes only = absurd (Contains-none x here)
one-passes {X} {Y} {cmp} o p f (y ∷ ys) x rising here passes only =
    by_place (Contains-cases y ys x here) (λ there. one-passes o p f ys x (sorted_tail cmp y ys rising) there passes (λ z at. only z (Contains-later y ys z at)))
  where
    apart : (z : X) → Contains ys z → y ≡ z → ⊥
    apart z there same = cc (sym (above-head cmp y ys z rising there) ∙ (ap (λ w. cmp w z) same ∙ tied_itself o z))

    first : (t : Bool) → p (f y) ≡ t → y ≡ x → cond t (f y ∷ filter p (map f ys)) (filter p (map f ys)) ≡ f x ∷ []
    first true is same =
        let rest = none-passes p f ys (λ z there passes'. apart z there (same ∙ sym (only z (Contains-later y ys z there) passes'))) in
        ap (λ w. f w ∷ filter p (map f ys)) same ∙ ap (λ ws. f x ∷ ws) rest
    first false is same = absurd (false≢true (sym is ∙ (ap (λ w. p (f w)) same ∙ passes)))

    later : (t : Bool) → p (f y) ≡ t → Contains ys x → filter p (map f ys) ≡ f x ∷ [] → cond t (f y ∷ filter p (map f ys)) (filter p (map f ys)) ≡ f x ∷ []
    later true is there rest = absurd (apart x there (only y (Contains-here y ys) is))
    later false is there rest = rest

    by_place : (y ≡ x) ⊎ Contains ys x → (Contains ys x → filter p (map f ys) ≡ f x ∷ []) → filter p (map f (y ∷ ys)) ≡ f x ∷ []
    by_place (inl same) more = first (p (f y)) refl same
    by_place (inr there) more = later (p (f y)) refl there (more there)

-- ---- two bundles make a duplicate

two-apart : (xs : List ℕ) (b c : ℕ) → Contains xs b → Contains xs c → b ≢ c → 2 ≤ length xs
two-apart [] b c here there apart = absurd (Contains-none b here)
two-apart (x ∷ []) b c (i, i-within, i-is) (j, j-within, j-is) apart =
    let first : i ≡ 0 = omega arith in
    let second : j ≡ 0 = omega arith in
    absurd (apart (sym i-is ∙ (ap (λ k. get_or (x ∷ []) k b) first ∙ (ap (λ k. get_or (x ∷ []) k c) (sym second) ∙ j-is))))
two-apart (x ∷ (y ∷ xs)) b c here there apart = omega arith

module _ (p : Project) (plan : Plan) (layout : Layout) (kept : IsKept p) (placed : IsPlaced p plan) (laid : IsLayout p plan layout) where
  -- what a walk of references leads to is an asset
  member-numbered : (b : ℕ) (g : Guid) → Member p plan b g → (n : ℕ) × IsNumbered p n g
  member-numbered b g (e, (x, here, (entry, at, numbered)), walk) = by_walk g walk
    where
      by_walk : (h : Guid) → Leads (RefersWithin p) e h → (n : ℕ) × IsNumbered p n h
      by_walk h stays = (entry.asset, numbered)
      by_walk h (goes {x = x} {y = y} before last) =
          let named = kept.refs_named last.0.0 y last.0.1 last.0.3 in
          let place = slice_get-Contains p.assets named.0 named.1 in
          (place.0, (named.0, place.1, named.2))

  two-bundles : (g : Guid) → ¬ IsEntry p g → (b c : ℕ) → b ≢ c → Member p plan b g → Member p plan c g → (d : Duplicate) × IsDuplicate p plan d × (d.guid ≡ g)
  two-bundles g implicit b c apart here there = by_number (member-numbered b g here)
    where
      by_number : (n : ℕ) × IsNumbered p n g → (d : Duplicate) × IsDuplicate p plan d × (d.guid ≡ g)
      by_number (n, (asset, at, is)) =
          let count = count_by (has_member n) layout.bundles in
          let size = copies-counted p plan layout kept placed laid n asset at count refl in
          let one = size.1.all b (subst (Member p plan b) (sym is) here) in
          let other = size.1.all c (subst (Member p plan c) (sym is) there) in
          let long = two-apart size.0 b c one other apart in
          let as_many = size.2 in (
            record { asset = n; guid = asset.guid; bundles = count; wasted = (count - 1) * length asset.bytes },
            record {
              asset = asset;
              at = at;
              guid = refl;
              implicit = λ entry. implicit (subst (IsEntry p) is entry);
              bundles = size;
              twice = omega arith;
              wasted = refl;
            },
            is,
          )

  two-of : (d : Duplicate) → IsDuplicate p plan d → (b : ℕ) × (c : ℕ) × (b ≢ c) × Member p plan b d.guid × Member p plan c d.guid
  two-of d is = by_list is.bundles.0 is.bundles.1 (let twice = is.twice in let size = is.bundles.2 in omega arith)
    where
      by_list : (xs : List ℕ) → IsListOf nat_cmp (λ b. Member p plan b is.asset.guid) xs → 2 ≤ length xs → (b : ℕ) × (c : ℕ) × (b ≢ c) × Member p plan b d.guid × Member p plan c d.guid
      by_list [] list long = absurd (omega arith)
      by_list (x ∷ []) list long = absurd (omega arith)
      by_list (x ∷ (y ∷ ys)) list long =
          let second = Contains-later x (y ∷ ys) y (Contains-here y ys) in
          let less = above-head nat_cmp x (y ∷ ys) y list.rising (Contains-here y ys) in
          (x, y, (λ same. absurd (cc (sym less ∙ (ap (λ z. nat_cmp z y) same ∙ tied_itself nat_cmp_total y)))), subst (Member p plan x) (sym is.guid) (list.within x (Contains-here x (y ∷ ys))), subst (Member p plan y) (sym is.guid) (list.within y second))

  module _ (found : List Duplicate) (are : AreDuplicates p plan found) where
    -- no duplicate is left where each is an entry
    none-left : (g : Guid) → ¬ IsEntry p g → ((d : Duplicate) → Contains found d → d.guid ≡ g → ⊥) → (b c : ℕ) → Member p plan b g → Member p plan c g → b ≡ c
    none-left g implicit missing b c here there = by_case (cases_eq b c)
      where
        by_case : (b ≡ c) ⊎ (b ≡ c → ⊥) → b ≡ c
        by_case (inl same) = same
        by_case (inr apart) = let two = two-bundles g implicit b c apart here there in absurd (missing two.0 (are.all two.0 two.1) two.2)

    none-same : (q : Project) → q ≡ p → found ≡ [] → NoneCopied q
    none-same q same empty other also g implicit b c here there =
        let plan-is : other ≡ plan = one_placement p other plan (subst (λ (r : Project). IsPlaced r other) same also) placed in
        let implicit-p : ¬ IsEntry p g = subst (λ (r : Project). ¬ IsEntry r g) same implicit in
        let moved : (k : ℕ) → Member q other k g → Member p plan k g = λ k member. subst (λ (o : Plan). Member p o k g) plan-is (subst (λ (r : Project). Member r other k g) same member) in
        none-left g implicit-p (λ d listed is. Contains-none d (subst (λ (ds : List Duplicate). Contains ds d) empty listed)) b c (moved b here) (moved c there)

    module _ (name : List ℕ) where
      abbrev q : Project
      q = isolated_in p name found

      abbrev new : List Entry
      new = map (entry_in (length p.groups)) found

      entry-stays : (g : Guid) → IsEntry p g → IsEntry q g
      entry-stays g (x, (e, at, numbered)) = (x, (e, slice_get-append_left p.entries new x e at, numbered))

      step-was : (x y : Guid) → RefersWithin q x y → RefersWithin p x y
      step-was x y (refers, implicit) = (refers, λ entry. implicit (entry-stays y entry))

      entry-made : (d : Duplicate) → Contains found d → IsEntry q d.guid
      entry-made d listed =
          let is = are.within d listed in
          let made = slice_get-Contains q.entries (entry_in (length p.groups) d) (Contains-append_right p.entries new (entry_in (length p.groups) d) (Contains-map (entry_in (length p.groups)) found d listed)) in
          (made.0, (entry_in (length p.groups) d, made.1, (is.asset, is.at, sym is.guid)))

      same-stays : (x y : ℕ) → Same p x y → Same q x y
      same-stays x y (inl same) = inl same
      same-stays x y (inr (d, e, g, d-at, e-at, one, g-at, joined)) =
          inr (d, e, g, slice_get-append_left p.entries new x d d-at, slice_get-append_left p.entries new y e e-at, one, slice_get-append_left p.groups _ d.group g g-at, joined)

      -- what a new entry leads to without entries is an entry
      from-new : (g : Guid) → ¬ IsEntry q g → (d : Duplicate) → Contains found d → Leads (RefersWithin q) d.guid g → ⊥
      from-new g implicit d listed walk =
          let (b, c, apart, here, there) = two-of d (are.within d listed) in
          let was = Leads-map (RefersWithin q) (RefersWithin p) (λ h. h) step-was d.guid g walk in
          let on : (k : ℕ) → Member p plan k d.guid → Member p plan k g = λ k member. (member.0, member.1, Leads-join (RefersWithin p) member.0 d.guid g member.2 was) in
          apart (none-left g (λ entry. implicit (entry-stays g entry)) (λ e e-listed e-is. implicit (subst (IsEntry q) e-is (entry-made e e-listed))) b c (on b here) (on c there))

      -- an entry that leads to an asset that is none is one of the project before
      from-old : (g : Guid) → ¬ IsEntry q g → (x : ℕ) (e : Guid) → IsEntryOf q x e → Leads (RefersWithin q) e g → IsEntryOf p x e
      from-old g implicit x e (entry, at, numbered) walk = by_place (slice_get-append_cases p.entries new x entry at)
        where
          by_new : (d : Duplicate) × Contains found d × (entry_in (length p.groups) d ≡ entry) → IsEntryOf p x e
          by_new (d, listed, is) =
              let duplicate = are.within d listed in
              let number : d.asset ≡ entry.asset = ap (λ (en : Entry). en.asset) is in
              let guid : d.guid ≡ e = duplicate.guid ∙ (ap (λ (a : Asset). a.guid) (same-some duplicate.asset numbered.0 (sym duplicate.at ∙ (ap (slice_get p.assets) number ∙ numbered.1))) ∙ numbered.2) in
              absurd (from-new g implicit d listed (subst (λ h. Leads (RefersWithin q) h g) (sym guid) walk))

          by_place : (slice_get p.entries x ≡ Some entry) ⊎ Contains new entry → IsEntryOf p x e
          by_place (inl old) = (entry, old, numbered)
          by_place (inr made) = by_new (map-Contains (entry_in (length p.groups)) found entry made)

      none-isolated : NoneCopied q
      none-isolated other also g implicit b c (e, (x, x-here, x-entry), walk) (f, (y, y-here, y-entry), path) =
          let (d, d-at, d-is) = from-old g implicit x e x-entry walk in
          let (h, h-at, h-is) = from-old g implicit y f y-entry path in
          let first = placed.each x (slice_get_within p.entries x d d-at) in
          let second = placed.each y (slice_get_within p.entries y h h-at) in
          let walk-was = Leads-map (RefersWithin q) (RefersWithin p) (λ k. k) step-was e g walk in
          let path-was = Leads-map (RefersWithin q) (RefersWithin p) (λ k. k) step-was f g path in
          let one = none-left g (λ entry. implicit (entry-stays g entry)) (λ k listed is. implicit (subst (IsEntry q) is (entry-made k listed))) first.0 second.0
          (e, (x, first.1, (d, d-at, d-is)), walk-was) (f, (y, second.1, (h, h-at, h-is)), path-was) in
          (also.same b c x y x-here y-here).1 (same-stays x y ((placed.same first.0 second.0 x y first.1 second.1).0 one))

    pub none-copied : (q : Project) → IsIsolated p found q → NoneCopied q
    none-copied q (inl (empty, same)) = none-same q same empty
    none-copied q (inr (some, name, free, is)) = subst NoneCopied (sym is) (none-isolated name)

    -- ---- what is shown

    module _ (key : List ℕ) (other : ¬ IsDigitsOf found key) where
      not-under : (group : ℕ) (d : Duplicate) → Contains found d → is_under p key (entry_in group d) ≡ true → ⊥
      not-under group d listed under =
          let is = are.within d listed in
          let laws = keys (entry_in group d) is.asset in
          let led : has_key key (entry_in group d) (Some is.asset) ≡ true = sym (ap (has_key key (entry_in group d)) is.at) ∙ under in
          by_key ((laws.all key).0 ((laws.leads key).0 led))
        where
          by_key : (key ≡ hex_of d.guid.0) ⊎ ((key ≡ hex_of (are.within d listed).asset.guid.0) ⊎ Contains [] key) → ⊥
          by_key (inl address) = other (d, listed, address)
          by_key (inr (inl digits)) = other (d, listed, digits ∙ ap (λ (h : Guid). hex_of h.0) (sym (are.within d listed).guid))
          by_key (inr (inr label)) = Contains-none key label

      nothing-new : filter (is_under p key) (map (entry_in (length p.groups)) found) ≡ []
      nothing-new = none-passes (is_under p key) (entry_in (length p.groups)) found (not-under (length p.groups))

      same-under : filter (is_under p key) (p.entries ++ map (entry_in (length p.groups)) found) ≡ filter (is_under p key) p.entries
      same-under =
          filter-append (is_under p key) p.entries (map (entry_in (length p.groups)) found)
          ∙ (ap (λ (es : List Entry). filter (is_under p key) p.entries ++ es) nothing-new ∙ append-nil (filter (is_under p key) p.entries))

    shows-isolated : (name : List ℕ) → ShowsSame p found (isolated_in p name found)
    shows-isolated name key other shown =
        let same = same-under key other in
        (subst (λ (es : List Entry). AllZip (ShowsEntry p) es shown) same, subst (λ (es : List Entry). AllZip (ShowsEntry p) es shown) (sym same))

    pub shows-same : (q : Project) → IsIsolated p found q → ShowsSame p found q
    shows-same q (inl (empty, same)) = subst (ShowsSame p found) (sym same) (λ key other shown. (λ is. is, λ is. is))
    shows-same q (inr (some, name, free, is)) = subst (ShowsSame p found) (sym is) (shows-isolated name)

    -- ---- what the digits of a duplicate show

    module _ (d : Duplicate) (listed : Contains found d) where
      digits-fit : (e : Duplicate) → Contains found e → Are16Bytes e.guid.0
      digits-fit e here =
          let is = are.within e here in
          subst (λ (g : Guid). Are16Bytes g.0) (sym is.guid) (All-contains (λ (a : Asset). Are16Bytes a.guid.0) p.assets is.asset (All-from_recursion (λ (a : Asset). Are16Bytes a.guid.0) p.assets kept.guids) (Contains-slice_get p.assets e.asset is.asset is.at))

      under-own : (group : ℕ) → is_under p (hex_of d.guid.0) (entry_in group d) ≡ true
      under-own group =
          let is = are.within d listed in
          let laws = keys (entry_in group d) is.asset in
          ap (has_key (hex_of d.guid.0) (entry_in group d)) is.at ∙ (laws.leads (hex_of d.guid.0)).1 ((laws.all (hex_of d.guid.0)).1 (inl refl))

      only-own : (group : ℕ) (e : Duplicate) → Contains found e → is_under p (hex_of d.guid.0) (entry_in group e) ≡ true → e ≡ d
      only-own group e here under =
          let is = are.within e here in
          let laws = keys (entry_in group e) is.asset in
          by_key ((laws.all (hex_of d.guid.0)).0 ((laws.leads (hex_of d.guid.0)).0 (sym (ap (has_key (hex_of d.guid.0) (entry_in group e)) is.at) ∙ under)))
        where
          same : hex_of d.guid.0 ≡ hex_of e.guid.0 → e ≡ d
          same digits =
              let guid = same-guid e.guid d.guid (digits_apart e.guid.0 d.guid.0 (digits-fit e here) (digits-fit d listed) (sym digits)) in
              one-duplicate p plan kept found are e d here listed guid

          by_key : (hex_of d.guid.0 ≡ hex_of e.guid.0) ⊎ ((hex_of d.guid.0 ≡ hex_of (are.within e here).asset.guid.0) ⊎ Contains [] (hex_of d.guid.0)) → e ≡ d
          by_key (inl address) = same address
          by_key (inr (inl digits)) = same (digits ∙ ap (λ (h : Guid). hex_of h.0) (sym (are.within e here).guid))
          by_key (inr (inr label)) = absurd (Contains-none (hex_of d.guid.0) label)

      own-under : filter (is_under p (hex_of d.guid.0)) (p.entries ++ map (entry_in (length p.groups)) found) ≡ filter (is_under p (hex_of d.guid.0)) p.entries ++ entry_in (length p.groups) d ∷ []
      own-under =
          let key = hex_of d.guid.0 in
          filter-append (is_under p key) p.entries (map (entry_in (length p.groups)) found)
          ∙ ap (λ (es : List Entry). filter (is_under p key) p.entries ++ es) (one-passes guid-order (is_under p key) (entry_in (length p.groups)) found d are.rising listed (under-own (length p.groups)) (only-own (length p.groups)))

    owns-isolated : (name : List ℕ) → ShowsOwn p found (isolated_in p name found)
    owns-isolated name d listed shown =
        let key = hex_of d.guid.0 in
        let old = filter (is_under p key) p.entries in
        let own = entry_in (length p.groups) d in (
          λ is. zip-split (ShowsEntry p) old own shown (subst (λ (es : List Entry). AllZip (ShowsEntry p) es shown) (own-under d listed) is),
          λ (before, row, was, is, same). subst (λ (es : List Entry). AllZip (ShowsEntry p) es shown) (sym (own-under d listed))
              (subst (AllZip (ShowsEntry p) (old ++ own ∷ [])) (sym same) (zip-push (ShowsEntry p) old before own row was is)),
        )

    pub shows-own : (q : Project) → IsIsolated p found q → ShowsOwn p found q
    shows-own q (inl (empty, same)) = λ d listed. absurd (Contains-none d (subst (λ (ds : List Duplicate). Contains ds d) empty listed))
    shows-own q (inr (some, name, free, is)) = subst (ShowsOwn p found) (sym is) (owns-isolated name)

-- ---- one isolated project

one-name : (p : Project) (m n : List ℕ) → IsFreeName p.groups m → IsFreeName p.groups n → m ≡ n
one-name p m n first second = by_order (cases_order first.number second.number)
  where
    by_order : (first.number ≡ second.number) ⊎ ((first.number < second.number) ⊎ (second.number < first.number)) → m ≡ n
    by_order (inl same) = first.is ∙ (ap numbered_name same ∙ sym second.is)
    by_order (inr (inl less)) = absurd (first.free (subst (Contains (names_of p.groups)) (sym first.is) (second.first first.number less)))
    by_order (inr (inr more)) = absurd (second.free (subst (Contains (names_of p.groups)) (sym second.is) (first.first second.number more)))

pub one-isolated : (p : Project) (found : List Duplicate) → AtMostOne (IsIsolated p found)
one-isolated p found q r (inl (empty, same)) (inl (also, is)) = same ∙ sym is
one-isolated p found q r (inl (empty, same)) (inr (some, name, free, is)) = absurd (some empty)
one-isolated p found q r (inr (some, name, free, is)) (inl (empty, same)) = absurd (some empty)
one-isolated p found q r (inr (some, name, free, is)) (inr (also, other, first, was)) = is ∙ (ap (λ (n : List ℕ). isolated_in p n found) (one-name p name other free first) ∙ sym was)
