-- A project shows one list of rows under each key: there is one, since what references lead to can be listed, and one at most.
use Rattle.std.proofs.Common.{◌≡◌, ℕ, ◌<◌, ◌≤◌, Bool, true, false, ◌||◌, ◌&&◌, List, [], ◌∷◌, length, map, get_or, Some, None, Equal, refl, ap, sym, subst, ◌∙◌, ◌⊎◌, inl, inr, arith}
use Rattle.std.proofs.lemmas.Bool.{false≢true}
use Rattle.std.proofs.lemmas.Cmp.{nat_list_cmp_total, on_total}
use Rattle.std.proofs.lemmas.Map.Lookups.{exact_bytes}
use Rattle.std.proofs.lemmas.Option.{slice_get_cases}
use Rattle.std.specs.BTreeSet.{insert_key}
use Rattle.std.specs.Cmp.{IsTotalOrder}
use Rattle.std.specs.Cmp.Lexicographic.{bytes_decides}
use Rattle.std.specs.List.{AllByRecursion, AllZip, Contains, filter, list_any, slice_get}
use Rattle.std.specs.Str.{bytes_eq}
use Rattle.addr_base.specs.declared.ids.Guid.{Guid}
use Rattle.addr_project.specs.declared.model.Asset.{Asset}
use Rattle.addr_project.specs.declared.model.Entry.{Entry}
use Rattle.addr_project.specs.Kept.{IsKept, IsKeptEntry}
use Rattle.addr_project.specs.Laws.{ShowsOnce}
use Rattle.addr_project.specs.Model.{Project}
use Rattle.addr_project.specs.Reach.{Item, Row, Reach, Reaches, Refers, IsReached, ShowsEntry, is_under, item_cmp, item_of}
use Rattle.addr_walks.specs.Walks.{Leads, IsListOf}
use Rattle.addr_walks.specs.Walks.Leads.{stays}
use Rattle.addr_walks.proofs.Lists.{Contains-here, Contains-later, Contains-cases, Contains-none, Contains-map, IsListOf-same, one-list, slice_get-Contains}
use Rattle.addr_walks.proofs.Walking.{Leads-map}
use Rattle.addr_project.proofs.OnceLemmas.{to_map}
use Rattle.addr_project.proofs.WalkLemmas.{either, both, with-both, with-first, with-second, led, led-walk, walk-led, put-rises, nil-rises, put-there, put-keeps, put-only}

item_total : IsTotalOrder item_cmp
item_total = on_total (λ (i : Item). i.guid.0) nat_list_cmp_total

same-guid : (x y : Guid) → x.0 ≡ y.0 → x ≡ y
same-guid x y same = λ i. record { 0 = same i }

-- a test finds an element, and an element that passes is found
any-there : {X : Type 0} (test : X → Bool) (xs : List X) → list_any test xs ≡ true → (x : X) × Contains xs x × (test x ≡ true)
any-there test [] any = absurd (false≢true any)
any-there {X} test (x ∷ xs) any = by_case (either (test x) (list_any test xs) any) (any-there test xs)
  where
    by_case : (test x ≡ true) ⊎ (list_any test xs ≡ true) → (list_any test xs ≡ true → (y : X) × Contains xs y × (test y ≡ true)) → (y : X) × Contains (x ∷ xs) y × (test y ≡ true)
    by_case (inl here) more = (x, Contains-here x xs, here)
    by_case (inr later) more = let found = more later in (found.0, Contains-later x xs found.0 found.1, found.2)

there-any : {X : Type 0} (test : X → Bool) (xs : List X) (x : X) → Contains xs x → test x ≡ true → list_any test xs ≡ true
there-any test [] x there is = absurd (Contains-none x there)
there-any test (y ∷ ys) x there is = by_case (Contains-cases y ys x there) (λ later. there-any test ys x later is)
  where
    by_case : (y ≡ x) ⊎ Contains ys x → (Contains ys x → list_any test ys ≡ true) → list_any test (y ∷ ys) ≡ true
    by_case (inl same) more = with-first (test y) (list_any test ys) (ap test same ∙ is)
    by_case (inr later) more = with-second (test y) (list_any test ys) (more later)

-- ---- references, decided

abbrev has_ref : Guid → Guid → Asset → Bool
has_ref x y asset = bytes_eq asset.guid.0 x.0 && list_any (λ r. bytes_eq r.0 y.0) asset.refs

abbrev refers : Project → Guid → Guid → Bool
refers p x y = list_any (has_ref x y) p.assets

refers-is : (p : Project) (x y : Guid) → refers p x y ≡ true → Refers p x y
refers-is p x y is =
    let (asset, there, has) = any-there (has_ref x y) p.assets is in
    let (guid, any) = both (bytes_eq asset.guid.0 x.0) (list_any (λ (r : Guid). bytes_eq r.0 y.0) asset.refs) has in
    let (r, ref, same) = any-there (λ (r : Guid). bytes_eq r.0 y.0) asset.refs any in
    (asset, there, same-guid asset.guid x ((bytes_decides asset.guid.0 x.0).0 guid), subst (Contains asset.refs) (same-guid r y ((bytes_decides r.0 y.0).0 same)) ref)

is-refers : (p : Project) (x y : Guid) → Refers p x y → refers p x y ≡ true
is-refers p x y (asset, there, guid, ref) =
    there-any (has_ref x y) p.assets asset there
    (with-both (bytes_eq asset.guid.0 x.0) (list_any (λ (r : Guid). bytes_eq r.0 y.0) asset.refs)
    ((bytes_decides asset.guid.0 x.0).1 (ap (λ (g : Guid). g.0) guid))
    (there-any (λ (r : Guid). bytes_eq r.0 y.0) asset.refs y ref ((bytes_decides y.0 y.0).1 refl)))

abbrev guids : Project → List Guid
guids p = map (λ a. a.guid) p.assets

-- whether references lead from one GUID to another
abbrev reaches : Project → Guid → Guid → Bool
reaches p from to = bytes_eq from.0 to.0 || led (refers p) (guids p) from to

reaches-is : (p : Project) (from to : Guid) → reaches p from to ≡ true → Reaches p from to
reaches-is p from to is = by_case (either (bytes_eq from.0 to.0) (led (refers p) (guids p) from to) is)
  where
    by_case : (bytes_eq from.0 to.0 ≡ true) ⊎ (led (refers p) (guids p) from to ≡ true) → Reaches p from to
    by_case (inl same) = subst (Leads (Refers p) from) (same-guid from to ((bytes_decides from.0 to.0).0 same)) stays
    by_case (inr walk) = Leads-map (λ x y. refers p x y ≡ true) (Refers p) (λ g. g) (refers-is p) from to (led-walk (refers p) (guids p) from to walk)

is-reaches : (p : Project) (from to : Guid) → Reaches p from to → reaches p from to ≡ true
is-reaches p from to walk = by_case (walk-led (refers p) (guids p) leaves from to (Leads-map (Refers p) (λ x y. refers p x y ≡ true) (λ g. g) (is-refers p) from to walk))
  where
    leaves : (x y : Guid) → refers p x y ≡ true → Contains (guids p) x
    leaves x y is =
        let (asset, there, guid, ref) = refers-is p x y is in
        subst (Contains (guids p)) guid (Contains-map (λ (a : Asset). a.guid) p.assets asset there)

    by_case : (from ≡ to) ⊎ (led (refers p) (guids p) from to ≡ true) → reaches p from to ≡ true
    by_case (inl same) = with-first (bytes_eq from.0 to.0) (led (refers p) (guids p) from to) ((bytes_decides from.0 to.0).1 (ap (λ (g : Guid). g.0) same))
    by_case (inr led-to) = with-second (bytes_eq from.0 to.0) (led (refers p) (guids p) from to) led-to

-- ---- what is reached, listed

-- an item is an asset of the list that passes the test
abbrev IsPicked : (Asset → Bool) → List Asset → Item → Type 0
IsPicked test assets i = (asset : Asset) × Contains assets asset × (test asset ≡ true) × (i ≡ item_of asset)

listed : (test : Asset → Bool) (assets : List Asset) → ((a b : Asset) → Contains assets a → Contains assets b → a.guid.0 ≡ b.guid.0 → a ≡ b) → (items : List Item) × IsListOf item_cmp (IsPicked test assets) items
listed test [] apart = ([], record { rising = nil-rises item_cmp item_total; within = λ i there. absurd (Contains-none i there); all = λ i (asset, there, passes, is). absurd (Contains-none asset there) })
listed test (a ∷ assets) apart = by_test (test a) refl (listed test assets (λ x y one two same. apart x y (Contains-later a assets x one) (Contains-later a assets y two) same))
  where
    later : (i : Item) → IsPicked test assets i → IsPicked test (a ∷ assets) i
    later i (asset, there, passes, is) = (asset, Contains-later a assets asset there, passes, is)

    rest : test a ≡ false → (i : Item) (asset : Asset) → (a ≡ asset) ⊎ Contains assets asset → test asset ≡ true → i ≡ item_of asset → IsPicked test assets i
    rest fails i asset (inl same) passes is = absurd (false≢true (sym fails ∙ ap test same ∙ passes))
    rest fails i asset (inr there) passes is = (asset, there, passes, is)

    by_test : (t : Bool) → test a ≡ t → (items : List Item) × IsListOf item_cmp (IsPicked test assets) items → (items : List Item) × IsListOf item_cmp (IsPicked test (a ∷ assets)) items
    by_test false fails (items, are) =
        (items, IsListOf-same (IsPicked test assets) (IsPicked test (a ∷ assets)) later (λ i (asset, there, passes, is). rest fails i asset (Contains-cases a assets asset there) passes is) items are)
    by_test true passes (items, are) =
        let i : Item = item_of a in
        let exact : (j : Item) → Contains items j → item_cmp i j ≡ Equal → i ≡ j = λ j there tied. (
        let (b, other, good, is) = are.within j there in
        let guid : a.guid.0 ≡ b.guid.0 = exact_bytes a.guid.0 j.guid.0 tied ∙ ap (λ (i : Item). i.guid.0) is in
        ap item_of (apart a b (Contains-here a assets) (Contains-later a assets b other) guid) ∙ sym is) in (
          insert_key item_cmp items i,
          record {
            rising = put-rises item_cmp item_total i items are.rising;
            within = λ j there. from_put j items are (put-only item_cmp item_total i items j there);
            all = λ j (asset, there, good, is). to_put items are exact j asset (Contains-cases a assets asset there) good is;
          },
        )
      where
        from_put : (j : Item) (items : List Item) → IsListOf item_cmp (IsPicked test assets) items → (item_of a ≡ j) ⊎ Contains items j → IsPicked test (a ∷ assets) j
        from_put j items are (inl same) = (a, Contains-here a assets, passes, sym same)
        from_put j items are (inr old) = later j (are.within j old)

        to_put : (items : List Item) → IsListOf item_cmp (IsPicked test assets) items → ((j : Item) → Contains items j → item_cmp (item_of a) j ≡ Equal → item_of a ≡ j)
            → (j : Item) (asset : Asset) → (a ≡ asset) ⊎ Contains assets asset → test asset ≡ true → j ≡ item_of asset → Contains (insert_key item_cmp items (item_of a)) j
        to_put items are exact j asset (inl same) good is = subst (Contains (insert_key item_cmp items (item_of a))) (ap item_of same ∙ sym is) (put-there item_cmp item_total (item_of a) items exact)
        to_put items are exact j asset (inr there) good is = put-keeps item_cmp item_total (item_of a) items j (are.all j (asset, there, good, is))

module _ (p : Project) (kept : IsKept p) where
  apart : (a b : Asset) → Contains p.assets a → Contains p.assets b → a.guid.0 ≡ b.guid.0 → a ≡ b
  apart a b one two same =
      let (i, at) = slice_get-Contains p.assets a one in
      let (j, other) = slice_get-Contains p.assets b two in
      let place : i ≡ j = kept.assets_once i j b.guid.0 (to_map (λ (a : Asset). a.guid.0) p.assets i a at ∙ ap Some same) (to_map (λ (a : Asset). a.guid.0) p.assets j b other) in
      let both : Some a ≡ Some b = sym at ∙ ap (slice_get p.assets) place ∙ other in
      cc

  some_reach : (from : Guid) → (items : List Item) × Reach p from items
  some_reach from =
      let (items, are) = listed (λ a. reaches p from a.guid) p.assets apart in (
        items,
        IsListOf-same (IsPicked (λ a. reaches p from a.guid) p.assets) (IsReached p from)
            (λ i (asset, there, passes, is). (asset, there, reaches-is p from asset.guid passes, is))
            (λ i (asset, there, walk, is). (asset, there, is-reaches p from asset.guid walk, is)) items are,
      )

  asset_at : (n : ℕ) → n < length p.assets → (asset : Asset) × (slice_get p.assets n ≡ Some asset)
  asset_at n small = by_case (slice_get_cases p.assets n).1
    where
      by_case : ((a : Asset) × (n < length p.assets) × (slice_get p.assets n ≡ Some a) × (get_or p.assets n a ≡ a)) ⊎ ((length p.assets ≤ n) × (slice_get p.assets n ≡ None)) → (asset : Asset) × (slice_get p.assets n ≡ Some asset)
      by_case (inl (a, within, is, read)) = (a, is)
      by_case (inr (past, none)) = absurd (omega arith)

  some_row : (e : Entry) → IsKeptEntry p e → (row : Row) × ShowsEntry p e row
  some_row e known =
      let (asset, at) = asset_at e.asset known.asset in
      let (items, reach) = some_reach asset.guid in
      (record { guid = asset.guid; kind = asset.kind; items = items }, (asset, at, refl, refl, reach))

  one_row : (e : Entry) (row other : Row) → ShowsEntry p e row → ShowsEntry p e other → row ≡ other
  one_row e row other (a, at, guid, kind, reach) (b, at2, guid2, kind2, reach2) =
      let both : Some a ≡ Some b = sym at ∙ at2 in
      let same : a ≡ b = cc in
      let items : row.items ≡ other.items = one-list item_total (IsReached p b.guid) row.items other.items (subst (λ (c : Asset). Reach p c.guid row.items) same reach) reach2 in
      let guids_are : row.guid ≡ other.guid = guid ∙ ap (λ (c : Asset). c.guid) same ∙ sym guid2 in
      let kinds_are : row.kind ≡ other.kind = kind ∙ ap (λ (c : Asset). c.kind) same ∙ sym kind2 in
      λ i. record { guid = guids_are i; kind = kinds_are i; items = items i }

  some_rows : (key : List ℕ) (es : List Entry) → AllByRecursion (IsKeptEntry p) es → (shown : List Row) × AllZip (ShowsEntry p) (filter (is_under p key) es) shown
  some_rows key [] known = ([], tt)
  some_rows key (e ∷ es) (first, rest) = by_test (is_under p key e) refl (some_rows key es rest)
    where
      by_test : (t : Bool) → is_under p key e ≡ t → (shown : List Row) × AllZip (ShowsEntry p) (filter (is_under p key) es) shown → (shown : List Row) × AllZip (ShowsEntry p) (filter (is_under p key) (e ∷ es)) shown
      by_test true is (shown, are) = let (row, shows) = some_row e first in (row ∷ shown, rw is (shows, are))
      by_test false is (shown, are) = (shown, rw is are)

  one_rows : (es : List Entry) (shown other : List Row) → AllZip (ShowsEntry p) es shown → AllZip (ShowsEntry p) es other → shown ≡ other
  one_rows [] [] [] here there = refl
  one_rows [] [] (row ∷ rows) here there = absurd there
  one_rows [] (row ∷ rows) other here there = absurd here
  one_rows (e ∷ es) [] other here there = absurd here
  one_rows (e ∷ es) (row ∷ rows) [] here there = absurd there
  one_rows (e ∷ es) (row ∷ rows) (also ∷ others) here there =
      let first = one_row e row also here.0 there.0 in
      let rest = one_rows es rows others here.1 there.1 in
      λ i. first i ∷ rest i

  pub shows_once : (key : List ℕ) → ShowsOnce p key
  shows_once key = record {
    some = some_rows key p.entries kept.entries;
    one = λ shown other here there. one_rows (filter (is_under p key) p.entries) shown other here there;
  }
