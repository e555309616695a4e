-- Parts of a graph: the order of places, the opened files, and that no place holds two objects.
use Rattle.std.proofs.Common.{◌≡◌, ◌<◌, ℕ, true, List, [], ◌∷◌, length, get_or, Some, Less, Equal, Greater, refl, ap, ap₂, subst, sym, ◌∙◌, ◌⊎◌, inl, inr, arith}
use Rattle.std.proofs.lemmas.Bool.{cases_order}
use Rattle.std.proofs.lemmas.List.{get_or_default}
use Rattle.std.proofs.lemmas.Cmp.{tied_itself, nat_list_cmp_total}
use Rattle.std.proofs.lemmas.Map.Keys.{Less-from_sorted}
use Rattle.std.proofs.lemmas.Option.{slice_get_within, get_or_from_slice_get}
use Rattle.std.specs.Cmp.Lexicographic.{slice_cmp}
use Rattle.std.specs.List.{AllZip, Contains, slice_get}
use Rattle.std.specs.List.Sorted.{IsStrictlySortedBy}
use Rattle.std.specs.Ordering.{is_lt, nat_cmp, ordering_then}
use Rattle.std.specs.declared.cmp.Ordering.{Ordering}
use Rattle.addr_base.specs.declared.files.MemFile.{MemFile}
use Rattle.addr_base.specs.declared.ids.Guid.{Guid}
use Rattle.addr_cab.specs.Lookup.{Held}
use Rattle.addr_cab.specs.Searches.{Ascend}
use Rattle.addr_cab.specs.declared.object.ObjectOut.{ObjectOut}
use Rattle.addr_layout.proofs.GuidLemmas.{exact-guid}
use Rattle.addr_layout.proofs.RankLemmas.{same-some}
use Rattle.addr_locate.specs.declared.rows.BundleRow.{BundleRow}
use Rattle.addr_project.specs.Reach.{guid_cmp}
use Rattle.addr_release.specs.Opened.{Opened}
use Rattle.addr_release.specs.Resolve.{IsOpened}
use Rattle.addr_resolve.specs.Graph.{Before}
use Rattle.addr_resolve.specs.Items.{HoldOne, ShowsCabs}
use Rattle.addr_resolve.specs.Opening.{IsOpenedAs, opened_all}
use Rattle.addr_resolve.specs.Order.{place_cmp}
use Rattle.addr_resolve.specs.declared.graph.PlaceRow.{PlaceRow}
use Rattle.addr_resolve.proofs.UnfoldLemmas.{nat-less}

pub ordered-from : (places : List PlaceRow) → IsStrictlySortedBy place_cmp places → (m n : ℕ) (q s : PlaceRow) → slice_get places m ≡ Some q → slice_get places n ≡ Some s → m < n → Before q s
ordered-from places rising m n q s at there less = by_order (guid_cmp q.guid s.guid) refl below
  where
    below : ordering_then (guid_cmp q.guid s.guid) (nat_cmp q.bundle s.bundle) ≡ Less
    below = ap₂ place_cmp (sym (get_or_from_slice_get places m q q at)) (sym (get_or_from_slice_get places n s q there)) ∙ Less-from_sorted place_cmp places m n q rising less (slice_get_within places n s there)

    by_order : (o : Ordering) → guid_cmp q.guid s.guid ≡ o → ordering_then o (nat_cmp q.bundle s.bundle) ≡ Less → Before q s
    by_order Less is e = inl is
    by_order Equal is e = inr (exact-guid q.guid s.guid is, nat-less q.bundle s.bundle e)
    by_order Greater is e = absurd (cc e)

pub opened-from : (files : List MemFile) (folder : List ℕ) (rows : List BundleRow) (helds : List Held) → AllZip (IsOpenedAs files folder) rows helds → AllZip (IsOpened files folder) rows (opened_all rows helds)
opened-from files folder [] [] zipped = tt
opened-from files folder [] (h ∷ hs) zipped = absurd zipped
opened-from files folder (r ∷ rs) [] zipped = absurd zipped
opened-from files folder (r ∷ rs) (h ∷ hs) zipped = (zipped.0, opened-from files folder rs hs zipped.1)

pub shows-from : (files : List MemFile) (folder : List ℕ) (rows : List BundleRow) (helds : List Held) → AllZip (IsOpenedAs files folder) rows helds → ShowsCabs (opened_all rows helds) helds
shows-from files folder [] [] zipped = tt
shows-from files folder [] (h ∷ hs) zipped = absurd zipped
shows-from files folder (r ∷ rs) [] zipped = absurd zipped
shows-from files folder (r ∷ rs) (h ∷ hs) zipped = (refl, shows-from files folder rs hs zipped.1)

-- objects whose GUIDs ascend have each GUID once
ascend-one : (objects : List ObjectOut) → Ascend (λ o. o.guid.0) objects → (x y : ObjectOut) → Contains objects x → Contains objects y → x.guid ≡ y.guid → x ≡ y
ascend-one objects up x y (j, j-within, j-is) (k, k-within, k-is) same = by_order (cases_order j k)
  where
    never : (m n : ℕ) (a b : ObjectOut) → m < n → n < length objects → get_or objects m a ≡ a → get_or objects n b ≡ b → a.guid ≡ b.guid → ⊥
    never m n a b less within m-is n-is guid =
        let passes : is_lt (slice_cmp nat_cmp a.guid.0 b.guid.0) ≡ true = ap₂ (λ (v w : ObjectOut). is_lt (slice_cmp nat_cmp v.guid.0 w.guid.0)) (sym m-is ∙ default m a b (omega arith)) (sym n-is ∙ refl) ∙ up m n b less within in
        let tie = ap (λ (g : Guid). slice_cmp nat_cmp g.0 b.guid.0) guid ∙ tied_itself nat_list_cmp_total b.guid.0 in
        absurd (cc (sym passes ∙ ap is_lt tie))
      where
        default : (i : ℕ) (d e : ObjectOut) → i < length objects → get_or objects i d ≡ get_or objects i e
        default i d e small = get_or_default objects i d e small

    by_order : (j ≡ k) ⊎ ((j < k) ⊎ (k < j)) → x ≡ y
    by_order (inl is) = sym j-is ∙ (get_or_default objects j x y j-within ∙ (ap (λ i. get_or objects i y) is ∙ k-is))
    by_order (inr (inl less)) = absurd (never j k x y less k-within j-is k-is same)
    by_order (inr (inr less)) = absurd (never k j y x less j-within k-is j-is (sym same))

pub hold-one : (files : List Opened) → ((b : ℕ) (file : Opened) → slice_get files b ≡ Some file → Ascend (λ o. o.guid.0) file.objects) → HoldOne files
hold-one files up q x y (f, f-at, f-here, f-guid) (g, g-at, g-here, g-guid) =
    let same : f ≡ g = same-some f g (sym f-at ∙ g-at) in
    ascend-one f.objects (up q.bundle f f-at) x y f-here (subst (λ (h : Opened). Contains h.objects y) (sym same) g-here) (f-guid ∙ sym g-guid)
