-- What is copied out of the bundles' files is what their places show.
use Rattle.std.proofs.Common.{◌≡◌, ◌<◌, ◌+◌, ℕ, List, [], ◌∷◌, ◌++◌, length, get_or, take, map, All, ap, subst, sym, ◌∙◌}
use Rattle.std.proofs.lemmas.List.{map-append, take_more}
use Rattle.std.proofs.lemmas.List.Elements.{All-contains, Contains-get_or}
use Rattle.std.specs.List.{AllZip, Contains}
use Rattle.std.specs.Ordering.{nat_cmp}
use Rattle.addr_base.specs.declared.ids.Guid.{Guid}
use Rattle.addr_base.specs.declared.images.RefTo.{RefTo}
use Rattle.addr_cab.specs.Lookup.{Held}
use Rattle.addr_cab.specs.Objects.{objects_of}
use Rattle.addr_cab.specs.declared.object.ObjectOut.{ObjectOut}
use Rattle.addr_project.specs.Reach.{Item as ShownItem}
use Rattle.addr_release.specs.Opened.{Opened}
use Rattle.addr_walks.specs.Walks.{IsListOf}
use Rattle.addr_walks.proofs.Zips.{zip-right}
use Rattle.addr_resolve.specs.Graph.{IsFirst, ShowsNumber}
use Rattle.addr_resolve.specs.Items.{item_view, IsItemOf, ShowsCabs}
use Rattle.addr_resolve.specs.declared.graph.PlaceRow.{PlaceRow}
use Rattle.addr_resolve.specs.declared.items.Item.{Item}
use Rattle.addr_resolve.proofs.CabLemmas.{held-object}

-- the GUIDs of one more reference
pub guids-more : (refs : List RefTo) (k : ℕ) (guids new : List Guid) (r : RefTo) → k < length refs → guids ≡ map (λ (x : RefTo). x.guid) (take k refs) → new ≡ guids ++ (get_or refs k r).guid ∷ []
    → new ≡ map (λ (x : RefTo). x.guid) (take (k + 1) refs)
guids-more refs k guids new r within before is =
    let more = map-append (λ (x : RefTo). x.guid) (take k refs) (get_or refs k r ∷ []) in
    is ∙ (ap (λ gs. gs ++ (get_or refs k r).guid ∷ []) before ∙ (sym more ∙ ap (map (λ (x : RefTo). x.guid)) (sym (take_more refs k r within))))

same-item : (i j : ShownItem) → i.guid ≡ j.guid → i.bytes ≡ j.bytes → i.refs ≡ j.refs → i ≡ j
same-item i j guid bytes refs =
    ap (λ g. let x : ShownItem = record { guid = g; bytes = i.bytes; refs = i.refs } in x) guid
    ∙ (ap (λ bs. let x : ShownItem = record { guid = j.guid; bytes = bs; refs = i.refs } in x) bytes
    ∙ ap (λ rs. let x : ShownItem = record { guid = j.guid; bytes = j.bytes; refs = rs } in x) refs)

item-shows : (files : List Opened) (cabs : List Held) (places : List PlaceRow) (n : ℕ) (i : Item) → ShowsCabs files cabs → IsItemOf cabs places n i → ShowsNumber files places n (item_view i)
item-shows files cabs places n i shows (q, at, (x, (c, c-at, lent), (guid, bytes, refs))) =
    let file = zip-right (λ (file : Opened) (c : Held). file.objects ≡ objects_of c) files cabs shows q.bundle c c-at in
    let o = held-object c q.guid x lent in (
      q,
      at,
      sym guid,
      (
        o.0,
        (file.0, file.1, subst (λ (os : List ObjectOut). Contains os o.0) (sym file.2) o.1, o.2),
        same-item (item_view i) (let y : ShownItem = record { guid = o.0.guid; bytes = o.0.bytes; refs = map (λ r. r.guid) o.0.refs } in y) (guid ∙ sym o.2) (bytes ∙ sym o.3) (refs ∙ ap (map (λ (r : RefTo). r.guid)) (sym o.4)),
      ),
    )

pub items-show : (files : List Opened) (cabs : List Held) (places : List PlaceRow) (picks : List ℕ) (items : List Item) → ShowsCabs files cabs → AllZip (IsItemOf cabs places) picks items
    → AllZip (ShowsNumber files places) picks (map item_view items)
items-show files cabs places [] [] shows zip = tt
items-show files cabs places [] (i ∷ is) shows zip = absurd zip
items-show files cabs places (n ∷ ns) [] shows zip = absurd zip
items-show files cabs places (n ∷ ns) (i ∷ is) shows zip = (item-shows files cabs places n i shows zip.0, items-show files cabs places ns is shows zip.1)

-- what is picked is among what is found
pub picks-below : (places : List PlaceRow) (found picks : List ℕ) (m : ℕ) → All (λ n. n < m) found → IsListOf nat_cmp (IsFirst places found) picks → All (λ n. n < m) picks
picks-below places found picks m below firsts = λ k d within. All-contains (λ n. n < m) found (get_or picks k d) below (firsts.within (get_or picks k d) (Contains-get_or picks k d within)).0
