-- The outside bundles of references ascend, are those that the references lead to, and are the only such list.
use Rattle.std.proofs.Common.{◌≡◌, ℕ, suc, ◌+◌, ◌*◌, Bool, not, true, false, ◌||◌, List, [], ◌∷◌, map, All, Option, Some, None, refl, sym, ap, ◌∙◌, arith, bytes_eq, nat_cmp, Ordering, Less, Equal, Greater}
use Rattle.std.specs.BTreeSet.{insert_key}
use Rattle.std.specs.Cmp.{IsTotalOrder}
use Rattle.std.specs.Cmp.Lexicographic.{slice_cmp}
use Rattle.std.specs.List.{flat_map, list_any, position}
use Rattle.std.specs.Option.{option_map}
use Rattle.std.specs.List.Sorted.{IsStrictlySortedBy}
use Rattle.std.specs.Ordering.{is_lt, is_eq, ordering_reverse}
use Rattle.std.proofs.lemmas.Cmp.{on_total, nat_list_cmp_total}
use Rattle.std.proofs.lemmas.List.Folds.{list_any-append}
use Rattle.std.proofs.lemmas.List.Elements.{recursion_from_All}
use Rattle.std.proofs.lemmas.Map.Lookups.{CmpEqualImpliesEq, exact_bytes, btree_set_from_contains}
use Rattle.std.proofs.lemmas.Map.Text.{is_eq-slice_cmp}
use Rattle.addr_base.specs.declared.ids.Digest.{Digest}
use Rattle.addr_base.specs.declared.images.Home.{Home}
use Rattle.addr_base.specs.declared.images.Home.TheVariants.{Own, Other}
use Rattle.addr_base.specs.declared.images.RefTo.{RefTo}
use Rattle.addr_cab.specs.declared.object.ObjectRow.{ObjectRow}
use Rattle.addr_cab.specs.Faults.{is_unnamed, unnamed_at}
use Rattle.addr_cab.specs.Outside.{name_order, with_home, with_homes, outside_of, AreOutside, is_absent}
use Rattle.addr_cab.specs.Searches.{Ascend}
use Rattle.addr_cab.specs.Spelling.{is_above, is_home, leads_to}
use Rattle.addr_cab.proofs.InOrder.{AscendFrom, ascends, is_less}
use Rattle.addr_cab.proofs.RowLaws.{name_of}

-- ---- which names are there

abbrev pub has_name : List ℕ → Digest → Bool
has_name name d = bytes_eq d.0 name

twice : (b r : Bool) → (b || r) ≡ (b || (b || r))
twice true r = refl
twice false r = refl

swap : (a b r : Bool) → (a || (b || r)) ≡ (b || (a || r))
swap true true r = refl
swap true false r = refl
swap false b r = refl

or_last : (a b r : Bool) → ((a || b) || r) ≡ (b || (a || r))
or_last true true r = refl
or_last true false r = refl
or_last false b r = refl

or_false : (b : Bool) → b ≡ (b || false)
or_false true = refl
or_false false = refl

any-insert : (name : List ℕ) (ks : List Digest) (k : Digest) → list_any (has_name name) (insert_key name_order ks k) ≡ (has_name name k || list_any (has_name name) ks)
any-insert name [] k = refl
any-insert name (x ∷ xs) k = by (name_order k x) refl (any-insert name xs k)
  where
    by : (o : Ordering) → name_order k x ≡ o → list_any (has_name name) (insert_key name_order xs k) ≡ (has_name name k || list_any (has_name name) xs)
        → list_any (has_name name) (insert_key name_order (x ∷ xs) k) ≡ (has_name name k || (has_name name x || list_any (has_name name) xs))
    by Less is more = rw is
    by Equal is more = let same : k.0 ≡ x.0 = exact_bytes k.0 x.0 is in rw (is, same) (twice (has_name name x) (list_any (has_name name) xs))
    by Greater is more = rw (is, more) (swap (has_name name x) (has_name name k) (list_any (has_name name) xs))

any-home : (name : Digest) (names : List Digest) (h : Home) → list_any (has_name name.0) (with_home names h) ≡ (is_home name h || list_any (has_name name.0) names)
any-home name names Own = refl
any-home name names (Other other) = any-insert name.0 names other

any-homes : (name : Digest) (names : List Digest) (refs : List RefTo) → list_any (has_name name.0) (with_homes names refs) ≡ (list_any (has_name name.0) names || leads_to name refs)
unfolding with_homes leads_to
any-homes name names [] = or_false (list_any (has_name name.0) names)
any-homes name names (r ∷ rs) =
    any-homes name (with_home names r.home) rs
    ∙ (ap (λ b. b || list_any (λ q. is_home name q.home) rs) (any-home name names r.home) ∙ or_last (is_home name r.home) (list_any (has_name name.0) names) (list_any (λ q. is_home name q.home) rs))

-- ---- they ascend

less_is : (o : Ordering) → o ≡ Less → is_lt o ≡ true
less_is o e = ap is_lt e

ascend-insert : (last : Option (List ℕ)) (k : Digest) (xs : List Digest) → is_above last k.0 ≡ true → AscendFrom last (map name_of xs) → AscendFrom last (map name_of (insert_key name_order xs k))
ascend-insert last k [] above up = (above, tt)
ascend-insert last k (x ∷ xs) above up = by (name_order k x) refl (ascend-insert (Some x.0) k xs)
  where
    by : (o : Ordering) → name_order k x ≡ o → (is_above (Some x.0) k.0 ≡ true → AscendFrom (Some x.0) (map name_of xs) → AscendFrom (Some x.0) (map name_of (insert_key name_order xs k)))
        → AscendFrom last (map name_of (insert_key name_order (x ∷ xs) k))
    by Less is more = rw is (above, (ap is_lt is, up.1))
    by Equal is more = rw is up
    by Greater is more = rw is (up.0, more (ap is_lt (nat_list_cmp_total.antisymm x.0 k.0 ∙ ap ordering_reverse is)) up.1)

ascend-homes : (names : List Digest) (refs : List RefTo) → AscendFrom None (map name_of names) → AscendFrom None (map name_of (with_homes names refs))
unfolding with_homes
ascend-homes names [] up = up
ascend-homes names (r ∷ rs) up = by r.home (ascend-homes (with_home names r.home) rs)
  where
    by : (h : Home) → (AscendFrom None (map name_of (with_home names h)) → AscendFrom None (map name_of (with_homes (with_home names h) rs))) → AscendFrom None (map name_of (with_homes (with_home names h) rs))
    by Own more = more up
    by (Other name) more = more (ascend-insert None name names refl up)

pub are_outside : (refs : List RefTo) → AreOutside refs (outside_of refs)
are_outside refs = record { ascend = ascends name_of (outside_of refs) (ascend-homes [] refs tt); named = λ name. any-homes name [] refs }

-- ---- and there is no other such list

name_total : IsTotalOrder name_order
name_total = on_total name_of nat_list_cmp_total

exact_names : CmpEqualImpliesEq name_order
exact_names a b e = ap (λ (bytes : List ℕ). let d : Digest = record { 0 = bytes } in d) (exact_bytes a.0 b.0 e)

strict : (names : List Digest) → Ascend name_of names → IsStrictlySortedBy name_order names
unfolding IsStrictlySortedBy
strict [] up = tt
strict (x ∷ xs) up =
    let behind : All (λ y. name_order x y ≡ Less) xs = λ k d lt. is_less _ (up 0 (suc k) d (omega arith) (omega (arith, lt))) in
    (recursion_from_All (λ y. name_order x y ≡ Less) xs behind, strict xs (λ j k d less lt. up (suc j) (suc k) d (omega (arith, less)) (omega (arith, lt))))

same_eq : (o : Ordering) → is_eq (ordering_reverse o) ≡ is_eq o
same_eq Less = refl
same_eq Equal = refl
same_eq Greater = refl

pub same_any : {X : Type 0} (p q : X → Bool) → ((x : X) → p x ≡ q x) → (xs : List X) → list_any p xs ≡ list_any q xs
same_any p q same [] = refl
same_any p q same (x ∷ xs) = rw (same x, same_any p q same xs) refl

pub at_name : (name d : Digest) → is_eq (name_order name d) ≡ has_name name.0 d
at_name name d = ap is_eq (nat_list_cmp_total.antisymm name.0 d.0) ∙ (same_eq (slice_cmp nat_cmp d.0 name.0) ∙ is_eq-slice_cmp d.0 name.0)

pub one_list : (refs : List RefTo) (a b : List Digest) → AreOutside refs a → AreOutside refs b → a ≡ b
one_list refs a b p q =
    btree_set_from_contains name_total (record { keys = a }) (record { keys = b }) (strict a p.ascend) (strict b q.ascend)
    (λ name. same_any (λ d. is_eq (name_order name d)) (has_name name.0) (at_name name) a ∙ (p.named name ∙ (sym (q.named name) ∙ sym (same_any (λ d. is_eq (name_order name d)) (has_name name.0) (at_name name) b))))
    exact_names

-- ---- absent names

pub absent_at : (names : List Digest) (name : Digest) → list_any (λ d. is_eq (name_order name d)) names ≡ list_any (λ d. bytes_eq d.0 name.0) names
absent_at names name = same_any (λ d. is_eq (name_order name d)) (has_name name.0) (at_name name) names

pub leads-flat : {O : Type 0} (refs : O → List RefTo) (name : Digest) (os : List O) → leads_to name (flat_map refs os) ≡ list_any (λ o. leads_to name (refs o)) os
unfolding leads_to
leads-flat refs name [] = refl
leads-flat refs name (o ∷ os) = list_any-append (λ r. is_home name r.home) (refs o) (flat_map refs os) ∙ ap (λ b. list_any (λ r. is_home name r.home) (refs o) || b) (leads-flat refs name os)

absent_is : (rows : List ObjectRow) (names : List Digest) → names ≡ outside_of (flat_map (λ o. o.refs) rows) → (name : Digest) → is_absent names name ≡ is_unnamed rows name
unfolding is_absent is_unnamed
absent_is rows names found name =
    ap not (ap (list_any (has_name name.0)) found ∙ (any-homes name [] (flat_map (λ o. o.refs) rows) ∙ leads-flat (λ (o : ObjectRow). o.refs) name rows))

pub unnamed_is : (rows : List ObjectRow) (outside names : List Digest) (place : Option ℕ) → names ≡ outside_of (flat_map (λ o. o.refs) rows) → place ≡ position (is_absent names) outside → option_map (λ i. 8 + 16 * i) place ≡ unnamed_at rows outside
unnamed_is rows outside names place found first =
    ap (option_map (λ i. 8 + 16 * i)) first ∙ ap (λ (p : Digest → Bool). option_map (λ i. 8 + 16 * i) (position p outside)) (λ i d. absent_is rows names found d i)
