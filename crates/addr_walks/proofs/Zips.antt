-- Two lists side by side: what stands beside an element, and one more pair at their ends.
use Rattle.std.proofs.Common.{◌≡◌, ℕ, zero, suc, ◌+◌, ◌<◌, List, [], ◌∷◌, ◌++◌, length, get_or, map, take, Some, refl, sym, ap, subst, ◌∙◌}
use Rattle.std.proofs.lemmas.List.{take_more}
use Rattle.std.specs.List.{AllZip, Contains, slice_get}
use Rattle.addr_walks.proofs.Lists.{Contains-slice_get, slice_get-Contains}

pub zip-push : {A B : Type 0} (R : A → B → Type 0) (xs : List A) (ys : List B) (x : A) (y : B) → AllZip R xs ys → R x y → AllZip R (xs ++ x ∷ []) (ys ++ y ∷ [])
zip-push R [] [] x y zip last = (last, tt)
zip-push R [] (b ∷ bs) x y zip last = absurd zip
zip-push R (a ∷ as') [] x y zip last = absurd zip
zip-push R (a ∷ as') (b ∷ bs) x y zip last = (zip.0, zip-push R as' bs x y zip.1 last)

pub zip-more : {A B : Type 0} (R : A → B → Type 0) (xs : List A) (ys : List B) (i : ℕ) (x : A) (y : B) → i < length xs → x ≡ get_or xs i x → AllZip R (take i xs) ys → R x y → AllZip R (take (i + 1) xs) (ys ++ y ∷ [])
zip-more R xs ys i x y within read zip last =
    subst (λ zs. AllZip R zs (ys ++ y ∷ [])) (sym (take_more xs i x within ∙ ap (λ z. take i xs ++ z ∷ []) (sym read))) (zip-push R (take i xs) ys x y zip last)

pub zip-left : {A B : Type 0} (R : A → B → Type 0) (xs : List A) (ys : List B) → AllZip R xs ys → (k : ℕ) (x : A) → slice_get xs k ≡ Some x → (y : B) × (slice_get ys k ≡ Some y) × R x y
zip-left R [] ys zip k x at = absurd (cc at)
zip-left R (a ∷ as') [] zip k x at = absurd zip
zip-left {A} R (a ∷ as') (b ∷ bs) zip zero x at = let same : a ≡ x = cc at in (b, refl, subst (λ z. R z b) same zip.0)
zip-left R (a ∷ as') (b ∷ bs) zip (suc k) x at = zip-left R as' bs zip.1 k x at

pub zip-right : {A B : Type 0} (R : A → B → Type 0) (xs : List A) (ys : List B) → AllZip R xs ys → (k : ℕ) (y : B) → slice_get ys k ≡ Some y → (x : A) × (slice_get xs k ≡ Some x) × R x y
zip-right R xs [] zip k y at = absurd (cc at)
zip-right R [] (b ∷ bs) zip k y at = absurd zip
zip-right {A} R (a ∷ as') (b ∷ bs) zip zero y at = let same : b ≡ y = cc at in (a, refl, subst (R a) same zip.0)
zip-right R (a ∷ as') (b ∷ bs) zip (suc k) y at = zip-right R as' bs zip.1 k y at

-- what stands beside something in the list
pub zip-here : {A B : Type 0} (R : A → B → Type 0) (xs : List A) (ys : List B) (x : A) → AllZip R xs ys → Contains xs x → (y : B) × Contains ys y × R x y
zip-here R xs ys x zip here =
    let at = slice_get-Contains xs x here in
    let beside = zip-left R xs ys zip at.0 x at.1 in
    (beside.0, Contains-slice_get ys at.0 beside.0 beside.1, beside.2)

pub zip-there : {A B : Type 0} (R : A → B → Type 0) (xs : List A) (ys : List B) (y : B) → AllZip R xs ys → Contains ys y → (x : A) × Contains xs x × R x y
zip-there R xs ys y zip here =
    let at = slice_get-Contains ys y here in
    let beside = zip-right R xs ys zip at.0 y at.1 in
    (beside.0, Contains-slice_get xs at.0 beside.0 beside.1, beside.2)

-- beside each element stands what a function makes of what stood beside it
pub zip-map : {A B C : Type 0} (R : A → B → Type 0) (S : A → C → Type 0) (f : B → C) (xs : List A) (ys : List B) → ((x : A) (y : B) → R x y → S x (f y)) → AllZip R xs ys → AllZip S xs (map f ys)
zip-map R S f [] [] takes zip = tt
zip-map R S f [] (b ∷ bs) takes zip = absurd zip
zip-map R S f (a ∷ as') [] takes zip = absurd zip
zip-map R S f (a ∷ as') (b ∷ bs) takes zip = (takes a b zip.0, zip-map R S f as' bs takes zip.1)
