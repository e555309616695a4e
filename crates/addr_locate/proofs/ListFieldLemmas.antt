-- A field that is a list is cut at its commas into what spells its elements, whatever these are.
use Rattle.std.proofs.Common.{◌≡◌, ◌≢◌, ◌==◌, ℕ, List, [], ◌∷◌, ◌++◌, false, refl, arith, ap, sym, subst, append_assoc, ◌∙◌, map}
use Rattle.std.proofs.lemmas.Bool.Decides.{nat_tests}
use Rattle.std.proofs.lemmas.List.Splits.{join_with_byte-slice_split}
use Rattle.std.proofs.lemmas.List.{map-append}
use Rattle.std.specs.List.{onto_first, slice_split, AllByRecursion, join_with_byte}
use Rattle.addr_fields.specs.Fields.{has_byte, IsCut}

abbrev pub pieces : List ℕ → List (List ℕ)
pieces field = slice_split (λ b. b == 44) field

pieces_first : (before after : List ℕ) → has_byte 44 before ≡ false → pieces (before ++ 44 ∷ after) ≡ before ∷ pieces after
pieces_first [] after free = refl
pieces_first (b ∷ before) after free =
    let here : (b == 44) ≡ false = grind (arith, nat_tests) in
    let rest : has_byte 44 before ≡ false = grind (arith, nat_tests) in
    rw here (ap (onto_first b) (pieces_first before after rest))

pub pieces_of_cut : (field before after : List ℕ) → IsCut 44 field before after → pieces field ≡ before ∷ pieces after
pieces_of_cut field before after cut = ap pieces cut.whole ∙ pieces_first before after cut.first

pub one_piece : (field : List ℕ) → has_byte 44 field ≡ false → pieces field ≡ field ∷ []
one_piece [] free = refl
one_piece (b ∷ field) free =
    let here : (b == 44) ≡ false = grind (arith, nat_tests) in
    let rest : has_byte 44 field ≡ false = grind (arith, nat_tests) in
    rw here (ap (onto_first b) (one_piece field rest))

-- of an image that has a piece, that piece is the image of an element
pub image_at : {A : Type 0} (f : A → List ℕ) (P : A → Type 0) (xs : List A) → AllByRecursion P xs → (before : List (List ℕ)) (piece : List ℕ) (after : List (List ℕ)) → map f xs ≡ before ++ piece ∷ after → (x : A) × P x × (piece ≡ f x)
image_at f P [] all [] piece after e = cc
image_at f P [] all (b ∷ before) piece after e = cc
image_at f P (x ∷ xs) all [] piece after e = (x, all.0, cc)
image_at f P (x ∷ xs) all (b ∷ before) piece after e = image_at f P xs all.1 before piece after (cc)

pub each_push : {A : Type 0} (P : A → Type 0) (xs : List A) (x : A) → AllByRecursion P xs → P x → AllByRecursion P (xs ++ x ∷ [])
each_push P [] x all here = (here, tt)
each_push P (y ∷ xs) x all here = (all.0, each_push P xs x all.1 here)

push_filled : {A : Type 0} (xs : List A) (x : A) → xs ++ x ∷ [] ≢ []
push_filled [] x e = cc
push_filled (y ∷ xs) x e = cc

list_pieces : {A : Type 0} (f : A → List ℕ) (P : A → Type 0) → ((x : A) → P x → has_byte 44 (f x) ≡ false) → (x : A) (xs : List A) → AllByRecursion P (x ∷ xs) → pieces (join_with_byte 44 (map f (x ∷ xs))) ≡ map f (x ∷ xs)
list_pieces f P free x [] all = one_piece (f x) (free x all.0)
list_pieces f P free x (y ∷ xs) all = pieces_first (f x) (join_with_byte 44 (map f (y ∷ xs))) (free x all.0) ∙ ap (λ rest. f x ∷ rest) (list_pieces f P free y xs all.1)

pub pieces_of_list : {A : Type 0} (f : A → List ℕ) (P : A → Type 0) → ((x : A) → P x → has_byte 44 (f x) ≡ false) → (field : List ℕ) (xs : List A) → xs ≢ [] → AllByRecursion P xs → field ≡ join_with_byte 44 (map f xs) → pieces field ≡ map f xs
pieces_of_list f P free field [] filled all e = absurd (filled refl)
pieces_of_list f P free field (x ∷ xs) filled all e = ap pieces e ∙ list_pieces f P free x xs all

-- a piece that spells no element is in no list
pub no_list : {A : Type 0} (f : A → List ℕ) (P : A → Type 0) → ((x : A) → P x → has_byte 44 (f x) ≡ false) → (field : List ℕ) (before : List (List ℕ)) (piece : List ℕ) (after : List (List ℕ)) → pieces field ≡ before ++ piece ∷ after → ((x : A) → P x → piece ≡ f x → ⊥) → (xs : List A) → xs ≢ [] → AllByRecursion P xs → field ≡ join_with_byte 44 (map f xs) → ⊥
no_list f P free field before piece after split wrong xs filled all e =
    let found = image_at f P xs all before piece after (sym (pieces_of_list f P free field xs filled all e) ∙ split) in
    wrong found.0 found.1 found.2

-- one more element
pub list_step : {A : Type 0} (f : A → List ℕ) (P : A → Type 0) (field : List ℕ) (xs : List A) (rest piece after : List ℕ) (x : A) (now : List A) → pieces field ≡ map f xs ++ pieces rest → AllByRecursion P xs → IsCut 44 rest piece after → P x → piece ≡ f x → now ≡ xs ++ x ∷ [] → (pieces field ≡ map f now ++ pieces after) × AllByRecursion P now
list_step {A} f P field xs rest piece after x now cut each at fits spelled pushed =
    let first : pieces rest ≡ f x ∷ pieces after = pieces_of_cut rest piece after at ∙ ap (λ t. t ∷ pieces after) spelled in
    let more : map f now ≡ map f xs ++ f x ∷ [] = ap (map f) pushed ∙ map-append f xs (x ∷ []) in
    let whole : pieces field ≡ map f xs ++ f x ∷ pieces after = cut ∙ ap (λ r. map f xs ++ r) first in
    let P_all : List A → Type 0 = λ ys. AllByRecursion P ys in
    (whole ∙ (sym (append_assoc (map f xs) (f x ∷ []) (pieces after)) ∙ ap (λ m. m ++ pieces after) (sym more)), subst P_all (sym pushed) (each_push P xs x each fits))

-- the last element
pub list_end : {A : Type 0} (f : A → List ℕ) (P : A → Type 0) (field : List ℕ) (xs : List A) (rest : List ℕ) (x : A) (now : List A) → pieces field ≡ map f xs ++ pieces rest → AllByRecursion P xs → has_byte 44 rest ≡ false → P x → rest ≡ f x → now ≡ xs ++ x ∷ [] → (now ≢ []) × AllByRecursion P now × (field ≡ join_with_byte 44 (map f now))
list_end {A} f P field xs rest x now cut each free fits spelled pushed =
    let first : pieces rest ≡ f x ∷ [] = one_piece rest free ∙ ap (λ t. t ∷ []) spelled in
    let more : map f now ≡ map f xs ++ f x ∷ [] = ap (map f) pushed ∙ map-append f xs (x ∷ []) in
    let whole : pieces field ≡ map f now = cut ∙ (ap (λ r. map f xs ++ r) first ∙ sym more) in
    let P_all : List A → Type 0 = λ ys. AllByRecursion P ys in
    ((λ e. push_filled xs x (sym pushed ∙ e)), subst P_all (sym pushed) (each_push P xs x each fits), sym (join_with_byte-slice_split 44 field) ∙ ap (join_with_byte 44) whole)

-- elements that are spelled alike are the same, so lists are
same_images : {A : Type 0} (f : A → List ℕ) (P : A → Type 0) → ((x y : A) → P x → P y → f x ≡ f y → x ≡ y) → (xs ys : List A) → AllByRecursion P xs → AllByRecursion P ys → map f xs ≡ map f ys → xs ≡ ys
same_images f P own [] [] all_x all_y e = refl
same_images f P own [] (y ∷ ys) all_x all_y e = cc
same_images f P own (x ∷ xs) [] all_x all_y e = cc
same_images f P own (x ∷ xs) (y ∷ ys) all_x all_y e =
    let head = own x y all_x.0 all_y.0 (cc) in
    let rest = same_images f P own xs ys all_x.1 all_y.1 (cc) in cc (head, rest)

pub same_list : {A : Type 0} (f : A → List ℕ) (P : A → Type 0) → ((x : A) → P x → has_byte 44 (f x) ≡ false) → ((x y : A) → P x → P y → f x ≡ f y → x ≡ y) → (field : List ℕ) (xs ys : List A) → xs ≢ [] → ys ≢ [] → AllByRecursion P xs → AllByRecursion P ys → field ≡ join_with_byte 44 (map f xs) → field ≡ join_with_byte 44 (map f ys) → xs ≡ ys
same_list f P free own field xs ys filled_x filled_y all_x all_y ex ey =
    same_images f P own xs ys all_x all_y (sym (pieces_of_list f P free field xs filled_x all_x ex) ∙ pieces_of_list f P free field ys filled_y all_y ey)
