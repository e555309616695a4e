-- A change of the element at a place, as code makes it.
use Rattle.std.proofs.Common.{◌≡◌, ℕ, ◌<◌, ◌≤◌, zero, suc, List, [], ◌∷◌, length, set, get_or, Option, Some, None, slice_get, refl, sym, ap, arith}
use Rattle.addr_queue.specs.Changes.{put_at, changed_from, change}

pub get_there : {X : Type 0} (xs : List X) (n : ℕ) (x : X) → n < length xs → x ≡ get_or xs n x → slice_get xs n ≡ Some x
get_there [] n x lt is = absurd (omega arith)
get_there (y ∷ xs) zero x lt is = ap Some (sym is)
get_there (y ∷ xs) (suc n) x lt is = get_there xs n x (omega arith) is

pub get_past : {X : Type 0} (xs : List X) (n : ℕ) → length xs ≤ n → slice_get xs n ≡ None
get_past [] n le = refl
get_past (y ∷ xs) zero le = absurd (omega arith)
get_past (y ∷ xs) (suc n) le = get_past xs n (omega arith)

pub change_there : {X : Type 0} (f : X → X) (xs : List X) (n : ℕ) (x : X) → n < length xs → x ≡ get_or xs n x → change f n xs ≡ set xs n (f x)
change_there f xs n x lt is = ap (λ (o : Option _). put_at xs n (changed_from f o)) (get_there xs n x lt is)

pub change_past : {X : Type 0} (f : X → X) (xs : List X) (n : ℕ) → length xs ≤ n → change f n xs ≡ xs
change_past f xs n le = ap (λ (o : Option _). put_at xs n (changed_from f o)) (get_past xs n le)
