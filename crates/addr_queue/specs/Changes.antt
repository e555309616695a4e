-- Elements of a list that are changed where they stand.
use Rattle.std.specs.Prelude.{ℕ, zero, suc, Bool, List, [], ◌∷◌, Option, Some, None, slice_get, slice_set, if◌then◌else◌}
use Rattle.addr_base.specs.declared.ids.BundleNo.{BundleNo}

-- a list with the element at a place put there, if there is one
abbrev pub put_at : {X : Type 0} → List X → ℕ → Option X → List X
put_at xs n None = xs
put_at xs n (Some x) = slice_set xs n x

abbrev pub changed_from : {X : Type 0} → (X → X) → Option X → Option X
changed_from f None = None
changed_from f (Some x) = Some (f x)

-- a list with the element at a place changed
abbrev pub change : {X : Type 0} → (X → X) → ℕ → List X → List X
change f n xs = put_at xs n (changed_from f (slice_get xs n))

-- the elements at some places changed, one after another
abbrev pub change_each : {X : Type 0} → (X → X) → List ℕ → List X → List X
change_each f [] xs = xs
change_each f (n ∷ ns) xs = change_each f ns (change f n xs)

-- a change made so many times
abbrev pub times : {X : Type 0} → (X → X) → ℕ → X → X
times f zero x = x
times f (suc k) x = times f k (f x)

-- the same value put at the places of those of some bundles that pass a test
abbrev pub cleared_each : {X : Type 0} → X → (BundleNo → Bool) → List BundleNo → List X → List X
cleared_each empty test [] xs = xs
cleared_each empty test (b ∷ bs) xs = cleared_each empty test bs (if test b then slice_set xs b.0 empty else xs)
