-- Lists that were written read back item by item; and how deep they nest.
use Rattle.std.proofs.Common.{◌≡◌, ℕ, ◌≤◌, false, List, [], ◌∷◌, map, Option, Some, refl, arith, All}
use Rattle.std.proofs.lemmas.List.Elements.{All-head, All-tail}
use Rattle.serde_json.specs.Data.{Data, depth, items_depth}
use Rattle.serde_json.specs.Find.{as_str}
use Rattle.serde_json.specs.View.{items_of}
use Rattle.serde_json.specs.Written.{has_float, items_have_float}
use Rattle.addr_json.specs.Members.{all_items, list_of}
use Rattle.addr_json.specs.Trees.{texts_tree}

-- each item reads back, where it is as it should be
pub items_back : {A : Type 0} (read : Data → Option A) (tree : A → Data) (P : A → Type 0) → ((x : A) → P x → read (tree x) ≡ Some x) → (xs : List A) → All P xs → all_items read (items_of (map tree xs)) ≡ Some xs
items_back read tree P each [] are = refl
items_back read tree P each (x ∷ xs) are = rw (each x (All-head P x xs are), items_back read tree P each xs (All-tail P x xs are)) refl

-- each item reads back, whatever it is
pub all_back : {A : Type 0} (read : Data → Option A) (tree : A → Data) → ((x : A) → read (tree x) ≡ Some x) → (xs : List A) → all_items read (items_of (map tree xs)) ≡ Some xs
all_back read tree each [] = refl
all_back read tree each (x ∷ xs) = rw (each x, all_back read tree each xs) refl

pub texts_back : (texts : List (List ℕ)) → list_of as_str (texts_tree texts) ≡ Some texts
texts_back [] = refl
texts_back (t ∷ ts) = rw (texts_back ts) refl

-- no list nests deeper than its items, and none has a float that no item has
pub shallow_items : {A : Type 0} (tree : A → Data) (n : ℕ) → ((x : A) → depth (tree x) ≤ n) → (xs : List A) → items_depth (items_of (map tree xs)) ≤ n
shallow_items tree n each [] = omega arith
shallow_items tree n each (x ∷ xs) = omega (arith, each x, shallow_items tree n each xs)

pub plain_items : {A : Type 0} (tree : A → Data) → ((x : A) → has_float (tree x) ≡ false) → (xs : List A) → items_have_float (items_of (map tree xs)) ≡ false
plain_items tree each [] = refl
plain_items tree each (x ∷ xs) = rw (each x, plain_items tree each xs)
