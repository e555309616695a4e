-- The first row of each name: one more row, which has a new name or one that is there.
use Rattle.std.proofs.Common.{◌≡◌, ◌<◌, ◌+◌, ℕ, Bool, true, false, cond, List, [], ◌∷◌, ◌++◌, length, get_or, take, position, Option, Some, None, Bor, BTreeMap, is_some, nat_cmp, refl, sym, ap, ◌∙◌, arith}
use Rattle.std.proofs.lemmas.Bool.{false≢true}
use Rattle.std.proofs.lemmas.Iterator.Adapters.{position_from-zero}
use Rattle.std.proofs.lemmas.List.{length-take-le, take_more}
use Rattle.std.proofs.lemmas.Map.Text.{btree_map_updates_str}
use Rattle.std.specs.BTreeMap.{UpdatesBy}
use Rattle.std.specs.Cmp.Lexicographic.{slice_cmp, bytes_decides}
use Rattle.std.specs.List.{position_from}
use Rattle.std.specs.Option.{option_or}
use Rattle.std.specs.Str.{bytes_eq}
use Rattle.addr_locate.specs.declared.rows.BundleRow.{BundleRow}
use Rattle.addr_release.specs.Opened.{Opened}
use Rattle.addr_resolve.specs.Items.{AreNamed}
use Rattle.addr_resolve.specs.within.Leading.{AreFirsts, first_of}

place-after : {X : Type 0} (p : X → Bool) (xs : List X) (x : X) (i : ℕ) → position_from p i (xs ++ x ∷ []) ≡ option_or (position_from p i xs) (cond (p x) (Some (i + length xs)) None)
place-after p [] x i = let same : i + 0 ≡ i = omega arith in rw same refl
place-after p (y ∷ ys) x i = by_test (p y) refl (place-after p ys x (i + 1))
  where
    by_test : (here : Bool) → p y ≡ here → position_from p (i + 1) (ys ++ x ∷ []) ≡ option_or (position_from p (i + 1) ys) (cond (p x) (Some ((i + 1) + length ys)) None) → position_from p i (y ∷ ys ++ x ∷ []) ≡ option_or (position_from p i (y ∷ ys)) (cond (p x) (Some (i + length (y ∷ ys))) None)
    by_test true e rest = rw e refl
    by_test false e rest = let next : (i + 1) + length ys ≡ i + length (y ∷ ys) = omega arith in rw e (rest ∙ rw next refl)

position-push : {X : Type 0} (p : X → Bool) (xs : List X) (x : X) → position p (xs ++ x ∷ []) ≡ option_or (position p xs) (cond (p x) (Some (length xs)) None)
position-push p xs x =
    let start : 0 + length xs ≡ length xs = omega arith in
    position_from-zero p (xs ++ x ∷ []) ∙ (place-after p xs x 0 ∙ rw start (ap (λ o. option_or o (cond (p x) (Some (length xs)) None)) (sym (position_from-zero p xs))))

or-none : {X : Type 0} (o : Option X) → o ≡ option_or o None
or-none None = refl
or-none (Some x) = refl

or-there : {X : Type 0} (o other : Option X) → is_some o ≡ true → o ≡ option_or o other
or-there None other there = absurd (false≢true there)
or-there (Some x) other there = refl

abbrev named : List ℕ → BundleRow → Bool
named name row = bytes_eq row.name name

pub firsts-none : (find : List ℕ → Option ℕ) → ((name : List ℕ) → find name ≡ None) → AreFirsts [] find
firsts-none find none name = none name ∙ sym (position_from-zero (named name) [])

-- the first of one more row
next : (rows : List BundleRow) (k : ℕ) (row : BundleRow) (key name : List ℕ) → k < length rows → row ≡ get_or rows k row → key ≡ row.name → position (named name) (take (k + 1) rows) ≡ option_or (position (named name) (take k rows)) (cond (bytes_eq key name) (Some k) None)
next rows k row key name within read own =
    ap (position (named name)) (take_more rows k row within ∙ ap (λ z. take k rows ++ z ∷ []) (sym read))
    ∙ position-push (named name) (take k rows) row
    ∙ ap (λ n. option_or (position (named name) (take k rows)) (cond (bytes_eq row.name name) (Some n) None)) (length-take-le k rows (omega (arith, within)))
    ∙ ap (λ text. option_or (position (named name) (take k rows)) (cond (bytes_eq text name) (Some k) None)) (sym own)

pub none-of : (o : Option ℕ) → is_some o ≡ false → o ≡ None
none-of None is = refl
none-of (Some x) is = absurd (false≢true (sym is))

pub firsts-new : (rows : List BundleRow) (k : ℕ) (row : BundleRow) (key : List ℕ) (m n : BTreeMap (Bor (List ℕ)) ℕ) → k < length rows → row ≡ get_or rows k row → key ≡ row.name → AreFirsts (take k rows) (first_of m) → first_of m key ≡ None
    → UpdatesBy (λ x y. slice_cmp nat_cmp x.now y.now) (λ x. slice_cmp nat_cmp key x.now) m n (Some k)
    → AreFirsts (take (k + 1) rows) (first_of n)
firsts-new rows k row key m n within read own before absent updates name = btree_map_updates_str key m n (Some k) updates name ∙ (by_test (bytes_eq key name) refl ∙ sym (next rows k row key name within read own))
  where
    by_test : (t : Bool) → bytes_eq key name ≡ t → cond (bytes_eq key name) (Some k) (first_of m name) ≡ option_or (position (named name) (take k rows)) (cond (bytes_eq key name) (Some k) None)
    by_test true same =
        let none : position (named name) (take k rows) ≡ None = sym (before name) ∙ (ap (first_of m) (sym ((bytes_decides key name).0 same)) ∙ absent) in
        rw (same, none) refl
    by_test false differs = rw differs (before name ∙ or-none (position (named name) (take k rows)))

pub firsts-old : (rows : List BundleRow) (k : ℕ) (row : BundleRow) (key : List ℕ) (find : List ℕ → Option ℕ) → k < length rows → row ≡ get_or rows k row → key ≡ row.name → AreFirsts (take k rows) find → is_some (find key) ≡ true → AreFirsts (take (k + 1) rows) find
firsts-old rows k row key find within read own before there name = before name ∙ (by_test (bytes_eq key name) refl ∙ sym (next rows k row key name within read own))
  where
    by_test : (t : Bool) → bytes_eq key name ≡ t → position (named name) (take k rows) ≡ option_or (position (named name) (take k rows)) (cond (bytes_eq key name) (Some k) None)
    by_test true same =
        let is : is_some (position (named name) (take k rows)) ≡ true = ap is_some (sym (before name)) ∙ (ap (λ text. is_some (find text)) (sym ((bytes_decides key name).0 same)) ∙ there) in
        or-there (position (named name) (take k rows)) (cond (bytes_eq key name) (Some k) None) is
    by_test false differs = rw differs (or-none (position (named name) (take k rows)))

-- files with the names of rows stand first where these do
places-same : (files : List Opened) (rows : List BundleRow) (name : List ℕ) (i : ℕ) → AreNamed files rows → position_from (λ (file : Opened). bytes_eq file.name name) i files ≡ position_from (named name) i rows
places-same [] [] name i zipped = refl
places-same [] (r ∷ rs) name i zipped = absurd zipped
places-same (f ∷ fs) [] name i zipped = absurd zipped
places-same (f ∷ fs) (r ∷ rs) name i zipped =
    ap (λ text. cond (bytes_eq text name) (Some i) (position_from (λ (file : Opened). bytes_eq file.name name) (i + 1) fs)) zipped.0
    ∙ ap (λ o. cond (bytes_eq r.name name) (Some i) o) (places-same fs rs name (i + 1) zipped.1)

pub first-file : (files : List Opened) (rows : List BundleRow) (find : List ℕ → Option ℕ) → AreNamed files rows → AreFirsts rows find → (name : List ℕ) → find name ≡ position (λ (file : Opened). bytes_eq file.name name) files
first-file files rows find zipped firsts name =
    firsts name ∙ (position_from-zero (named name) rows ∙ (sym (places-same files rows name 0 zipped) ∙ sym (position_from-zero (λ (file : Opened). bytes_eq file.name name) files)))
