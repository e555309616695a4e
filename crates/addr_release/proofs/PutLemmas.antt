-- What puts leave, one after the other: what was put last counts first.
use Rattle.std.proofs.Common.{◌≡◌, ◌≢◌, ℕ, zero, suc, ◌<◌, ◌≤◌, Bool, true, false, cond, List, [], ◌∷◌, ◌++◌, length, take, drop, reverse, Option, Some, None, refl, sym, ap, subst, ◌∙◌, ◌⊎◌, inl, inr, arith}
use Rattle.std.proofs.lemmas.Bool.{false≢true}
use Rattle.std.proofs.lemmas.List.{reverse-append, take-append-drop}
use Rattle.std.proofs.lemmas.List.Elements.{Contains-append_cases, Contains-append_left, Contains-append_right}
use Rattle.std.proofs.lemmas.List.Folds.{find-append}
use Rattle.std.proofs.lemmas.Slice.Eq.{bytes_eq-Decides}
use Rattle.std.specs.List.{Contains, find, slice_get}
use Rattle.std.specs.Option.{option_map, option_or}
use Rattle.std.specs.Str.{bytes_eq}
use Rattle.addr_base.specs.Files.{IsPut, SameFiles, file_at}
use Rattle.addr_base.specs.declared.files.MemFile.{MemFile}
use Rattle.addr_base.proofs.FileLemmas.{has_name, put_first}
use Rattle.addr_layout.proofs.RankLemmas.{same-some}
use Rattle.addr_project.proofs.OnceLemmas.{to_map}
use Rattle.addr_walks.proofs.Lists.{Contains-here, Contains-later, Contains-cases, Contains-none, slice_get-Contains}
use Rattle.addr_release.specs.Laws.{AreThere, NamesOnce}
use Rattle.addr_release.specs.Puts.{IsAfter}

-- ---- lists

pub take-front : {X : Type 0} (k : ℕ) (xs ys : List X) (x : X) → k ≤ length xs → Contains (take k (xs ++ ys)) x → Contains xs x
take-front zero xs ys x few here = absurd (Contains-none x here)
take-front (suc k) [] ys x few here = absurd (omega arith)
take-front (suc k) (y ∷ xs) ys x few here = by_case (Contains-cases y (take k (xs ++ ys)) x here) (λ later. take-front k xs ys x (omega arith) later)
  where
    by_case : (y ≡ x) ⊎ Contains (take k (xs ++ ys)) x → (Contains (take k (xs ++ ys)) x → Contains xs x) → Contains (y ∷ xs) x
    by_case (inl same) more = subst (Contains (y ∷ xs)) same (Contains-here y xs)
    by_case (inr later) more = Contains-later y xs x (more later)

pub take-past : {X : Type 0} (k : ℕ) (xs ys : List X) (y : X) → length xs < k → Contains (take k (xs ++ y ∷ ys)) y
take-past zero xs ys y past = absurd (omega arith)
take-past (suc k) [] ys y past = Contains-here y (take k ys)
take-past (suc k) (x ∷ xs) ys y past = Contains-later x (take k (xs ++ y ∷ ys)) y (take-past k xs ys y (omega arith))

pub take-within : {X : Type 0} (k : ℕ) (xs : List X) (x : X) → Contains (take k xs) x → Contains xs x
take-within k xs x here = subst (λ ys. Contains ys x) (take-append-drop k xs) (Contains-append_left (take k xs) (drop k xs) x here)

reverse-Contains : {X : Type 0} (xs : List X) (x : X) → Contains (reverse xs) x → Contains xs x
reverse-Contains [] x here = here
reverse-Contains (y ∷ xs) x here = by_case (Contains-append_cases (reverse xs) (y ∷ []) x (subst (λ zs. Contains zs x) (reverse-append (y ∷ []) xs) here)) (λ later. reverse-Contains xs x later)
  where
    by_case : Contains (reverse xs) x ⊎ Contains (y ∷ []) x → (Contains (reverse xs) x → Contains xs x) → Contains (y ∷ xs) x
    by_case (inl later) more = Contains-later y xs x (more later)
    by_case (inr first) more = Contains-append_left (y ∷ []) xs x first

Contains-reverse : {X : Type 0} (xs : List X) (x : X) → Contains xs x → Contains (reverse xs) x
Contains-reverse [] x here = here
Contains-reverse (y ∷ xs) x here = subst (λ zs. Contains zs x) (sym (reverse-append (y ∷ []) xs)) (by_case (Contains-cases y xs x here) (λ later. Contains-reverse xs x later))
  where
    by_case : (y ≡ x) ⊎ Contains xs x → (Contains xs x → Contains (reverse xs) x) → Contains (reverse xs ++ y ∷ []) x
    by_case (inl same) more = Contains-append_right (reverse xs) (y ∷ []) x (subst (Contains (y ∷ [])) same (Contains-here y []))
    by_case (inr later) more = Contains-append_left (reverse xs) (y ∷ []) x (more later)

-- ---- files by name

map-or : (first later : Option MemFile) → option_map (λ f. f.bytes) (option_or first later) ≡ option_or (option_map (λ f. f.bytes) first) (option_map (λ f. f.bytes) later)
map-or (Some file) later = refl
map-or None later = refl

pub file-append : (name : List ℕ) (xs ys : List MemFile) → file_at name (xs ++ ys) ≡ option_or (file_at name xs) (file_at name ys)
file-append name xs ys = ap (option_map (λ f. f.bytes)) (find-append (has_name name) xs ys) ∙ map-or (find (has_name name) xs) (find (has_name name) ys)

-- what is found is the file of that name
pub file-found : (name bytes : List ℕ) (xs : List MemFile) → file_at name xs ≡ Some bytes → (f : MemFile) × Contains xs f × (f.name ≡ name) × (f.bytes ≡ bytes)
file-found name bytes [] e = absurd (cc e)
file-found name bytes (x ∷ xs) e = by_test (bytes_eq x.name name) refl e (λ later. file-found name bytes xs later)
  where
    by_test : (t : Bool) → bytes_eq x.name name ≡ t → option_map (λ (f : MemFile). f.bytes) (cond t (Some x) (find (has_name name) xs)) ≡ Some bytes
        → (file_at name xs ≡ Some bytes → (f : MemFile) × Contains xs f × (f.name ≡ name) × (f.bytes ≡ bytes)) → (f : MemFile) × Contains (x ∷ xs) f × (f.name ≡ name) × (f.bytes ≡ bytes)
    by_test true is at more = (x, Contains-here x xs, (bytes_eq-Decides x.name name).0 is, same-some x.bytes bytes at)
    by_test false is at more = let rest = more at in (rest.0, Contains-later x xs rest.0 rest.1, rest.2, rest.3)

-- nothing is found where no file has the name
pub file-none : (name : List ℕ) (xs : List MemFile) → ((f : MemFile) → Contains xs f → f.name ≢ name) → file_at name xs ≡ None
file-none name xs apart = by_answer (file_at name xs) refl
  where
    by_answer : (o : Option (List ℕ)) → file_at name xs ≡ o → file_at name xs ≡ None
    by_answer None e = e
    by_answer (Some bytes) e = let found = file-found name bytes xs e in absurd (apart found.0 found.1 found.2)

file-some : (xs : List MemFile) (f : MemFile) → Contains xs f → (bytes : List ℕ) × (file_at f.name xs ≡ Some bytes)
file-some [] f here = absurd (Contains-none f here)
file-some (x ∷ xs) f here = by_test (bytes_eq x.name f.name) refl (Contains-cases x xs f here) (λ later. file-some xs f later)
  where
    by_test : (t : Bool) → bytes_eq x.name f.name ≡ t → (x ≡ f) ⊎ Contains xs f → (Contains xs f → (bytes : List ℕ) × (file_at f.name xs ≡ Some bytes)) → (bytes : List ℕ) × (file_at f.name (x ∷ xs) ≡ Some bytes)
    by_test true is either more = (x.bytes, rw is refl)
    by_test false is (inl same) more = absurd (false≢true (sym is ∙ (bytes_eq-Decides x.name f.name).1 (ap (λ (g : MemFile). g.name) same)))
    by_test false is (inr later) more = let rest = more later in (rest.0, rw is rest.1)

-- files of one name have one content
abbrev pub Agree : List MemFile → Type 0
Agree xs = (f g : MemFile) → Contains xs f → Contains xs g → f.name ≡ g.name → f.bytes ≡ g.bytes

-- all files with the name of one have its content
abbrev pub AgreeWith : MemFile → List MemFile → Type 0
AgreeWith f xs = (g : MemFile) → Contains xs g → g.name ≡ f.name → g.bytes ≡ f.bytes

file-there : (xs : List MemFile) (f : MemFile) → AgreeWith f xs → Contains xs f → file_at f.name xs ≡ Some f.bytes
file-there xs f agree here =
    let some = file-some xs f here in
    let found = file-found f.name some.0 xs some.1 in
    some.1 ∙ ap Some (sym found.3 ∙ agree found.0 found.1 found.2)

pub once-agree : (puts : List MemFile) → NamesOnce puts → Agree puts
once-agree puts once f g here there same =
    let first = slice_get-Contains puts f here in
    let second = slice_get-Contains puts g there in
    let number : first.0 ≡ second.0 = once first.0 second.0 g.name (to_map (λ (put : MemFile). put.name) puts first.0 f first.1 ∙ ap Some same) (to_map (λ (put : MemFile). put.name) puts second.0 g second.1) in
    ap (λ (put : MemFile). put.bytes) (same-some f g (sym first.1 ∙ ap (slice_get puts) number ∙ second.1))

-- ---- what puts leave

abbrev left_by : List MemFile → List MemFile → List ℕ → Option (List ℕ)
left_by puts old name = option_or (file_at name (reverse puts)) (file_at name old)

after-is : (puts old new : List MemFile) → IsAfter puts old new → (name : List ℕ) → file_at name new ≡ left_by puts old name
after-is puts old new after name = after name ∙ file-append name (reverse puts) old

is-after : (puts old new : List MemFile) → ((name : List ℕ) → file_at name new ≡ left_by puts old name) → IsAfter puts old new
is-after puts old new is name = is name ∙ sym (file-append name (reverse puts) old)

-- what no put names stays
pub after-same : (puts old new : List MemFile) → IsAfter puts old new → (name : List ℕ) → ((f : MemFile) → Contains puts f → f.name ≢ name) → file_at name new ≡ file_at name old
after-same puts old new after name apart =
    after-is puts old new after name ∙ ap (λ o. option_or o (file_at name old)) (file-none name (reverse puts) (λ f here. apart f (reverse-Contains puts f here)))

-- what is put is there
pub after-there-one : (puts old new : List MemFile) → IsAfter puts old new → (f : MemFile) → AgreeWith f puts → Contains puts f → file_at f.name new ≡ Some f.bytes
after-there-one puts old new after f agree here =
    let back : AgreeWith f (reverse puts) = λ g there same. agree g (reverse-Contains puts g there) same in
    after-is puts old new after f.name ∙ ap (λ o. option_or o (file_at f.name old)) (file-there (reverse puts) f back (Contains-reverse puts f here))

pub after-there : (puts old new : List MemFile) → Agree puts → IsAfter puts old new → AreThere puts new
after-there puts old new agree after f here = after-there-one puts old new after f (λ g there same. agree g f there here same) here

-- a name leads to what it led to before, or to one of the puts of it
pub after-either : (puts old new : List MemFile) → IsAfter puts old new → (name : List ℕ)
    → (file_at name new ≡ file_at name old) ⊎ ((f : MemFile) × Contains puts f × (f.name ≡ name) × (file_at name new ≡ Some f.bytes))
after-either puts old new after name = by_answer (file_at name (reverse puts)) refl
  where
    by_answer : (o : Option (List ℕ)) → file_at name (reverse puts) ≡ o → (file_at name new ≡ file_at name old) ⊎ ((f : MemFile) × Contains puts f × (f.name ≡ name) × (file_at name new ≡ Some f.bytes))
    by_answer None e = inl (after-is puts old new after name ∙ ap (λ o. option_or o (file_at name old)) e)
    by_answer (Some found) e =
        let put = file-found name found (reverse puts) e in
        inr (put.0, reverse-Contains puts put.0 put.1, put.2, after-is puts old new after name ∙ (ap (λ o. option_or o (file_at name old)) e ∙ ap Some (sym put.3)))

or-group : (a b c : Option (List ℕ)) → option_or a (option_or b c) ≡ option_or (option_or a b) c
or-group (Some x) b c = refl
or-group None b c = refl

pub after-joins : (first more : List MemFile) (x y z : List MemFile) → IsAfter first x y → IsAfter more y z → IsAfter (first ++ more) x z
after-joins first more x y z one two = is-after (first ++ more) x z is
  where
    is : (name : List ℕ) → file_at name z ≡ left_by (first ++ more) x name
    is name =
        after-is more y z two name
        ∙ (ap (option_or (file_at name (reverse more))) (after-is first x y one name)
        ∙ (or-group (file_at name (reverse more)) (file_at name (reverse first)) (file_at name x)
        ∙ ap (λ o. option_or o (file_at name x)) (sym (file-append name (reverse more) (reverse first)) ∙ ap (file_at name) (sym (reverse-append first more)))))

pub after-none : (files : List MemFile) → IsAfter [] files files
after-none files name = refl

pub after-again : (puts files : List MemFile) → AreThere puts files → IsAfter puts files files
after-again puts files there = is-after puts files files (λ name. by_answer name (file_at name (reverse puts)) refl)
  where
    by_answer : (name : List ℕ) (o : Option (List ℕ)) → file_at name (reverse puts) ≡ o → file_at name files ≡ left_by puts files name
    by_answer name None e = ap (λ o. option_or o (file_at name files)) (sym e)
    by_answer name (Some bytes) e =
        let put = file-found name bytes (reverse puts) e in
        let at : file_at name files ≡ Some bytes = ap (λ n. file_at n files) (sym put.2) ∙ (there put.0 (reverse-Contains puts put.0 put.1) ∙ ap Some put.3) in
        at ∙ ap (λ o. option_or o (file_at name files)) (sym e)

-- so puts of files that are there change nothing
pub after-second : (puts files later : List MemFile) → AreThere puts files → IsAfter puts files later → SameFiles files later
after-second puts files later there after name = after name ∙ sym (after-again puts files there name)

-- and a put that is there may be left out
pub after-skips : (puts : List MemFile) (put : MemFile) (old now : List MemFile) → IsAfter puts old now → file_at put.name now ≡ Some put.bytes → IsAfter (puts ++ put ∷ []) old now
after-skips puts put old now after at = after-joins puts (put ∷ []) old now now after (after-again (put ∷ []) now alone)
  where
    alone : AreThere (put ∷ []) now
    alone f here = by_case (Contains-cases put [] f here)
      where
        by_case : (put ≡ f) ⊎ Contains [] f → file_at f.name now ≡ Some f.bytes
        by_case (inl same) = subst (λ (g : MemFile). file_at g.name now ≡ Some g.bytes) same at
        by_case (inr none) = absurd (Contains-none f none)

-- nothing else changes: files on which all names agree are after the same puts
pub after-same_files : (puts old new other : List MemFile) → IsAfter puts old new → SameFiles new other → IsAfter puts old other
after-same_files puts old new other after same name = same name ∙ after name

-- one put
pub after-put : (name bytes : List ℕ) (old new : List MemFile) → IsPut name bytes old new → IsAfter (record { name = name; bytes = bytes } ∷ []) old new
after-put name bytes old new put other = by_test (bytes_eq name other) refl
  where
    file : MemFile
    file = record { name = name; bytes = bytes }

    first : IsPut name bytes old (file ∷ old)
    first = put_first name bytes old

    by_test : (t : Bool) → bytes_eq name other ≡ t → file_at other new ≡ file_at other (file ∷ old)
    by_test true is = subst (λ n. file_at n new ≡ file_at n (file ∷ old)) ((bytes_eq-Decides name other).0 is) (put.0 ∙ sym first.0)
    by_test false is =
        let differ : other ≢ name = λ same. false≢true (sym is ∙ (bytes_eq-Decides name other).1 (sym same)) in
        put.1 other differ ∙ sym (first.1 other differ)

pub put-after : (name bytes : List ℕ) (old new : List MemFile) → IsAfter (record { name = name; bytes = bytes } ∷ []) old new → IsPut name bytes old new
put-after name bytes old new after = let first = put_first name bytes old in (after name ∙ first.0, λ other differ. after other ∙ first.1 other differ)
