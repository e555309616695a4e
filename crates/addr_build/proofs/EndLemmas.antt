-- How puts end: one put, and puts after puts.
use Rattle.std.proofs.Common.{◌≡◌, ◌≢◌, ℕ, ◌+◌, ◌<◌, Bool, true, false, not, List, [], ◌∷◌, ◌++◌, length, take, Some, None, Result, Ok, Err, cond, arith, refl, ◌⊎◌, sym, ap, subst, ◌∙◌, inl, inr, reverse}
use Rattle.std.specs.Prelude.{IfSome, IsErr}
use Rattle.std.specs.Result.{IsErrAnd}
use Rattle.std.specs.List.{AllByRecursion, Contains, find}
use Rattle.std.proofs.lemmas.List.Elements.{Contains-append_cases}
use Rattle.addr_walks.proofs.Lists.{Contains-cases, Contains-here, Contains-later, Contains-none}
use Rattle.addr_state.specs.Files.{side_folder}
use Rattle.std.specs.Option.{option_map, option_or}
use Rattle.std.specs.Str.{bytes_eq}
use Rattle.std.proofs.lemmas.Bool.{false≢true}
use Rattle.std.proofs.lemmas.List.{reverse-append, append_assoc, length-append, take-append-le}
use Rattle.std.proofs.lemmas.List.Folds.{find-append}
use Rattle.std.proofs.lemmas.Slice.Eq.{bytes_eq-Decides}
use Rattle.std.proofs.Math.Seq.{take-append-add, take-length}
use Rattle.addr_base.specs.Files.{Store, SameStore, file_at}
use Rattle.addr_base.specs.declared.depot.DepotErr.{DepotErr}
use Rattle.addr_base.specs.declared.depot.DepotErr.TheVariants as depot
use Rattle.addr_base.specs.declared.files.MemFile.{MemFile}
use Rattle.addr_project.specs.Reading.{path}
use Rattle.addr_release.specs.Names.{side_path}
use Rattle.addr_release.specs.Puts.{AreUntaken, IsAfter, Test, are_other, first_taken, is_taken}
use Rattle.addr_release.proofs.TestLemmas.{find-none}
use Rattle.addr_build.specs.declared.error.PutErr.{PutErr}
use Rattle.addr_build.specs.declared.error.PutErr.TheVariants.{Taken, Fault, NoMemory}
use Rattle.addr_build.specs.declared.putting.Spot.{Spot}
use Rattle.addr_build.specs.declared.putting.Spot.TheVariants.{Free, Same, Other}
use Rattle.addr_build.specs.within.FromDepot.{of_depot}
use Rattle.addr_build.specs.Endings.{Ends, IsTakenFirst, LaysUntaken, PutRose, key_tests, name_tests}
use Rattle.addr_build.specs.within.Testing.{IsSpotOf, Owes, Tells}
use Rattle.addr_build.specs.Moments.{LaysAll, LaysSome}
use Rattle.addr_build.specs.Putting.{Lays, file_of}
use Rattle.addr_build.proofs.PutLemmas.{lays-none, lays-some-none, lays-same, lays-all-same, lays-then, lays-all-then, there-all, told-at}

-- ---- answers

pub err-is : {T E : Type 0} (r : Result T E) (e : E) → IsErrAnd r (λ x. x ≡ e) → r ≡ Err e
err-is (Ok done) e is = absurd is
err-is (Err x) e is = ap Err is

-- ---- tests

other-same : (bytes : List ℕ) → are_other bytes (Some bytes) ≡ false
other-same bytes = ap not ((bytes_eq-Decides bytes bytes).1 refl)

other-differ : (bytes found : List ℕ) → found ≢ bytes → are_other bytes (Some found) ≡ true
other-differ bytes found differ = by_test (bytes_eq found bytes) refl
  where
    by_test : (t : Bool) → bytes_eq found bytes ≡ t → not (bytes_eq found bytes) ≡ true
    by_test true is = absurd (differ ((bytes_eq-Decides found bytes).0 is))
    by_test false is = ap not is

find-one : (p : Test → Bool) (t : Test) (b : Bool) → p t ≡ b → find p (t ∷ []) ≡ cond b (Some t) None
find-one p t b is = ap (λ b. cond b (Some t) None) is

-- a name under which no other bytes stand
pub one-free : (files : List MemFile) (folder : List ℕ) (n : ℕ) (name bytes : List ℕ) → are_other bytes (file_at (path folder name) files) ≡ false → first_taken files folder (name_tests n name bytes) ≡ None
one-free files folder n name bytes is = find-one (is_taken files folder) (record { number = n; name = name; bytes = bytes }) false is

pub one-taken : (files : List MemFile) (folder : List ℕ) (n : ℕ) (name bytes : List ℕ) → are_other bytes (file_at (path folder name) files) ≡ true → IsTakenFirst files folder (name_tests n name bytes) n name
one-taken files folder n name bytes is =
    let test : Test = record { number = n; name = name; bytes = bytes } in
    (test, find-one (is_taken files folder) test true is, refl, refl)

pub spot-free : (files : List MemFile) (folder name bytes : List ℕ) → file_at (path folder name) files ≡ None → Tells files folder (name_tests 0 name bytes) (path folder name) bytes (Ok true)
spot-free files folder name bytes none = (one-free files folder 0 name bytes (ap (are_other bytes) none), none)

pub spot-same : (files : List MemFile) (folder name bytes : List ℕ) → file_at (path folder name) files ≡ Some bytes → Tells files folder (name_tests 0 name bytes) (path folder name) bytes (Ok false)
spot-same files folder name bytes some = (one-free files folder 0 name bytes (ap (are_other bytes) some ∙ other-same bytes), some)

pub spot-other : (files : List MemFile) (folder name bytes : List ℕ) → IsSpotOf (file_at (path folder name) files) bytes Other → IsTakenFirst files folder (name_tests 0 name bytes) 0 name
spot-other files folder name bytes (other, at, differ) = one-taken files folder 0 name bytes (ap (are_other bytes) at ∙ other-differ bytes other differ)

-- ---- puts after puts

-- a name that none of the puts has leads to what it led to
pub after-other : (name : List ℕ) (xs old : List MemFile) → AllByRecursion (λ f. f.name ≢ name) xs → file_at name (reverse xs ++ old) ≡ file_at name old
after-other name [] old apart = refl
after-other name (x ∷ xs) old (here, later) =
    ap (λ zs. file_at name (zs ++ old)) (reverse-append (x ∷ []) xs) ∙ ap (file_at name) (append_assoc (reverse xs) (x ∷ []) old)
    ∙ after-other name xs (x ∷ old) later ∙ ap (λ t. option_map (λ f. f.bytes) (cond t (Some x) (find (λ f. bytes_eq f.name name) old))) (differ (bytes_eq x.name name) refl)
  where
    differ : (t : Bool) → bytes_eq x.name name ≡ t → bytes_eq x.name name ≡ false
    differ true is = absurd (here ((bytes_eq-Decides x.name name).0 is))
    differ false is = is

-- the puts have none of the names that are tested
abbrev pub Apart : List ℕ → List MemFile → List Test → Type 0
Apart folder puts tests = AllByRecursion (λ test. AllByRecursion (λ f. f.name ≢ path folder test.name) puts) tests

taken-apart : (folder : List ℕ) (xs old mid : List MemFile) (test : Test) → IsAfter xs old mid → AllByRecursion (λ f. f.name ≢ path folder test.name) xs → is_taken mid folder test ≡ is_taken old folder test
taken-apart folder xs old mid test after apart = ap (are_other test.bytes) (after (path folder test.name) ∙ after-other (path folder test.name) xs old apart)

pub first-apart : (folder : List ℕ) (xs old mid : List MemFile) (tests : List Test) → IsAfter xs old mid → Apart folder xs tests → first_taken mid folder tests ≡ first_taken old folder tests
first-apart folder xs old mid [] after apart = refl
first-apart folder xs old mid (test ∷ tests) after (here, later) =
    ap (λ b. cond b (Some test) (first_taken mid folder tests)) (taken-apart folder xs old mid test after here)
    ∙ ap (λ o. cond (is_taken old folder test) (Some test) o) (first-apart folder xs old mid tests after later)

-- what holds of each holds of one
all-at : {X : Type 0} (P : X → Type 0) (xs : List X) → AllByRecursion P xs → (x : X) → Contains xs x → P x
all-at P [] each x here = absurd (Contains-none x here)
all-at P (y ∷ xs) (first, rest) x here = by_case (Contains-cases y xs x here) (λ later. all-at P xs rest x later)
  where
    by_case : (y ≡ x) ⊎ Contains xs x → (Contains xs x → P x) → P x
    by_case (inl same) more = subst P same first
    by_case (inr later) more = more later

-- no name is tested for no put
untaken-none : (files : List MemFile) (folder : List ℕ) (tests : List Test) → AreUntaken files folder 0 tests
untaken-none files folder tests test here few = absurd (omega (arith, few))

-- where no name is taken, none is that is tested for some puts
pub untaken-all : (files : List MemFile) (folder : List ℕ) (m : ℕ) (tests : List Test) → first_taken files folder tests ≡ None → AreUntaken files folder m tests
untaken-all files folder m tests none test here few = find-none (is_taken files folder) tests none test here

-- puts that were all made, and none of their names taken
pub lays-untaken : (folder : List ℕ) (puts : List MemFile) (n : ℕ) (tests : List Test) (a b : Store) → LaysSome puts a b → ((files : List MemFile) → a.files ≡ Some files → first_taken files folder tests ≡ None)
    → LaysUntaken folder puts n tests a b
lays-untaken folder puts n tests a b some free =
    (length puts, omega arith, subst (λ ps. LaysSome ps a b) (sym (take-length puts)) some, λ files is. untaken-all files folder (n + length puts) tests (free files is))

first-later : (files : List MemFile) (folder : List ℕ) (s t : List Test) → first_taken files folder s ≡ None → first_taken files folder (s ++ t) ≡ first_taken files folder t
first-later files folder s t none = find-append (is_taken files folder) s t ∙ ap (λ o. option_or o (first_taken files folder t)) none

module _ (folder : List ℕ) (xs ys : List MemFile) (n m : ℕ) (s t : List Test) (a b c : Store) (from : n + length xs ≡ m) (apart : Apart folder xs t)
    (lays : LaysAll xs a b) (free : (files : List MemFile) → a.files ≡ Some files → first_taken files folder s ≡ None) where
  later-first : (files mid : List MemFile) → a.files ≡ Some files → b.files ≡ Some mid → first_taken files folder (s ++ t) ≡ first_taken mid folder t
  later-first files mid is at = first-later files folder s t (free files is) ∙ sym (first-apart folder xs files mid t (lays.all files mid is at) apart)

  untaken-then : (k : ℕ) (files mid : List MemFile) → a.files ≡ Some files → b.files ≡ Some mid → AreUntaken mid folder (m + k) t → AreUntaken files folder (n + (length xs + k)) (s ++ t)
  untaken-then k files mid is at later test here few = by_case (Contains-append_cases s t test here)
    where
      by_case : Contains s test ⊎ Contains t test → is_taken files folder test ≡ false
      by_case (inl first) = find-none (is_taken files folder) s (free files is) test first
      by_case (inr second) = sym (taken-apart folder xs files mid test (lays.all files mid is at) (all-at (λ u. AllByRecursion (λ f. f.name ≢ path folder u.name) xs) t apart test second)) ∙ later test second (omega (arith, few, from))

  untaken-told : (k : ℕ) → ((files : List MemFile) → b.files ≡ Some files → AreUntaken files folder (m + k) t) → (files : List MemFile) → a.files ≡ Some files → AreUntaken files folder (n + (length xs + k)) (s ++ t)
  untaken-told k later files is = let (mid, at, one) = lays.some.told files is in untaken-then k files mid is at (later mid at)

  stopped-then : LaysUntaken folder ys m t b c → LaysUntaken folder (xs ++ ys) n (s ++ t) a c
  stopped-then (k, few, some, untaken) = (
    length xs + k,
    (let long = length-append xs ys in omega (arith, few, long)),
    subst (λ ps. LaysSome ps a c) (sym (take-append-add xs ys k)) (lays-then xs (take k ys) a b c lays some),
    untaken-told k untaken,
  )

  pub ends-then : {T : Type 0} (result : Result T PutErr) → Ends folder ys m t b c result → Ends folder (xs ++ ys) n (s ++ t) a c result
  ends-then (Ok done) (all, none) = (lays-all-then xs ys a b c lays all, λ files is. (let (mid, at, one) = lays.some.told files is in later-first files mid is at ∙ none mid at))
  ends-then (Err (Taken name)) (k, few, all, taken, untaken) = (
    length xs + k,
    (let long = length-append xs ys in omega (arith, few, long)),
    subst (λ ps. LaysAll ps a c) (sym (take-append-add xs ys k)) (lays-all-then xs (take k ys) a b c lays all),
    λ files is. (
        let (mid, at, one) = lays.some.told files is in
        let (test, first, number, named) = taken mid at in
        (test, later-first files mid is at ∙ first, (let e : m + k ≡ n + (length xs + k) = omega (arith, from) in number ∙ e), named)),
    untaken-told k untaken,
  )
  ends-then (Err Fault) stopped = stopped-then stopped
  ends-then (Err NoMemory) stopped = stopped-then stopped

-- ---- one file, after its tests

pub ends-refused : (T : Type 0) (folder : List ℕ) (puts : List MemFile) (tests : List Test) (own bytes : List ℕ) (a b : Store) (e : PutErr) → 0 < length puts → SameStore a b
    → IfSome a.files (λ files. Tells files folder tests own bytes (Err e)) → Ends {T = T} folder puts 0 tests a b (Err e)
ends-refused T folder puts tests own bytes a b (Taken name) some same tells = (0, some, lays-none a b same, λ files is. told-at a.files _ files is tells, λ files is. untaken-none files folder tests)
ends-refused T folder puts tests own bytes a b Fault some same tells = (0, omega arith, lays-some-none [] a b same, λ files is. untaken-none files folder tests)
ends-refused T folder puts tests own bytes a b NoMemory some same tells = (0, omega arith, lays-some-none [] a b same, λ files is. untaken-none files folder tests)

-- memory was refused before the first test
pub ends-memory : (T : Type 0) (folder : List ℕ) (puts : List MemFile) (tests : List Test) (a : Store) → Ends {T = T} folder puts 0 tests a a (Err NoMemory)
ends-memory T folder puts tests a = (0, omega arith, lays-some-none [] a a (record { files = refl; past = refl }), λ files is. untaken-none files folder tests)

pub same-puts : (name bytes : List ℕ) (a b : Store) (r : Result (Unit {0}) DepotErr) → SameStore a b → IsErr r → Lays (file_of name bytes ∷ []) a b r
same-puts name bytes a b (Ok done) same failed = absurd (false≢true failed)
same-puts name bytes a b (Err cause) same failed = lays-some-none (file_of name bytes ∷ []) a b same

-- what stands under a name decides the answer of its test
pub tells-spot : (files : List MemFile) (folder name bytes : List ℕ) (spot : Spot) (r : Result Bool PutErr) → IsSpotOf (file_at (path folder name) files) bytes spot → Owes spot name r
    → Tells files folder (name_tests 0 name bytes) (path folder name) bytes r
tells-spot files folder name bytes Free r is owes = subst (Tells files folder (name_tests 0 name bytes) (path folder name) bytes) (sym owes) (spot-free files folder name bytes is)
tells-spot files folder name bytes Same r is owes = subst (Tells files folder (name_tests 0 name bytes) (path folder name) bytes) (sym owes) (spot-same files folder name bytes is)
tells-spot files folder name bytes Other r is (inl memory) = subst (Tells files folder (name_tests 0 name bytes) (path folder name) bytes) (sym memory) tt
tells-spot files folder name bytes Other r is (inr taken) = subst (Tells files folder (name_tests 0 name bytes) (path folder name) bytes) (sym taken) (spot-other files folder name bytes is)

pub rose-spot : (before now : ℕ) (name : List ℕ) (spot : Spot) (r : Result Bool PutErr) → now ≡ before → Owes spot name r → PutRose before now r
rose-spot before now name Free r same owes = subst (PutRose before now) (sym owes) same
rose-spot before now name Same r same owes = subst (PutRose before now) (sym owes) same
rose-spot before now name Other r same (inl memory) = subst (PutRose before now) (sym memory) same
rose-spot before now name Other r same (inr taken) = subst (PutRose before now) (sym taken) same

-- a file that is there after its tests, and one that is put
pub ends-there : (folder : List ℕ) (tests : List Test) (own bytes : List ℕ) (a b : Store) → SameStore a b → IfSome a.files (λ files. Tells files folder tests own bytes (Ok false))
    → Ends {T = Bool} folder (file_of own bytes ∷ []) 0 tests a b (Ok false)
ends-there folder tests own bytes a b same tells =
    (there-all own bytes a b same (λ files is. (told-at a.files _ files is tells).1), λ files is. (told-at a.files _ files is tells).0)

pub ends-put : (folder : List ℕ) (tests : List Test) (own bytes : List ℕ) (a b c : Store) → SameStore a b → IfSome a.files (λ files. Tells files folder tests own bytes (Ok true))
    → LaysAll (file_of own bytes ∷ []) b c → Ends {T = Bool} folder (file_of own bytes ∷ []) 0 tests a c (Ok true)
ends-put folder tests own bytes a b c same tells lays = (lays-all-same (file_of own bytes ∷ []) a b c same lays, λ files is. (told-at a.files _ files is tells).0)

pub ends-stopped : (T : Type 0) (folder : List ℕ) (tests : List Test) (own bytes : List ℕ) (a b c : Store) (cause : DepotErr) → SameStore a b → IfSome a.files (λ files. Tells files folder tests own bytes (Ok true))
    → LaysSome (file_of own bytes ∷ []) b c → Ends {T = T} folder (file_of own bytes ∷ []) 0 tests a c (Err (of_depot cause))
ends-stopped T folder tests own bytes a b c depot.Fault same tells some = lays-untaken folder (file_of own bytes ∷ []) 0 tests a c (lays-same (file_of own bytes ∷ []) a b c same some) (λ files is. (told-at a.files _ files is tells).0)
ends-stopped T folder tests own bytes a b c depot.NoMemory same tells some = lays-untaken folder (file_of own bytes ∷ []) 0 tests a c (lays-same (file_of own bytes ∷ []) a b c same some) (λ files is. (told-at a.files _ files is tells).0)

pub lays-err : (puts : List MemFile) (a b : Store) (r : Result (Unit {0}) DepotErr) → IsErr r → LaysSome puts a b → Lays puts a b r
lays-err puts a b (Ok done) failed some = absurd (false≢true failed)
lays-err puts a b (Err cause) failed some = some

pub ends-some : (T : Type 0) (folder : List ℕ) (puts : List MemFile) (n : ℕ) (tests : List Test) (a b : Store) (cause : DepotErr) → LaysSome puts a b
    → ((files : List MemFile) → a.files ≡ Some files → first_taken files folder tests ≡ None) → Ends {T = T} folder puts n tests a b (Err (of_depot cause))
ends-some T folder puts n tests a b depot.Fault some free = lays-untaken folder puts n tests a b some free
ends-some T folder puts n tests a b depot.NoMemory some free = lays-untaken folder puts n tests a b some free

stopped-more : (folder : List ℕ) (xs ys : List MemFile) (n : ℕ) (tests : List Test) (a b : Store) → LaysUntaken folder xs n tests a b → LaysUntaken folder (xs ++ ys) n tests a b
stopped-more folder xs ys n tests a b (k, few, some, untaken) = (
  k,
  (let long = length-append xs ys in omega (arith, few, long)),
  subst (λ ps. LaysSome ps a b) (sym (take-append-le k xs ys few)) some,
  untaken,
)

-- puts that were refused, before others
pub ends-more : (A B : Type 0) (folder : List ℕ) (xs ys : List MemFile) (n : ℕ) (tests : List Test) (a b : Store) (e : PutErr) → Ends {T = A} folder xs n tests a b (Err e) → Ends {T = B} folder (xs ++ ys) n tests a b (Err e)
ends-more A B folder xs ys n tests a b (Taken name) (k, few, all, taken, untaken) = (
  k,
  (let long = length-append xs ys in omega (arith, few, long)),
  subst (λ ps. LaysAll ps a b) (sym (take-append-le k xs ys (omega (arith, few)))) all,
  taken,
  untaken,
)
ends-more A B folder xs ys n tests a b Fault stopped = stopped-more folder xs ys n tests a b stopped
ends-more A B folder xs ys n tests a b NoMemory stopped = stopped-more folder xs ys n tests a b stopped

-- the tests of a key may have any number
renumber-none : (p q : Bool) (x y x' y' : Test) → cond p (Some x) (cond q (Some y) None) ≡ None → cond p (Some x') (cond q (Some y') None) ≡ None
renumber-none true q x y x' y' none = absurd (cc none)
renumber-none false true x y x' y' none = absurd (cc none)
renumber-none false false x y x' y' none = refl

renumber-some : (p q : Bool) (n k m : ℕ) (x y x' y' : Test) (name : List ℕ) → x.number ≡ n → y.number ≡ n → x'.number ≡ m → y'.number ≡ m → x'.name ≡ x.name → y'.name ≡ y.name
    → ((test : Test) × (cond p (Some x) (cond q (Some y) None) ≡ Some test) × (test.number ≡ n + k) × (test.name ≡ name))
    → (test : Test) × (cond p (Some x') (cond q (Some y') None) ≡ Some test) × (test.number ≡ m + k) × (test.name ≡ name)
renumber-some true q n k m x y x' y' name xn yn xm ym xs ys (test, first, number, named) =
    let same : x ≡ test = cc first in
    let zero : n ≡ n + k = sym xn ∙ ap (λ (t : Test). t.number) same ∙ number in
    (x', refl, (let e : m ≡ m + k = omega (arith, zero) in xm ∙ e), xs ∙ ap (λ (t : Test). t.name) same ∙ named)
renumber-some false true n k m x y x' y' name xn yn xm ym xs ys (test, first, number, named) =
    let same : y ≡ test = cc first in
    let zero : n ≡ n + k = sym yn ∙ ap (λ (t : Test). t.number) same ∙ number in
    (y', refl, (let e : m ≡ m + k = omega (arith, zero) in ym ∙ e), ys ∙ ap (λ (t : Test). t.name) same ∙ named)
renumber-some false false n k m x y x' y' name xn yn xm ym xs ys (test, first, number, named) = absurd (cc first)

renumber-key-untaken : (files : List MemFile) (folder : List ℕ) (n m k : ℕ) (key bytes : List ℕ) → AreUntaken files folder (n + k) (key_tests n key bytes) → AreUntaken files folder (m + k) (key_tests m key bytes)
renumber-key-untaken files folder n m k key bytes untaken test here few = by_near (Contains-cases (near m) (far m ∷ []) test here)
  where
    near : ℕ → Test
    near i = record { number = i; name = side_folder false ++ key; bytes = bytes }

    far : ℕ → Test
    far i = record { number = i; name = side_folder true ++ key; bytes = bytes }

    less : m ≡ test.number → n < n + k
    less same = omega (arith, few, same)

    by_far : (far m ≡ test) ⊎ Contains [] test → is_taken files folder test ≡ false
    by_far (inl same) = subst (λ (t : Test). is_taken files folder t ≡ false) same (untaken (far n) (Contains-later (near n) (far n ∷ []) (far n) (Contains-here (far n) [])) (less (ap (λ (t : Test). t.number) same)))
    by_far (inr none) = absurd (Contains-none test none)

    by_near : (near m ≡ test) ⊎ Contains (far m ∷ []) test → is_taken files folder test ≡ false
    by_near (inl same) = subst (λ (t : Test). is_taken files folder t ≡ false) same (untaken (near n) (Contains-here (near n) (far n ∷ [])) (less (ap (λ (t : Test). t.number) same)))
    by_near (inr later) = by_far (Contains-cases (far m) [] test later)

pub renumber-key : {T : Type 0} (folder : List ℕ) (puts : List MemFile) (n m : ℕ) (key bytes : List ℕ) (a b : Store) (r : Result T PutErr)
    → Ends folder puts n (key_tests n key bytes) a b r → Ends folder puts m (key_tests m key bytes) a b r
renumber-key folder puts n m key bytes a b (Ok done) (all, free) = (
  all,
  λ files is.
      renumber-none (are_other bytes (file_at (side_path folder false key) files)) (are_other bytes (file_at (side_path folder true key) files)) _ _ _ _ (free files is),
)
renumber-key folder puts n m key bytes a b (Err (Taken name)) (k, few, all, taken, untaken) = (
  k,
  few,
  all,
  λ files is.
      renumber-some (are_other bytes (file_at (side_path folder false key) files)) (are_other bytes (file_at (side_path folder true key) files)) n k m _ _ _ _ name refl refl refl refl refl refl (taken files is),
  λ files is. renumber-key-untaken files folder n m k key bytes (untaken files is),
)
renumber-key folder puts n m key bytes a b (Err Fault) (k, few, some, untaken) = (k, few, some, λ files is. renumber-key-untaken files folder n m k key bytes (untaken files is))
renumber-key folder puts n m key bytes a b (Err NoMemory) (k, few, some, untaken) = (k, few, some, λ files is. renumber-key-untaken files folder n m k key bytes (untaken files is))

renumber-one : (p : Bool) (n k m : ℕ) (x x' : Test) (name : List ℕ) → x.number ≡ n → x'.number ≡ m → x'.name ≡ x.name
    → ((test : Test) × (cond p (Some x) None ≡ Some test) × (test.number ≡ n + k) × (test.name ≡ name))
    → (test : Test) × (cond p (Some x') None ≡ Some test) × (test.number ≡ m + k) × (test.name ≡ name)
renumber-one true n k m x x' name xn xm xs (test, first, number, named) =
    let same : x ≡ test = cc first in
    let zero : n ≡ n + k = sym xn ∙ ap (λ (t : Test). t.number) same ∙ number in
    (x', refl, (let e : m ≡ m + k = omega (arith, zero) in xm ∙ e), xs ∙ ap (λ (t : Test). t.name) same ∙ named)
renumber-one false n k m x x' name xn xm xs (test, first, number, named) = absurd (cc first)

renumber-one-none : (p : Bool) (x x' : Test) → cond p (Some x) None ≡ None → cond p (Some x') None ≡ None
renumber-one-none true x x' none = absurd (cc none)
renumber-one-none false x x' none = refl

renumber-name-untaken : (files : List MemFile) (folder : List ℕ) (n m k : ℕ) (name bytes : List ℕ) → AreUntaken files folder (n + k) (name_tests n name bytes) → AreUntaken files folder (m + k) (name_tests m name bytes)
renumber-name-untaken files folder n m k name bytes untaken test here few = by_one (Contains-cases (one m) [] test here)
  where
    one : ℕ → Test
    one i = record { number = i; name = name; bytes = bytes }

    less : m ≡ test.number → n < n + k
    less same = omega (arith, few, same)

    by_one : (one m ≡ test) ⊎ Contains [] test → is_taken files folder test ≡ false
    by_one (inl same) = subst (λ (t : Test). is_taken files folder t ≡ false) same (untaken (one n) (Contains-here (one n) []) (less (ap (λ (t : Test). t.number) same)))
    by_one (inr none) = absurd (Contains-none test none)

pub renumber-name : {T : Type 0} (folder : List ℕ) (puts : List MemFile) (n m : ℕ) (name bytes : List ℕ) (a b : Store) (r : Result T PutErr)
    → Ends folder puts n (name_tests n name bytes) a b r → Ends folder puts m (name_tests m name bytes) a b r
renumber-name folder puts n m name bytes a b (Ok done) (all, free) = (
  all,
  λ files is.
      renumber-one-none (are_other bytes (file_at (path folder name) files)) _ _ (free files is),
)
renumber-name folder puts n m name bytes a b (Err (Taken taken-name)) (k, few, all, taken, untaken) = (
  k,
  few,
  all,
  λ files is.
      renumber-one (are_other bytes (file_at (path folder name) files)) n k m _ _ taken-name refl refl refl (taken files is),
  λ files is. renumber-name-untaken files folder n m k name bytes (untaken files is),
)
renumber-name folder puts n m name bytes a b (Err Fault) (k, few, some, untaken) = (k, few, some, λ files is. renumber-name-untaken files folder n m k name bytes (untaken files is))
renumber-name folder puts n m name bytes a b (Err NoMemory) (k, few, some, untaken) = (k, few, some, λ files is. renumber-name-untaken files folder n m k name bytes (untaken files is))
