-- Files that are put one after the other.
use Rattle.std.proofs.Common.{◌≡◌, ◌≢◌, ℕ, ◌+◌, ◌≤◌, ◌<◌, Bool, true, false, List, [], ◌∷◌, ◌++◌, length, take, Option, Some, None, Result, Ok, Err, All, suc, arith, refl, sym, ap, subst, ◌∙◌, ◌⊎◌, inl, inr, reverse}
use Rattle.std.specs.Prelude.{MatchOption, IsNone, IsSomeAnd, IfSome}
use Rattle.std.specs.Bool.{MatchBool}
use Rattle.std.proofs.lemmas.Bool.{false≢true}
use Rattle.std.proofs.lemmas.List.{reverse-append, take-append-le, append_assoc, append-nil, length-append}
use Rattle.std.proofs.Math.Seq.{take-append-add}
use Rattle.std.proofs.lemmas.List.Folds.{find-append}
use Rattle.std.proofs.lemmas.Slice.Eq.{bytes_eq-Decides}
use Rattle.std.specs.List.{find}
use Rattle.std.specs.Option.{option_map, option_or}
use Rattle.std.specs.Str.{bytes_eq}
use Rattle.addr_base.specs.Files.{Store, IsPut, IsPutOrSame, SameStore, FaultRose, Puts, PutsAt, file_at}
use Rattle.addr_base.proofs.FileLemmas.{put_first}
use Rattle.addr_base.specs.declared.depot.DepotErr.{DepotErr}
use Rattle.addr_base.specs.declared.files.MemFile.{MemFile}
use Rattle.addr_release.specs.Puts.{IsAfter}
use Rattle.addr_build.specs.Moments.{IsDuring, Passes, LaysSome, LaysAll}
use Rattle.addr_build.specs.Putting.{file_of, Lays}
use Rattle.addr_build.specs.within.Testing.{IsSpotOf}
use Rattle.addr_build.specs.declared.putting.Spot.{Spot}
use Rattle.addr_build.specs.declared.putting.Spot.TheVariants.{Free, Same, Other}

-- ---- files by name

has_name : List ℕ → MemFile → Bool
has_name name file = bytes_eq file.name name

map-or : (first later : Option MemFile) → option_map (λ f. f.bytes) (option_or first later) ≡ option_or (option_map (λ f. f.bytes) first) (option_map (λ f. f.bytes) later)
map-or (Some file) later = refl
map-or None later = refl

-- a file is looked for in the first list, and then in the second
pub file-append : (name : List ℕ) (xs ys : List MemFile) → file_at name (xs ++ ys) ≡ option_or (file_at name xs) (file_at name ys)
file-append name xs ys = ap (option_map (λ f. f.bytes)) (find-append (λ f. bytes_eq f.name name) xs ys) ∙ map-or (find (λ f. bytes_eq f.name name) xs) (find (λ f. bytes_eq f.name name) ys)

pub name-cases : (a b : List ℕ) → (a ≡ b) ⊎ (a ≢ b)
name-cases a b = by_test (bytes_eq a b) refl
  where
    by_test : (t : Bool) → bytes_eq a b ≡ t → (a ≡ b) ⊎ (a ≢ b)
    by_test true is = inl ((bytes_eq-Decides a b).0 is)
    by_test false is = inr (λ same. false≢true (sym is ∙ (bytes_eq-Decides a b).1 same))

-- ---- puts one after the other

pub after-none : (files : List MemFile) → IsAfter [] files files
after-none files name = refl

pub after-then : (xs ys old mid new : List MemFile) → IsAfter xs old mid → IsAfter ys mid new → IsAfter (xs ++ ys) old new
after-then xs ys old mid new first second name =
    second name ∙ file-append name (reverse ys) mid ∙ ap (option_or (file_at name (reverse ys))) (first name)
    ∙ sym (file-append name (reverse ys) (reverse xs ++ old))
    ∙ ap (file_at name) (sym (append_assoc (reverse ys) (reverse xs) old) ∙ ap (λ zs. zs ++ old) (sym (reverse-append xs ys)))

-- a put of one file
pub after-put : (name bytes : List ℕ) (old new : List MemFile) → IsPut name bytes old new → IsAfter (file_of name bytes ∷ []) old new
after-put name bytes old new put other = by_name (name-cases other name)
  where
    first : IsPut name bytes old (file_of name bytes ∷ old)
    first = put_first name bytes old

    by_name : (other ≡ name) ⊎ (other ≢ name) → file_at other new ≡ file_at other (file_of name bytes ∷ old)
    by_name (inl same) = ap (λ n. file_at n new) same ∙ put.0 ∙ sym first.0 ∙ ap (λ n. file_at n (file_of name bytes ∷ old)) (sym same)
    by_name (inr differ) = put.1 other differ ∙ sym (first.1 other differ)

-- a file that is there is as after it was put
pub after-there : (name bytes : List ℕ) (files : List MemFile) → file_at name files ≡ Some bytes → IsAfter (file_of name bytes ∷ []) files files
after-there name bytes files there = after-put name bytes files files (there, λ other differ. refl)

-- ---- moments

-- moments go on over a longer list
during-front : (xs ys old files : List MemFile) (k : ℕ) → k < length xs → IsDuring xs k old files → IsDuring (xs ++ ys) k old files
during-front xs ys old files k small (inl at) = inl (subst (λ ps. IsAfter ps old files) (sym (take-append-le k xs ys (omega (arith, small)))) at)
during-front xs ys old files k small (inr at) = inr (subst (λ ps. IsAfter ps old files) (sym (take-append-le (k + 1) xs ys (omega (arith, small)))) at)

during-back : (xs ys old mid files : List MemFile) (k : ℕ) → IsAfter xs old mid → IsDuring ys k mid files → IsDuring (xs ++ ys) (length xs + k) old files
during-back xs ys old mid files k first (inl at) = inl (subst (λ ps. IsAfter ps old files) (sym (take-append-add xs ys k)) (after-then xs (take k ys) old mid files first at))
during-back xs ys old mid files k first (inr at) =
    let same : length xs + k + 1 ≡ length xs + (k + 1) = omega arith in
    inr (subst (λ ps. IsAfter ps old files) (sym (ap (λ n. take n (xs ++ ys)) same ∙ take-append-add xs ys (k + 1))) (after-then xs (take (k + 1) ys) old mid files first at))

pub passes-more : (xs ys old : List MemFile) (n : ℕ) (ms : List (List MemFile)) (end : List MemFile) → Passes xs old n ms end → Passes (xs ++ ys) old n ms end
passes-more xs ys old n [] end (k, later, few, at) =
    let long = length-append xs ys in
    (k, later, omega (arith, few, long), subst (λ ps. IsAfter ps old end) (sym (take-append-le k xs ys few)) at)
passes-more xs ys old n (files ∷ ms) end (k, later, small, during, rest) =
    let long = length-append xs ys in
    (k, later, omega (arith, small, long), during-front xs ys old files k small during, passes-more xs ys old k ms end rest)

passes-back : (xs ys old mid : List MemFile) (n j : ℕ) (ms : List (List MemFile)) (end : List MemFile) → IsAfter xs old mid → n ≤ length xs + j → Passes ys mid j ms end → Passes (xs ++ ys) old n ms end
passes-back xs ys old mid n j [] end first from (k, later, few, at) =
    let long = length-append xs ys in
    (length xs + k, omega (arith, from, later), omega (arith, few, long), subst (λ ps. IsAfter ps old end) (sym (take-append-add xs ys k)) (after-then xs (take k ys) old mid end first at))
passes-back xs ys old mid n j (files ∷ ms) end first from (k, later, small, during, rest) =
    let long = length-append xs ys in (
      length xs + k,
      omega (arith, from, later),
      omega (arith, small, long),
      during-back xs ys old mid files k first during,
      passes-back xs ys old mid (length xs + k) k ms end first (omega arith) rest,
    )

passes-join : (xs ys old mid end' : List MemFile) (n : ℕ) (ms ms' : List (List MemFile)) (end : List MemFile) → n ≤ length xs → IsAfter xs old mid
    → Passes xs old n ms end' → Passes ys mid 0 ms' end → Passes (xs ++ ys) old n (ms ++ ms') end
passes-join xs ys old mid end' n [] ms' end few first one two = passes-back xs ys old mid n 0 ms' end first (omega (arith, few)) two
passes-join xs ys old mid end' n (files ∷ ms) ms' end few first (k, later, small, during, rest) two =
    let long = length-append xs ys in
    (k, later, omega (arith, small, long), during-front xs ys old files k small during, passes-join xs ys old mid end' k ms ms' end (omega (arith, small)) first rest two)

-- ---- stores

pub lays-none : (old new : Store) → SameStore old new → LaysAll [] old new
lays-none old new same = record {
  some = record { passed = []; past = same.past ∙ sym (append-nil old.past); told = λ before is. (before, same.files ∙ is, (0, omega arith, omega arith, after-none before)) };
  all = λ before after is now. none before after (sym is ∙ sym same.files ∙ now);
}
  where
    none : (before after : List MemFile) → Some before ≡ Some after → IsAfter [] before after
    none before after e = let same : before ≡ after = cc e in subst (IsAfter [] before) same (after-none before)

pub lays-some-none : (puts : List MemFile) (old new : Store) → SameStore old new → LaysSome puts old new
lays-some-none puts old new same = record {
  passed = [];
  past = same.past ∙ sym (append-nil old.past);
  told = λ before is. (before, same.files ∙ is, (0, omega arith, omega arith, after-none before));
}

pub lays-then : (xs ys : List MemFile) (a b c : Store) → LaysAll xs a b → LaysSome ys b c → LaysSome (xs ++ ys) a c
lays-then xs ys a b c first second = record {
  passed = first.some.passed ++ second.passed;
  past = second.past ∙ ap (λ past. past ++ second.passed) first.some.past ∙ append_assoc a.past first.some.passed second.passed;
  told = λ before is. (
      let (mid, at, one) = first.some.told before is in
      let (after, now, two) = second.told mid at in
      (after, now, passes-join xs ys before mid mid 0 first.some.passed second.passed after (omega arith) (first.all before mid is at) one two));
}

pub lays-all-then : (xs ys : List MemFile) (a b c : Store) → LaysAll xs a b → LaysAll ys b c → LaysAll (xs ++ ys) a c
lays-all-then xs ys a b c first second = record {
  some = lays-then xs ys a b c first second.some;
  all = λ before after is now. (
      let (mid, at, one) = first.some.told before is in
      after-then xs ys before mid after (first.all before mid is at) (second.all mid after at now));
}

pub lays-more : (xs ys : List MemFile) (a b : Store) → LaysSome xs a b → LaysSome (xs ++ ys) a b
lays-more xs ys a b some = record {
  passed = some.passed;
  past = some.past;
  told = λ before is. (let (after, now, passes) = some.told before is in (after, now, passes-more xs ys before 0 some.passed after passes));
}

-- ---- one put

during-put : (name bytes : List ℕ) (old files : List MemFile) → IsPutOrSame name bytes old files → IsDuring (file_of name bytes ∷ []) 0 old files
during-put name bytes old files (inl put) = inr (after-put name bytes old files put)
during-put name bytes old files (inr same) = inl same

passes-put : (name bytes : List ℕ) (old : List MemFile) (ms : List (List MemFile)) (end : List MemFile) → All (IsPutOrSame name bytes old) ms → IsPutOrSame name bytes old end
    → Passes (file_of name bytes ∷ []) old 0 ms end
passes-put name bytes old [] end each (inl put) = (1, omega arith, omega arith, after-put name bytes old end put)
passes-put name bytes old [] end each (inr same) = (0, omega arith, omega arith, same)
passes-put name bytes old (m ∷ ms) end each last =
    (0, omega arith, omega arith, during-put name bytes old m (each 0 m (omega arith)), passes-put name bytes old ms end (λ k d within. each (suc k) d (omega (arith, within))) last)

puts-either : {T : Type 0} (name bytes : List ℕ) (old new : List MemFile) (result : Result T DepotErr) → Puts name bytes old new result → IsPutOrSame name bytes old new
puts-either name bytes old new (Ok done) put = inl put
puts-either name bytes old new (Err cause) put = put

told-put : (a b : Option (List MemFile)) (R : List MemFile → List MemFile → Type 0) → MatchOption a (IsNone b) (λ old. IsSomeAnd b (λ new. R old new))
    → (old : List MemFile) → a ≡ Some old → (new : List MemFile) × (b ≡ Some new) × R old new
told-put None b R told x is = absurd (cc is)
told-put (Some old) None R told x is = absurd told
told-put (Some old) (Some new) R told x is = let same : old ≡ x = cc is in (new, refl, subst (λ o. R o new) same told)

pub told-at : (o : Option (List MemFile)) (P : List MemFile → Type 0) (x : List MemFile) → o ≡ Some x → IfSome o P → P x
told-at None P x is holds = absurd (cc is)
told-at (Some y) P x is holds = let same : y ≡ x = cc is in subst P same holds

pub put-some : {T : Type 0} (name bytes : List ℕ) (old new : Store) (result : Result T DepotErr) → PutsAt name bytes old new result → LaysSome (file_of name bytes ∷ []) old new
put-some name bytes old new result puts = record {
  passed = puts.passed;
  past = puts.past;
  told = λ before is. (
      let (after, now, put) = told-put old.files new.files (λ b a. Puts name bytes b a result) puts.files before is in
      (after, now, passes-put name bytes before puts.passed after (told-at old.files (λ b. All (IsPutOrSame name bytes b) puts.passed) before is puts.each) (puts-either name bytes before after result put)));
}

pub put-all : {T : Type 0} (name bytes : List ℕ) (old new : Store) (done : T) → PutsAt name bytes old new (Ok done) → LaysAll (file_of name bytes ∷ []) old new
put-all name bytes old new done puts = record {
  some = put-some name bytes old new (Ok done) puts;
  all = λ before after is now. (
      let (other, at, put) = told-put old.files new.files (λ b a. IsPut name bytes b a) puts.files before is in
      let same : other ≡ after = (let e : Some other ≡ Some after = sym at ∙ now in cc e) in
      subst (IsAfter (file_of name bytes ∷ []) before) same (after-put name bytes before other put));
}

-- a store that stays, where the file is there
pub there-all : (name bytes : List ℕ) (old new : Store) → SameStore old new → ((before : List MemFile) → old.files ≡ Some before → file_at name before ≡ Some bytes) → LaysAll (file_of name bytes ∷ []) old new
there-all name bytes old new same there = record {
  some = lays-some-none (file_of name bytes ∷ []) old new same;
  all = λ before after is now. (
      let e : before ≡ after = (let e : Some before ≡ Some after = sym is ∙ sym same.files ∙ now in cc e) in
      subst (IsAfter (file_of name bytes ∷ []) before) e (after-there name bytes before (there before is)));
}

-- ---- answers of a put

pub puts-of : (name bytes : List ℕ) (old new : Store) (result : Result (Unit {0}) DepotErr) → PutsAt name bytes old new result → Lays (file_of name bytes ∷ []) old new result
puts-of name bytes old new (Ok done) puts = put-all name bytes old new done puts
puts-of name bytes old new (Err cause) puts = put-some name bytes old new (Err cause) puts

-- a store that stays and then changes
pub lays-same : (puts : List MemFile) (a b c : Store) → SameStore a b → LaysSome puts b c → LaysSome puts a c
lays-same puts a b c same some = lays-then [] puts a b c (lays-none a b same) some

pub lays-all-same : (puts : List MemFile) (a b c : Store) → SameStore a b → LaysAll puts b c → LaysAll puts a c
lays-all-same puts a b c same all = lays-all-then [] puts a b c (lays-none a b same) all

pub puts-same : (name bytes : List ℕ) (a b c : Store) (result : Result (Unit {0}) DepotErr) → SameStore a b → Lays (file_of name bytes ∷ []) b c result → Lays (file_of name bytes ∷ []) a c result
puts-same name bytes a b c (Ok done) same puts = lays-all-same (file_of name bytes ∷ []) a b c same puts
puts-same name bytes a b c (Err cause) same puts = lays-same (file_of name bytes ∷ []) a b c same puts

pub rose-same : {T : Type 0} (a b c : ℕ) (result : Result T DepotErr) → b ≡ a → FaultRose b c result → FaultRose a c result
rose-same a b c result same rose = subst (λ n. FaultRose n c result) same rose

pub if-told : (o : Option (List MemFile)) (P : List MemFile → Type 0) → ((x : List MemFile) → o ≡ Some x → P x) → IfSome o P
if-told None P each = tt
if-told (Some x) P each = each x refl

pub not-there : (found : Option (List ℕ)) (bytes : List ℕ) (spot : Spot) → IsSpotOf found bytes spot → (spot ≡ Free) ⊎ (spot ≡ Other) → found ≡ Some bytes → ⊥
not-there found bytes Free is kind there = cc (sym is ∙ there)
not-there found bytes Same is (inl kind) there = cc kind
not-there found bytes Same is (inr kind) there = cc kind
not-there found bytes Other (other, at, differ) kind there = differ (let e : Some other ≡ Some bytes = sym at ∙ there in cc e)

-- ---- what is there isn't put again

pub same-then : (a b c : Store) → SameStore a b → SameStore b c → SameStore a c
same-then a b c first second = record { files = second.files ∙ first.files; past = second.past ∙ first.past }

pub again-one : (a b : Store) (P Q : List MemFile → Type 0) → IfSome a.files (λ f. P f → SameStore a b) → IfSome a.files (λ f. P f × Q f → SameStore a b)
again-one a b P Q one = if-told a.files (λ f. P f × Q f → SameStore a b) (λ f is both. told-at a.files (λ f. P f → SameStore a b) f is one both.0)

pub again-two : (a b c : Store) (P Q : List MemFile → Type 0) → IfSome a.files (λ f. P f → SameStore a b) → IfSome b.files (λ f. Q f → SameStore b c) → IfSome a.files (λ f. P f × Q f → SameStore a c)
again-two a b c P Q one two = if-told a.files (λ f. P f × Q f → SameStore a c) (λ f is both. (
    let first = told-at a.files (λ f. P f → SameStore a b) f is one both.0 in
    same-then a b c first (told-at b.files (λ f. Q f → SameStore b c) f (first.files ∙ is) two both.1)))

-- a state that is there, and a catalogue and its hash
pub again-state : (a b c : Store) (name bytes : List ℕ) (put : Bool) (Q : List MemFile → Type 0) → IfSome a.files (λ files. MatchBool put (file_at name files ≡ None) (file_at name files ≡ Some bytes))
    → (put ≡ false → SameStore a b) → IfSome b.files (λ files. Q files → SameStore b c) → IfSome a.files (λ files. (file_at name files ≡ Some bytes) × Q files → SameStore a c)
again-state a b c name bytes put Q owed still two = if-told a.files (λ files. (file_at name files ≡ Some bytes) × Q files → SameStore a c) (λ files is both. (
    let first = still (by_put put (told-at a.files _ files is owed) both.0) in
    same-then a b c first (told-at b.files (λ f. Q f → SameStore b c) files (first.files ∙ is) two both.1)))
  where
    by_put : {o : Option (List ℕ)} (p : Bool) → MatchBool p (o ≡ None) (o ≡ Some bytes) → o ≡ Some bytes → p ≡ false
    by_put true none some = absurd (cc (sym none ∙ some))
    by_put false there some = refl
