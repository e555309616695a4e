-- What is put for a text, piece by piece: for `braces`.
use Rattle.std.proofs.Common.{◌≡◌, ◌==◌, ◌<◌, ◌+◌, ℕ, suc, List, [], ◌∷◌, ◌++◌, Bool, true, false, Option, Some, None, length, get_or, refl, sym, ap, ◌∙◌, arith, append_assoc, length-append, option_map, append-nil, subst}
use Rattle.std.proofs.lemmas.Bool.{or_parts, eqb-true}
use Rattle.std.proofs.lemmas.Bool.Decides.{nat_tests}
use Rattle.std.proofs.lemmas.List.Folds.{list_any-append}
use Rattle.std.proofs.lemmas.Slice.Eq.{bytes_eq-Decides}
use Rattle.std.specs.List.{list_any}
use Rattle.std.specs.Str.{bytes_eq}
use Rattle.addr_base.specs.declared.var.Var.{Var}
use Rattle.addr_base.specs.Braces.{until_close, var_of, var_behind, braced_past, braced}

-- whether the text lacks the byte
abbrev pub Lacks : ℕ → List ℕ → Type 0
Lacks mark xs = list_any (λ b. b == mark) xs ≡ false

pub lacks_at_indices : (mark : ℕ) (xs : List ℕ) → ((i : ℕ) → i < length xs → get_or xs i 0 ≡ mark → ⊥) → Lacks mark xs
lacks_at_indices mark [] none = refl
lacks_at_indices mark (x ∷ xs) none =
    let rest = lacks_at_indices mark xs (λ i small is. none (suc i) (omega arith) is) in
    let here = none 0 (omega arith) in
    grind (arith, nat_tests, rest, here)

pub lacks_behind : (mark : ℕ) (xs ys : List ℕ) → Lacks mark (xs ++ ys) → Lacks mark ys
lacks_behind mark xs ys lacks = (or_parts (list_any (λ b. b == mark) xs) (list_any (λ b. b == mark) ys) (sym (list_any-append (λ b. b == mark) xs ys) ∙ lacks)).1

pub lacks_later : (mark b : ℕ) (xs : List ℕ) → Lacks mark (b ∷ xs) → Lacks mark xs
lacks_later mark b xs lacks = (or_parts (b == mark) (list_any (λ c. c == mark) xs) lacks).1

lacks_first : (mark b : ℕ) (xs : List ℕ) → Lacks mark (b ∷ xs) → (b == mark) ≡ false
lacks_first mark b xs lacks = (or_parts (b == mark) (list_any (λ c. c == mark) xs) lacks).0

-- the bytes before a first `}`
close_found : (bytes rest : List ℕ) → Lacks 125 bytes → until_close (bytes ++ 125 ∷ rest) ≡ Some bytes
close_found [] rest lacks = refl
close_found (b ∷ bytes) rest lacks = rw (lacks_first 125 b bytes lacks, close_found bytes rest (lacks_later 125 b bytes lacks)) refl

no_close : (bytes : List ℕ) → Lacks 125 bytes → until_close bytes ≡ None
no_close [] lacks = refl
no_close (b ∷ bytes) lacks = rw (lacks_first 125 b bytes lacks, no_close bytes (lacks_later 125 b bytes lacks)) refl

-- the step of the definition at a byte
first_stays : (vars : List Var) (b : ℕ) (rest : List ℕ) → var_behind vars b rest ≡ None → braced vars (b ∷ rest) ≡ b ∷ braced vars rest
unfolding braced_past
first_stays vars b rest none = rw none refl

-- all bytes but the front ones, which are done
past_front : (vars : List Var) (front rest : List ℕ) → braced_past vars (length front) (front ++ rest) ≡ braced vars rest
unfolding braced_past
past_front vars [] rest = refl
past_front vars (b ∷ front) rest = past_front vars front rest

past_name : (vars : List Var) (name rest : List ℕ) → braced_past vars (length name + 1) (name ++ 125 ∷ rest) ≡ braced vars rest
past_name vars name rest =
    let long : length (name ++ 125 ∷ []) ≡ length name + 1 = length-append name (125 ∷ []) in
    let whole : (name ++ 125 ∷ []) ++ rest ≡ name ++ 125 ∷ rest = append_assoc name (125 ∷ []) rest in
    rw (long, whole) at (past_front vars (name ++ 125 ∷ []) rest)

not_open : (vars : List Var) (b : ℕ) (rest : List ℕ) → (b == 123) ≡ false → var_behind vars b rest ≡ None
not_open vars b rest other = rw other refl

no_var : (vars : List Var) (b : ℕ) (rest : List ℕ) → until_close rest ≡ None → var_behind vars b rest ≡ None
no_var vars b rest none = by_test (b == 123) refl
  where
    by_test : (t : Bool) → (b == 123) ≡ t → var_behind vars b rest ≡ None
    by_test true e = rw (e, none) refl
    by_test false e = rw e refl

-- a text without a `}` stays
pub braced-without_close : (vars : List Var) (text : List ℕ) → Lacks 125 text → braced vars text ≡ text
unfolding braced_past
braced-without_close vars [] lacks = refl
braced-without_close vars (b ∷ text) lacks =
    let rest = lacks_later 125 b text lacks in
    first_stays vars b text (no_var vars b text (no_close text rest)) ∙ ap (λ bytes. b ∷ bytes) (braced-without_close vars text rest)

-- bytes before the first `{` stay
braced-before_open : (vars : List Var) (before rest : List ℕ) → Lacks 123 before → braced vars (before ++ rest) ≡ before ++ braced vars rest
braced-before_open vars [] rest lacks = refl
braced-before_open vars (b ∷ before) rest lacks =
    first_stays vars b (before ++ rest) (not_open vars b (before ++ rest) (lacks_first 123 b before lacks)) ∙ ap (λ bytes. b ∷ bytes) (braced-before_open vars before rest (lacks_later 123 b before lacks))

found_named : (vars : List Var) (name : List ℕ) (v : Var) → var_of vars name ≡ Some v → v.name ≡ name
found_named [] name v found = cc found
found_named (w ∷ vars) name v found = by_test (bytes_eq w.name name) refl (found_named vars name v)
  where
    by_test : (t : Bool) → bytes_eq w.name name ≡ t → (var_of vars name ≡ Some v → v.name ≡ name) → v.name ≡ name
    by_test true same rest =
        let is : Some w ≡ Some v = rw same at found in
        let one : w ≡ v = cc in
        ap (λ (u : Var). u.name) (sym one) ∙ (bytes_eq-Decides w.name name).0 same
    by_test false other rest = rest (rw other at found)

behind_open : (vars : List Var) (name rest : List ℕ) → Lacks 125 name → var_behind vars 123 (name ++ 125 ∷ rest) ≡ var_of vars name
behind_open vars name rest lacks = rw (close_found name rest lacks) refl

-- a name in braces gives its value, and any other bytes in braces stay
put_named : (vars : List Var) (name rest : List ℕ) (v : Var) → Lacks 125 name → var_of vars name ≡ Some v → braced vars (123 ∷ (name ++ 125 ∷ rest)) ≡ v.value ++ braced vars rest
unfolding braced_past
put_named vars name rest v lacks found =
    let behind : var_behind vars 123 (name ++ 125 ∷ rest) ≡ Some v = behind_open vars name rest lacks ∙ found in
    rw (behind, found_named vars name v found, past_name vars name rest) refl

braced-name : (vars : List Var) (name value rest : List ℕ) → Lacks 125 name → Some value ≡ option_map (λ v. v.value) (var_of vars name) → braced vars (123 ∷ (name ++ 125 ∷ rest)) ≡ value ++ braced vars rest
braced-name vars name value rest lacks known = by_var (var_of vars name) refl
  where
    by_var : (o : Option Var) → var_of vars name ≡ o → braced vars (123 ∷ (name ++ 125 ∷ rest)) ≡ value ++ braced vars rest
    by_var None found = let none : Some value ≡ None = rw found at known in cc
    by_var (Some v) found =
        let same : Some value ≡ Some v.value = rw found at known in
        let is : v.value ≡ value = cc in
        put_named vars name rest v lacks found ∙ ap (λ bytes. bytes ++ braced vars rest) is

braced-other : (vars : List Var) (name rest : List ℕ) → Lacks 125 name → None ≡ option_map (λ v. v.value) (var_of vars name) → braced vars (123 ∷ (name ++ 125 ∷ rest)) ≡ 123 ∷ braced vars (name ++ 125 ∷ rest)
braced-other vars name rest lacks unknown = by_var (var_of vars name) refl
  where
    by_var : (o : Option Var) → var_of vars name ≡ o → braced vars (123 ∷ (name ++ 125 ∷ rest)) ≡ 123 ∷ braced vars (name ++ 125 ∷ rest)
    by_var None found = first_stays vars 123 (name ++ 125 ∷ rest) (behind_open vars name rest lacks ∙ found)
    by_var (Some v) found = let some : None ≡ Some v.value = rw found at unknown in cc

-- a piece, the `}` behind it, and the rest
open_pieces : (vars : List Var) (piece rest : List ℕ) → Lacks 125 piece → braced vars (piece ++ 125 ∷ rest) ≡ braced vars (piece ++ 125 ∷ []) ++ braced vars rest → braced vars (123 ∷ (piece ++ 125 ∷ rest)) ≡ braced vars (123 ∷ (piece ++ 125 ∷ [])) ++ braced vars rest
open_pieces vars piece rest lacks later = by_var (var_of vars piece) refl
  where
    by_var : (o : Option Var) → var_of vars piece ≡ o → braced vars (123 ∷ (piece ++ 125 ∷ rest)) ≡ braced vars (123 ∷ (piece ++ 125 ∷ [])) ++ braced vars rest
    by_var None found =
        let none : None ≡ option_map (λ (v : Var). v.value) (var_of vars piece) = sym (ap (option_map (λ (v : Var). v.value)) found) in
        braced-other vars piece rest lacks none ∙ ap (λ bytes. 123 ∷ bytes) later ∙ ap (λ bytes. bytes ++ braced vars rest) (sym (braced-other vars piece [] lacks none))
    by_var (Some v) found =
        let alone : braced vars (123 ∷ (piece ++ 125 ∷ [])) ≡ v.value = put_named vars piece [] v lacks found ∙ ap (λ bytes. v.value ++ bytes) (braced-without_close vars [] refl) ∙ append-nil v.value in
        put_named vars piece rest v lacks found ∙ ap (λ bytes. bytes ++ braced vars rest) (sym alone)

pub braced-pieces : (vars : List Var) (piece rest : List ℕ) → Lacks 125 piece → braced vars (piece ++ 125 ∷ rest) ≡ braced vars (piece ++ 125 ∷ []) ++ braced vars rest
braced-pieces vars [] rest lacks =
    let one : braced vars (125 ∷ []) ≡ 125 ∷ braced vars [] = first_stays vars 125 [] refl in
    let all : braced vars (125 ∷ rest) ≡ 125 ∷ braced vars rest = first_stays vars 125 rest refl in
    let nothing : braced vars [] ≡ [] = braced-without_close vars [] refl in
    rw (all, one, nothing) refl
braced-pieces vars (b ∷ piece) rest lacks = by_test (b == 123) refl (braced-pieces vars piece rest (lacks_later 125 b piece lacks))
  where
    by_test : (t : Bool) → (b == 123) ≡ t → braced vars (piece ++ 125 ∷ rest) ≡ braced vars (piece ++ 125 ∷ []) ++ braced vars rest → braced vars (b ∷ (piece ++ 125 ∷ rest)) ≡ braced vars (b ∷ (piece ++ 125 ∷ [])) ++ braced vars rest
    by_test true e later =
        let P : ℕ → Type 0 = λ first. braced vars (first ∷ (piece ++ 125 ∷ rest)) ≡ braced vars (first ∷ (piece ++ 125 ∷ [])) ++ braced vars rest in
        subst P (sym (eqb-true b 123 e)) (open_pieces vars piece rest (lacks_later 125 b piece lacks) later)
    by_test false e later =
        first_stays vars b (piece ++ 125 ∷ rest) (not_open vars b (piece ++ 125 ∷ rest) e) ∙ ap (λ bytes. b ∷ bytes) later ∙ ap (λ bytes. bytes ++ braced vars rest) (sym (first_stays vars b (piece ++ 125 ∷ []) (not_open vars b (piece ++ 125 ∷ []) e)))

-- the loops' steps: what is put so far and what is put for the rest are the whole
pub put-piece : (vars : List Var) (rest piece behind : List ℕ) → Lacks 125 piece → rest ≡ piece ++ 125 ∷ behind → (old new whole : List ℕ) → new ≡ old ++ braced vars (piece ++ 125 ∷ []) → old ++ braced vars rest ≡ whole → new ++ braced vars behind ≡ whole
put-piece vars rest piece behind lacks cut old new whole put so_far =
    let pieces = braced-pieces vars piece behind lacks in
    let all : old ++ (braced vars (piece ++ 125 ∷ []) ++ braced vars behind) ≡ whole = rw (cut, pieces) at so_far in
    rw (put, append_assoc) all

at_open : (vars : List Var) (rest before name : List ℕ) → Lacks 123 before → rest ≡ before ++ 123 ∷ name → braced vars (rest ++ 125 ∷ []) ≡ before ++ braced vars (123 ∷ (name ++ 125 ∷ []))
at_open vars rest before name free cut = ap (λ bytes. braced vars (bytes ++ 125 ∷ [])) cut ∙ ap (braced vars) (append_assoc before (123 ∷ name) (125 ∷ [])) ∙ braced-before_open vars before (123 ∷ (name ++ 125 ∷ [])) free

pub put-name : (vars : List Var) (rest before name value : List ℕ) → Lacks 123 before → Lacks 125 name → rest ≡ before ++ 123 ∷ name → Some value ≡ option_map (λ v. v.value) (var_of vars name) → (old more new whole : List ℕ) → more ≡ old ++ before → new ≡ more ++ value → old ++ braced vars (rest ++ 125 ∷ []) ≡ whole → new ≡ whole
put-name vars rest before name value free lacks cut known old more new whole put_before put_value so_far =
    let inside : braced vars (123 ∷ (name ++ 125 ∷ [])) ≡ value = braced-name vars name value [] lacks known ∙ ap (λ bytes. value ++ bytes) (braced-without_close vars [] refl) ∙ append-nil value in
    let opened = at_open vars rest before name free cut in
    let all : old ++ (before ++ value) ≡ whole = rw (opened, inside) at so_far in
    rw (put_value, put_before, append_assoc) all

pub put-other : (vars : List Var) (rest before name : List ℕ) → Lacks 123 before → Lacks 125 name → rest ≡ before ++ 123 ∷ name → None ≡ option_map (λ v. v.value) (var_of vars name) → (old more new whole : List ℕ) → more ≡ old ++ before → new ≡ more ++ 123 ∷ [] → old ++ braced vars (rest ++ 125 ∷ []) ≡ whole → new ++ braced vars (name ++ 125 ∷ []) ≡ whole
put-other vars rest before name free lacks cut unknown old more new whole put_before put_open so_far =
    let opened = at_open vars rest before name free cut in
    let inside = braced-other vars name [] lacks unknown in
    let all : old ++ (before ++ 123 ∷ braced vars (name ++ 125 ∷ [])) ≡ whole = rw (opened, inside) at so_far in
    rw (put_open, append_assoc, put_before, append_assoc) all

pub put-last : (vars : List Var) (rest : List ℕ) → Lacks 123 rest → (old more new whole : List ℕ) → more ≡ old ++ rest → new ≡ more ++ 125 ∷ [] → old ++ braced vars (rest ++ 125 ∷ []) ≡ whole → new ≡ whole
put-last vars rest free old more new whole put_rest put_close so_far =
    let plain : braced vars (rest ++ 125 ∷ []) ≡ rest ++ 125 ∷ [] = braced-before_open vars rest (125 ∷ []) free ∙ ap (λ bytes. rest ++ bytes) (first_stays vars 125 [] refl ∙ ap (λ bytes. 125 ∷ bytes) (braced-without_close vars [] refl)) in
    let all : old ++ (rest ++ 125 ∷ []) ≡ whole = rw plain at so_far in
    rw (put_close, put_rest, append_assoc) all
