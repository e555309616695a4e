-- Laws of scripts: lines are at most one script, what begins a script is one, and lines have one first bad line or none.
use Rattle.std.proofs.Common.{ℕ, ◌≡◌, ◌==◌, ◌<◌, ◌≤◌, ◌+◌, ◌-◌, ◌∙◌, ◌^◌, inl, inr, zero, suc, Bool, true, false, List, [], ◌∷◌, ◌++◌, map, take, length, refl, ap, sym, subst, arith, codes, decimal, Option, Some, None, IfSome, MatchOption}
use Rattle.std.specs.List.{AllByRecursion, take-map}
use Rattle.std.proofs.lemmas.Bool.{false≢true, cases_lt}
use Rattle.std.proofs.lemmas.Bool.Decides.{nat_tests}
use Rattle.std.proofs.lemmas.Fmt.{decimal_injective}
use Rattle.std.proofs.lemmas.List.{append_cancel_left, length-take, take-take}
use Rattle.std.specs.Str.{IsUtf8}
use Rattle.addr_base.proofs.TokenLemmas.{token_of_own}
use Rattle.addr_base.specs.Tokens.{token_of}
use Rattle.addr_base.specs.declared.cause.Cause.{Cause}
use Rattle.addr_base.specs.declared.cause.Cause.TheVariants.{Fault, Missing, Refused, TooLong, BadSize, BadDigest, BadImage, NoMemory}
use Rattle.addr_base.specs.declared.ids.BundleNo.{BundleNo}
use Rattle.addr_base.specs.declared.ids.OpId.{OpId}
use Rattle.addr_fields.proofs.CutLemmas.{same_cut}
use Rattle.addr_fields.proofs.NumberLemmas.{decimal_is_free}
use Rattle.addr_locate.proofs.FieldLemmas.{token_free_of_comma, token_free_of_space}
use Rattle.addr_locate.proofs.ListFieldLemmas.{same_list}
use Rattle.addr_locate.specs.declared.rows.Merge.{Merge}
use Rattle.addr_locate.specs.declared.rows.Merge.TheVariants.{UseFirst, Union, Intersection}
use Rattle.addr_script.proofs.ScriptLemmas.{no_limit_first, no_set_line}
use Rattle.addr_script.proofs.WordLemmas.{all_free, kind_free, mode_free, no_mark_token}
use Rattle.addr_script.specs.Causes.{cause_text, IsGivenCause}
use Rattle.addr_base.specs.declared.var.Var.{Var}
use Rattle.addr_script.specs.Commands.{asked_keys_field, kind_field, mode_word, one_or_all, set_line, spell, takes, AreTexts, IsCommand, IsKind, IsNone, IsOf, IsSet, Spells}
use Rattle.addr_script.specs.Scripts.{body_lines, IsScript, IsFirstBad, IsLimit, Script, limit_lines}
use Rattle.addr_script.specs.declared.command.Command.{Command}
use Rattle.addr_script.specs.declared.command.Grammar.{Grammar}
use Rattle.addr_script.specs.declared.command.Command.TheVariants.{Load, Acquire, Release, Status, Wait, References, Read, ReadAll, Count, Close, Take, Done, Fail}

-- What begins a script

each_take : {A : Type 0} (P : A → Type 0) (n : ℕ) (xs : List A) → AllByRecursion P xs → AllByRecursion P (take n xs)
each_take P zero xs each = tt
each_take P (suc n) [] each = tt
each_take P (suc n) (x ∷ xs) each = (each.0, each_take P n xs each.1)

body_take : (g : Grammar) → (n : ℕ) (vars : List Var) (commands : List Command) → AllByRecursion IsSet vars → AllByRecursion (IsOf g) commands → (vs : List Var) × (cs : List Command) × (take n (body_lines vars commands) ≡ body_lines vs cs) × AllByRecursion IsSet vs × AllByRecursion (IsOf g) cs
body_take g zero vars commands sets each = ([], [], refl, tt, tt)
body_take g (suc n) [] commands sets each = ([], take (suc n) commands, take-map spell (suc n) commands, tt, each_take (IsOf g) (suc n) commands each)
body_take g (suc n) (v ∷ vars) commands sets each = let rest = body_take g n vars commands sets.1 each in (v ∷ rest.0, rest.1, ap (λ ls. set_line v ∷ ls) rest.2, (sets.0, rest.3), rest.4)

prefix : (g : Grammar) → (lines : List (List ℕ)) (limit : Option ℕ) (vars : List Var) (commands : List Command) (n : ℕ) → lines ≡ limit_lines limit ++ body_lines vars commands → IfSome limit IsLimit → AllByRecursion IsSet vars → AllByRecursion (IsOf g) commands → length lines ≤ 100000 → (script : Script) × IsScript g (take n lines) script
prefix g lines None vars commands n whole small sets each few =
    let body = body_take g n vars commands sets each in
    (record { limit = None; vars = body.0; commands = body.1 }, record { spelled = ap (take n) whole ∙ body.2; limit = tt; vars = body.3; commands = body.4; few = omega (arith, length-take n lines) })
prefix g lines (Some limit) vars commands zero whole small sets each few =
    (record { limit = None; vars = []; commands = [] }, record { spelled = refl; limit = tt; vars = tt; commands = tt; few = omega arith })
prefix g lines (Some limit) vars commands (suc n) whole small sets each few =
    let body = body_take g n vars commands sets each in
    (record { limit = Some limit; vars = body.0; commands = body.1 }, record { spelled = ap (take (suc n)) whole ∙ ap (λ more. limit_lines (Some limit) ++ more) body.2; limit = small; vars = body.3; commands = body.4; few = omega (arith, length-take (suc n) lines) })

script_prefix : (g : Grammar) → (lines : List (List ℕ)) (script : Script) (n : ℕ) → IsScript g lines script → (front : Script) × IsScript g (take n lines) front
script_prefix g lines script n is = prefix g lines script.limit script.vars script.commands n is.spelled is.limit is.vars is.commands is.few

-- The first bad line

pub bad_no_script : (g : Grammar) → (lines : List (List ℕ)) (n : ℕ) (script : Script) → IsFirstBad g lines n → IsScript g lines script → ⊥
bad_no_script g lines n script bad is = let front = script_prefix g lines script n is in bad.bad front.0 front.1

no_earlier : (g : Grammar) → (lines : List (List ℕ)) (n m : ℕ) → IsFirstBad g lines n → IsFirstBad g lines m → n < m → ⊥
no_earlier g lines n m bad later less =
    let front = script_prefix g (take (m - 1) lines) later.before.0 n later.before.1 in
    let P : List (List ℕ) → Type 0 = λ ls. IsScript g ls front.0 in
    bad.bad front.0 (subst P (take-take n (m - 1) lines (omega arith)) front.1)

pub one_bad : (g : Grammar) → (lines : List (List ℕ)) (n m : ℕ) → IsFirstBad g lines n → IsFirstBad g lines m → n ≡ m
one_bad g lines n m bad other =
    elim (cases_lt n m) [
      | inl less ↦ absurd (no_earlier g lines n m bad other less)
      | inr at_least ↦ elim (cases_lt m n) [
        | inl more ↦ absurd (no_earlier g lines m n other bad more)
        | inr at_most ↦ omega arith
      ]
    ]

-- One spelling

-- the first two bytes of a text tell words apart by their sum
abbrev first_two : List ℕ → ℕ
first_two [] = 0
first_two (a ∷ []) = a
first_two (a ∷ b ∷ more) = a + b

apart : (m n : ℕ) → (m == n) ≡ false → m ≡ n → ⊥
apart m n differ same = let equal : (m == n) ≡ true = grind (arith, nat_tests) in false≢true (sym differ ∙ equal)

number_own : (n m : ℕ) → n < 2 ^ 32 → m < 2 ^ 32 → decimal n ≡ decimal m → n ≡ m
number_own n m small_n small_m e = decimal_injective n m (omega (arith, small_n)) (omega (arith, small_m)) e

-- a number, a space, and the rest
number_then_own : (n m : ℕ) (rest more : List ℕ) → n < 2 ^ 32 → m < 2 ^ 32 → decimal n ++ 32 ∷ rest ≡ decimal m ++ 32 ∷ more → (n ≡ m) × (rest ≡ more)
number_then_own n m rest more small_n small_m e =
    let cut = same_cut 32 (decimal n) rest (decimal m) more (decimal_is_free 32 n (omega arith) (omega (arith, small_n))) (decimal_is_free 32 m (omega arith) (omega (arith, small_m))) e in
    (number_own n m small_n small_m cut.0, cut.1)

op_own : (a b : OpId) → a.0 < 2 ^ 32 → b.0 < 2 ^ 32 → decimal a.0 ≡ decimal b.0 → a ≡ b
op_own a b small_a small_b e = ap {B = OpId} (λ (n : ℕ). record { 0 = n }) (number_own a.0 b.0 small_a small_b e)

bundle_own : (a b : BundleNo) → a.0 < 2 ^ 32 → b.0 < 2 ^ 32 → decimal a.0 ≡ decimal b.0 → a ≡ b
bundle_own a b small_a small_b e = ap {B = BundleNo} (λ (n : ℕ). record { 0 = n }) (number_own a.0 b.0 small_a small_b e)

bundle_then_own : (a b : BundleNo) (rest more : List ℕ) → a.0 < 2 ^ 32 → b.0 < 2 ^ 32 → decimal a.0 ++ 32 ∷ rest ≡ decimal b.0 ++ 32 ∷ more → (a ≡ b) × (rest ≡ more)
bundle_then_own a b rest more small_a small_b e =
    let parts = number_then_own a.0 b.0 rest more small_a small_b e in
    (ap {B = BundleNo} (λ (n : ℕ). record { 0 = n }) parts.0, parts.1)

keys_own : (keys others : List (List ℕ)) → AreTexts keys → AreTexts others → asked_keys_field keys ≡ asked_keys_field others → keys ≡ others
keys_own keys others are also e = same_list token_of IsUtf8 token_free_of_comma token_of_own (asked_keys_field keys) keys others are.0 also.0 are.1 also.1 refl e

cause_own : (a b : Cause) → IsGivenCause a → IsGivenCause b → cause_text a ≡ cause_text b → a ≡ b
cause_own (Fault n) (Fault n_2) is other e = ap Fault (decimal_injective n n_2 is other (append_cancel_left (codes "fault:") (decimal n) (decimal n_2) e))
cause_own (Fault n) Missing is other e = absurd (apart 199 214 refl (ap first_two e))
cause_own (Fault n) (Refused n_2) is other e = absurd (apart 199 215 refl (ap first_two e))
cause_own (Fault n) (TooLong n_2) is other e = absurd (apart 199 227 refl (ap first_two e))
cause_own (Fault n) (BadSize want_2 got_2) is other e = absurd other
cause_own (Fault n) (BadDigest want_2 got_2) is other e = absurd other
cause_own (Fault n) (BadImage layer_2 number_2) is other e = absurd other
cause_own (Fault n) NoMemory is other e = absurd other
cause_own Missing (Fault n_2) is other e = absurd (apart 214 199 refl (ap first_two e))
cause_own Missing Missing is other e = refl
cause_own Missing (Refused n_2) is other e = absurd (apart 214 215 refl (ap first_two e))
cause_own Missing (TooLong n_2) is other e = absurd (apart 214 227 refl (ap first_two e))
cause_own Missing (BadSize want_2 got_2) is other e = absurd other
cause_own Missing (BadDigest want_2 got_2) is other e = absurd other
cause_own Missing (BadImage layer_2 number_2) is other e = absurd other
cause_own Missing NoMemory is other e = absurd other
cause_own (Refused n) (Fault n_2) is other e = absurd (apart 215 199 refl (ap first_two e))
cause_own (Refused n) Missing is other e = absurd (apart 215 214 refl (ap first_two e))
cause_own (Refused n) (Refused n_2) is other e = ap Refused (decimal_injective n n_2 (omega (arith, is)) (omega (arith, other)) (append_cancel_left (codes "refused:") (decimal n) (decimal n_2) e))
cause_own (Refused n) (TooLong n_2) is other e = absurd (apart 215 227 refl (ap first_two e))
cause_own (Refused n) (BadSize want_2 got_2) is other e = absurd other
cause_own (Refused n) (BadDigest want_2 got_2) is other e = absurd other
cause_own (Refused n) (BadImage layer_2 number_2) is other e = absurd other
cause_own (Refused n) NoMemory is other e = absurd other
cause_own (TooLong n) (Fault n_2) is other e = absurd (apart 227 199 refl (ap first_two e))
cause_own (TooLong n) Missing is other e = absurd (apart 227 214 refl (ap first_two e))
cause_own (TooLong n) (Refused n_2) is other e = absurd (apart 227 215 refl (ap first_two e))
cause_own (TooLong n) (TooLong n_2) is other e = ap TooLong (decimal_injective n n_2 is other (append_cancel_left (codes "toolong:") (decimal n) (decimal n_2) e))
cause_own (TooLong n) (BadSize want_2 got_2) is other e = absurd other
cause_own (TooLong n) (BadDigest want_2 got_2) is other e = absurd other
cause_own (TooLong n) (BadImage layer_2 number_2) is other e = absurd other
cause_own (TooLong n) NoMemory is other e = absurd other
cause_own (BadSize want got) b is other e = absurd is
cause_own (BadDigest want got) b is other e = absurd is
cause_own (BadImage layer number) b is other e = absurd is
cause_own NoMemory b is other e = absurd is

-- which rows a load asks for, how its keys are joined, and of which type
all_own : (a b : Bool) → one_or_all a ≡ one_or_all b → a ≡ b
all_own false false e = refl
all_own true true e = refl
all_own false true e = absurd (apart 221 205 refl (ap first_two e))
all_own true false e = absurd (apart 205 221 refl (ap first_two e))

mode_own : (a b : Merge) → mode_word a ≡ mode_word b → a ≡ b
mode_own UseFirst UseFirst e = refl
mode_own Union Union e = refl
mode_own Intersection Intersection e = refl
mode_own UseFirst Union e = absurd (apart 207 227 refl (ap first_two e))
mode_own UseFirst Intersection e = absurd (apart 207 215 refl (ap first_two e))
mode_own Union UseFirst e = absurd (apart 227 207 refl (ap first_two e))
mode_own Union Intersection e = absurd (apart 227 215 refl (ap first_two e))
mode_own Intersection UseFirst e = absurd (apart 215 207 refl (ap first_two e))
mode_own Intersection Union e = absurd (apart 215 227 refl (ap first_two e))

kind_own : (a b : Option (List ℕ)) → IsKind a → IsKind b → kind_field a ≡ kind_field b → a ≡ b
kind_own None None is other e = refl
kind_own None (Some t) is other e = absurd (no_mark_token t other (sym e))
kind_own (Some t) None is other e = absurd (no_mark_token t is e)
kind_own (Some t) (Some u) is other e = ap Some (token_of_own t u is other e)

load_own : (caller caller_2 : ℕ) (all all_2 : Bool) (mode mode_2 : Merge) (kind kind_2 : Option (List ℕ)) (keys keys_2 : List (List ℕ)) → IsCommand (Load caller all mode kind keys) → IsCommand (Load caller_2 all_2 mode_2 kind_2 keys_2) → spell (Load caller all mode kind keys) ≡ spell (Load caller_2 all_2 mode_2 kind_2 keys_2) → Load caller all mode kind keys ≡ Load caller_2 all_2 mode_2 kind_2 keys_2
load_own caller caller_2 all all_2 mode mode_2 kind kind_2 keys keys_2 is other e =
    let d = asked_keys_field keys in
    let d_2 = asked_keys_field keys_2 in
    let c = kind_field kind ++ 32 ∷ d in
    let c_2 = kind_field kind_2 ++ 32 ∷ d_2 in
    let b = mode_word mode ++ 32 ∷ c in
    let b_2 = mode_word mode_2 ++ 32 ∷ c_2 in
    let a = one_or_all all ++ 32 ∷ b in
    let a_2 = one_or_all all_2 ++ 32 ∷ b_2 in
    let first = number_then_own caller caller_2 a a_2 is.0 other.0 (append_cancel_left (codes "load ") (decimal caller ++ 32 ∷ a) (decimal caller_2 ++ 32 ∷ a_2) e) in
    let second = same_cut 32 (one_or_all all) b (one_or_all all_2) b_2 (all_free all) (all_free all_2) first.1 in
    let third = same_cut 32 (mode_word mode) c (mode_word mode_2) c_2 (mode_free mode) (mode_free mode_2) second.1 in
    let fourth = same_cut 32 (kind_field kind) d (kind_field kind_2) d_2 (kind_free kind is.1) (kind_free kind_2 other.1) third.1 in
    let same_all = all_own all all_2 second.0 in
    let same_mode = mode_own mode mode_2 third.0 in
    let same_kind = kind_own kind kind_2 is.1 other.1 fourth.0 in
    let same_keys = keys_own keys keys_2 is.2.0 other.2.0 fourth.1 in
    cc (first.0, same_all, same_mode, same_kind, same_keys)

-- the first byte of a text
abbrev first_byte : List ℕ → ℕ
first_byte [] = 0
first_byte (a ∷ more) = a

-- bytes that tell the words of the commands apart by their sum, `wait` and `done` aside
abbrev word_mark : List ℕ → ℕ
word_mark (a ∷ b ∷ c ∷ d ∷ e ∷ more) = a + b + c + e
word_mark short = 0

spell_own : (a b : Command) → IsCommand a → IsCommand b → spell a ≡ spell b → a ≡ b
spell_own (Load caller all mode kind keys) (Load caller_2 all_2 mode_2 kind_2 keys_2) is other e = load_own caller caller_2 all all_2 mode mode_2 kind kind_2 keys keys_2 is other e
spell_own (Load caller all mode kind keys) (Acquire caller_2 op_2) is other e = absurd (apart 348 414 refl (ap word_mark e))
spell_own (Load caller all mode kind keys) (Release caller_2 op_2) is other e = absurd (apart 348 420 refl (ap word_mark e))
spell_own (Load caller all mode kind keys) (Status op_2) is other e = absurd (apart 348 445 refl (ap word_mark e))
spell_own (Load caller all mode kind keys) (Wait op_2) is other e = absurd (apart 348 353 refl (ap word_mark e))
spell_own (Load caller all mode kind keys) (References op_2) is other e = absurd (apart 348 349 refl (ap word_mark e))
spell_own (Load caller all mode kind keys) (Read op_2 i_2) is other e = absurd (apart 348 344 refl (ap word_mark e))
spell_own (Load caller all mode kind keys) (ReadAll op_2 i_2) is other e = absurd (apart 348 409 refl (ap word_mark e))
spell_own (Load caller all mode kind keys) (Count b_2) is other e = absurd (apart 348 443 refl (ap word_mark e))
spell_own (Load caller all mode kind keys) Close is other e = absurd (apart 348 419 refl (ap word_mark e))
spell_own (Load caller all mode kind keys) (Take worker_2) is other e = absurd (apart 348 352 refl (ap word_mark e))
spell_own (Load caller all mode kind keys) (Done worker_2 b_2) is other e = absurd (apart 348 353 refl (ap word_mark e))
spell_own (Load caller all mode kind keys) (Fail worker_2 b_2 cause_2) is other e = absurd (apart 348 336 refl (ap word_mark e))
spell_own (Acquire caller op) (Load caller_2 all_2 mode_2 kind_2 keys_2) is other e = absurd (apart 414 348 refl (ap word_mark e))
spell_own (Acquire caller op) (Acquire caller_2 op_2) is other e =
    let same = number_then_own caller caller_2 (decimal op.0) (decimal op_2.0) is.0 other.0 (append_cancel_left (codes "acquire ") (decimal caller ++ 32 ∷ decimal op.0) (decimal caller_2 ++ 32 ∷ decimal op_2.0) e) in
    cc (same.0, op_own op op_2 is.1 other.1 same.1)
spell_own (Acquire caller op) (Release caller_2 op_2) is other e = absurd (apart 414 420 refl (ap word_mark e))
spell_own (Acquire caller op) (Status op_2) is other e = absurd (apart 414 445 refl (ap word_mark e))
spell_own (Acquire caller op) (Wait op_2) is other e = absurd (apart 414 353 refl (ap word_mark e))
spell_own (Acquire caller op) (References op_2) is other e = absurd (apart 414 349 refl (ap word_mark e))
spell_own (Acquire caller op) (Read op_2 i_2) is other e = absurd (apart 414 344 refl (ap word_mark e))
spell_own (Acquire caller op) (ReadAll op_2 i_2) is other e = absurd (apart 414 409 refl (ap word_mark e))
spell_own (Acquire caller op) (Count b_2) is other e = absurd (apart 414 443 refl (ap word_mark e))
spell_own (Acquire caller op) Close is other e = absurd (apart 414 419 refl (ap word_mark e))
spell_own (Acquire caller op) (Take worker_2) is other e = absurd (apart 414 352 refl (ap word_mark e))
spell_own (Acquire caller op) (Done worker_2 b_2) is other e = absurd (apart 414 353 refl (ap word_mark e))
spell_own (Acquire caller op) (Fail worker_2 b_2 cause_2) is other e = absurd (apart 414 336 refl (ap word_mark e))
spell_own (Release caller op) (Load caller_2 all_2 mode_2 kind_2 keys_2) is other e = absurd (apart 420 348 refl (ap word_mark e))
spell_own (Release caller op) (Acquire caller_2 op_2) is other e = absurd (apart 420 414 refl (ap word_mark e))
spell_own (Release caller op) (Release caller_2 op_2) is other e =
    let same = number_then_own caller caller_2 (decimal op.0) (decimal op_2.0) is.0 other.0 (append_cancel_left (codes "release ") (decimal caller ++ 32 ∷ decimal op.0) (decimal caller_2 ++ 32 ∷ decimal op_2.0) e) in
    cc (same.0, op_own op op_2 is.1 other.1 same.1)
spell_own (Release caller op) (Status op_2) is other e = absurd (apart 420 445 refl (ap word_mark e))
spell_own (Release caller op) (Wait op_2) is other e = absurd (apart 420 353 refl (ap word_mark e))
spell_own (Release caller op) (References op_2) is other e = absurd (apart 420 349 refl (ap word_mark e))
spell_own (Release caller op) (Read op_2 i_2) is other e = absurd (apart 420 344 refl (ap word_mark e))
spell_own (Release caller op) (ReadAll op_2 i_2) is other e = absurd (apart 420 409 refl (ap word_mark e))
spell_own (Release caller op) (Count b_2) is other e = absurd (apart 420 443 refl (ap word_mark e))
spell_own (Release caller op) Close is other e = absurd (apart 420 419 refl (ap word_mark e))
spell_own (Release caller op) (Take worker_2) is other e = absurd (apart 420 352 refl (ap word_mark e))
spell_own (Release caller op) (Done worker_2 b_2) is other e = absurd (apart 420 353 refl (ap word_mark e))
spell_own (Release caller op) (Fail worker_2 b_2 cause_2) is other e = absurd (apart 420 336 refl (ap word_mark e))
spell_own (Status op) (Load caller_2 all_2 mode_2 kind_2 keys_2) is other e = absurd (apart 445 348 refl (ap word_mark e))
spell_own (Status op) (Acquire caller_2 op_2) is other e = absurd (apart 445 414 refl (ap word_mark e))
spell_own (Status op) (Release caller_2 op_2) is other e = absurd (apart 445 420 refl (ap word_mark e))
spell_own (Status op) (Status op_2) is other e = ap Status (op_own op op_2 is other (append_cancel_left (codes "status ") (decimal op.0) (decimal op_2.0) e))
spell_own (Status op) (Wait op_2) is other e = absurd (apart 445 353 refl (ap word_mark e))
spell_own (Status op) (References op_2) is other e = absurd (apart 445 349 refl (ap word_mark e))
spell_own (Status op) (Read op_2 i_2) is other e = absurd (apart 445 344 refl (ap word_mark e))
spell_own (Status op) (ReadAll op_2 i_2) is other e = absurd (apart 445 409 refl (ap word_mark e))
spell_own (Status op) (Count b_2) is other e = absurd (apart 445 443 refl (ap word_mark e))
spell_own (Status op) Close is other e = absurd (apart 445 419 refl (ap word_mark e))
spell_own (Status op) (Take worker_2) is other e = absurd (apart 445 352 refl (ap word_mark e))
spell_own (Status op) (Done worker_2 b_2) is other e = absurd (apart 445 353 refl (ap word_mark e))
spell_own (Status op) (Fail worker_2 b_2 cause_2) is other e = absurd (apart 445 336 refl (ap word_mark e))
spell_own (Wait op) (Load caller_2 all_2 mode_2 kind_2 keys_2) is other e = absurd (apart 353 348 refl (ap word_mark e))
spell_own (Wait op) (Acquire caller_2 op_2) is other e = absurd (apart 353 414 refl (ap word_mark e))
spell_own (Wait op) (Release caller_2 op_2) is other e = absurd (apart 353 420 refl (ap word_mark e))
spell_own (Wait op) (Status op_2) is other e = absurd (apart 353 445 refl (ap word_mark e))
spell_own (Wait op) (Wait op_2) is other e = ap Wait (op_own op op_2 is other (append_cancel_left (codes "wait ") (decimal op.0) (decimal op_2.0) e))
spell_own (Wait op) (References op_2) is other e = absurd (apart 353 349 refl (ap word_mark e))
spell_own (Wait op) (Read op_2 i_2) is other e = absurd (apart 353 344 refl (ap word_mark e))
spell_own (Wait op) (ReadAll op_2 i_2) is other e = absurd (apart 353 409 refl (ap word_mark e))
spell_own (Wait op) (Count b_2) is other e = absurd (apart 353 443 refl (ap word_mark e))
spell_own (Wait op) Close is other e = absurd (apart 353 419 refl (ap word_mark e))
spell_own (Wait op) (Take worker_2) is other e = absurd (apart 353 352 refl (ap word_mark e))
spell_own (Wait op) (Done worker_2 b_2) is other e = absurd (apart 119 100 refl (ap first_byte e))
spell_own (Wait op) (Fail worker_2 b_2 cause_2) is other e = absurd (apart 353 336 refl (ap word_mark e))
spell_own (References op) (Load caller_2 all_2 mode_2 kind_2 keys_2) is other e = absurd (apart 349 348 refl (ap word_mark e))
spell_own (References op) (Acquire caller_2 op_2) is other e = absurd (apart 349 414 refl (ap word_mark e))
spell_own (References op) (Release caller_2 op_2) is other e = absurd (apart 349 420 refl (ap word_mark e))
spell_own (References op) (Status op_2) is other e = absurd (apart 349 445 refl (ap word_mark e))
spell_own (References op) (Wait op_2) is other e = absurd (apart 349 353 refl (ap word_mark e))
spell_own (References op) (References op_2) is other e = ap References (op_own op op_2 is other (append_cancel_left (codes "refs ") (decimal op.0) (decimal op_2.0) e))
spell_own (References op) (Read op_2 i_2) is other e = absurd (apart 349 344 refl (ap word_mark e))
spell_own (References op) (ReadAll op_2 i_2) is other e = absurd (apart 349 409 refl (ap word_mark e))
spell_own (References op) (Count b_2) is other e = absurd (apart 349 443 refl (ap word_mark e))
spell_own (References op) Close is other e = absurd (apart 349 419 refl (ap word_mark e))
spell_own (References op) (Take worker_2) is other e = absurd (apart 349 352 refl (ap word_mark e))
spell_own (References op) (Done worker_2 b_2) is other e = absurd (apart 349 353 refl (ap word_mark e))
spell_own (References op) (Fail worker_2 b_2 cause_2) is other e = absurd (apart 349 336 refl (ap word_mark e))
spell_own (Read op i) (Load caller_2 all_2 mode_2 kind_2 keys_2) is other e = absurd (apart 344 348 refl (ap word_mark e))
spell_own (Read op i) (Acquire caller_2 op_2) is other e = absurd (apart 344 414 refl (ap word_mark e))
spell_own (Read op i) (Release caller_2 op_2) is other e = absurd (apart 344 420 refl (ap word_mark e))
spell_own (Read op i) (Status op_2) is other e = absurd (apart 344 445 refl (ap word_mark e))
spell_own (Read op i) (Wait op_2) is other e = absurd (apart 344 353 refl (ap word_mark e))
spell_own (Read op i) (References op_2) is other e = absurd (apart 344 349 refl (ap word_mark e))
spell_own (Read op i) (Read op_2 i_2) is other e =
    let same = number_then_own op.0 op_2.0 (decimal i) (decimal i_2) is.0 other.0 (append_cancel_left (codes "read ") (decimal op.0 ++ 32 ∷ decimal i) (decimal op_2.0 ++ 32 ∷ decimal i_2) e) in
    let ops = ap {B = OpId} (λ (n : ℕ). record { 0 = n }) same.0 in
    cc (ops, number_own i i_2 is.1 other.1 same.1)
spell_own (Read op i) (ReadAll op_2 i_2) is other e = absurd (apart 344 409 refl (ap word_mark e))
spell_own (Read op i) (Count b_2) is other e = absurd (apart 344 443 refl (ap word_mark e))
spell_own (Read op i) Close is other e = absurd (apart 344 419 refl (ap word_mark e))
spell_own (Read op i) (Take worker_2) is other e = absurd (apart 344 352 refl (ap word_mark e))
spell_own (Read op i) (Done worker_2 b_2) is other e = absurd (apart 344 353 refl (ap word_mark e))
spell_own (Read op i) (Fail worker_2 b_2 cause_2) is other e = absurd (apart 344 336 refl (ap word_mark e))
spell_own (ReadAll op i) (Load caller_2 all_2 mode_2 kind_2 keys_2) is other e = absurd (apart 409 348 refl (ap word_mark e))
spell_own (ReadAll op i) (Acquire caller_2 op_2) is other e = absurd (apart 409 414 refl (ap word_mark e))
spell_own (ReadAll op i) (Release caller_2 op_2) is other e = absurd (apart 409 420 refl (ap word_mark e))
spell_own (ReadAll op i) (Status op_2) is other e = absurd (apart 409 445 refl (ap word_mark e))
spell_own (ReadAll op i) (Wait op_2) is other e = absurd (apart 409 353 refl (ap word_mark e))
spell_own (ReadAll op i) (References op_2) is other e = absurd (apart 409 349 refl (ap word_mark e))
spell_own (ReadAll op i) (Read op_2 i_2) is other e = absurd (apart 409 344 refl (ap word_mark e))
spell_own (ReadAll op i) (ReadAll op_2 i_2) is other e =
    let same = number_then_own op.0 op_2.0 (decimal i) (decimal i_2) is.0 other.0 (append_cancel_left (codes "readall ") (decimal op.0 ++ 32 ∷ decimal i) (decimal op_2.0 ++ 32 ∷ decimal i_2) e) in
    let ops = ap {B = OpId} (λ (n : ℕ). record { 0 = n }) same.0 in
    cc (ops, number_own i i_2 is.1 other.1 same.1)
spell_own (ReadAll op i) (Count b_2) is other e = absurd (apart 409 443 refl (ap word_mark e))
spell_own (ReadAll op i) Close is other e = absurd (apart 409 419 refl (ap word_mark e))
spell_own (ReadAll op i) (Take worker_2) is other e = absurd (apart 409 352 refl (ap word_mark e))
spell_own (ReadAll op i) (Done worker_2 b_2) is other e = absurd (apart 409 353 refl (ap word_mark e))
spell_own (ReadAll op i) (Fail worker_2 b_2 cause_2) is other e = absurd (apart 409 336 refl (ap word_mark e))
spell_own (Count b) (Load caller_2 all_2 mode_2 kind_2 keys_2) is other e = absurd (apart 443 348 refl (ap word_mark e))
spell_own (Count b) (Acquire caller_2 op_2) is other e = absurd (apart 443 414 refl (ap word_mark e))
spell_own (Count b) (Release caller_2 op_2) is other e = absurd (apart 443 420 refl (ap word_mark e))
spell_own (Count b) (Status op_2) is other e = absurd (apart 443 445 refl (ap word_mark e))
spell_own (Count b) (Wait op_2) is other e = absurd (apart 443 353 refl (ap word_mark e))
spell_own (Count b) (References op_2) is other e = absurd (apart 443 349 refl (ap word_mark e))
spell_own (Count b) (Read op_2 i_2) is other e = absurd (apart 443 344 refl (ap word_mark e))
spell_own (Count b) (ReadAll op_2 i_2) is other e = absurd (apart 443 409 refl (ap word_mark e))
spell_own (Count b) (Count b_2) is other e = ap Count (bundle_own b b_2 is other (append_cancel_left (codes "count ") (decimal b.0) (decimal b_2.0) e))
spell_own (Count b) Close is other e = absurd (apart 443 419 refl (ap word_mark e))
spell_own (Count b) (Take worker_2) is other e = absurd (apart 443 352 refl (ap word_mark e))
spell_own (Count b) (Done worker_2 b_2) is other e = absurd (apart 443 353 refl (ap word_mark e))
spell_own (Count b) (Fail worker_2 b_2 cause_2) is other e = absurd (apart 443 336 refl (ap word_mark e))
spell_own Close (Load caller_2 all_2 mode_2 kind_2 keys_2) is other e = absurd (apart 419 348 refl (ap word_mark e))
spell_own Close (Acquire caller_2 op_2) is other e = absurd (apart 419 414 refl (ap word_mark e))
spell_own Close (Release caller_2 op_2) is other e = absurd (apart 419 420 refl (ap word_mark e))
spell_own Close (Status op_2) is other e = absurd (apart 419 445 refl (ap word_mark e))
spell_own Close (Wait op_2) is other e = absurd (apart 419 353 refl (ap word_mark e))
spell_own Close (References op_2) is other e = absurd (apart 419 349 refl (ap word_mark e))
spell_own Close (Read op_2 i_2) is other e = absurd (apart 419 344 refl (ap word_mark e))
spell_own Close (ReadAll op_2 i_2) is other e = absurd (apart 419 409 refl (ap word_mark e))
spell_own Close (Count b_2) is other e = absurd (apart 419 443 refl (ap word_mark e))
spell_own Close Close is other e = refl
spell_own Close (Take worker_2) is other e = absurd (apart 419 352 refl (ap word_mark e))
spell_own Close (Done worker_2 b_2) is other e = absurd (apart 419 353 refl (ap word_mark e))
spell_own Close (Fail worker_2 b_2 cause_2) is other e = absurd (apart 419 336 refl (ap word_mark e))
spell_own (Take worker) (Load caller_2 all_2 mode_2 kind_2 keys_2) is other e = absurd (apart 352 348 refl (ap word_mark e))
spell_own (Take worker) (Acquire caller_2 op_2) is other e = absurd (apart 352 414 refl (ap word_mark e))
spell_own (Take worker) (Release caller_2 op_2) is other e = absurd (apart 352 420 refl (ap word_mark e))
spell_own (Take worker) (Status op_2) is other e = absurd (apart 352 445 refl (ap word_mark e))
spell_own (Take worker) (Wait op_2) is other e = absurd (apart 352 353 refl (ap word_mark e))
spell_own (Take worker) (References op_2) is other e = absurd (apart 352 349 refl (ap word_mark e))
spell_own (Take worker) (Read op_2 i_2) is other e = absurd (apart 352 344 refl (ap word_mark e))
spell_own (Take worker) (ReadAll op_2 i_2) is other e = absurd (apart 352 409 refl (ap word_mark e))
spell_own (Take worker) (Count b_2) is other e = absurd (apart 352 443 refl (ap word_mark e))
spell_own (Take worker) Close is other e = absurd (apart 352 419 refl (ap word_mark e))
spell_own (Take worker) (Take worker_2) is other e = ap Take (number_own worker worker_2 is other (append_cancel_left (codes "take ") (decimal worker) (decimal worker_2) e))
spell_own (Take worker) (Done worker_2 b_2) is other e = absurd (apart 352 353 refl (ap word_mark e))
spell_own (Take worker) (Fail worker_2 b_2 cause_2) is other e = absurd (apart 352 336 refl (ap word_mark e))
spell_own (Done worker b) (Load caller_2 all_2 mode_2 kind_2 keys_2) is other e = absurd (apart 353 348 refl (ap word_mark e))
spell_own (Done worker b) (Acquire caller_2 op_2) is other e = absurd (apart 353 414 refl (ap word_mark e))
spell_own (Done worker b) (Release caller_2 op_2) is other e = absurd (apart 353 420 refl (ap word_mark e))
spell_own (Done worker b) (Status op_2) is other e = absurd (apart 353 445 refl (ap word_mark e))
spell_own (Done worker b) (Wait op_2) is other e = absurd (apart 100 119 refl (ap first_byte e))
spell_own (Done worker b) (References op_2) is other e = absurd (apart 353 349 refl (ap word_mark e))
spell_own (Done worker b) (Read op_2 i_2) is other e = absurd (apart 353 344 refl (ap word_mark e))
spell_own (Done worker b) (ReadAll op_2 i_2) is other e = absurd (apart 353 409 refl (ap word_mark e))
spell_own (Done worker b) (Count b_2) is other e = absurd (apart 353 443 refl (ap word_mark e))
spell_own (Done worker b) Close is other e = absurd (apart 353 419 refl (ap word_mark e))
spell_own (Done worker b) (Take worker_2) is other e = absurd (apart 353 352 refl (ap word_mark e))
spell_own (Done worker b) (Done worker_2 b_2) is other e =
    let same = number_then_own worker worker_2 (decimal b.0) (decimal b_2.0) is.0 other.0 (append_cancel_left (codes "done ") (decimal worker ++ 32 ∷ decimal b.0) (decimal worker_2 ++ 32 ∷ decimal b_2.0) e) in
    cc (same.0, bundle_own b b_2 is.1 other.1 same.1)
spell_own (Done worker b) (Fail worker_2 b_2 cause_2) is other e = absurd (apart 353 336 refl (ap word_mark e))
spell_own (Fail worker b cause) (Load caller_2 all_2 mode_2 kind_2 keys_2) is other e = absurd (apart 336 348 refl (ap word_mark e))
spell_own (Fail worker b cause) (Acquire caller_2 op_2) is other e = absurd (apart 336 414 refl (ap word_mark e))
spell_own (Fail worker b cause) (Release caller_2 op_2) is other e = absurd (apart 336 420 refl (ap word_mark e))
spell_own (Fail worker b cause) (Status op_2) is other e = absurd (apart 336 445 refl (ap word_mark e))
spell_own (Fail worker b cause) (Wait op_2) is other e = absurd (apart 336 353 refl (ap word_mark e))
spell_own (Fail worker b cause) (References op_2) is other e = absurd (apart 336 349 refl (ap word_mark e))
spell_own (Fail worker b cause) (Read op_2 i_2) is other e = absurd (apart 336 344 refl (ap word_mark e))
spell_own (Fail worker b cause) (ReadAll op_2 i_2) is other e = absurd (apart 336 409 refl (ap word_mark e))
spell_own (Fail worker b cause) (Count b_2) is other e = absurd (apart 336 443 refl (ap word_mark e))
spell_own (Fail worker b cause) Close is other e = absurd (apart 336 419 refl (ap word_mark e))
spell_own (Fail worker b cause) (Take worker_2) is other e = absurd (apart 336 352 refl (ap word_mark e))
spell_own (Fail worker b cause) (Done worker_2 b_2) is other e = absurd (apart 336 353 refl (ap word_mark e))
spell_own (Fail worker b cause) (Fail worker_2 b_2 cause_2) is other e =
    let rest = decimal b.0 ++ 32 ∷ cause_text cause in
    let rest_2 = decimal b_2.0 ++ 32 ∷ cause_text cause_2 in
    let same = number_then_own worker worker_2 rest rest_2 is.0 other.0 (append_cancel_left (codes "fail ") (decimal worker ++ 32 ∷ rest) (decimal worker_2 ++ 32 ∷ rest_2) e) in
    let more = bundle_then_own b b_2 (cause_text cause) (cause_text cause_2) is.1 other.1 same.1 in
    cc (same.0, more.0, cause_own cause cause_2 is.2 other.2 more.1)

-- a line that spells a command which such a script may not have, or none, spells none that it may
pub taken_or_none : (g : Grammar) (line : List ℕ) (command : Command) (found : Option Command) → Spells line command → MatchOption found (takes g command ≡ false) (λ c. (c ≡ command) × (takes g command ≡ true)) → MatchOption found (IsNone g line) (λ c. IsOf g c × (line ≡ spell c))
taken_or_none g line command None is never = λ c of e. let same : c ≡ command = spell_own c command of.0 is.0 (sym e ∙ is.1) in false≢true (sym never ∙ (ap (λ z. takes g z) (sym same) ∙ of.1))
taken_or_none g line command (Some c) is took = let s : command ≡ c = sym took.0 in ((subst (λ z. IsCommand z) s is.0, subst (λ z. takes g z ≡ true) s took.1), is.1 ∙ ap spell s)

commands_own : (g : Grammar) → (commands others : List Command) → AllByRecursion (IsOf g) commands → AllByRecursion (IsOf g) others → map spell commands ≡ map spell others → commands ≡ others
commands_own g [] [] each other e = refl
commands_own g [] (b ∷ others) each other e = cc
commands_own g (a ∷ commands) [] each other e = cc
commands_own g (a ∷ commands) (b ∷ others) each other e =
    let head = spell_own a b each.0.0 other.0.0 (cc) in
    let rest = commands_own g commands others each.1 other.1 (cc) in cc (head, rest)

limit_own : (n m : ℕ) → IsLimit n → IsLimit m → codes "limit " ++ decimal n ≡ codes "limit " ++ decimal m → n ≡ m
limit_own n m is other e = number_own n m (omega (arith, is.1)) (omega (arith, other.1)) (append_cancel_left (codes "limit ") (decimal n) (decimal m) e)

set_own : (v w : Var) → IsSet v → IsSet w → set_line v ≡ set_line w → v ≡ w
set_own v w is other e =
    let rest = append_cancel_left (codes "set ") (token_of v.name ++ 32 ∷ token_of v.value) (token_of w.name ++ 32 ∷ token_of w.value) e in
    let parts = same_cut 32 (token_of v.name) (token_of v.value) (token_of w.name) (token_of w.value) (token_free_of_space v.name is.0) (token_free_of_space w.name other.0) rest in
    same_var v w (token_of_own v.name w.name is.0 other.0 parts.0) (token_of_own v.value w.value is.1 other.1 parts.1)
  where
    same_var : (a b : Var) → a.name ≡ b.name → a.value ≡ b.value → a ≡ b
    same_var a b names values = λ i. record { name = names i; value = values i }

body_own : (g : Grammar) → (vars others : List Var) (commands more : List Command) → AllByRecursion IsSet vars → AllByRecursion IsSet others → AllByRecursion (IsOf g) commands → AllByRecursion (IsOf g) more → body_lines vars commands ≡ body_lines others more → (vars ≡ others) × (commands ≡ more)
body_own g [] [] commands more sets also each other e = (refl, commands_own g commands more each other e)
body_own g [] (w ∷ others) [] more sets also each other e = cc
body_own g [] (w ∷ others) (c ∷ commands) more sets also each other e = absurd (no_set_line c w (cc))
body_own g (v ∷ vars) [] commands [] sets also each other e = cc
body_own g (v ∷ vars) [] commands (c ∷ more) sets also each other e = absurd (no_set_line c v (cc))
body_own g (v ∷ vars) (w ∷ others) commands more sets also each other e =
    let head = set_own v w sets.0 also.0 (cc) in
    let rest = body_own g vars others commands more sets.1 also.1 each other (cc) in
    (cc (head, rest.0), rest.1)

same_script : (a b : Option ℕ) (vars others : List Var) (commands more : List Command) → a ≡ b → vars ≡ others → commands ≡ more → ◌≡◌ {A = Script} (record { limit = a; vars = vars; commands = commands }) (record { limit = b; vars = others; commands = more })
same_script a b vars others commands more limits sets same = rw (limits, sets, same)

parts_own : (g : Grammar) → (a b : Option ℕ) (vars others : List Var) (commands more : List Command) → IfSome a IsLimit → IfSome b IsLimit → AllByRecursion IsSet vars → AllByRecursion IsSet others → AllByRecursion (IsOf g) commands → AllByRecursion (IsOf g) more → limit_lines a ++ body_lines vars commands ≡ limit_lines b ++ body_lines others more → (a ≡ b) × (body_lines vars commands ≡ body_lines others more)
parts_own g None None vars others commands more small_a small_b sets also each other e = (refl, e)
parts_own g None (Some m) vars others commands more small_a small_b sets also each other e = absurd (no_limit_first vars commands m (body_lines others more) e)
parts_own g (Some n) None vars others commands more small_a small_b sets also each other e = absurd (no_limit_first others more n (body_lines vars commands) (sym e))
parts_own g (Some n) (Some m) vars others commands more small_a small_b sets also each other e =
    let first : codes "limit " ++ decimal n ≡ codes "limit " ++ decimal m = cc in
    let rest : body_lines vars commands ≡ body_lines others more = cc in
    (ap Some (limit_own n m small_a small_b first), rest)

pub own_script : (g : Grammar) → (lines : List (List ℕ)) (s t : Script) → IsScript g lines s → IsScript g lines t → s ≡ t
own_script g lines s t is other =
    let parts = parts_own g s.limit t.limit s.vars t.vars s.commands t.commands is.limit other.limit is.vars other.vars is.commands other.commands (sym is.spelled ∙ other.spelled) in
    let same = body_own g s.vars t.vars s.commands t.commands is.vars other.vars is.commands other.commands parts.1 in
    same_script s.limit t.limit s.vars t.vars s.commands t.commands parts.0 same.0 same.1
