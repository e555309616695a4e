-- While the bytes end within a text of the header, bytes without a zero change nothing.
use Rattle.std.proofs.Common.{◌≡◌, ℕ, ◌+◌, ◌<◌, ◌≤◌, Bool, true, false, not, cond, eqb, ltb, List, ◌++◌, length, Option, Some, None, Result, Ok, Err, refl, sym, ap, subst, ◌∙◌, arith, length-append, eq-eqb, drop, take, ◌-◌}
use Rattle.std.specs.Prelude.{is_err}
use Rattle.std.specs.List.{position, position_or_len}
use Rattle.std.proofs.lemmas.Bool.{ltb-false, le-ltb, eqb-true}
use Rattle.std.proofs.lemmas.List.{drop_at, take_rest}
use Rattle.std.proofs.lemmas.List.Folds.{prefix_len-append}
use Rattle.std.proofs.lemmas.List.Sums.{prefix_len-le-length}
use Rattle.addr_unityfs.specs.Faults as faults
use Rattle.addr_unityfs.specs.Faults.{Sections, ◌>>=◌, Tail, place, whole, cut_at_zero, text_at, signature_at, version_at, head_at, header_read, sections_read, behind_read}
use Rattle.addr_unityfs.specs.declared.bundle.Bundle.{Bundle}
use Rattle.addr_unityfs.specs.declared.error.FsErr.{FsErr}
use Rattle.addr_unityfs.specs.declared.error.FsErr.TheVariants.{Short}
use Rattle.addr_unityfs.specs.declared.stage.Stage.{Stage}
use Rattle.addr_unityfs.specs.declared.stage.Stage.TheVariants.{Head, Info, Bad}
use Rattle.addr_unityfs.specs.within.Stages.{start_at, texts_at, text_open, in_text, told_stage, done_stage, laid_stage, header_stage, stage_of}
use Rattle.addr_unityfs.proofs.FieldLaws.{bind_ok, is_zero, ok_is}
use Rattle.addr_unityfs.proofs.OnLaws.{on, GoesOn, ok_goes, goes_then, signature_goes, version_goes, text_goes, whole_on}

-- ---- no zero in two lists is no zero in both

none_long : (b : Bool) (at len : ℕ) → (b ≡ false → len ≤ at) → cond b (Some at) None ≡ None → len ≤ at
none_long true at len out e = absurd cc
none_long false at len out e = out refl

none_full : (xs : List ℕ) → position is_zero xs ≡ None → position_or_len is_zero xs ≡ length xs
none_full xs e = omega (arith, prefix_len-le-length (λ x. not (is_zero x)) xs, none_long (ltb (position_or_len is_zero xs) (length xs)) (position_or_len is_zero xs) (length xs) (λ out. ltb-false _ _ out) e)

none_append : (xs ys : List ℕ) → position is_zero xs ≡ None → position is_zero ys ≡ None → position is_zero (xs ++ ys) ≡ None
none_append xs ys first second =
    let p : position_or_len is_zero (xs ++ ys) ≡ length xs + length ys =
    prefix_len-append (λ x. not (is_zero x)) xs ys ∙ (ap (λ (n : ℕ). cond (eqb n (length xs)) (length xs + position_or_len is_zero ys) n) (none_full xs first) ∙ rw (eq-eqb (length xs) (length xs) refl) (ap (λ (n : ℕ). length xs + n) (none_full ys second)))
    in
    let out : ltb (position_or_len is_zero (xs ++ ys)) (length (xs ++ ys)) ≡ false = le-ltb _ _ (omega (arith, p, length-append xs ys)) in
    rw out refl

-- ---- a text that is not ended

cut_err : (c : Tail) (o : Option ℕ) (e : FsErr) → cut_at_zero c o ≡ Err e → (o ≡ None) × (e ≡ Short (place c))
cut_err c None e same = (refl, cc)
cut_err c (Some n) e same = absurd cc

text_err : (c : Tail) (e : FsErr) → text_at c ≡ Err e → (position is_zero c.rest ≡ None) × (e ≡ Short (place c))
unfolding text_at
text_err c e same = cut_err c (position is_zero c.rest) e same

text_still : (more : List ℕ) (c : Tail) (e : FsErr) → text_at c ≡ Err e → position is_zero more ≡ None → text_at (on more c) ≡ Err (Short (place (on more c)))
unfolding text_at
text_still more c e same none = ap (cut_at_zero (on more c)) (none_append c.rest more (text_err c e same).0 none)

data OneOf (c : Tail) : Type 0 where
  first : (e : FsErr) → text_at c ≡ Err e → OneOf c
  second : (g : List ℕ × Tail) (e : FsErr) → text_at c ≡ Ok g → text_at g.1 ≡ Err e → OneOf c

which_second : (c : Tail) (g : List ℕ × Tail) (r : Result (List ℕ × Tail) FsErr) → text_at c ≡ Ok g → text_at g.1 ≡ r → is_err r ≡ true → OneOf c
which_second c g (Err e) same second_is opened = second g e same second_is
which_second c g (Ok x) same second_is opened = absurd cc

which : (c : Tail) (r : Result (List ℕ × Tail) FsErr) → text_at c ≡ r → is_err (r >>= (λ g. text_at g.1)) ≡ true → OneOf c
which c (Err e) same opened = first e same
which c (Ok g) same opened = which_second c g (text_at g.1) same refl opened

pub failed_then : {A B : Type 0} (r : Result A FsErr) (e : FsErr) (f : A → Result B FsErr) → r ≡ Err e → (r >>= f) ≡ Err e
failed_then r e f same = ap (λ t. t >>= f) same

value_then : {A B : Type 0} (r : Result A FsErr) (x : A) (f : A → Result B FsErr) → r ≡ Ok x → (r >>= f) ≡ f x
value_then r x f same = ap (λ t. t >>= f) same

is_open : (c : Tail) (e : FsErr) → texts_at c ≡ Err e → is_err (texts_at c) ≡ true
is_open c e same = ap is_err same

texts_still : (more : List ℕ) (c : Tail) → OneOf c → position is_zero more ≡ None → (e : FsErr) × (texts_at (on more c) ≡ Err e)
unfolding texts_at
texts_still more c (first e same) none = (Short (place (on more c)), failed_then (text_at (on more c)) (Short (place (on more c))) (λ g. text_at g.1) (text_still more c e same none))
texts_still more c (second g e same second_is) none =
    (Short (place (on more g.1)), value_then (text_at (on more c)) (g.0, on more g.1) (λ g. text_at g.1) ((text_goes more c).value g same) ∙ text_still more g.1 e second_is none)

start_goes : (more : List ℕ) (c : Tail) → GoesOn (start_at c) (start_at (on more c)) (on more)
unfolding start_at
start_goes more c = goes_then _ _ _ _ _ (signature_goes more c) (λ signed. goes_then _ _ _ _ _ (version_goes more signed) (λ version. ok_goes version.1 _ (on more) refl))

open_start : (r : Result Tail FsErr) → text_open r ≡ true → (c : Tail) × (r ≡ Ok c) × (is_err (texts_at c) ≡ true)
open_start (Ok c) opened = (c, refl, opened)
open_start (Err e) opened = absurd cc

open_one : (c : Tail) → is_err (texts_at c) ≡ true → OneOf c
unfolding texts_at
open_one c opened = which c (text_at c) refl opened

pub text_stays : (old piece : List ℕ) → in_text old ≡ true → position is_zero piece ≡ None → in_text (old ++ piece) ≡ true
unfolding in_text
text_stays old piece opened none =
    let start = open_start (start_at (whole old)) opened in
    let still = texts_still piece start.0 (open_one start.0 start.2) none in
    ap (λ (t : Tail). text_open (start_at t)) (whole_on old piece) ∙ (ap text_open ((start_goes piece (whole old)).value start.0 start.1) ∙ is_open (on piece start.0) still.0 still.1)

-- ---- a header that ends within a text is not in

first_short : (c signed : Tail) (version : ℕ × Tail) (e : FsErr) → signature_at c ≡ Ok signed → version_at signed ≡ Ok version → text_at version.1 ≡ Err e → head_at c ≡ Err e
unfolding head_at
first_short c signed version e s v t = rw (s, v, t) refl

second_short : (c signed : Tail) (version : ℕ × Tail) (g : List ℕ × Tail) (e : FsErr) → signature_at c ≡ Ok signed → version_at signed ≡ Ok version → text_at version.1 ≡ Ok g → text_at g.1 ≡ Err e → head_at c ≡ Err e
unfolding head_at
second_short c signed version g e s v t u = rw (s, v, t, u) refl

head_short : (c signed : Tail) (version : ℕ × Tail) → signature_at c ≡ Ok signed → version_at signed ≡ Ok version → OneOf version.1 → (at : ℕ) × (head_at c ≡ Err (Short at))
head_short c signed version s v (first e t) = (place version.1, first_short c signed version e s v t ∙ ap Err (text_err version.1 e t).1)
head_short c signed version s v (second g e t u) = (place g.1, second_short c signed version g e s v t u ∙ ap Err (text_err g.1 e u).1)

start_head : (c rest : Tail) → start_at c ≡ Ok rest → OneOf rest → (at : ℕ) × (head_at c ≡ Err (Short at))
unfolding start_at
start_head c rest e one =
    let signed = bind_ok (signature_at c) _ rest e in
    let version = bind_ok (version_at signed.0) _ rest signed.2 in
    let same : version.0.1 ≡ rest = ok_is version.0.1 rest version.2 in
    head_short c signed.0 version.0 signed.1 version.1 (subst OneOf (sym same) one)

text_short : (bytes : List ℕ) → in_text bytes ≡ true → (at : ℕ) × (header_read bytes ≡ Err (Short at))
unfolding in_text header_read
text_short bytes opened =
    let start = open_start (start_at (whole bytes)) opened in
    let head = start_head (whole bytes) start.0 start.1 (open_one start.0 start.2) in
    (head.0, failed_then (head_at (whole bytes)) (Short head.0) _ head.1)

-- ---- the stage of such bytes

told_text : (bytes : List ℕ) (e : FsErr) → Head true ≡ told_stage bytes e → in_text bytes ≡ true
told_text bytes (Short at) same = let t : true ≡ in_text bytes = cc in sym t
told_text bytes e same = absurd cc

err_text : (b : Bool) (bytes : List ℕ) (e : FsErr) → Head true ≡ cond b (Bad e) (told_stage bytes e) → in_text bytes ≡ true
err_text true bytes e same = absurd cc
err_text false bytes e same = told_text bytes e same

done_text : (b : Bool) (until : ℕ) (r : Result Bundle FsErr) → Head true ≡ cond b (Info until) (done_stage r) → ⊥
done_text true until r same = absurd cc
done_text false until (Ok b) same = absurd cc
done_text false until (Err e) same = absurd cc

laid_text : (total : ℕ) (bytes : List ℕ) (h : faults.Head) (r : Result Sections FsErr) → Head true ≡ laid_stage total bytes h r → ⊥
laid_text total bytes h (Err e) same = absurd cc
laid_text total bytes h (Ok l) same = done_text (ltb (length bytes) (l.info + h.stored)) (l.info + h.stored) (behind_read total h l bytes) same

stage_text : (total : ℕ) (bytes : List ℕ) (r : Result (faults.Head × ℕ) FsErr) → Head true ≡ header_stage total bytes r → in_text bytes ≡ true
stage_text total bytes (Err e) same = err_text (eqb (length bytes) total) bytes e same
stage_text total bytes (Ok x) same = absurd (laid_text total bytes x.0 (sections_read total x.0 x.1) same)

short_stage : (b : Bool) (bytes : List ℕ) (at : ℕ) → b ≡ false → in_text bytes ≡ true → cond b (Bad (Short at)) (told_stage bytes (Short at)) ≡ Head true
short_stage true bytes at out opened = absurd cc
short_stage false bytes at out opened = ap Head opened

unequal : (n total : ℕ) (b : Bool) → eqb n total ≡ b → n < total → b ≡ false
unequal n total true e lt = absurd (omega (arith, lt, eqb-true _ _ e))
unequal n total false e lt = refl

pub head_after : (total : ℕ) (stage : Stage) (bytes old piece : List ℕ) → length bytes < total → stage ≡ Head true → bytes ≡ old ++ piece → position is_zero piece ≡ None → stage ≡ stage_of total old → stage ≡ stage_of total bytes
unfolding stage_of
head_after total stage bytes old piece short is same none e =
    let opened : in_text old ≡ true = stage_text total old (header_read old) (sym is ∙ e) in
    let still : in_text bytes ≡ true = ap in_text same ∙ text_stays old piece opened none in
    let missing = text_short bytes still in
    is ∙ sym (ap (header_stage total bytes) missing.1 ∙ short_stage (eqb (length bytes) total) bytes missing.0 (unequal (length bytes) total (eqb (length bytes) total) refl short) still)

pub head_now : (total before : ℕ) (text : Bool) (stage : Stage) (bytes old piece : List ℕ) → length bytes < total → text ≡ true → stage ≡ Head text → position is_zero (take (length bytes - before) (drop before bytes)) ≡ None → bytes ≡ old ++ piece → length old ≡ before → stage ≡ stage_of total old → Head text ≡ stage_of total bytes
head_now total before text stage bytes old piece short is_text is none same len e =
    let new : drop before bytes ≡ piece = ap (drop before) same ∙ drop_at old piece before len in
    sym is ∙ head_after total stage bytes old piece short (is ∙ ap Head is_text) same (ap (position is_zero) (sym new ∙ sym (take_rest bytes before)) ∙ none) e
