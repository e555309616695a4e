-- What the bytes so far decide is the file's first fault, however the file goes on; and where the blocks info was read
-- without a fault, the file has none.
use Rattle.std.proofs.Common.{◌≡◌, ℕ, ◌+◌, ◌≤◌, Bool, true, false, cond, eqb, ltb, List, [], ◌∷◌, ◌++◌, length, take, drop, Some, None, Result, Ok, Err, refl, sym, ap, ◌∙◌, arith, length-append, length-drop}
use Rattle.std.proofs.lemmas.Bool.{ltb-false, eqb-true}
use Rattle.std.proofs.lemmas.List.{take-append-le, drop-append-le, append-nil}
use Rattle.addr_unityfs.specs.declared.bundle.Bundle.{Bundle}
use Rattle.addr_unityfs.specs.Faults.{Head, Sections, ◌>>=◌, Tail, part, header_read, sections_read, info_at, data_at, range_fault, unless, behind_read, bundle_read}
use Rattle.addr_unityfs.specs.declared.error.FsErr.{FsErr}
use Rattle.addr_unityfs.specs.declared.error.FsErr.TheVariants.{Short}
use Rattle.addr_unityfs.specs.Early.{told, fault_of, early_behind, early_read, early_of, early_at}
use Rattle.addr_unityfs.proofs.OnLaws.{GoesOn, header_goes}

told_is : (d e : FsErr) → told d ≡ Some e → (told d ≡ Some d) × (d ≡ e)
told_is (Short at) e same = absurd cc
told_is d e same = (refl, cc)

fault_is : {A : Type 0} (r : Result A FsErr) (e : FsErr) → fault_of r ≡ Some e → r ≡ Err e
fault_is (Ok x) e same = absurd cc
fault_is (Err d) e same = let at : d ≡ e = cc in ap Err at

fault_is_none : {A : Type 0} (r : Result A FsErr) → fault_of r ≡ None → (x : A) × (r ≡ Ok x)
fault_is_none (Ok x) same = (x, refl)
fault_is_none (Err d) same = absurd cc

-- a part that is in is the same of the whole
part_on : (at n : ℕ) (bytes more : List ℕ) → at + n ≤ length bytes → part at n (bytes ++ more) ≡ part at n bytes
part_on at n bytes more long =
    ap (λ (r : List ℕ). record { end = at + n; rest = r })
    (ap (take n) (drop-append-le at bytes more (omega (arith, long))) ∙ take-append-le n (drop at bytes) more (omega (arith, length-drop at bytes, long)))

pub behind_on : (total : ℕ) (h : Head) (l : Sections) (bytes more : List ℕ) → l.info + h.stored ≤ length bytes → behind_read total h l (bytes ++ more) ≡ behind_read total h l bytes
unfolding behind_read
behind_on total h l bytes more long =
    ap (λ (t : Tail). info_at t >>= (λ info. data_at total h.flags info.0 l >>= (λ start. unless (range_fault info.0 info.1) (record { version = h.version; start = start; nodes = info.1 })))) (part_on l.info h.stored bytes more long)

-- a file, read behind its header
abbrev from_header : ℕ → List ℕ → Result (Head × ℕ) FsErr → Result Bundle FsErr
from_header total file r = r >>= (λ x. sections_read total x.0 x.1 >>= (λ l. behind_read total x.0 l file))

gate : (b : Bool) (total : ℕ) (h : Head) (l : Sections) (bytes more : List ℕ) (e : FsErr) → (b ≡ false → l.info + h.stored ≤ length bytes) → cond b None (fault_of (behind_read total h l bytes)) ≡ Some e → behind_read total h l (bytes ++ more) ≡ Err e
gate true total h l bytes more e room early = absurd cc
gate false total h l bytes more e room early = behind_on total h l bytes more (room refl) ∙ fault_is (behind_read total h l bytes) e early

behind_law : (total : ℕ) (h : Head) (bytes more : List ℕ) (e : FsErr) (r : Result Sections FsErr) → early_behind total bytes h r ≡ Some e → (r >>= (λ l. behind_read total h l (bytes ++ more))) ≡ Err e
behind_law total h bytes more e (Err d) early = let at : d ≡ e = cc in ap Err at
behind_law total h bytes more e (Ok l) early = gate (ltb (length bytes) (l.info + h.stored)) total h l bytes more e (λ room. ltb-false _ _ room) early

read_law : (total : ℕ) (bytes more : List ℕ) (e : FsErr) (r s : Result (Head × ℕ) FsErr) → GoesOn r s (λ x. x) → early_read total bytes r ≡ Some e → from_header total (bytes ++ more) s ≡ Err e
read_law total bytes more e (Err d) s goes early =
    let is = told_is d e early in
    ap (from_header total (bytes ++ more)) (goes.fault d is.0 refl) ∙ ap Err is.1
read_law total bytes more e (Ok x) s goes early =
    ap (from_header total (bytes ++ more)) (goes.value x refl) ∙ behind_law total x.0 bytes more e (sections_read total x.0 x.1) early

nothing_more : (bytes more : List ℕ) → length (bytes ++ more) ≡ length bytes → more ≡ []
nothing_more bytes [] len = refl
nothing_more bytes (b ∷ more) len = absurd (omega (arith, len, length-append bytes (b ∷ more)))

of_law : (whole : Bool) (total : ℕ) (bytes more : List ℕ) (e : FsErr) → (whole ≡ true → length bytes ≡ total) → length (bytes ++ more) ≡ total
    → cond whole (fault_of (bundle_read bytes)) (early_read total bytes (header_read bytes)) ≡ Some e → bundle_read (bytes ++ more) ≡ Err e
unfolding bundle_read
of_law true total bytes more e is_whole len early =
    let none : more ≡ [] = nothing_more bytes more (len ∙ sym (is_whole refl)) in
    ap bundle_read (ap (λ t. bytes ++ t) none ∙ append-nil bytes) ∙ fault_is (bundle_read bytes) e early
of_law false total bytes more e is_whole len early =
    ap (λ (n : ℕ). from_header n (bytes ++ more) (header_read (bytes ++ more))) len
    ∙ read_law total bytes more e (header_read bytes) (header_read (bytes ++ more)) (header_goes bytes more) early

-- an early fault is the first fault of each file of that length that begins with these bytes
pub early_is_first : (total : ℕ) (fed more : List ℕ) (e : FsErr) → length (take total fed ++ more) ≡ total → early_at total fed ≡ Some e → bundle_read (take total fed ++ more) ≡ Err e
unfolding early_of
early_is_first total fed more e len early = of_law (eqb (length (take total fed)) total) total (take total fed) more e (λ same. eqb-true _ _ same) len early
