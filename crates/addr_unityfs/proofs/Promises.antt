-- What callers are promised of the bundle that a file is.
use Rattle.std.proofs.Common.{◌≡◌, ℕ, ◌+◌, ◌^◌, ◌<◌, ◌≤◌, Bool, true, false, cond, List, [], ◌∷◌, ◌++◌, length, All, Result, Ok, Err, ◌⊎◌, inl, inr, refl, sym, ap, subst, ◌∙◌, arith, length-append}
use Rattle.std.specs.Prelude.{IfOk, ◌↔◌}
use Rattle.std.specs.List.{AllByRecursion}
use Rattle.std.proofs.lemmas.List.Elements.{All-from_recursion}
use Rattle.addr_unityfs.specs.declared.bundle.NodePlace.{NodePlace}
use Rattle.addr_unityfs.specs.declared.bundle.Bundle.{Bundle}
use Rattle.addr_unityfs.specs.declared.error.FsErr.{FsErr}
use Rattle.addr_unityfs.specs.Flags.{is_at_end}
use Rattle.addr_unityfs.specs.Spelling.{Parts, info, header, contents, body}
use Rattle.addr_unityfs.specs.Format.{IsNode, contents_start, IsFile, IsBundle}
use Rattle.addr_unityfs.specs.Faults.{Answers, bundle_read}
use Rattle.addr_unityfs.specs.within.Tails.{Gives}
use Rattle.addr_unityfs.proofs.FieldLaws.{IsBytes, ok_is}
use Rattle.addr_unityfs.proofs.FoundLaws.{is_found}
use Rattle.addr_unityfs.proofs.AgainLaws.{body_length, is_read}

pub is_bundle : (file : List ℕ) (b : Bundle) → IsBytes file → length file < 2 ^ 63 → IsBundle file b ↔ (bundle_read file ≡ Ok b)
is_bundle file b fits small = (λ held. is_read file held.0 small held.1 ∙ ap Ok (sym held.2), is_found file b fits)

pub found : (file : List ℕ) (r : Result Bundle FsErr) → IsBytes file → Gives (λ b. b) r (bundle_read file) → IfOk r (IsBundle file)
found file (Ok b) fits given = is_found file b fits given
found file (Err e) fits given = tt

pub only : (file : List ℕ) (r : Result Bundle FsErr) (b : Bundle) → IsBytes file → length file < 2 ^ 63 → Answers r (bundle_read file) → IsBundle file b → Answers r (Ok b)
only file r b fits small answered held = subst (Answers r) ((is_bundle file b fits small).0 held) answered

at_most : (t : Bool) (n : ℕ) → cond t 0 n ≤ n
at_most true n = omega arith
at_most false n = omega arith

pub data_inside : (file : List ℕ) (p : Parts) → IsFile file p → contents_start (length file) p + length p.gap + length p.payload ≤ length file
data_inside file p f =
    let front = header (length file) p in
    let len = ap length f.bytes ∙ (length-append front (p.padding ++ body p) ∙ ap (λ n. length front + n) (length-append p.padding (body p) ∙ ap (λ n. length p.padding + n) (body_length (is_at_end p.flags) (contents p) (info p)))) in
    let held = length-append p.gap (p.payload ++ p.rest) ∙ ap (λ n. length p.gap + n) (length-append p.payload p.rest) in
    omega (arith, len, held, at_most (is_at_end p.flags) (length (info p)))

all_inside : (start room len : ℕ) (ns : List NodePlace) → start + room ≤ len → AllByRecursion (IsNode room) ns → AllByRecursion (λ n. start + n.offset + n.size ≤ len) ns
all_inside start room len [] small within = tt
all_inside start room len (n ∷ ns) small within = (omega (arith, small, within.0.within), all_inside start room len ns small within.1)

pub nodes_inside : (file : List ℕ) (b : Bundle) → IsBundle file b → All (λ n. b.start + n.offset + n.size ≤ length file) b.nodes
nodes_inside file b held =
    let p = held.0 in
    let start = contents_start (length file) p + length p.gap in
    subst (λ (y : Bundle). All (λ n. y.start + n.offset + n.size ≤ length file) y.nodes) (sym held.2)
    (All-from_recursion (λ n. start + n.offset + n.size ≤ length file) p.nodes (all_inside start (length p.payload) (length file) p.nodes (data_inside file p held.1) held.1.nodes))

pub found_inside : (file : List ℕ) (r : Result Bundle FsErr) → IsBytes file → Gives (λ b. b) r (bundle_read file) → IfOk r (λ b. All (λ n. b.start + n.offset + n.size ≤ length file) b.nodes)
found_inside file (Ok b) fits given = nodes_inside file b (is_found file b fits given)
found_inside file (Err e) fits given = tt

-- ---- exactly one bundle or one first fault

read_or_fault : (file : List ℕ) (r : Result Bundle FsErr) → IsBytes file → bundle_read file ≡ r → ((b : Bundle) × IsBundle file b) ⊎ ((e : FsErr) × (bundle_read file ≡ Err e))
read_or_fault file (Ok b) fits read = inl (b, is_found file b fits read)
read_or_fault file (Err e) fits read = inr (e, read)

pub bundle_or_fault : (file : List ℕ) → IsBytes file → ((b : Bundle) × IsBundle file b) ⊎ ((e : FsErr) × (bundle_read file ≡ Err e))
bundle_or_fault file fits = read_or_fault file (bundle_read file) fits refl

read_of : (file : List ℕ) (b : Bundle) → length file < 2 ^ 63 → IsBundle file b → bundle_read file ≡ Ok b
read_of file b small held = is_read file held.0 small held.1 ∙ ap Ok (sym held.2)

ok_err : (b : Bundle) (e : FsErr) → Ok b ≡ Err e → ⊥
ok_err b e same = absurd cc

pub not_both : (file : List ℕ) (b : Bundle) (e : FsErr) → length file < 2 ^ 63 → IsBundle file b → bundle_read file ≡ Err e → ⊥
not_both file b e small held fault = ok_err b e (sym (read_of file b small held) ∙ fault)

pub one_bundle : (file : List ℕ) (a b : Bundle) → length file < 2 ^ 63 → IsBundle file a → IsBundle file b → a ≡ b
one_bundle file a b small first second = ok_is a b (sym (read_of file a small first) ∙ read_of file b small second)
