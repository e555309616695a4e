-- Bytes that were appended, one part after another.
use Rattle.std.proofs.Common.{◌≡◌, ℕ, List, ◌++◌, length, take, drop, sym, ap, ◌∙◌, append_assoc}
use Rattle.std.proofs.lemmas.List.{take-append-drop}
use Rattle.std.proofs.Math.Seq.{take-append_seam}

-- what stands at the front of what stands at the front stands at the front
pub kept_then : (a b c : List ℕ) → take (length a) b ≡ a → take (length b) c ≡ b → take (length a) c ≡ a
kept_then a b c first second =
    let whole : c ≡ b ++ drop (length b) c = sym (take-append-drop (length b) c) ∙ ap (λ (x : List ℕ). x ++ drop (length b) c) second in
    let front : b ≡ a ++ drop (length a) b = sym (take-append-drop (length a) b) ∙ ap (λ (x : List ℕ). x ++ drop (length a) b) first in
    let both : c ≡ a ++ (drop (length a) b ++ drop (length b) c) = whole ∙ ap (λ (x : List ℕ). x ++ drop (length b) c) front ∙ append_assoc a (drop (length a) b) (drop (length b) c) in
    ap (take (length a)) both ∙ take-append_seam a (drop (length a) b ++ drop (length b) c)

pub appended_then : (a b c x y : List ℕ) → b ≡ a ++ x → c ≡ b ++ y → c ≡ a ++ (x ++ y)
appended_then a b c x y first second = second ∙ ap (λ (l : List ℕ). l ++ y) first ∙ append_assoc a x y
