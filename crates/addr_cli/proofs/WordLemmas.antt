-- A name ends with an ending exactly where its last bytes are that ending.
use Rattle.std.proofs.Common.{◌≡◌, ◌-◌, ◌∙◌, sym, ap, ℕ, List, ◌++◌, length, take, drop, arith, length-append}
use Rattle.std.proofs.lemmas.List.{take-append-drop, take_rest, drop_at}

pub ending_there : (name ending : List ℕ) (at : ℕ) → take (length name - at) (drop at name) ≡ ending → (front : List ℕ) × (name ≡ front ++ ending)
ending_there name ending at is = (take at name, sym (take-append-drop at name) ∙ ap (λ e. take at name ++ e) (sym (take_rest name at) ∙ is))

pub ending_is : (name front ending : List ℕ) (at : ℕ) → at ≡ length name - length ending → name ≡ front ++ ending → take (length name - at) (drop at name) ≡ ending
ending_is name front ending at place whole = take_rest name at ∙ ap (drop at) whole ∙ drop_at front ending at (omega (arith, place, ap length whole, length-append front ending))
