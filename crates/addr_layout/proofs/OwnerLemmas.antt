-- Rows of numbers turned round: one row after another is put beside its numbers.
use Rattle.std.proofs.Common.{◌≡◌, ℕ, ◌+◌, ◌<◌, ◌≤◌, ◌⊎◌, inl, inr, true, List, [], ◌∷◌, ◌++◌, length, get_or, set, take, replicate, Option, Some, None, is_some, sym, ap, subst, ◌∙◌, arith}
use Rattle.std.proofs.lemmas.Bool.{cases_eq, cases_lt}
use Rattle.std.proofs.lemmas.List.{get_or-set_other, get_or-set_same, get_or-replicate, get_or_past, length-replicate, length-take-le, take_more}
use Rattle.std.proofs.lemmas.List.Elements.{Contains-append_left, Contains-push, Contains-push_cases}
use Rattle.std.specs.List.{Contains, slice_get}
use Rattle.addr_walks.specs.Rows.{Edge}
use Rattle.addr_walks.proofs.Lists.{Contains-none, slice_get-append_left, slice_get-push_cases, slice_get-push_last}
use Rattle.addr_layout.specs.Owners.{AreOwners, Replaces}

pub replaces-none : (owners : List (Option ℕ)) (row : List ℕ) (b : ℕ) → Replaces owners (take 0 row) b owners
replaces-none owners row b = record { sound = λ r c is. inl is; kept = λ r is. is; all = λ r here. absurd (Contains-none r here) }

-- b is put beside one more number
replaces-push : (old now : List (Option ℕ)) (row : List ℕ) (b r : ℕ) → r < length now → Replaces old row b now → Replaces old (row ++ r ∷ []) b (set now r (Some b))
replaces-push old now row b r within before = record {
  sound = λ s c is. sound s c (cases_eq s r) is;
  kept = λ s is. put s (cases_eq s r) (before.kept s is);
  all = λ s here. all s (cases_eq s r) (Contains-push_cases row r s here);
}
  where
    at : (s : ℕ) → s ≡ r → get_or (set now r (Some b)) s None ≡ Some b
    at s same = ap (λ t. get_or (set now r (Some b)) t None) same ∙ get_or-set_same now r (Some b) None within

    sound : (s c : ℕ) → (s ≡ r) ⊎ (s ≡ r → ⊥) → get_or (set now r (Some b)) s None ≡ Some c → (get_or old s None ≡ Some c) ⊎ ((b ≡ c) × Contains (row ++ r ∷ []) s)
    sound s c (inl same) is = let this : b ≡ c = cc (sym (at s same) ∙ is) in inr (this, subst (Contains (row ++ r ∷ [])) (sym same) (Contains-push row r))
    sound s c (inr other) is = earlier (before.sound s c (sym (get_or-set_other now r s (Some b) None other) ∙ is))
      where
        earlier : (get_or old s None ≡ Some c) ⊎ ((b ≡ c) × Contains row s) → (get_or old s None ≡ Some c) ⊎ ((b ≡ c) × Contains (row ++ r ∷ []) s)
        earlier (inl was) = inl was
        earlier (inr (this, here)) = inr (this, Contains-append_left row (r ∷ []) s here)

    put : (s : ℕ) → (s ≡ r) ⊎ (s ≡ r → ⊥) → is_some (get_or now s None) ≡ true → is_some (get_or (set now r (Some b)) s None) ≡ true
    put s (inl same) is = ap is_some (at s same)
    put s (inr other) is = ap is_some (get_or-set_other now r s (Some b) None other) ∙ is

    all : (s : ℕ) → (s ≡ r) ⊎ (s ≡ r → ⊥) → Contains row s ⊎ (r ≡ s) → is_some (get_or (set now r (Some b)) s None) ≡ true
    all s (inl same) here = ap is_some (at s same)
    all s (inr other) (inl here) = put s (inr other) (before.all s here)
    all s (inr other) (inr same) = absurd (other (sym same))

pub replaces-more : (old now : List (Option ℕ)) (row : List ℕ) (b i r : ℕ) → i < length row → r ≡ get_or row i r → r < length now → Replaces old (take i row) b now → Replaces old (take (i + 1) row) b (set now r (Some b))
replaces-more old now row b i r within read small before =
    subst (λ xs. Replaces old xs b (set now r (Some b))) (sym (take_more row i r within ∙ ap (λ x. take i row ++ x ∷ []) (sym read))) (replaces-push old now (take i row) b r small before)

pub owners-none : (n : ℕ) (rows : List (List ℕ)) → AreOwners (take 0 rows) (replicate n None)
owners-none n rows = record { sound = λ r c is. absurd (nothing r c (cases_lt r n) is); all = λ r c edge. absurd (cc edge.1) }
  where
    nothing : (r c : ℕ) → (r < n) ⊎ (n ≤ r) → get_or (replicate n None) r None ≡ Some c → ⊥
    nothing r c (inl within) is = cc (sym (get_or-replicate n r None None within) ∙ is)
    nothing r c (inr past) is = cc (sym (get_or_past (replicate n None) r None (simp length-replicate past)) ∙ is)

owners-push : (rows : List (List ℕ)) (row : List ℕ) (old new : List (Option ℕ)) → AreOwners rows old → Replaces old row (length rows) new → AreOwners (rows ++ row ∷ []) new
owners-push rows row old new owners replaced = record { sound = λ r c is. sound r c (replaced.sound r c is); all = λ r c edge. all r c edge.0 (slice_get-push_cases rows row c edge.0 edge.1) edge.2 }
  where
    sound : (r c : ℕ) → (get_or old r None ≡ Some c) ⊎ ((length rows ≡ c) × Contains row r) → Edge (rows ++ row ∷ []) c r
    sound r c (inl was) = let edge = owners.sound r c was in (edge.0, slice_get-append_left rows (row ∷ []) c edge.0 edge.1, edge.2)
    sound r c (inr (last, here)) = (row, subst (λ k. slice_get (rows ++ row ∷ []) k ≡ Some row) last (slice_get-push_last rows row), here)

    all : (r c : ℕ) (there : List ℕ) → (slice_get rows c ≡ Some there) ⊎ ((c ≡ length rows) × (row ≡ there)) → Contains there r → is_some (get_or new r None) ≡ true
    all r c there (inl at) here = replaced.kept r (owners.all r c (there, at, here))
    all r c there (inr (last, same)) here = replaced.all r (subst (λ xs. Contains xs r) (sym same) here)

pub owners-more : (rows : List (List ℕ)) (row : List ℕ) (b : ℕ) (old new : List (Option ℕ)) → b < length rows → row ≡ get_or rows b row → AreOwners (take b rows) old → Replaces old row b new → AreOwners (take (b + 1) rows) new
owners-more rows row b old new within read owners replaced =
    subst (λ xs. AreOwners xs new) (sym (take_more rows b row within ∙ ap (λ x. take b rows ++ x ∷ []) (sym read)))
    (owners-push (take b rows) row old new owners (subst (λ k. Replaces old row k new) (sym (length-take-le b rows (omega arith))) replaced))
