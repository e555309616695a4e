-- Rows to which numbers are added one at a time.
use Rattle.std.proofs.Common.{◌≡◌, ◌≢◌, ◌<◌, ◌≤◌, ◌+◌, ◌⊎◌, inl, inr, ℕ, zero, suc, List, [], ◌∷◌, ◌++◌, length, take, slice_index_or, slice_set, slice_get, Some, refl, sym, ap, subst, ◌∙◌, arith}
use Rattle.std.proofs.lemmas.Bool.{cases_eq, cases_order}
use Rattle.std.proofs.lemmas.List.{take_more}
use Rattle.std.proofs.lemmas.List.Elements.{Contains-append_left, Contains-push, Contains-push_cases}
use Rattle.std.proofs.lemmas.Option.{slice_get_within}
use Rattle.std.specs.List.{Contains}
use Rattle.addr_layout.proofs.RankLemmas.{same-some}
use Rattle.addr_walks.specs.Rows.{Edge}
use Rattle.addr_walks.proofs.Lists.{Contains-none, slice_get-push_cases}
use Rattle.addr_update.specs.within.Turned.{Adds, IsTurned}

set-own : {X : Type 0} (xs : List X) (k : ℕ) (v : X) → k < length xs → slice_get (slice_set xs k v) k ≡ Some v
set-own [] k v small = absurd (omega arith)
set-own (x ∷ xs) zero v small = refl
set-own (x ∷ xs) (suc k) v small = set-own xs k v (omega arith)

set-other : {X : Type 0} (xs : List X) (k c : ℕ) (v : X) → k ≢ c → slice_get (slice_set xs k v) c ≡ slice_get xs c
set-other [] k c v other = refl
set-other (x ∷ xs) zero zero v other = absurd (other refl)
set-other (x ∷ xs) zero (suc c) v other = refl
set-other (x ∷ xs) (suc k) zero v other = refl
set-other (x ∷ xs) (suc k) (suc c) v other = set-other xs k c v (λ same. other (ap suc same))

module _ (rows : List (List ℕ)) (k b : ℕ) (here : List ℕ) (at : slice_get rows k ≡ Some here) where
  small : k < length rows
  small = slice_get_within rows k here at

  edge-from : (c x : ℕ) → Edge (slice_set rows k (here ++ b ∷ [])) c x → Edge rows c x ⊎ ((k ≡ c) × (x ≡ b))
  edge-from c x (row, there, in') = by_number (cases_eq k c)
    where
      by_last : k ≡ c → Contains here x ⊎ (b ≡ x) → Edge rows c x ⊎ ((k ≡ c) × (x ≡ b))
      by_last same (inl old) = inl (here, ap (slice_get rows) (sym same) ∙ at, old)
      by_last same (inr is) = inr (same, sym is)

      by_number : (k ≡ c) ⊎ (k ≡ c → ⊥) → Edge rows c x ⊎ ((k ≡ c) × (x ≡ b))
      by_number (inr other) = inl (row, sym (set-other rows k c (here ++ b ∷ []) other) ∙ there, in')
      by_number (inl same) =
          let own : row ≡ here ++ b ∷ [] = same-some row (here ++ b ∷ []) (sym there ∙ (ap (slice_get (slice_set rows k (here ++ b ∷ []))) (sym same) ∙ set-own rows k (here ++ b ∷ []) small)) in
          by_last same (Contains-push_cases here b x (subst (λ xs. Contains xs x) own in'))

  edge-stays : (c x : ℕ) → Edge rows c x → Edge (slice_set rows k (here ++ b ∷ [])) c x
  edge-stays c x (row, there, in') = by_number (cases_eq k c)
    where
      by_number : (k ≡ c) ⊎ (k ≡ c → ⊥) → Edge (slice_set rows k (here ++ b ∷ [])) c x
      by_number (inr other) = (row, set-other rows k c (here ++ b ∷ []) other ∙ there, in')
      by_number (inl same) =
          let own : row ≡ here = same-some row here (sym there ∙ (ap (slice_get rows) (sym same) ∙ at)) in
          (here ++ b ∷ [], ap (slice_get (slice_set rows k (here ++ b ∷ []))) (sym same) ∙ set-own rows k (here ++ b ∷ []) small, Contains-append_left here (b ∷ []) x (subst (λ xs. Contains xs x) own in'))

  edge-new : Edge (slice_set rows k (here ++ b ∷ [])) k b
  edge-new = (here ++ b ∷ [], set-own rows k (here ++ b ∷ []) small, Contains-push here b)

pub adds-none : (rows : List (List ℕ)) (b : ℕ) → Adds rows [] b rows
adds-none rows b c x = (λ edge. inl edge, back)
  where
    back : Edge rows c x ⊎ (Contains [] c × (x ≡ b)) → Edge rows c x
    back (inl edge) = edge
    back (inr (none, is)) = absurd (Contains-none c none)

pub adds-more : (old rows : List (List ℕ)) (row : List ℕ) (b i : ℕ) (here : List ℕ) → i < length row → slice_get rows (slice_index_or row i 0) ≡ Some here → Adds old (take i row) b rows
    → Adds old (take (i + 1) row) b (slice_set rows (slice_index_or row i 0) (here ++ b ∷ []))
adds-more old rows row b i here within at adds c x = (λ edge. there (edge-from rows (slice_index_or row i 0) b here at c x edge), back)
  where
    wider : Contains (take i row ++ slice_index_or row i 0 ∷ []) c → Contains (take (i + 1) row) c
    wider in' = subst (λ xs. Contains xs c) (sym (take_more row i 0 within)) in'

    there : Edge rows c x ⊎ ((slice_index_or row i 0 ≡ c) × (x ≡ b)) → Edge old c x ⊎ (Contains (take (i + 1) row) c × (x ≡ b))
    there (inr (same, is)) = inr (wider (subst (Contains (take i row ++ slice_index_or row i 0 ∷ [])) same (Contains-push (take i row) (slice_index_or row i 0))), is)
    there (inl edge) = by_old ((adds c x).0 edge)
      where
        by_old : Edge old c x ⊎ (Contains (take i row) c × (x ≡ b)) → Edge old c x ⊎ (Contains (take (i + 1) row) c × (x ≡ b))
        by_old (inl first) = inl first
        by_old (inr (in', is)) = inr (wider (Contains-append_left (take i row) (slice_index_or row i 0 ∷ []) c in'), is)

    back : Edge old c x ⊎ (Contains (take (i + 1) row) c × (x ≡ b)) → Edge (slice_set rows (slice_index_or row i 0) (here ++ b ∷ [])) c x
    back (inl edge) = edge-stays rows (slice_index_or row i 0) b here at c x ((adds c x).1 (inl edge))
    back (inr (in', is)) = by_last (Contains-push_cases (take i row) (slice_index_or row i 0) c (subst (λ xs. Contains xs c) (take_more row i 0 within) in'))
      where
        by_last : Contains (take i row) c ⊎ (slice_index_or row i 0 ≡ c) → Edge (slice_set rows (slice_index_or row i 0) (here ++ b ∷ [])) c x
        by_last (inl earlier) = edge-stays rows (slice_index_or row i 0) b here at c x ((adds c x).1 (inr (earlier, is)))
        by_last (inr same) = subst (λ v. Edge (slice_set rows (slice_index_or row i 0) (here ++ b ∷ [])) c v) (sym is) (subst (λ v. Edge (slice_set rows (slice_index_or row i 0) (here ++ b ∷ [])) v b) same (edge-new rows (slice_index_or row i 0) b here at))

-- the first n rows the other way round
abbrev pub TurnedTo : ℕ → List (List ℕ) → List (List ℕ) → Type 0
TurnedTo n rows back = (b c : ℕ) → (b < n × Edge rows b c → Edge back c b) × (Edge back c b → b < n × Edge rows b c)

pub turned-none : (rows back : List (List ℕ)) → ((c x : ℕ) → Edge back c x → ⊥) → TurnedTo 0 rows back
turned-none rows back none b c = (λ (less, edge). absurd (omega (arith, less)), λ edge. absurd (none c b edge))

pub turned-more : (rows back new : List (List ℕ)) (n : ℕ) (row : List ℕ) → slice_get rows n ≡ Some row → TurnedTo n rows back → Adds back row n new → TurnedTo (n + 1) rows new
turned-more rows back new n row at turned adds b c = (λ (less, edge). to less edge (cases_eq b n), λ edge. from ((adds c b).0 edge))
  where
    to : b < n + 1 → Edge rows b c → (b ≡ n) ⊎ (b ≡ n → ⊥) → Edge new c b
    to less (own, there, in') (inl same) = (adds c b).1 (inr (subst (λ xs. Contains xs c) (same-some own row (sym there ∙ (ap (slice_get rows) same ∙ at))) in', same))
    to less edge (inr other) = (adds c b).1 (inl ((turned b c).0 (below, edge)))
      where
        below : b < n
        below = by_order (cases_order b n)
          where
            by_order : (b ≡ n) ⊎ ((b < n) ⊎ (n < b)) → b < n
            by_order (inl same) = absurd (other same)
            by_order (inr (inl small)) = small
            by_order (inr (inr large)) = omega (arith, large, less)

    from : Edge back c b ⊎ (Contains row c × (b ≡ n)) → b < n + 1 × Edge rows b c
    from (inl edge) = let old = (turned b c).1 edge in let small = old.0 in (omega (arith, small), old.1)
    from (inr (in', is)) = (omega (arith, is), (row, ap (slice_get rows) is ∙ at, in'))

pub none-more : (back new : List (List ℕ)) (row : List ℕ) → row ≡ [] → new ≡ back ++ row ∷ [] → ((c x : ℕ) → Edge back c x → ⊥) → (c x : ℕ) → Edge new c x → ⊥
none-more back new row empty is none c x (r, at, in') = by_case (slice_get-push_cases back row c r (ap (λ xs. slice_get xs c) (sym is) ∙ at))
  where
    by_case : (slice_get back c ≡ Some r) ⊎ ((c ≡ length back) × (row ≡ r)) → ⊥
    by_case (inl old) = none c x (r, old, in')
    by_case (inr (last, same)) = Contains-none x (subst (λ xs. Contains xs x) (sym same ∙ empty) in')

pub none-at : (back : List (List ℕ)) → back ≡ [] → (c x : ℕ) → Edge back c x → ⊥
none-at back empty c x (r, at, in') = absurd (cc (sym (ap (λ (xs : List (List ℕ)). slice_get xs c) empty) ∙ at))

pub turned-all : (rows back : List (List ℕ)) (n : ℕ) → length rows ≤ n → TurnedTo n rows back → IsTurned rows back
turned-all rows back n all turned b c = (λ edge. (let small = slice_get_within rows b edge.0 edge.1 in (turned b c).0 (omega (arith, small, all), edge)), λ edge. ((turned b c).1 edge).1)
