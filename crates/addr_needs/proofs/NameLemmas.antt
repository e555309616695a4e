-- Internal names: one more number under a name, and the names of one more bundle.
use Rattle.std.proofs.Common.{◌≡◌, ℕ, ◌+◌, ◌<◌, ◌≤◌, ◌⊎◌, inl, inr, Bool, true, false, cond, List, [], ◌∷◌, ◌++◌, length, Option, Some, BTreeMap, refl, sym, ap, subst, ◌∙◌, arith}
use Rattle.std.proofs.lemmas.Bool.{false≢true, cases_order}
use Rattle.std.proofs.lemmas.List.Elements.{Contains-append_left, Contains-push, Contains-push_cases}
use Rattle.std.proofs.lemmas.Map.Text.{is_eq-slice_cmp}
use Rattle.std.proofs.lemmas.Option.{slice_get_within}
use Rattle.std.proofs.lemmas.Slice.Eq.{bytes_eq-Decides}
use Rattle.std.specs.BTreeMap.{get}
use Rattle.std.specs.List.{Contains, slice_get}
use Rattle.std.specs.Option.{unwrap_or}
use Rattle.std.specs.Ordering.{eq_by_cmp}
use Rattle.addr_base.specs.Ids.{digest_of}
use Rattle.addr_base.specs.declared.ids.Digest.{Digest}
use Rattle.addr_layout.proofs.RankLemmas.{same-some}
use Rattle.addr_pack.specs.declared.bundles.Plan.{Plan}
use Rattle.addr_pack.specs.declared.bundles.PlanBundle.{PlanBundle}
use Rattle.addr_needs.specs.within.Names.{AddsNumber, AreNames, HasName, digest_cmp, numbers_under}

same-digest : (x y : Digest) → x.0 ≡ y.0 → x ≡ y
same-digest x y same = λ i. record { 0 = same i }

tied-digest : (x y : Digest) → eq_by_cmp digest_cmp x y ≡ true → x ≡ y
tied-digest x y tied = same-digest x y ((bytes_eq-Decides x.0 y.0).0 (sym (is_eq-slice_cmp x.0 y.0) ∙ tied))

tied-itself : (x : Digest) → eq_by_cmp digest_cmp x x ≡ true
tied-itself x = is_eq-slice_cmp x.0 x.0 ∙ (bytes_eq-Decides x.0 x.0).1 refl

-- ---- one more number under a name

pub adds-number : (m n : BTreeMap Digest (List ℕ)) (name : Digest) (b : ℕ) (found : Option (List ℕ)) (next : List ℕ) → get digest_cmp m name ≡ found → next ≡ unwrap_or found [] ++ b ∷ []
    → ((q : Digest) → get digest_cmp n q ≡ cond (eq_by_cmp digest_cmp name q) (Some next) (get digest_cmp m q)) → AddsNumber (numbers_under m) name b (numbers_under n)
adds-number m n name b found next is more updates other c = by_test (eq_by_cmp digest_cmp name other) refl
  where
    Adds : List ℕ → Type 0
    Adds new = (Contains new c → Contains (numbers_under m other) c ⊎ ((name ≡ other) × (b ≡ c))) × (Contains (numbers_under m other) c ⊎ ((name ≡ other) × (b ≡ c)) → Contains new c)

    by_test : (t : Bool) → eq_by_cmp digest_cmp name other ≡ t → Adds (numbers_under n other)
    by_test true tied =
        let same : name ≡ other = tied-digest name other tied in
        let old : unwrap_or found [] ≡ numbers_under m other = ap (λ (o : Option (List ℕ)). unwrap_or o []) (sym is) ∙ ap (numbers_under m) same in
        let new : numbers_under n other ≡ numbers_under m other ++ b ∷ [] = ap (λ (o : Option (List ℕ)). unwrap_or o []) (updates other ∙ ap (λ (t : Bool). cond t (Some next) (get digest_cmp m other)) tied) ∙ (more ∙ ap (λ xs. xs ++ b ∷ []) old) in
        subst Adds (sym new) ((λ here. by_side same (Contains-push_cases (numbers_under m other) b c here)), back)
      where
        by_side : name ≡ other → Contains (numbers_under m other) c ⊎ (b ≡ c) → Contains (numbers_under m other) c ⊎ ((name ≡ other) × (b ≡ c))
        by_side same (inl was) = inl was
        by_side same (inr is) = inr (same, is)

        back : Contains (numbers_under m other) c ⊎ ((name ≡ other) × (b ≡ c)) → Contains (numbers_under m other ++ b ∷ []) c
        back (inl was) = Contains-append_left (numbers_under m other) (b ∷ []) c was
        back (inr (same, is)) = subst (Contains (numbers_under m other ++ b ∷ [])) is (Contains-push (numbers_under m other) b)
    by_test false apart =
        let new : numbers_under n other ≡ numbers_under m other = ap (λ (o : Option (List ℕ)). unwrap_or o []) (updates other ∙ ap (λ (t : Bool). cond t (Some next) (get digest_cmp m other)) apart) in
        subst Adds (sym new) ((λ here. inl here), back)
      where
        back : Contains (numbers_under m other) c ⊎ ((name ≡ other) × (b ≡ c)) → Contains (numbers_under m other) c
        back (inl was) = was
        back (inr (same, is)) = absurd (false≢true (sym apart ∙ subst (λ (x : Digest). eq_by_cmp digest_cmp name x ≡ true) same (tied-itself name)))

-- ---- the names of one more bundle

module _ (plan : Plan) where
  pub names-more : (k : ℕ) (bundle : PlanBundle) (name : Digest) (old new : Digest → List ℕ) → slice_get plan.bundles k ≡ Some bundle → name.0 ≡ digest_of bundle.name → AddsNumber old name k new → AreNames plan k old
      → AreNames plan (k + 1) new
  names-more k bundle name old new at own adds before other c = ((λ here. to ((adds other c).0 here)), (λ (less, has). (adds other c).1 (from less has (cases_order c k))))
    where
      to : Contains (old other) c ⊎ ((name ≡ other) × (k ≡ c)) → (c < k + 1) × HasName plan other c
      to (inl was) = let is = (before other c).0 was in (let less = is.0 in omega (arith, less), is.1)
      to (inr (same, is)) = (omega (arith, is), (bundle, ap (slice_get plan.bundles) (sym is) ∙ at, ap (λ (d : Digest). d.0) (sym same) ∙ own))

      from : c < k + 1 → HasName plan other c → (c ≡ k) ⊎ ((c < k) ⊎ (k < c)) → Contains (old other) c ⊎ ((name ≡ other) × (k ≡ c))
      from less (one, there, is) (inl same) =
          let twin : bundle ≡ one = same-some bundle one (sym at ∙ (ap (slice_get plan.bundles) (sym same) ∙ there)) in
          inr (same-digest name other (own ∙ (ap (λ (x : PlanBundle). digest_of x.name) twin ∙ sym is)), sym same)
      from less has (inr (inl small)) = inl ((before other c).1 (small, has))
      from less has (inr (inr large)) = absurd (omega (arith, less, large))

  pub names-all : (k : ℕ) (find : Digest → List ℕ) → length plan.bundles ≤ k → AreNames plan k find → AreNames plan (length plan.bundles) find
  names-all k find all names name c = (
    (λ here. (let is = (names name c).0 here in (slice_get_within plan.bundles c is.1.0 is.1.1, is.1))),
    (λ (less, has). (names name c).1 (omega (arith, less, all), has)),
  )
