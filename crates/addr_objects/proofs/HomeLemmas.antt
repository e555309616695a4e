-- Homes: each leads to at most one bundle, and the map of names finds it.
use Rattle.std.proofs.Common.{◌≡◌, ◌<◌, ◌+◌, ◌⊎◌, inl, inr, ℕ, Bool, true, false, cond, List, [], ◌∷◌, ◌++◌, length, get_or, take, ◌≤◌, Option, Some, None, is_some, refl, ap, subst, sym, ◌∙◌, arith, MatchOption}
use Rattle.std.proofs.lemmas.Bool.{cases_order, false≢true}
use Rattle.std.proofs.lemmas.List.{take_all, take_more}
use Rattle.std.proofs.lemmas.List.Elements.{Contains-push_cases}
use Rattle.std.proofs.lemmas.Map.Text.{is_eq-slice_cmp}
use Rattle.std.proofs.lemmas.Option.{slice_get_within}
use Rattle.std.proofs.lemmas.Slice.Eq.{bytes_eq-Decides}
use Rattle.std.specs.BTreeMap.{BTreeMap, get, is_at}
use Rattle.std.specs.Map.{lookup}
use Rattle.std.specs.List.{Contains, slice_get}
use Rattle.std.specs.Ordering.{eq_by_cmp}
use Rattle.addr_base.specs.declared.ids.BundleNo.{BundleNo}
use Rattle.addr_base.specs.declared.ids.Digest.{Digest}
use Rattle.addr_base.specs.declared.images.Home.{Home}
use Rattle.addr_base.specs.declared.images.Home.TheVariants.{Own, Other}
use Rattle.addr_locate.specs.declared.rows.BundleRow.{BundleRow}
use Rattle.addr_walks.proofs.Lists.{Contains-none, Contains-slice_get, slice_get-append_left, slice_get-push_cases, slice_get-push_last}
use Rattle.addr_history.specs.Reading.{Spells}
use Rattle.addr_history.specs.Unfolding.{IsFirstNamed, IsNamed, LeadsTo}
use Rattle.addr_history.proofs.OneAnswer.{one_spelled}
use Rattle.addr_objects.specs.within.Homes.{AreHomes, digest_cmp}

same-some : {A : Type 0} (x y : A) → Some x ≡ Some y → x ≡ y
same-some x y same = cc same

-- ---- one home

first-one : (bundles : List BundleRow) (needs : List BundleNo) (name : Digest) (b c : BundleNo) → IsFirstNamed bundles needs name b → IsFirstNamed bundles needs name c → b ≡ c
first-one bundles needs name b c (k, at, named, least) (j, there, also, low) = by_order (cases_order k j)
  where
    by_order : (k ≡ j) ⊎ ((k < j) ⊎ (j < k)) → b ≡ c
    by_order (inl same) = same-some b c (sym at ∙ (ap (slice_get needs) same ∙ there))
    by_order (inr (inl less)) = absurd (low k b less at named)
    by_order (inr (inr less)) = absurd (least j c less there also)

pub one-home : (bundles : List BundleRow) (needs : List BundleNo) (b : ℕ) (home : Home) (c d : ℕ) → LeadsTo bundles needs b home c → LeadsTo bundles needs b home d → c ≡ d
one-home bundles needs b Own c d is too = sym is ∙ too
one-home bundles needs b (Other name) c d is too = ap (λ (x : BundleNo). x.0) (first-one bundles needs name (record { 0 = c }) (record { 0 = d }) is too)

-- ---- the map of names

same-digest : (x y : Digest) → x.0 ≡ y.0 → x ≡ y
same-digest x y same = λ i. record { 0 = same i }

tied-digest : (x y : Digest) → eq_by_cmp digest_cmp x y ≡ true → x ≡ y
tied-digest x y tied = same-digest x y ((bytes_eq-Decides x.0 y.0).0 (sym (is_eq-slice_cmp x.0 y.0) ∙ tied))

-- a bundle has one name
one-name : (bundles : List BundleRow) (x y : Digest) (b : BundleNo) → IsNamed bundles x b → IsNamed bundles y b → x ≡ y
one-name bundles x y b (row, at, spells) (other, there, also) =
    let same : row ≡ other = same-some row other (sym at ∙ there) in
    same-digest x y (one_spelled row.name x.0 y.0 spells (subst (λ (r : BundleRow). Spells r.name y.0) (sym same) also))

pub homes-none : (bundles : List BundleRow) (m : BTreeMap Digest BundleNo) → m.entries ≡ [] → AreHomes bundles [] m
homes-none bundles m empty name = subst (λ (o : Option BundleNo). MatchOption o ((b : BundleNo) → Contains [] b → IsNamed bundles name b → ⊥) (λ b. IsFirstNamed bundles [] name b)) (sym (ap (lookup (is_at (digest_cmp name))) empty)) (λ b here named. Contains-none b here)

-- the names of one bundle more
pub homes-more : (bundles : List BundleRow) (needs : List BundleNo) (k : ℕ) (d : BundleNo) (m : BTreeMap Digest BundleNo) → k < length needs → AreHomes bundles (take k needs ++ get_or needs k d ∷ []) m → AreHomes bundles (take (k + 1) needs) m
homes-more bundles needs k d m within homes = subst (λ (bs : List BundleNo). AreHomes bundles bs m) (sym (take_more needs k d within)) homes

pub homes-all : (bundles : List BundleRow) (needs : List BundleNo) (k : ℕ) (m : BTreeMap Digest BundleNo) → length needs ≤ k → AreHomes bundles (take k needs) m → AreHomes bundles needs m
homes-all bundles needs k m all homes = subst (λ (bs : List BundleNo). AreHomes bundles bs m) (take_all k needs all) homes

-- what the map says of a name
pub home-found : (bundles : List BundleRow) (needs : List BundleNo) (m : BTreeMap Digest BundleNo) (name : Digest) (b : BundleNo) → AreHomes bundles needs m → get digest_cmp m name ≡ Some b → IsFirstNamed bundles needs name b
home-found bundles needs m name b homes is = subst (λ (o : Option BundleNo). MatchOption o ((c : BundleNo) → Contains needs c → IsNamed bundles name c → ⊥) (λ c. IsFirstNamed bundles needs name c)) is (homes name)

pub home-absent : (bundles : List BundleRow) (needs : List BundleNo) (m : BTreeMap Digest BundleNo) (name : Digest) → AreHomes bundles needs m → get digest_cmp m name ≡ None → (c : BundleNo) → IsFirstNamed bundles needs name c → ⊥
home-absent bundles needs m name homes is c (k, at, named, least) = subst (λ (o : Option BundleNo). MatchOption o ((d : BundleNo) → Contains needs d → IsNamed bundles name d → ⊥) (λ d. IsFirstNamed bundles needs name d)) is (homes name) c (Contains-slice_get needs k c at) named

pub known-name : (bundles : List BundleRow) (m : BTreeMap Digest BundleNo) (own : Digest) (b : BundleNo) → IsNamed bundles own b → is_some (get digest_cmp m own) ≡ true → (name : Digest) → IsNamed bundles name b → is_some (get digest_cmp m name) ≡ true
known-name bundles m own b is known name named = subst (λ (x : Digest). is_some (get digest_cmp m x) ≡ true) (one-name bundles own name b is named) known

-- a bundle whose name is none, or is there already
pub homes-pass : (bundles : List BundleRow) (needs : List BundleNo) (b : BundleNo) (m : BTreeMap Digest BundleNo)
    → ((name : Digest) → IsNamed bundles name b → is_some (get digest_cmp m name) ≡ true) → AreHomes bundles needs m → AreHomes bundles (needs ++ b ∷ []) m
homes-pass bundles needs b m known homes name = by_value (get digest_cmp m name) refl (homes name)
  where
    by_value : (o : Option BundleNo) → get digest_cmp m name ≡ o → MatchOption o ((c : BundleNo) → Contains needs c → IsNamed bundles name c → ⊥) (λ c. IsFirstNamed bundles needs name c)
        → MatchOption o ((c : BundleNo) → Contains (needs ++ b ∷ []) c → IsNamed bundles name c → ⊥) (λ c. IsFirstNamed bundles (needs ++ b ∷ []) name c)
    by_value None is none = λ c here named. by_case c (Contains-push_cases needs b c here) named
      where
        by_case : (c : BundleNo) → Contains needs c ⊎ (b ≡ c) → IsNamed bundles name c → ⊥
        by_case c (inl was) named = none c was named
        by_case c (inr same) named = false≢true (sym (ap is_some is) ∙ known name (subst (IsNamed bundles name) (sym same) named))
    by_value (Some c) is first = first-stays c first
      where
        first-stays : (c : BundleNo) → IsFirstNamed bundles needs name c → IsFirstNamed bundles (needs ++ b ∷ []) name c
        first-stays c (k, at, named, least) = (k, slice_get-append_left needs (b ∷ []) k c at, named, λ j d less there also. by_place j d less also (slice_get-push_cases needs b j d there))
          where
            by_place : (j : ℕ) (d : BundleNo) → j < k → IsNamed bundles name d → (slice_get needs j ≡ Some d) ⊎ ((j ≡ length needs) × (b ≡ d)) → ⊥
            by_place j d less also (inl was) = least j d less was also
            by_place j d less also (inr (last, same)) = (let within = slice_get_within needs k c at in omega (arith, within, last, less))

-- a bundle with a name that none before it has
pub homes-put : (bundles : List BundleRow) (needs : List BundleNo) (b : BundleNo) (own : Digest) (m n : BTreeMap Digest BundleNo)
    → IsNamed bundles own b → get digest_cmp m own ≡ None → ((q : Digest) → get digest_cmp n q ≡ cond (eq_by_cmp digest_cmp own q) (Some b) (get digest_cmp m q)) → AreHomes bundles needs m → AreHomes bundles (needs ++ b ∷ []) n
homes-put bundles needs b own m n is absent updates homes name = by_test (eq_by_cmp digest_cmp own name) refl
  where
    Found : Option BundleNo → Type 0
    Found o = MatchOption o ((c : BundleNo) → Contains (needs ++ b ∷ []) c → IsNamed bundles name c → ⊥) (λ c. IsFirstNamed bundles (needs ++ b ∷ []) name c)

    none-before : (q : Digest) → get digest_cmp m q ≡ None → (c : BundleNo) → Contains needs c → IsNamed bundles q c → ⊥
    none-before q none = subst (λ (o : Option BundleNo). MatchOption o ((c : BundleNo) → Contains needs c → IsNamed bundles q c → ⊥) (λ c. IsFirstNamed bundles needs q c)) none (homes q)

    by_test : (t : Bool) → eq_by_cmp digest_cmp own name ≡ t → Found (get digest_cmp n name)
    by_test true tied =
        let same : own ≡ name = tied-digest own name tied in
        let found : get digest_cmp n name ≡ Some b = updates name ∙ ap (λ (t : Bool). cond t (Some b) (get digest_cmp m name)) tied in
        let empty : get digest_cmp m name ≡ None = ap (get digest_cmp m) (sym same) ∙ absent in
        subst Found (sym found) (length needs, slice_get-push_last needs b, subst (λ (x : Digest). IsNamed bundles x b) same is, λ j c less there named. by_place j c less named (slice_get-push_cases needs b j c there) empty)
      where
        by_place : (j : ℕ) (c : BundleNo) → j < length needs → IsNamed bundles name c → (slice_get needs j ≡ Some c) ⊎ ((j ≡ length needs) × (b ≡ c)) → get digest_cmp m name ≡ None → ⊥
        by_place j c less named (inl was) empty = none-before name empty c (Contains-slice_get needs j c was) named
        by_place j c less named (inr (last, same)) empty = omega (arith, last, less)
    by_test false apart =
        let same : get digest_cmp n name ≡ get digest_cmp m name = updates name ∙ ap (λ (t : Bool). cond t (Some b) (get digest_cmp m name)) apart in
        subst Found (sym same) (passes (get digest_cmp m name) refl (homes name))
      where
        other : IsNamed bundles name b → ⊥
        other named =
            let twin : own ≡ name = one-name bundles own name b is named in
            false≢true (sym apart ∙ subst (λ (x : Digest). eq_by_cmp digest_cmp own x ≡ true) twin (is_eq-slice_cmp own.0 own.0 ∙ (bytes_eq-Decides own.0 own.0).1 refl))

        passes : (o : Option BundleNo) → get digest_cmp m name ≡ o → MatchOption o ((c : BundleNo) → Contains needs c → IsNamed bundles name c → ⊥) (λ c. IsFirstNamed bundles needs name c) → Found o
        passes None at none = λ c here named. by_case c (Contains-push_cases needs b c here) named
          where
            by_case : (c : BundleNo) → Contains needs c ⊎ (b ≡ c) → IsNamed bundles name c → ⊥
            by_case c (inl was) named = none c was named
            by_case c (inr same) named = other (subst (IsNamed bundles name) (sym same) named)
        passes (Some c) at (k, there, named, least) = (k, slice_get-append_left needs (b ∷ []) k c there, named, λ j d less here also. by_place j d less also (slice_get-push_cases needs b j d here))
          where
            by_place : (j : ℕ) (d : BundleNo) → j < k → IsNamed bundles name d → (slice_get needs j ≡ Some d) ⊎ ((j ≡ length needs) × (b ≡ d)) → ⊥
            by_place j d less also (inl was) = least j d less was also
            by_place j d less also (inr (last, same)) = (let within = slice_get_within needs k c there in omega (arith, within, last, less))
