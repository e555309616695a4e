-- Counts and marks in the subject's words: in how many bundles an asset is a member, and whether it is an entry.
use Rattle.std.proofs.Common.{◌≡◌, ℕ, zero, suc, ◌+◌, ◌<◌, ◌≤◌, ◌⊎◌, inl, inr, Bool, true, false, ◌||◌, List, [], ◌∷◌, ◌++◌, length, get_or, take, Some, refl, sym, ap, subst, ◌∙◌, arith}
use Rattle.std.proofs.lemmas.Bool.{cases_eq, eq-eqb, eqb-true, false≢true}
use Rattle.std.proofs.lemmas.Cmp.{nat_eq_equiv}
use Rattle.std.proofs.lemmas.List.{length_push, take_all}
use Rattle.std.proofs.lemmas.List.Elements.{Contains-append_left, Contains-push, Contains-push_cases}
use Rattle.std.proofs.lemmas.List.Sums.{count_by_more_no, count_by_more_yes}
use Rattle.std.proofs.lemmas.Map.Views.{list_any-from_Contains}
use Rattle.std.proofs.lemmas.Option.{slice_get-get_or, slice_get_within}
use Rattle.std.specs.List.{Contains, count_by, list_any, slice_get}
use Rattle.addr_layout.specs.declared.model.LayBundle.{LayBundle}
use Rattle.addr_layout.specs.declared.model.Layout.{Layout}
use Rattle.addr_layout.specs.Layout.{IsLayout}
use Rattle.addr_layout.specs.Members.{IsEntry, IsNumbered, Member}
use Rattle.addr_layout.proofs.PlacedLemmas.{one-number}
use Rattle.addr_layout.proofs.RankLemmas.{same-some}
use Rattle.addr_pack.specs.declared.bundles.Plan.{Plan}
use Rattle.addr_pack.specs.Placement.{IsPlaced}
use Rattle.addr_project.specs.declared.model.Asset.{Asset}
use Rattle.addr_project.specs.declared.model.Entry.{Entry}
use Rattle.addr_project.specs.Kept.{IsKept}
use Rattle.addr_project.specs.Model.{Project}
use Rattle.addr_walks.specs.Rows.{IsSizeOf}
use Rattle.addr_walks.proofs.Lists.{Contains-cases, Contains-later, Contains-here, Contains-none, Contains-slice_get, IsListOf-same, slice_get-Contains}
use Rattle.addr_walks.proofs.MarkLemmas.{any-Contains}
use Rattle.addr_analyze.specs.Counting.{AreMarks, has_member, is_of}
use Rattle.addr_analyze.proofs.ListLemmas.{rises-none, rises-push}
use Rattle.addr_analyze.proofs.MemberLemmas.{full-at}

-- ---- how many bundles have a number

module _ (bundles : List LayBundle) (n : ℕ) where
  -- a bundle has the number among its members
  abbrev pub Has : ℕ → Type 0
  Has b = (lay : LayBundle) × (slice_get bundles b ≡ Some lay) × Contains lay.members n

  abbrev HasBelow : ℕ → ℕ → Type 0
  HasBelow k b = (b < k) × Has b

  has : (b : ℕ) (lay : LayBundle) → slice_get bundles b ≡ Some lay → has_member n lay ≡ true → Has b
  has b lay at is = (lay, at, any-Contains n lay.members is)

  has-test : (b : ℕ) (lay : LayBundle) → slice_get bundles b ≡ Some lay → Has b → has_member n lay ≡ true
  has-test b lay at (other, there, here) =
      let same : other ≡ lay = same-some other lay (sym there ∙ at) in
      subst (λ (x : LayBundle). has_member n x ≡ true) same (list_any-from_Contains nat_eq_equiv n other.members here)

  no_lay : LayBundle
  no_lay = record { members = []; refs = []; direct = [] }

  size-more : (k : ℕ) → k < length bundles → (t : Bool) → has_member n (get_or bundles k no_lay) ≡ t → IsSizeOf (HasBelow k) (count_by (has_member n) (take k bundles))
      → IsSizeOf (HasBelow (k + 1)) (count_by (has_member n) (take (k + 1) bundles))
  size-more k within true is (xs, list, size) = (
    xs ++ k ∷ [],
    record {
      rising = rises-push xs k list.rising (λ b here. (list.within b here).0);
      within = λ b here. within' b (Contains-push_cases xs k b here);
      all = λ b has. all b has (cases_eq b k);
    },
    count_by_more_yes (has_member n) bundles k no_lay within is ∙ (ap (λ m. m + 1) size ∙ sym (length_push xs k)),
  )
    where
      at : slice_get bundles k ≡ Some (get_or bundles k no_lay)
      at = slice_get-get_or bundles k no_lay within

      within' : (b : ℕ) → Contains xs b ⊎ (k ≡ b) → HasBelow (k + 1) b
      within' b (inl here) = let old = list.within b here in ((let less = old.0 in omega arith), old.1)
      within' b (inr same) = (omega arith, subst Has same (has k (get_or bundles k no_lay) at is))

      all : (b : ℕ) → HasBelow (k + 1) b → (b ≡ k) ⊎ (b ≡ k → ⊥) → Contains (xs ++ k ∷ []) b
      all b (less, held) (inl same) = subst (Contains (xs ++ k ∷ [])) (sym same) (Contains-push xs k)
      all b (less, held) (inr other) = Contains-append_left xs (k ∷ []) b (list.all b (omega (arith, other), held))
  size-more k within false is (xs, list, size) = (
    xs,
    IsListOf-same (HasBelow k) (HasBelow (k + 1)) (λ b (less, held). (omega arith, held)) (λ b (less, held). less-still b less held (cases_eq b k)) xs list,
    count_by_more_no (has_member n) bundles k no_lay within is ∙ size,
  )
    where
      less-still : (b : ℕ) → b < k + 1 → Has b → (b ≡ k) ⊎ (b ≡ k → ⊥) → HasBelow k b
      less-still b less held (inl same) = absurd (false≢true (sym is ∙ has-test k (get_or bundles k no_lay) (slice_get-get_or bundles k no_lay within) (subst Has same held)))
      less-still b less held (inr other) = (omega (arith, other), held)

  size-to : (k : ℕ) → k ≤ length bundles → IsSizeOf (HasBelow k) (count_by (has_member n) (take k bundles))
  size-to zero within = ([], record { rising = rises-none; within = λ b here. absurd (Contains-none b here); all = λ b (less, held). absurd (omega arith) }, refl)
  size-to (suc k) within =
      let more = size-more k (omega arith) (has_member n (get_or bundles k no_lay)) refl (size-to k (omega arith)) in
      let next : k + 1 ≡ suc k = omega arith in
      subst (λ m. IsSizeOf (HasBelow m) (count_by (has_member n) (take m bundles))) next more

  pub size-of : IsSizeOf Has (count_by (has_member n) bundles)
  size-of =
      let (xs, list, size) = size-to (length bundles) (omega arith) in (
        xs,
        IsListOf-same (HasBelow (length bundles)) Has (λ b (less, held). held) (λ b held. (slice_get_within bundles b held.0 held.1, held)) xs list,
        ap (count_by (has_member n)) (sym (take_all (length bundles) bundles (omega arith))) ∙ size,
      )

-- ---- members

module _ (p : Project) (plan : Plan) (layout : Layout) (kept : IsKept p) (placed : IsPlaced p plan) (laid : IsLayout p plan layout) (n : ℕ) (asset : Asset) (at : slice_get p.assets n ≡ Some asset) where
  numbered : IsNumbered p n asset.guid
  numbered = (asset, at, refl)

  has-member : (b : ℕ) → Has layout.bundles n b → Member p plan b asset.guid
  has-member b (lay, there, here) =
      let (guid, (other, other-at, is), member) = (full-at p plan layout kept placed laid b lay there).members.within n here in
      let same : other ≡ asset = same-some other asset (sym other-at ∙ at) in
      subst (Member p plan b) (sym is ∙ ap (λ (a : Asset). a.guid) same) member

  member-has : (b : ℕ) → Member p plan b asset.guid → Has layout.bundles n b
  member-has b (e, (x, (bundle, bundle-at, here), entry), walk) =
      let within = slice_get_within plan.bundles b bundle bundle-at in
      let inside : b < length layout.bundles = (let long = laid.as_many in omega arith) in
      let lay = get_or layout.bundles b (no_lay layout.bundles n) in
      let lay-at = slice_get-get_or layout.bundles b (no_lay layout.bundles n) inside in
      (lay, lay-at, (full-at p plan layout kept placed laid b lay lay-at).members.all n (asset.guid, numbered, (e, (x, (bundle, bundle-at, here), entry), walk)))

  -- the count beside an asset is that of its bundles
  pub copies-counted : (count : ℕ) → count ≡ count_by (has_member n) layout.bundles → IsSizeOf (λ b. Member p plan b asset.guid) count
  copies-counted count is =
      let (xs, list, size) = size-of layout.bundles n in
      (xs, IsListOf-same (Has layout.bundles n) (λ b. Member p plan b asset.guid) has-member member-has xs list, is ∙ size)

-- ---- entries

or-here : (t u : Bool) → t ≡ true → (t || u) ≡ true
or-here t u is = rw is refl

or-later : (t u : Bool) → u ≡ true → (t || u) ≡ true
or-later true u is = refl
or-later false u is = is

entry-marked : (n : ℕ) (entries : List Entry) (e : Entry) → Contains entries e → e.asset ≡ n → list_any (is_of n) entries ≡ true
entry-marked n [] e here same = absurd (Contains-none e here)
entry-marked n (d ∷ ds) e here same = by_place (Contains-cases d ds e here) (λ later. entry-marked n ds e later same)
  where
    by_place : (d ≡ e) ⊎ Contains ds e → (Contains ds e → list_any (is_of n) ds ≡ true) → list_any (is_of n) (d ∷ ds) ≡ true
    by_place (inl is) more = or-here (is_of n d) (list_any (is_of n) ds) (eq-eqb d.asset n (ap (λ (x : Entry). x.asset) is ∙ same))
    by_place (inr later) more = or-later (is_of n d) (list_any (is_of n) ds) (more later)

marked-entry : (n : ℕ) (entries : List Entry) → list_any (is_of n) entries ≡ true → (e : Entry) × Contains entries e × (e.asset ≡ n)
marked-entry n [] is = absurd (false≢true is)
marked-entry n (d ∷ ds) is = by_test (is_of n d) refl is (marked-entry n ds)
  where
    by_test : (t : Bool) → is_of n d ≡ t → (t || list_any (is_of n) ds) ≡ true → (list_any (is_of n) ds ≡ true → (e : Entry) × Contains ds e × (e.asset ≡ n)) → (e : Entry) × Contains (d ∷ ds) e × (e.asset ≡ n)
    by_test true own is more = (d, Contains-here d ds, eqb-true d.asset n own)
    by_test false own is more = let rest = more is in (rest.0, Contains-later d ds rest.0 rest.1, rest.2)

module _ (p : Project) (kept : IsKept p) (marks : List Bool) (are : AreMarks (length p.assets) p.entries marks) (n : ℕ) (asset : Asset) (at : slice_get p.assets n ≡ Some asset) where
  pub unmarked-implicit : get_or marks n false ≡ false → ¬ IsEntry p asset.guid
  unmarked-implicit unset (x, (e, entry-at, numbered)) =
      let same : e.asset ≡ n = one-number p kept e.asset n asset.guid numbered (asset, at, refl) in
      false≢true (sym unset ∙ (are.set n ∙ entry-marked n p.entries e (Contains-slice_get p.entries x e entry-at) same))

  pub implicit-unmarked : ¬ IsEntry p asset.guid → get_or marks n false ≡ false
  implicit-unmarked implicit = by_test (get_or marks n false) refl
    where
      by_test : (t : Bool) → get_or marks n false ≡ t → t ≡ false
      by_test false is = refl
      by_test true is =
          let found = marked-entry n p.entries (sym (are.set n) ∙ is) in
          let entry = slice_get-Contains p.entries found.0 found.1 in
          absurd (implicit (entry.0, (found.0, entry.1, subst (λ m. IsNumbered p m asset.guid) (sym found.2) (asset, at, refl))))
