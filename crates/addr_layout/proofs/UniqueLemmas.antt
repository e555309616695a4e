-- A placement has at most one layout, and one count of members and of dependencies.
use Rattle.std.proofs.Common.{◌≡◌, ◌≢◌, ℕ, suc, inl, inr, Bool, true, false, List, [], ◌∷◌, length, map, get_or, refl, sym, ap, subst, ◌∙◌, arith}
use Rattle.std.proofs.lemmas.Cmp.{on_total, nat_list_cmp_total}
use Rattle.std.specs.Bool.{MatchBool}
use Rattle.std.specs.Cmp.{IsTotalOrder, nat_cmp_total}
use Rattle.std.specs.List.{AllZip, sum}
use Rattle.addr_base.specs.declared.ids.Guid.{Guid}
use Rattle.addr_pack.specs.declared.bundles.Plan.{Plan}
use Rattle.addr_pack.specs.declared.bundles.PlanBundle.{PlanBundle}
use Rattle.addr_project.specs.declared.model.Asset.{Asset}
use Rattle.addr_project.specs.Kept.{IsKept, asset_guids}
use Rattle.addr_project.specs.Model.{Project}
use Rattle.addr_walks.specs.Closure.{IsDeps}
use Rattle.addr_walks.specs.Places.{EachAt}
use Rattle.addr_walks.specs.Walks.{Leads}
use Rattle.addr_walks.proofs.Lists.{one-list}
use Rattle.addr_layout.specs.declared.model.LayBundle.{LayBundle}
use Rattle.addr_layout.specs.declared.model.RefHome.TheVariants.{Own, Bundle}
use Rattle.addr_layout.specs.Counts.{AreCounted, AreFor, IsDepsCountOver, IsMembersCount}
use Rattle.addr_layout.specs.Laws.{AtMostOne}
use Rattle.addr_layout.specs.Layout.{AreHomes, AreMembers, IsBare, IsFull, IsLaid, IsLayout, MemberNumber, by_guid}
use Rattle.addr_layout.specs.Members.{IsShared}
use Rattle.addr_layout.specs.Needs.{IsHome, Needs}
use Rattle.addr_layout.proofs.PlacedLemmas.{one-bundle}
use Rattle.addr_layout.proofs.RankLemmas.{same-some}

-- ---- lists

-- what stands beside a list is one list, where one thing fits beside each element
one-beside : {A B : Type 0} (R : A → B → Type 0) → ((x : A) → AtMostOne (R x)) → (xs : List A) → AtMostOne (AllZip R xs)
one-beside R one [] [] [] first second = refl
one-beside R one [] (y ∷ ys) zs first second = absurd first
one-beside R one [] [] (z ∷ zs) first second = absurd second
one-beside R one (x ∷ xs) [] zs first second = absurd first
one-beside R one (x ∷ xs) (y ∷ ys) [] first second = absurd second
one-beside R one (x ∷ xs) (y ∷ ys) (z ∷ zs) first second =
    let head = one x y z first.0 second.0 in
    let tail = one-beside R one xs ys zs first.1 second.1 in
    cc

-- lists of one length are the same, where one thing fits each place
one-at : {X : Type 0} (fits : ℕ → X → Type 0) → ((k : ℕ) → AtMostOne (fits k)) → (xs ys : List X) → length xs ≡ length ys → EachAt fits xs → EachAt fits ys → xs ≡ ys
one-at fits one [] [] long first second = refl
one-at fits one [] (y ∷ ys) long first second = absurd (omega arith)
one-at fits one (x ∷ xs) [] long first second = absurd (omega arith)
one-at fits one (x ∷ xs) (y ∷ ys) long first second =
    let head = one 0 x y (first 0 x refl) (second 0 y refl) in
    let tail = one-at (λ k. fits (suc k)) (λ k. one (suc k)) xs ys (omega arith) (λ k z at. first (suc k) z at) (λ k z at. second (suc k) z at) in
    cc

-- ---- dependency lists and counts

-- a bundle has one dependency list over any step of needing
pub one-deps : (needs : ℕ → ℕ → Type 0) (b : ℕ) → AtMostOne (IsDeps needs b)
one-deps needs b xs ys (rest, is, list) (other, was, also) =
    let same = one-list nat_cmp_total (λ c. (b ≢ c) × Leads needs b c) rest other list also in
    is ∙ (ap (λ zs. b ∷ zs) same ∙ sym was)

one-total : (plan : Plan) (fits : ℕ → List ℕ → Type 0) → ((b : ℕ) → AtMostOne (fits b)) → AtMostOne (λ n. (lists : List (List ℕ)) × AreFor plan fits lists × (n ≡ sum (map length lists)))
one-total plan fits one m n (lists, for, is) (others, also, was) =
    is ∙ (ap (λ (ls : List (List ℕ)). sum (map length ls)) (one-at fits one lists others (for.as_many ∙ sym also.as_many) for.each also.each) ∙ sym was)

-- so has it one count of dependencies over each
pub one-deps_count : (needs : ℕ → ℕ → Type 0) (plan : Plan) → AtMostOne (IsDepsCountOver needs plan)
one-deps_count needs plan = one-total plan (IsDeps needs) (one-deps needs)

-- ---- members

by-guid : (p : Project) → IsTotalOrder (by_guid p)
by-guid p = on_total (λ (n : ℕ). get_or (asset_guids p.assets) n []) nat_list_cmp_total

one-members : (p : Project) (plan : Plan) (b : ℕ) → AtMostOne (AreMembers p plan b)
one-members p plan b = one-list (by-guid p) (MemberNumber p plan b)

one-counted : (p : Project) (plan : Plan) (b : ℕ) → AtMostOne (AreCounted p plan b)
one-counted p plan b xs ys (bundle, at, members) (other, there, also) =
    let same : other ≡ bundle = same-some other bundle (sym there ∙ at) in
    by_kept bundle.kept members (subst (λ (q : PlanBundle). MatchBool q.kept (ys ≡ []) (AreMembers p plan b ys)) same also)
  where
    by_kept : (t : Bool) → MatchBool t (xs ≡ []) (AreMembers p plan b xs) → MatchBool t (ys ≡ []) (AreMembers p plan b ys) → xs ≡ ys
    by_kept true none empty = none ∙ sym empty
    by_kept false first second = one-members p plan b xs ys first second

pub one-members_count : (p : Project) (plan : Plan) → AtMostOne (IsMembersCount p plan)
one-members_count p plan = one-total plan (AreCounted p plan) (one-counted p plan)

-- ---- layouts

lay-same : (x y : LayBundle) → x.members ≡ y.members → x.refs ≡ y.refs → x.direct ≡ y.direct → x ≡ y
lay-same x y members refs direct = λ i. record { members = members i; refs = refs i; direct = direct i }

module _ (p : Project) (plan : Plan) (kept : IsKept p) (shared : IsShared p plan) where
  -- a reference doesn't both stay and lead elsewhere
  not-both : (b c : ℕ) (y : Guid) → IsHome p plan b y Own → IsHome p plan b y (Bundle c) → ⊥
  not-both b c y own (apart, inr (none, same)) = apart same
  not-both b c y (inl has) (apart, inl other) = apart (one-bundle p plan kept shared b c y has other)
  not-both b c y (inr (none, same)) (apart, inl other) = none (other.0, other.2)

  one-home : (b : ℕ) (y : Guid) → AtMostOne (IsHome p plan b y)
  one-home b y Own Own first second = refl
  one-home b y Own (Bundle c) first second = absurd (not-both b c y first second)
  one-home b y (Bundle c) Own first second = absurd (not-both b c y second first)
  one-home b y (Bundle c) (Bundle d) (apart, inl has) (other, inl also) = ap Bundle (one-bundle p plan kept shared c d y has also)
  one-home b y (Bundle c) (Bundle d) (apart, inr (none, same)) second = absurd (apart same)
  one-home b y (Bundle c) (Bundle d) (apart, inl has) (other, inr (none, same)) = absurd (other same)

  one-homes : (b n : ℕ) → AtMostOne (AreHomes p plan b n)
  one-homes b n xs ys (asset, at, zip) (other, there, also) =
      let same : other ≡ asset = same-some other asset (sym there ∙ at) in
      one-beside (IsHome p plan b) (one-home b) asset.refs xs ys zip (subst (λ (a : Asset). AllZip (IsHome p plan b) a.refs ys) same also)

  one-full : (b : ℕ) → AtMostOne (IsFull p plan b)
  one-full b x y first second =
      let members : x.members ≡ y.members = one-members p plan b x.members y.members first.members second.members in
      let refs = subst (λ (ms : List ℕ). AllZip (AreHomes p plan b) ms y.refs) (sym members) second.refs in
      lay-same x y members (one-beside (AreHomes p plan b) (one-homes b) x.members x.refs y.refs first.refs refs)
      (one-list nat_cmp_total (Needs p plan b) x.direct y.direct first.direct second.direct)

  one-laid : (b : ℕ) → AtMostOne (IsLaid p plan b)
  one-laid b x y (bundle, at, lay) (other, there, also) =
      let same : other ≡ bundle = same-some other bundle (sym there ∙ at) in
      by_kept bundle.kept lay (subst (λ (q : PlanBundle). MatchBool q.kept (IsBare y) (IsFull p plan b y)) same also)
    where
      by_kept : (t : Bool) → MatchBool t (IsBare x) (IsFull p plan b x) → MatchBool t (IsBare y) (IsFull p plan b y) → x ≡ y
      by_kept true first second = lay-same x y (first.0 ∙ sym second.0) (first.1 ∙ sym second.1) (first.2 ∙ sym second.2)
      by_kept false first second = one-full b x y first second

  pub one-layout : AtMostOne (IsLayout p plan)
  one-layout x y first second = same-bundles (one-at (IsLaid p plan) one-laid x.bundles y.bundles (first.as_many ∙ sym second.as_many) first.laid second.laid)
    where
      same-bundles : x.bundles ≡ y.bundles → x ≡ y
      same-bundles same = λ i. record { bundles = same i }
