-- What stands beside the GUIDs: numbers of assets, and ranks of references.
use Rattle.std.proofs.Common.{◌≡◌, ℕ, ◌+◌, ◌<◌, ◌≤◌, ◌⊎◌, inl, inr, List, [], ◌∷◌, ◌++◌, length, get_or, set, Some, refl, sym, ap, subst, ◌∙◌, arith}
use Rattle.std.proofs.lemmas.Bool.{cases_eq, cases_lt}
use Rattle.std.proofs.lemmas.List.{get_or-set_other, get_or-set_same}
use Rattle.std.proofs.lemmas.Option.{slice_get-get_or, slice_get_within, get_or_from_slice_get, slice_get_read}
use Rattle.std.specs.List.{Contains, slice_get}
use Rattle.std.specs.List.Sorted.{IsStrictlySortedBy}
use Rattle.addr_base.specs.declared.ids.Guid.{Guid}
use Rattle.addr_project.specs.declared.model.Asset.{Asset}
use Rattle.addr_project.specs.Kept.{IsKept}
use Rattle.addr_project.specs.Model.{Project}
use Rattle.addr_project.specs.Reach.{guid_cmp}
use Rattle.addr_walks.specs.Places.{EachAt}
use Rattle.addr_walks.proofs.Lists.{sorted-once, Contains-slice_get, slice_get-Contains, EachAt-push}
use Rattle.addr_layout.specs.Graph.{AreGuids, AreBeside, AreRanks, AreRefRanks, IsGuid}
use Rattle.addr_layout.specs.Members.{IsNumbered}
use Rattle.addr_layout.proofs.GuidLemmas.{guid_total}

-- two ranks of one GUID are the same
pub one-rank : (guids : List Guid) → IsStrictlySortedBy guid_cmp guids → (r s : ℕ) (g : Guid) → slice_get guids r ≡ Some g → slice_get guids s ≡ Some g → r ≡ s
one-rank guids rising r s g = sorted-once guid_total guids rising r s g

pub same-some : {X : Type 0} (x y : X) → Some x ≡ Some y → x ≡ y
same-some x y same = cc same

-- what was read at a place of a list
pub read-at : {X : Type 0} (xs ys : List X) (i : ℕ) (x : X) → xs ≡ ys → i < length xs → x ≡ get_or xs i x → slice_get ys i ≡ Some x
read-at xs ys i x same within read = ap (λ zs. slice_get zs i) (sym same) ∙ slice_get_read xs (length xs) i x refl within read

pub row-read : {X : Type 0} (xs : List X) (i : ℕ) (row item : X) → row ≡ item → item ≡ get_or xs i item → row ≡ get_or xs i row
row-read xs i row item same read = subst (λ x. x ≡ get_or xs i x) (sym same) read

-- a numbered GUID has a rank
pub guid-here : (p : Project) (guids : List Guid) → AreGuids p guids → (g : Guid) → IsGuid p g → Contains guids g
guid-here p guids are g is = are.list.all g is

pub asset-here : (p : Project) (guids : List Guid) → AreGuids p guids → (asset : Asset) → Contains p.assets asset → Contains guids asset.guid
asset-here p guids are asset here = let at = slice_get-Contains p.assets asset here in are.list.all asset.guid (at.0, (asset, at.1, refl))

-- ---- numbers of assets

-- beside the GUIDs of the first n assets stand numbers of assets with these
pub record NumbersTo (p : Project) (guids : List Guid) (n : ℕ) (numbers : List ℕ) : Type 0 where
  pub each : (k r : ℕ) (asset : Asset) → k < n → slice_get p.assets k ≡ Some asset → slice_get guids r ≡ Some asset.guid → IsNumbered p (get_or numbers r 0) asset.guid

pub numbers-none : (p : Project) (guids : List Guid) (numbers : List ℕ) → NumbersTo p guids 0 numbers
numbers-none p guids numbers = record { each = λ k r asset below at rank. absurd (omega arith) }

pub numbers-more : (p : Project) (guids : List Guid) (n rank : ℕ) (numbers : List ℕ) (asset : Asset) → AreGuids p guids → rank < length numbers
    → slice_get p.assets n ≡ Some asset → slice_get guids rank ≡ Some asset.guid → NumbersTo p guids n numbers → NumbersTo p guids (n + 1) (set numbers rank n)
numbers-more p guids n rank numbers asset are within at ranked before = record { each = λ k r other below here there. by_rank k r other below here there (cases_eq r rank) }
  where
    by_number : (k r : ℕ) (other : Asset) → k < n + 1 → slice_get p.assets k ≡ Some other → slice_get guids r ≡ Some other.guid → (r ≡ rank → ⊥) → (k < n) ⊎ (n ≤ k) → IsNumbered p (get_or (set numbers rank n) r 0) other.guid
    by_number k r other below here there apart (inl earlier) = subst (λ m. IsNumbered p m other.guid) (sym (get_or-set_other numbers rank r n 0 apart)) (before.each k r other earlier here there)
    by_number k r other below here there apart (inr late) =
        let last : k ≡ n = omega arith in
        let same = same-some other asset (sym here ∙ (ap (slice_get p.assets) last ∙ at)) in
        absurd (apart (one-rank guids are.list.rising r rank asset.guid (there ∙ ap (λ (a : Asset). Some a.guid) same) ranked))

    by_rank : (k r : ℕ) (other : Asset) → k < n + 1 → slice_get p.assets k ≡ Some other → slice_get guids r ≡ Some other.guid → (r ≡ rank) ⊎ (r ≡ rank → ⊥) → IsNumbered p (get_or (set numbers rank n) r 0) other.guid
    by_rank k r other below here there (inl same) =
        let number : get_or (set numbers rank n) r 0 ≡ n = ap (λ s. get_or (set numbers rank n) s 0) same ∙ get_or-set_same numbers rank n 0 within in
        subst (λ m. IsNumbered p m other.guid) (sym number) (asset, at, same-some asset.guid other.guid (sym ranked ∙ (ap (slice_get guids) (sym same) ∙ there)))
    by_rank k r other below here there (inr apart) = by_number k r other below here there apart (cases_lt k n)

pub numbers-all : (p : Project) (guids : List Guid) (n : ℕ) (numbers : List ℕ) → AreGuids p guids → length numbers ≡ length guids → length p.assets ≤ n → NumbersTo p guids n numbers → AreBeside guids (λ g m. IsNumbered p m g) numbers
numbers-all p guids n numbers are long all before = record {
  as_many = long;
  each = λ r g x ranked here. numbered r g x ranked here (are.list.within g (Contains-slice_get guids r g ranked));
}
  where
    numbered : (r : ℕ) (g : Guid) (x : ℕ) → slice_get guids r ≡ Some g → slice_get numbers r ≡ Some x → IsGuid p g → IsNumbered p x g
    numbered r g x ranked here (k, (asset, at, is)) =
        let within = slice_get_within p.assets k asset at in
        let found = before.each k r asset (omega arith) at (ranked ∙ ap Some (sym is)) in
        subst (IsNumbered p x) is (subst (λ m. IsNumbered p m asset.guid) (get_or_from_slice_get numbers r x 0 here) found)

-- what stands beside the GUID at a rank
pub beside-at : {X : Type 0} (guids : List Guid) (fits : Guid → X → Type 0) (xs : List X) (r : ℕ) (d : X) → AreBeside guids fits xs → r < length xs → (g : Guid) × (slice_get guids r ≡ Some g) × fits g (get_or xs r d)
beside-at guids fits xs r d beside within =
    let none : Guid = record { 0 = [] } in
    let long = beside.as_many in
    let at = slice_get-get_or guids r none (omega arith) in
    (get_or guids r none, at, beside.each r (get_or guids r none) (get_or xs r d) at (slice_get-get_or xs r d within))

pub number-below : (p : Project) (n : ℕ) (g : Guid) → IsNumbered p n g → n < length p.assets
number-below p n g (asset, at, is) = slice_get_within p.assets n asset at

-- ---- references

-- each reference of an asset is a GUID
pub refs-here : (p : Project) (guids : List Guid) → IsKept p → AreGuids p guids → (asset : Asset) → Contains p.assets asset → (g : Guid) → Contains asset.refs g → Contains guids g
refs-here p guids kept are asset here g refers =
    let named = kept.refs_named asset g here refers in
    subst (Contains guids) named.2 (asset-here p guids are named.0 named.1)

-- the asset that was read by the number beside a GUID
pub asset-read : (p : Project) (guids : List Guid) (numbers : List ℕ) (assets : List Asset) (r : ℕ) (asset : Asset) → AreBeside guids (λ g n. IsNumbered p n g) numbers → r < length numbers
    → assets ≡ p.assets → asset ≡ get_or assets (get_or numbers r 0) asset → slice_get p.assets (get_or numbers r 0) ≡ Some asset
asset-read p guids numbers assets r asset beside within same read =
    let at = beside-at guids (λ g n. IsNumbered p n g) numbers r 0 beside within in
    slice_get_read p.assets (length p.assets) (get_or numbers r 0) asset refl (number-below p (get_or numbers r 0) at.0 at.2) (read ∙ ap (λ (xs : List Asset). get_or xs (get_or numbers r 0) asset) same)

-- one more row of references
pub refs-more : (p : Project) (guids : List Guid) (numbers : List ℕ) (rows : List (List ℕ)) (row : List ℕ) (asset : Asset) → AreBeside guids (λ g n. IsNumbered p n g) numbers → length rows < length numbers
    → slice_get p.assets (get_or numbers (length rows) 0) ≡ Some asset → AreRanks guids asset.refs row
    → EachAt (λ r ranks. (g : Guid) → slice_get guids r ≡ Some g → AreRefRanks p guids g ranks) rows
    → EachAt (λ r ranks. (g : Guid) → slice_get guids r ≡ Some g → AreRefRanks p guids g ranks) (rows ++ row ∷ [])
refs-more p guids numbers rows row asset beside within at ranks each =
    EachAt-push (λ r ranks. (g : Guid) → slice_get guids r ≡ Some g → AreRefRanks p guids g ranks) rows row each last
  where
    last : (g : Guid) → slice_get guids (length rows) ≡ Some g → AreRefRanks p guids g row
    last g ranked =
        let numbered = beside-at guids (λ g n. IsNumbered p n g) numbers (length rows) 0 beside within in (
          asset,
          Contains-slice_get p.assets (get_or numbers (length rows) 0) asset at,
          ap (λ (a : Asset). a.guid) (same-some asset numbered.2.0 (sym at ∙ numbered.2.1)) ∙ (numbered.2.2 ∙ same-some numbered.0 g (sym numbered.1 ∙ ranked)),
          ranks,
        )
