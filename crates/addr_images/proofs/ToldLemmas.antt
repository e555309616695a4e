-- The objects of a bundle as its layout makes them: they are the bundle's objects, and their lengths are those of its members.
use Rattle.std.proofs.Common.{◌≡◌, ◌≢◌, ◌<◌, ◌≤◌, ◌+◌, ℕ, zero, suc, List, [], ◌∷◌, ◌++◌, length, get_or, map, take, Some, refl, sym, ap, ap₂, subst, ◌∙◌, inl, inr, arith}
use Rattle.std.proofs.lemmas.List.{take_all}
use Rattle.std.proofs.lemmas.Slice.Zip.{length-zip}
use Rattle.std.proofs.lemmas.Option.{slice_get_within, get_or_from_slice_get}
use Rattle.std.specs.Bool.{MatchBool}
use Rattle.std.specs.List.{AllByRecursion, AllZip, Contains, slice_get, zip}
use Rattle.addr_base.specs.declared.ids.Guid.{Guid}
use Rattle.addr_cab.specs.declared.object.ObjectSize.{ObjectSize}
use Rattle.addr_cab.specs.Sizes.{size_of}
use Rattle.addr_layout.specs.declared.model.LayBundle.{LayBundle}
use Rattle.addr_layout.specs.declared.model.Layout.{Layout}
use Rattle.addr_layout.specs.declared.model.RefHome.{RefHome}
use Rattle.addr_layout.specs.declared.model.RefHome.TheVariants.{Own as OwnBundle, Bundle}
use Rattle.addr_layout.specs.KeptBundles.{IsNewAt}
use Rattle.addr_layout.specs.Layout.{AreHomes, IsBare, IsFull, IsLayout}
use Rattle.addr_layout.specs.Needs.{Home, IsHome}
use Rattle.addr_layout.proofs.RankLemmas.{same-some}
use Rattle.addr_pack.specs.declared.bundles.Plan.{Plan}
use Rattle.addr_pack.specs.declared.bundles.PlanBundle.{PlanBundle}
use Rattle.addr_project.specs.declared.model.Asset.{Asset}
use Rattle.addr_project.specs.Model.{Project}
use Rattle.addr_release.specs.Images.{AreObjects, IsImageOf, IsRefTo, TellsBundle, TellsHome}
use Rattle.addr_images.specs.within.Told.{asset_at, asset_size, bundle_home, home_told, no_asset, object_told, objects_told, ref_told, refs_told, HasHomes}

-- ---- lists side by side

pub zip-maps : {A B C : Type 0} (R : A → B → Type 0) (S : A → C → Type 0) (f : A × B → C) (xs : List A) (ys : List B) → ((x : A) (y : B) → R x y → S x (f (x, y))) → AllZip R xs ys → AllZip S xs (map f (zip xs ys))
zip-maps R S f [] [] takes zipped = tt
zip-maps R S f [] (y ∷ ys) takes zipped = absurd zipped
zip-maps R S f (x ∷ xs) [] takes zipped = absurd zipped
zip-maps R S f (x ∷ xs) (y ∷ ys) takes zipped = (takes x y zipped.0, zip-maps R S f xs ys takes zipped.1)

pub zip-changes : {A B : Type 0} (R S : A → B → Type 0) (xs : List A) (ys : List B) → ((x : A) (y : B) → Contains xs x → R x y → S x y) → AllZip R xs ys → AllZip S xs ys
zip-changes R S [] [] takes zipped = tt
zip-changes R S [] (y ∷ ys) takes zipped = absurd zipped
zip-changes R S (x ∷ xs) [] takes zipped = absurd zipped
zip-changes R S (x ∷ xs) (y ∷ ys) takes zipped = (takes x y (0, omega arith, refl) zipped.0, zip-changes R S xs ys (λ a b here. takes a b (suc here.0, (let w = here.1 in omega (arith, w)), here.2)) zipped.1)

pub zip-both : {A B : Type 0} (R S : A → B → Type 0) (xs : List A) (ys : List B) → AllZip R xs ys → AllZip S xs ys → AllZip (λ x y. R x y × S x y) xs ys
zip-both R S [] [] one other = tt
zip-both R S [] (y ∷ ys) one other = absurd one
zip-both R S (x ∷ xs) [] one other = absurd one
zip-both R S (x ∷ xs) (y ∷ ys) one other = ((one.0, other.0), zip-both R S xs ys one.1 other.1)

pub zip-long : {A B : Type 0} (R : A → B → Type 0) (xs : List A) (ys : List B) → AllZip R xs ys → length ys ≡ length xs
zip-long R [] [] zipped = refl
zip-long R [] (y ∷ ys) zipped = absurd zipped
zip-long R (x ∷ xs) [] zipped = absurd zipped
zip-long R (x ∷ xs) (y ∷ ys) zipped = ap suc (zip-long R xs ys zipped.1)

-- one more pair, and all of them
map-zip : {A B C : Type 0} (f : A × B → C) (xs : List A) (ys : List B) (k : ℕ) (d : A) (e : B) → k < length xs → k < length ys
    → map f (take (suc k) (zip xs ys)) ≡ map f (take k (zip xs ys)) ++ f (get_or xs k d, get_or ys k e) ∷ []
map-zip f [] ys k d e within also = absurd (omega (arith, within))
map-zip f (x ∷ xs) [] k d e within also = absurd (omega (arith, also))
map-zip f (x ∷ xs) (y ∷ ys) zero d e within also = refl
map-zip f (x ∷ xs) (y ∷ ys) (suc k) d e within also = ap (λ zs. f (x, y) ∷ zs) (map-zip f xs ys k d e (omega (arith, within)) (omega (arith, also)))

pub map-zip-more : {A B C : Type 0} (f : A × B → C) (xs : List A) (ys : List B) (k : ℕ) (d : A) (e : B) (zs new : List C) (z : C) → k < length xs → k < length ys
    → zs ≡ map f (take k (zip xs ys)) → new ≡ zs ++ z ∷ [] → z ≡ f (get_or xs k d, get_or ys k e) → new ≡ map f (take (k + 1) (zip xs ys))
map-zip-more f xs ys k d e zs new z within also is grown last =
    grown ∙ (ap₂ (λ ws w. ws ++ w ∷ []) is last ∙ (sym (map-zip f xs ys k d e within also) ∙ ap (λ n. map f (take n (zip xs ys))) (next k)))
  where
    next : (n : ℕ) → suc n ≡ n + 1
    next n = omega arith

pub map-zip-all : {A B C : Type 0} (f : A × B → C) (xs : List A) (ys : List B) (k : ℕ) (zs : List C) → length ys ≤ k → zs ≡ map f (take k (zip xs ys)) → zs ≡ map f (zip xs ys)
map-zip-all f xs ys k zs past is = is ∙ ap (map f) (take_all k (zip xs ys) (let long = length-zip xs ys in omega (arith, long, past)))

-- something of each pair
pub zip-all : {A B C : Type 0} (R : A → B → Type 0) (P : C → Type 0) (f : A × B → C) (xs : List A) (ys : List B) → ((x : A) (y : B) → Contains xs x → R x y → P (f (x, y))) → AllZip R xs ys → AllByRecursion P (map f (zip xs ys))
zip-all R P f [] ys takes zipped = tt
zip-all R P f (x ∷ xs) [] takes zipped = absurd zipped
zip-all R P f (x ∷ xs) (y ∷ ys) takes zipped = (takes x y (0, omega arith, refl) zipped.0, zip-all R P f xs ys (λ a b here. takes a b (suc here.0, (let w = here.1 in omega (arith, w)), here.2)) zipped.1)

-- ---- homes and references

pub asset-is : (p : Project) (n : ℕ) (asset : Asset) → slice_get p.assets n ≡ Some asset → asset_at p n ≡ asset
asset-is p n asset at = get_or_from_slice_get p.assets n asset no_asset at

pub home-there : (p : Project) (plan : Plan) (b c : ℕ) (g : Guid) → b ≢ c → Home p plan b g c → (bundle : PlanBundle) × (slice_get plan.bundles c ≡ Some bundle)
home-there p plan b c g apart (inl (x, (bundle, at, among), entry)) = (bundle, at)
home-there p plan b c g apart (inr (none, same)) = absurd (apart same)

tells : (p : Project) (plan : Plan) (b : ℕ) (g : Guid) (h : RefHome) → IsHome p plan b g h → TellsHome p plan b g (home_told plan h)
tells p plan b g OwnBundle home = (b, home, refl)
tells p plan b g (Bundle c) (apart, home) =
    let there = home-there p plan b c g apart home in
    (c, home, subst (λ found. TellsBundle plan b c (bundle_home found)) (sym there.1) (apart, there.0, there.1, refl))

pub refs-are : (p : Project) (plan : Plan) (b : ℕ) (guids : List Guid) (homes : List RefHome) → AllZip (IsHome p plan b) guids homes → AllZip (IsRefTo p plan b) guids (refs_told plan guids homes)
unfolding refs_told
refs-are p plan b guids homes zipped = zip-maps (IsHome p plan b) (IsRefTo p plan b) (λ q. ref_told plan q.0 q.1) guids homes (λ g h home. record { guid = refl; home = tells p plan b g h home }) zipped

-- ---- objects

object-is : (p : Project) (plan : Plan) (b n : ℕ) (homes : List RefHome) → AreHomes p plan b n homes → IsImageOf p plan b n (object_told p plan n homes)
object-is p plan b n homes (asset, at, zipped) =
    let same = asset-is p n asset at in (
      asset,
      at,
      record {
        guid = ap (λ (a : Asset). a.guid) same;
        bytes = ap (λ (a : Asset). a.bytes) same;
        refs = subst (λ (a : Asset). AllZip (IsRefTo p plan b) asset.refs (refs_told plan a.refs homes)) (sym same) (refs-are p plan b asset.refs homes zipped);
      },
    )

pub images-are : (p : Project) (plan : Plan) (b : ℕ) (lay : LayBundle) → IsFull p plan b lay → AllZip (IsImageOf p plan b) lay.members (objects_told p plan lay)
unfolding objects_told
images-are p plan b lay full = zip-maps (AreHomes p plan b) (IsImageOf p plan b) (λ q. object_told p plan q.0 q.1) lay.members lay.refs (λ n homes are. object-is p plan b n homes are) full.refs

pub objects-are : (p : Project) (plan : Plan) (b : ℕ) (lay : LayBundle) → IsFull p plan b lay → AreObjects p plan b (objects_told p plan lay)
objects-are p plan b lay full = record { members = lay.members; list = full.members; images = images-are p plan b lay full }

-- ---- lengths

pub has-homes : (p : Project) (plan : Plan) (b n : ℕ) (homes : List RefHome) → AreHomes p plan b n homes → HasHomes p n homes
has-homes p plan b n homes (asset, at, zipped) =
    (slice_get_within p.assets n asset at, zip-long (IsHome p plan b) asset.refs homes zipped ∙ ap (λ (a : Asset). length a.refs) (sym (asset-is p n asset at)))

pub refs-long : (plan : Plan) (guids : List Guid) (homes : List RefHome) → length homes ≡ length guids → length (refs_told plan guids homes) ≡ length guids
unfolding refs_told
refs-long plan [] homes same = refl
refs-long plan (g ∷ gs) [] same = absurd (omega (arith, same))
refs-long plan (g ∷ gs) (h ∷ hs) same = ap suc (refs-long plan gs hs (omega (arith, same)))

size-is : (p : Project) (plan : Plan) (n : ℕ) (homes : List RefHome) → HasHomes p n homes → size_of (object_told p plan n homes) ≡ asset_size p n
size-is p plan n homes has = ap (λ k. let s : ObjectSize = record { bytes = length (asset_at p n).bytes; refs = k } in s) (refs-long plan (asset_at p n).refs homes has.1)

pub sizes-are : (p : Project) (plan : Plan) (lay : LayBundle) → AllZip (HasHomes p) lay.members lay.refs → map size_of (objects_told p plan lay) ≡ map (asset_size p) lay.members
unfolding objects_told
sizes-are p plan lay zipped = along lay.members lay.refs zipped
  where
    along : (ns : List ℕ) (rows : List (List RefHome)) → AllZip (HasHomes p) ns rows → map size_of (map (λ q. object_told p plan q.0 q.1) (zip ns rows)) ≡ map (asset_size p) ns
    along [] rows zipped = refl
    along (n ∷ ns) [] zipped = absurd zipped
    along (n ∷ ns) (homes ∷ rows) zipped = ap₂ (λ (s : ObjectSize) ss. s ∷ ss) (size-is p plan n homes zipped.0) (along ns rows zipped.1)

-- ---- a bundle that isn't kept

pub new-full : (p : Project) (plan : Plan) (layout : Layout) → IsLayout p plan layout → (b : ℕ) (lay : LayBundle) → IsNewAt plan b → slice_get layout.bundles b ≡ Some lay → IsFull p plan b lay
new-full p plan layout laid b lay (bundle, at, new) there =
    let is = laid.laid b lay there in
    let same : is.0 ≡ bundle = same-some is.0 bundle (sym is.1 ∙ at) in
    subst (λ t. MatchBool t (IsBare lay) (IsFull p plan b lay)) (ap (λ (q : PlanBundle). q.kept) same ∙ new) is.2
