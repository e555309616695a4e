-- The objects of a bundle can be written as a file, and the file stays far below its bound, by the limits of a project.
use Rattle.std.proofs.Common.{◌≡◌, ◌≢◌, ◌<◌, ◌≤◌, ◌+◌, ◌*◌, ◌/◌, ◌%◌, ◌^◌, ◌==◌, ℕ, zero, suc, Bool, true, false, ◌||◌, ◌&&◌, List, [], ◌∷◌, length, get_or, map, sum_by, replicate, if◌then◌else◌, Less, Ordering, Equal, Greater, refl, sym, ap, ap₂, subst, ◌∙◌, ◌⊎◌, inl, inr, arith, length-append}
use Rattle.std.proofs.lemmas.Bool.{false≢true, leb-true}
use Rattle.std.proofs.lemmas.Cmp.{on_total, nat_list_cmp_total}
use Rattle.std.proofs.lemmas.List.{length-map, length-replicate}
use Rattle.std.proofs.lemmas.List.Elements.{All-from_recursion, All-contains}
use Rattle.std.proofs.lemmas.List.Concat.{length-flat_map}
use Rattle.std.proofs.lemmas.List.Sums.{sum_by-cons}
use Rattle.std.proofs.lemmas.Map.Keys.{Less-from_sorted}
use Rattle.std.proofs.lemmas.Option.{slice_get-get_or, get_or_from_slice_get}
use Rattle.std.proofs.lemmas.Slice.Eq.{bytes_eq-Decides}
use Rattle.std.specs.BTreeSet.{insert_key}
use Rattle.std.specs.Cmp.{IsTotalOrder}
use Rattle.std.specs.Cmp.Lexicographic.{slice_cmp}
use Rattle.std.specs.List.{AllByRecursion, AllZip, Contains, list_all, list_any, zip}
use Rattle.std.specs.Ordering.{is_lt, nat_cmp}
use Rattle.std.specs.Prelude.{nat_le}
use Rattle.std.specs.Str.{bytes_eq}
use Rattle.addr_base.specs.Ids.{digest_of}
use Rattle.addr_base.specs.declared.ids.Digest.{Digest}
use Rattle.addr_base.specs.declared.ids.Guid.{Guid}
use Rattle.addr_base.specs.declared.images.Home.{Home}
use Rattle.addr_base.specs.declared.images.Home.TheVariants.{Own, Other}
use Rattle.addr_base.specs.declared.images.RefTo.{RefTo}
use Rattle.addr_cab.specs.declared.object.ObjectOut.{ObjectOut}
use Rattle.addr_cab.specs.declared.object.ObjectSize.{ObjectSize}
use Rattle.addr_cab.specs.Outside.{name_order, with_home, with_homes, outside_of}
use Rattle.addr_cab.specs.Searches.{Ascend}
use Rattle.addr_cab.specs.Sizes.{size_of, row_size, rows_size, table_size, content_size, node_sizes}
use Rattle.addr_cab.specs.Written.{CanWrite, IsKept as IsRefKept, refs_of}
use Rattle.addr_layout.specs.declared.model.LayBundle.{LayBundle}
use Rattle.addr_layout.specs.declared.model.RefHome.{RefHome}
use Rattle.addr_layout.specs.declared.model.RefHome.TheVariants.{Own as OwnBundle, Bundle}
use Rattle.addr_layout.specs.Laws.{AreLed, IsLed}
use Rattle.addr_layout.specs.Layout.{AreHomes, IsFull, by_guid}
use Rattle.addr_layout.specs.Needs.{IsHome}
use Rattle.addr_layout.proofs.RankLemmas.{same-some, number-below}
use Rattle.addr_pack.specs.declared.bundles.Plan.{Plan}
use Rattle.addr_project.specs.declared.model.Asset.{Asset}
use Rattle.addr_project.specs.Kept.{IsKept, asset_guids}
use Rattle.addr_project.proofs.OnceLemmas.{to_map}
use Rattle.addr_project.specs.Model.{Project}
use Rattle.addr_project_rows.specs.Fields.{is_version, is_within}
use Rattle.addr_release.specs.Images.{AreObjects, IsImageOf}
use Rattle.addr_unityfs.specs.Flags.{to_sixteen}
use Rattle.addr_unityfs.specs.Format.{NoZero}
use Rattle.addr_unityfs.specs.Sizes.{file_size, data_size, header_size}
use Rattle.addr_unityfs.specs.Written.{blocks_of, plain_block}
use Rattle.addr_walks.specs.Once.{AreOnce}
use Rattle.addr_walks.proofs.Lists.{Contains-here, Contains-later, Contains-none, Contains-cases, Contains-slice_get, sorted-once}
use Rattle.addr_walks.proofs.Zips.{zip-here}
use Rattle.addr_images.specs.within.Told.{asset_at, asset_size, bundle_home, no_asset, object_told, objects_told, ref_told, refs_told, HasHomes}
use Rattle.addr_images.specs.within.Writing.{CanBeFile, size_of_file}
use Rattle.addr_images.proofs.SumLemmas.{sum-once, few-once}
use Rattle.addr_images.proofs.ToldLemmas.{asset-is, has-homes, home-there, images-are, objects-are, refs-long, sizes-are, zip-all, zip-both, zip-changes, zip-long}

-- ---- tests over lists

pub all-from : {X : Type 0} (P : X → Type 0) (xs : List X) → ((x : X) → Contains xs x → P x) → AllByRecursion P xs
all-from P [] each = tt
all-from P (x ∷ xs) each = (each x (Contains-here x xs), all-from P xs (λ y here. each y (Contains-later x xs y here)))

pub all-at : {X : Type 0} (P : X → Type 0) (xs : List X) → AllByRecursion P xs → (x : X) → Contains xs x → P x
all-at P xs all x here = All-contains P xs x (All-from_recursion P xs all) here

pub any-here : {X : Type 0} (test : X → Bool) (xs : List X) (x : X) → Contains xs x → test x ≡ true → list_any test xs ≡ true
any-here test [] x here passes = absurd (Contains-none x here)
any-here {X} test (y ∷ ys) x here passes = by_case (Contains-cases y ys x here) (λ later. any-here test ys x later passes)
  where
    or-left : (a b : Bool) → a ≡ true → (a || b) ≡ true
    or-left a b is = rw is refl

    or-right : (a b : Bool) → b ≡ true → (a || b) ≡ true
    or-right true b is = refl
    or-right false b is = is

    by_case : (y ≡ x) ⊎ Contains ys x → (Contains ys x → list_any test ys ≡ true) → list_any test (y ∷ ys) ≡ true
    by_case (inl same) more = or-left (test y) (list_any test ys) (ap test same ∙ passes)
    by_case (inr later) more = or-right (test y) (list_any test ys) (more later)

-- ---- members

by-guid : (p : Project) → IsTotalOrder (by_guid p)
by-guid p = on_total (λ (n : ℕ). get_or (asset_guids p.assets) n []) nat_list_cmp_total

module _ (p : Project) (plan : Plan) (b : ℕ) (lay : LayBundle) (kept : IsKept p) (full : IsFull p plan b lay) where
  pub members-once : AreOnce lay.members
  members-once = sorted-once (by-guid p) lay.members full.members.rising

  pub members-below : (n : ℕ) → Contains lay.members n → n < length p.assets
  members-below n here = let is = full.members.within n here in number-below p n is.0 is.1

  pub homes-there : AllZip (HasHomes p) lay.members lay.refs
  homes-there = zip-changes (AreHomes p plan b) (HasHomes p) lay.members lay.refs (λ n homes here are. has-homes p plan b n homes are) full.refs

  pub few-members : length lay.members ≤ length p.assets
  few-members = few-once (length p.assets) lay.members members-once members-below

  -- what members weigh together, all assets weigh at least
  pub members-weigh : (f : Asset → ℕ) → sum_by (λ n. f (asset_at p n)) lay.members ≤ sum_by f p.assets
  members-weigh f = sum-once f no_asset p.assets lay.members members-once members-below

-- ---- how many

insert-long : (ks : List Digest) (k : Digest) → length (insert_key name_order ks k) ≤ suc (length ks)
insert-long [] k = omega arith
insert-long (x ∷ xs) k = by (name_order k x) refl (insert-long xs k)
  where
    by : (o : Ordering) → name_order k x ≡ o → length (insert_key name_order xs k) ≤ suc (length xs) → length (insert_key name_order (x ∷ xs) k) ≤ suc (suc (length xs))
    by Less is more = rw is (omega arith)
    by Equal is more = rw is (omega arith)
    by Greater is more = rw is (omega (arith, more))

home-long : (names : List Digest) (h : Home) → length (with_home names h) ≤ suc (length names)
home-long names Own = omega arith
home-long names (Other name) = insert-long names name

homes-long : (names : List Digest) (refs : List RefTo) → length (with_homes names refs) ≤ length names + length refs
unfolding with_homes
homes-long names [] = omega arith
homes-long names (r ∷ rs) = let more = homes-long (with_home names r.home) rs in let one = home-long names r.home in omega (arith, more, one)

pub sum-along : {X Y : Type 0} (f : X → Y) (g : Y → ℕ) (xs : List X) → sum_by g (map f xs) ≡ sum_by (λ x. g (f x)) xs
sum-along f g [] = refl
sum-along f g (x ∷ xs) = let more = sum-along f g xs in let one = sum_by-cons g (f x) (map f xs) in let other = sum_by-cons (λ y. g (f y)) x xs in omega (arith, more, one, other)

rows-sum : (sizes : List ObjectSize) → rows_size sizes ≡ 20 * sum_by (λ s. s.refs) sizes + 36 * length sizes
rows-sum [] = refl
rows-sum (s ∷ ss) = let more = rows-sum ss in let one = sum_by-cons row_size s ss in let other = sum_by-cons (λ (t : ObjectSize). t.refs) s ss in omega (arith, more, one, other)

-- ---- the size of a file

blocks-few : (size : ℕ) → length (blocks_of size) ≤ size / 131072 + 1
blocks-few size =
    let both = length-append (replicate (size / 131072) (plain_block 131072)) (if size % 131072 == 0 then [] else plain_block (size % 131072) ∷ []) in
    let front = length-replicate (size / 131072) (plain_block 131072) in
    let last = at-most (size % 131072 == 0) in
    omega (arith, both, front, last)
  where
    at-most : (t : Bool) → length (if t then [] else plain_block (size % 131072) ∷ []) ≤ 1
    at-most true = omega arith
    at-most false = omega arith

sixteen-few : (n : ℕ) → to_sixteen n ≤ 15
unfolding to_sixteen
sixteen-few n = omega arith

pub file-small : (player outside : ℕ) (sizes : List ObjectSize) → player ≤ 255 → outside ≤ 1000000 → sum_by (λ s. s.refs) sizes ≤ 1000000 → length sizes ≤ 65536 → content_size sizes ≤ 268435456
    → file_size player (node_sizes outside sizes) < 2 ^ 29
unfolding file_size
file-small player outside sizes short few refs count bytes =
    let rows = rows-sum sizes in
    let pad = sixteen-few (header_size player) in
    let whole : data_size (node_sizes outside sizes) ≡ table_size outside sizes + content_size sizes = omega arith in
    let blocks = blocks-few (data_size (node_sizes outside sizes)) in
    omega (arith, short, few, refs, count, bytes, rows, pad, whole, blocks)

-- ---- references into the own bundle

pub zip-at : {A B : Type 0} (R : A → B → Type 0) (xs : List A) (ys : List B) (k : ℕ) (d : A) (e : B) → AllZip R xs ys → k < length xs → R (get_or xs k d) (get_or ys k e)
zip-at R [] ys k d e zipped within = absurd (omega (arith, within))
zip-at R (x ∷ xs) [] k d e zipped within = absurd zipped
zip-at R (x ∷ xs) (y ∷ ys) zero d e zipped within = zipped.0
zip-at R (x ∷ xs) (y ∷ ys) (suc k) d e zipped within = zip-at R xs ys k d e zipped.1 (omega (arith, within))

module _ (p : Project) (plan : Plan) (b : ℕ) (lay : LayBundle) (kept : IsKept p) (full : IsFull p plan b lay) where
  abbrev pub objects : List ObjectOut
  objects = objects_told p plan lay

  abbrev are : AreObjects p plan b objects
  are = objects-are p plan b lay full

  image-guid : (n : ℕ) (o : ObjectOut) → IsImageOf p plan b n o → get_or (asset_guids p.assets) n [] ≡ o.guid.0
  image-guid n o (asset, at, image) = get_or_from_slice_get (asset_guids p.assets) n asset.guid.0 [] (to_map (λ (a : Asset). a.guid.0) p.assets n asset at) ∙ ap (λ (g : Guid). g.0) (sym image.guid)

  ascend : Ascend (λ o. o.guid.0) objects
  ascend j k d less within =
      let long = zip-long (IsImageOf p plan b) are.members objects are.images in
      let later : k < length are.members = omega (arith, long, within) in
      let sooner : j < length are.members = omega (arith, less, later) in
      let order : by_guid p (get_or are.members j 0) (get_or are.members k 0) ≡ Less = Less-from_sorted (by_guid p) are.members j k 0 are.list.rising less later in
      let first = image-guid (get_or are.members j 0) (get_or objects j d) (zip-at (IsImageOf p plan b) are.members objects j 0 d are.images sooner) in
      let second = image-guid (get_or are.members k 0) (get_or objects k d) (zip-at (IsImageOf p plan b) are.members objects k 0 d are.images later) in
      ap is_lt (sym (ap₂ (slice_cmp nat_cmp) first second) ∙ order)

  ref-kept : (g : Guid) (h : RefHome) → IsHome p plan b g h × IsLed p lay g h → IsRefKept objects (ref_told plan g h)
  ref-kept g OwnBundle (home, (m, (asset, at, guid), among)) own =
      let found = zip-here (IsImageOf p plan b) lay.members objects m (images-are p plan b lay full) among in
      let same : found.2.0 ≡ asset = same-some found.2.0 asset (sym found.2.1 ∙ at) in
      let is : found.0.guid ≡ g = found.2.2.guid ∙ (ap (λ (a : Asset). a.guid) same ∙ guid) in
      any-here (λ (x : ObjectOut). bytes_eq x.guid.0 g.0) objects found.0 found.1 ((bytes_eq-Decides found.0.guid.0 g.0).1 (ap (λ (y : Guid). y.0) is))
  ref-kept g (Bundle c) ((apart, home), led) own =
      let there = home-there p plan b c g apart home in
      absurd (let clash : Other (record { 0 = digest_of there.0.name }) ≡ Own = ap bundle_home (sym there.1) ∙ own in cc clash)

  each-kept : (n : ℕ) (homes : List RefHome) → AreHomes p plan b n homes × AreLed p lay n homes → AllByRecursion (IsRefKept objects) (refs_told plan (asset_at p n).refs homes)
  unfolding refs_told
  each-kept n homes ((asset, at, homed), (other, there, led)) =
      let same = asset-is p n asset at in
      let also : other ≡ asset = same-some other asset (sym there ∙ at) in
      let both = zip-both (IsHome p plan b) (IsLed p lay) asset.refs homes homed (subst (λ (a : Asset). AllZip (IsLed p lay) a.refs homes) also led) in
      subst (λ (a : Asset). AllByRecursion (IsRefKept objects) (map (λ q. ref_told plan q.0 q.1) (zip a.refs homes))) (sym same)
      (zip-all (λ g h. IsHome p plan b g h × IsLed p lay g h) (IsRefKept objects) (λ q. ref_told plan q.0 q.1) asset.refs homes (λ g h among is. ref-kept g h is) both)

  few-each : (n : ℕ) (homes : List RefHome) → Contains lay.members n → HasHomes p n homes → length (refs_told plan (asset_at p n).refs homes) < 2 ^ 32
  few-each n homes among has =
      let there = slice_get-get_or p.assets n no_asset has.0 in
      let most = all-at (λ (a : Asset). length a.refs ≤ 1024) p.assets kept.bounds.refs (asset_at p n) (Contains-slice_get p.assets n (asset_at p n) there) in
      let long = refs-long plan (asset_at p n).refs homes has.1 in
      omega (arith, most, long)

  refs-sum : sum_by (λ s. s.refs) (map (asset_size p) lay.members) ≤ 1000000
  refs-sum =
      let weigh = members-weigh p plan b lay kept full (λ a. length a.refs) in
      let most = kept.bounds.all_refs in
      let along = sum-along (asset_size p) (λ s. s.refs) lay.members in
      omega (arith, weigh, most, along)

  bytes-sum : content_size (map (asset_size p) lay.members) ≤ 268435456
  bytes-sum =
      let weigh = members-weigh p plan b lay kept full (λ a. length a.bytes) in
      let most = kept.bounds.all_bytes in
      let along = sum-along (asset_size p) (λ s. s.bytes) lay.members in
      omega (arith, weigh, most, along)

  sizes-few : length (map (asset_size p) lay.members) ≤ 65536
  sizes-few = let long = length-map lay.members (asset_size p) in let few = few-members p plan b lay kept full in let most = kept.bounds.assets in omega (arith, long, few, most)

  same-sizes : map size_of objects ≡ map (asset_size p) lay.members
  same-sizes = sizes-are p plan lay (homes-there p plan b lay kept full)

  outside-few : length (outside_of (refs_of objects)) ≤ 1000000
  outside-few =
      let long = homes-long [] (refs_of objects) in
      let flat = length-flat_map (λ (o : ObjectOut). o.refs) objects in
      let along = sum-along size_of (λ s. s.refs) objects in
      let same = ap (λ (ss : List ObjectSize). sum_by (λ s. s.refs) ss) same-sizes in
      let few = refs-sum in
      omega (arith, long, flat, along, same, few)

  pub can : AllZip (AreLed p lay) lay.members lay.refs → CanWrite objects
  unfolding objects_told
  can led = record {
    ascend = ascend;
    own = zip-all (λ n homes. AreHomes p plan b n homes × AreLed p lay n homes) (λ o. AllByRecursion (IsRefKept objects) o.refs) (λ q. object_told p plan q.0 q.1) lay.members lay.refs
        (λ n homes among is. each-kept n homes is) (zip-both (AreHomes p plan b) (AreLed p lay) lay.members lay.refs full.refs led);
    few = (let long = length-map objects size_of in let same = ap length same-sizes in let most = sizes-few in omega (arith, long, same, most));
    few_refs = zip-all (HasHomes p) (λ o. length o.refs < 2 ^ 32) (λ q. object_told p plan q.0 q.1) lay.members lay.refs (λ n homes among has. few-each n homes among has) (homes-there p plan b lay kept full);
    few_outside = (let few = outside-few in omega (arith, few));
  }

  pub small : size_of_file p.version objects < 2 ^ 29
  small = subst (λ (ss : List ObjectSize). file_size (length p.version) (node_sizes (length (outside_of (refs_of objects))) ss) < 2 ^ 29) (sym same-sizes)
      (file-small (length p.version) (length (outside_of (refs_of objects))) (map (asset_size p) lay.members) kept.texts.version.short outside-few refs-sum sizes-few bytes-sum)

-- ---- the version

version-nonzero : (bytes : List ℕ) → list_all (λ b. nat_le 33 b && nat_le b 126) bytes ≡ true → AllByRecursion (λ b. b ≢ 0) bytes
version-nonzero [] passes = tt
version-nonzero (b ∷ bytes) passes = by_test (nat_le 33 b) refl passes (λ rest. version-nonzero bytes rest)
  where
    by_rest : (u : Bool) → (u && list_all (λ b. nat_le 33 b && nat_le b 126) bytes) ≡ true → list_all (λ b. nat_le 33 b && nat_le b 126) bytes ≡ true
    by_rest true rest = rest
    by_rest false rest = absurd (false≢true rest)

    by_test : (t : Bool) → nat_le 33 b ≡ t → ((t && nat_le b 126) && list_all (λ b. nat_le 33 b && nat_le b 126) bytes) ≡ true → (list_all (λ b. nat_le 33 b && nat_le b 126) bytes ≡ true → AllByRecursion (λ b. b ≢ 0) bytes) → AllByRecursion (λ b. b ≢ 0) (b ∷ bytes)
    by_test true above passes more = (λ e. (let low = leb-true 33 b above in omega (arith, low, e)), more (by_rest (nat_le b 126) passes))
    by_test false above passes more = absurd (false≢true passes)

pub version-text : (bytes : List ℕ) → is_version bytes ≡ true → NoZero bytes
version-text bytes is = All-from_recursion (λ b. b ≢ 0) bytes (version-nonzero bytes (second (is_within 1 255 bytes) is))
  where
    second : (t : Bool) → (t && list_all (λ b. nat_le 33 b && nat_le b 126) bytes) ≡ true → list_all (λ b. nat_le 33 b && nat_le b 126) bytes ≡ true
    second true rest = rest
    second false rest = absurd (false≢true rest)

-- the objects of a bundle make a file
pub can-be-file : (p : Project) (plan : Plan) (b : ℕ) (lay : LayBundle) → IsKept p → IsFull p plan b lay → AllZip (AreLed p lay) lay.members lay.refs → CanBeFile p.version (objects_told p plan lay)
can-be-file p plan b lay kept full led = record { can = can p plan b lay kept full led; text = version-text p.version kept.version; small = small p plan b lay kept full }

pub below-more : (n : ℕ) → n < 2 ^ 29 → n < 2 ^ 31
below-more n less = omega (arith, less)
