-- The size of a bundle's file, by the lengths of its members and the names of the bundles that it needs.
use Rattle.std.proofs.Common.{◌≡◌, ◌≢◌, ◌<◌, ◌-◌, ◌^◌, ℕ, Bool, true, false, ◌||◌, List, [], ◌∷◌, length, map, min, Some, refl, sym, ap, ap₂, subst, ◌∙◌, inl, inr, arith}
use Rattle.std.proofs.lemmas.Bool.{false≢true}
use Rattle.std.specs.Bool.{MatchBool}
use Rattle.std.specs.List.{AllByRecursion, Contains, fold, list_any, slice_get}
use Rattle.std.specs.Str.{bytes_eq}
use Rattle.addr_base.specs.Ids.{Are16Bytes}
use Rattle.addr_base.specs.declared.ids.Digest.{Digest}
use Rattle.addr_base.specs.declared.ids.Guid.{Guid}
use Rattle.addr_base.specs.declared.images.Home.{Home}
use Rattle.addr_base.specs.declared.images.Home.TheVariants.{Own, Other}
use Rattle.addr_base.specs.declared.images.RefTo.{RefTo}
use Rattle.addr_cab.specs.declared.object.ObjectOut.{ObjectOut}
use Rattle.addr_cab.specs.Objects.{cab_nodes}
use Rattle.addr_cab.specs.Outside.{with_home, with_homes, outside_of}
use Rattle.addr_cab.specs.Sizes.{size_of, node_sizes}
use Rattle.addr_cab.specs.Spelling.{is_home, leads_to}
use Rattle.addr_cab.specs.Written.{IsTyped, IsTypedRef, refs_of, cab_table, cab_data, IsHome as IsHomeTyped}
use Rattle.addr_cab.proofs.OutsideLaws.{are_outside, one_list, leads-flat}
use Rattle.addr_layout.specs.declared.model.LayBundle.{LayBundle}
use Rattle.addr_layout.specs.declared.model.RefHome.TheVariants.{Bundle}
use Rattle.addr_layout.specs.Layout.{IsFull}
use Rattle.addr_layout.specs.Members.{HasEntry, IsShared}
use Rattle.addr_layout.specs.Needs.{Needs}
use Rattle.addr_layout.proofs.PlacedLemmas.{one-bundle}
use Rattle.addr_layout.proofs.RankLemmas.{same-some}
use Rattle.addr_pack.proofs.DigestLemmas.{digests-fit}
use Rattle.addr_pack.specs.declared.bundles.Plan.{Plan}
use Rattle.addr_pack.specs.declared.bundles.PlanBundle.{PlanBundle}
use Rattle.addr_project.specs.declared.model.Asset.{Asset}
use Rattle.addr_project.specs.Kept.{IsKept}
use Rattle.addr_project.specs.Model.{Project}
use Rattle.addr_release.specs.Built.{file_text}
use Rattle.addr_release.specs.Images.{IsImageOf, IsRefTo, TellsBundle, TellsHome}
use Rattle.addr_release.specs.Names.{digest_from}
use Rattle.addr_unityfs.specs.Sizes as files
use Rattle.addr_unityfs.specs.Written.{written, written_len}
use Rattle.addr_unityfs.specs.declared.bundle.NodeOut.{NodeOut}
use Rattle.addr_walks.proofs.Lists.{Contains-here, Contains-later, Contains-slice_get, slice_get-Contains, Contains-map, map-Contains}
use Rattle.addr_walks.proofs.Zips.{zip-here, zip-there}
use Rattle.addr_images.specs.Sizes.{IsFileSize, IsSizeAt}
use Rattle.addr_images.specs.within.Outside.{names_told}
use Rattle.addr_images.specs.within.Told.{asset_size, bundle_home, home_told, objects_told, ref_told}
use Rattle.addr_images.proofs.ToldLemmas.{objects-are, sizes-are}
use Rattle.addr_images.proofs.WritingLemmas.{all-at, all-from, any-here, homes-there, small}

-- ---- the bundles that references lead to

pub any-some : {X : Type 0} (test : X → Bool) (xs : List X) → list_any test xs ≡ true → (x : X) × Contains xs x × (test x ≡ true)
any-some test [] passes = absurd (false≢true passes)
any-some {X} test (y ∷ ys) passes = by_test (test y) refl passes (λ later. any-some test ys later)
  where
    by_test : (t : Bool) → test y ≡ t → (t || list_any test ys) ≡ true → (list_any test ys ≡ true → (x : X) × Contains ys x × (test x ≡ true)) → (x : X) × Contains (y ∷ ys) x × (test x ≡ true)
    by_test true is found more = (y, Contains-here y ys, is)
    by_test false is found more = let later = more found in (later.0, Contains-later y ys later.0 later.1, later.2)

same-tests : (a b : Bool) → (a ≡ true → b ≡ true) → (b ≡ true → a ≡ true) → a ≡ b
same-tests true true to from = refl
same-tests true false to from = absurd (false≢true (to refl))
same-tests false true to from = absurd (false≢true (from refl))
same-tests false false to from = refl

-- references that lead to bundles with some numbers
abbrev direct_refs : Plan → List ℕ → List RefTo
direct_refs plan direct = map (λ c. ref_told plan (record { 0 = [] }) (Bundle c)) direct

names-are : (plan : Plan) (direct : List ℕ) → names_told plan direct ≡ outside_of (direct_refs plan direct)
unfolding names_told with_homes
names-are plan direct = along [] direct
  where
    along : (found : List Digest) (cs : List ℕ) → fold (λ names c. with_home names (home_told plan (Bundle c))) found cs ≡ fold (λ names r. with_home names r.home) found (direct_refs plan cs)
    along found [] = refl
    along found (c ∷ cs) = along (with_home found (home_told plan (Bundle c))) cs

module _ (p : Project) (plan : Plan) (b : ℕ) (lay : LayBundle) (kept : IsKept p) (shared : IsShared p plan) (full : IsFull p plan b lay) (name : Digest) where
  -- a home that tells the bundle of an entry has the internal name of that bundle
  told-entry : (c : ℕ) (y : Guid) (home : Home) → b ≢ c → HasEntry p plan c y → TellsHome p plan b y home → is_home name (home_told plan (Bundle c)) ≡ is_home name home
  told-entry c y home apart has (d, inl also, tells) = by_home home (subst (λ k. TellsBundle plan b k home) (one-bundle p plan kept shared d c y also has) tells)
    where
      by_home : (h : Home) → TellsBundle plan b c h → is_home name (home_told plan (Bundle c)) ≡ is_home name h
      by_home Own same = absurd (apart same)
      by_home (Other other) (differ, bundle, at, is) = ap (λ found. is_home name (bundle_home found)) at ∙ ap (λ (d : Digest). bytes_eq d.0 name.0) (sym is)
  told-entry c y home apart (x, placed, entry) (d, inr (none, same), tells) = absurd (none (x, entry))

  -- a home that tells another bundle tells the bundle of an entry
  entry-told : (y : Guid) (home : Home) → is_home name home ≡ true → TellsHome p plan b y home → (c : ℕ) × (b ≢ c) × HasEntry p plan c y
  entry-told y Own passes tells = absurd (false≢true passes)
  entry-told y (Other other) passes (c, inl has, (apart, bundle, at, is)) = (c, apart, has)
  entry-told y (Other other) passes (c, inr (none, same), (apart, bundle, at, is)) = absurd (apart same)

  direct-led : (c : ℕ) → Contains lay.direct c → is_home name (home_told plan (Bundle c)) ≡ true → list_any (λ (o : ObjectOut). leads_to name o.refs) (objects_told p plan lay) ≡ true
  unfolding leads_to
  direct-led c here passes =
      let needs = full.direct.within c here in
      let x = needs.1 in
      let y = needs.2 in
      let refers = needs.4 in
      let asset = refers.0 in
      let at = slice_get-Contains p.assets asset refers.1 in
      let are = objects-are p plan b lay full in
      let among = are.list.all at.0 (x, (asset, at.1, refers.2), needs.3) in
      let found = zip-here (IsImageOf p plan b) are.members (objects_told p plan lay) at.0 are.images among in
      let same : found.2.0 ≡ asset = same-some found.2.0 asset (sym found.2.1 ∙ at.1) in
      let ref = zip-here (IsRefTo p plan b) found.2.0.refs found.0.refs y found.2.2.refs (subst (λ (a : Asset). Contains a.refs y) (sym same) refers.3) in
      let home = told-entry c y ref.0.home needs.0 needs.5 ref.2.home in
      any-here (λ (o : ObjectOut). list_any (λ r. is_home name r.home) o.refs) (objects_told p plan lay) found.0 found.1
      (any-here (λ (r : RefTo). is_home name r.home) found.0.refs ref.0 ref.1 (sym home ∙ passes))

  led-direct : (o : ObjectOut) → Contains (objects_told p plan lay) o → (r : RefTo) → Contains o.refs r → is_home name r.home ≡ true → (c : ℕ) × Contains lay.direct c × (is_home name (home_told plan (Bundle c)) ≡ true)
  led-direct o here r among passes =
      let are = objects-are p plan b lay full in
      let from = zip-there (IsImageOf p plan b) are.members (objects_told p plan lay) o are.images here in
      let asset = from.2.0 in
      let ref = zip-there (IsRefTo p plan b) asset.refs o.refs r from.2.2.refs among in
      let entry = entry-told ref.0 r.home passes ref.2.home in
      let number = are.list.within from.0 from.1 in
      let same : number.1.0 ≡ asset = same-some number.1.0 asset (sym number.1.1 ∙ from.2.1) in
      let guid : asset.guid ≡ number.0 = ap (λ (a : Asset). a.guid) (sym same) ∙ number.1.2 in
      let needs : Needs p plan b entry.0 = (entry.1, number.0, ref.0, number.2, (asset, Contains-slice_get p.assets from.0 asset from.2.1, guid, ref.1), entry.2) in
      (entry.0, full.direct.all entry.0 needs, told-entry entry.0 ref.0 r.home entry.1 entry.2 ref.2.home ∙ passes)

  same-leads : leads_to name (direct_refs plan lay.direct) ≡ leads_to name (refs_of (objects_told p plan lay))
  unfolding leads_to
  same-leads = same-tests (list_any (λ r. is_home name r.home) (direct_refs plan lay.direct)) (list_any (λ r. is_home name r.home) (refs_of (objects_told p plan lay))) to from ∙ refl
    where
      to : list_any (λ r. is_home name r.home) (direct_refs plan lay.direct) ≡ true → list_any (λ r. is_home name r.home) (refs_of (objects_told p plan lay)) ≡ true
      to passes =
          let found = any-some (λ (r : RefTo). is_home name r.home) (direct_refs plan lay.direct) passes in
          let back = map-Contains (λ c. ref_told plan (record { 0 = [] }) (Bundle c)) lay.direct found.0 found.1 in
          leads-flat (λ (o : ObjectOut). o.refs) name (objects_told p plan lay) ∙ direct-led back.0 back.1 (ap (λ (r : RefTo). is_home name r.home) back.2 ∙ found.2)

      from : list_any (λ r. is_home name r.home) (refs_of (objects_told p plan lay)) ≡ true → list_any (λ r. is_home name r.home) (direct_refs plan lay.direct) ≡ true
      from passes =
          let object = any-some (λ (o : ObjectOut). list_any (λ r. is_home name r.home) o.refs) (objects_told p plan lay) (sym (leads-flat (λ (o : ObjectOut). o.refs) name (objects_told p plan lay)) ∙ passes) in
          let ref = any-some (λ (r : RefTo). is_home name r.home) object.0.refs object.2 in
          let found = led-direct object.0 object.1 ref.0 ref.1 ref.2 in
          any-here (λ (r : RefTo). is_home name r.home) (direct_refs plan lay.direct) (ref_told plan (record { 0 = [] }) (Bundle found.0)) (Contains-map (λ c. ref_told plan (record { 0 = [] }) (Bundle c)) lay.direct found.0 found.1) found.2

-- a table lists as many bundles outside as the bundle needs, by their internal names
pub outside-is : (p : Project) (plan : Plan) (b : ℕ) (lay : LayBundle) → IsKept p → IsShared p plan → IsFull p plan b lay → names_told plan lay.direct ≡ outside_of (refs_of (objects_told p plan lay))
outside-is p plan b lay kept shared full =
    let ours = are_outside (direct_refs plan lay.direct) in
    names-are plan lay.direct
    ∙ one_list (refs_of (objects_told p plan lay)) (outside_of (direct_refs plan lay.direct)) (outside_of (refs_of (objects_told p plan lay)))
    (record { ascend = ours.ascend; named = λ name. ours.named name ∙ same-leads p plan b lay kept shared full name })
    (are_outside (refs_of (objects_told p plan lay)))

-- ---- what the types say

module _ (p : Project) (plan : Plan) (b : ℕ) (lay : LayBundle) (kept : IsKept p) (full : IsFull p plan b lay) where
  typed-ref : (asset : Asset) (y : Guid) (r : RefTo) → Contains p.assets asset → Contains asset.refs y → IsRefTo p plan b y r → IsTypedRef r
  typed-ref asset y r here refers ref =
      let target = kept.refs_named asset y here refers in
      let sixteen = all-at (λ (a : Asset). Are16Bytes a.guid.0) p.assets kept.guids target.0 target.1 in
      (ap (λ (g : Guid). length g.0) (ref.guid ∙ sym target.2) ∙ sixteen.sixteen, by_home r.home ref.home)
    where
      by_home : (h : Home) → TellsHome p plan b y h → IsHomeTyped h
      by_home Own tells = tt
      by_home (Other name) (c, home, (apart, bundle, at, is)) = ap (λ (d : Digest). length d.0) is ∙ (digests-fit bundle.name).sixteen

  typed-object : (o : ObjectOut) → Contains (objects_told p plan lay) o → IsTyped o
  typed-object o here =
      let are = objects-are p plan b lay full in
      let from = zip-there (IsImageOf p plan b) are.members (objects_told p plan lay) o are.images here in
      let asset = from.2.0 in
      let among = Contains-slice_get p.assets from.0 asset from.2.1 in
      let sixteen = all-at (λ (a : Asset). Are16Bytes a.guid.0) p.assets kept.guids asset among in (
        ap (λ (g : Guid). length g.0) from.2.2.guid ∙ sixteen.sixteen,
        all-from IsTypedRef o.refs (λ r there. (let ref = zip-there (IsRefTo p plan b) asset.refs o.refs r from.2.2.refs there in typed-ref asset ref.0 r among ref.1 ref.2)),
      )

  pub typed : AllByRecursion IsTyped (objects_told p plan lay)
  typed = all-from IsTyped (objects_told p plan lay) typed-object

-- the law of sizes of nodes, and that of sizes of files, as the crates below give them
abbrev pub NodeSizes : Type 0
NodeSizes = (name : Digest) (objects : List ObjectOut) → Are16Bytes name.0 → AllByRecursion IsTyped objects
    → map files.size_of (cab_nodes name (cab_table objects) (cab_data objects)) ≡ node_sizes (length (outside_of (refs_of objects))) (map size_of objects)

abbrev pub FileSizes : Type 0
FileSizes = (player : List ℕ) (nodes : List NodeOut) → (length (written player nodes) ≡ files.file_size (length player) (map files.size_of nodes)) × (written_len player nodes ≡ files.file_size (length player) (map files.size_of nodes))

-- the file of a bundle is as long as its members and the names of what it needs say
pub file-long : (p : Project) (plan : Plan) (b : ℕ) (bundle : PlanBundle) (lay : LayBundle) → IsKept p → IsShared p plan → IsFull p plan b lay → NodeSizes → FileSizes
    → length (file_text p bundle (objects_told p plan lay)) ≡ files.file_size (length p.version) (node_sizes (length (names_told plan lay.direct)) (map (asset_size p) lay.members))
file-long p plan b bundle lay kept shared full nodes sizes =
    let objects = objects_told p plan lay in
    let one = (sizes p.version (cab_nodes (digest_from bundle.name) (cab_table objects) (cab_data objects))).0 in
    let two = nodes (digest_from bundle.name) objects (digests-fit bundle.name) (typed p plan b lay kept full) in
    let names = ap length (outside-is p plan b lay kept shared full) in
    let lengths = sizes-are p plan lay (homes-there p plan b lay kept full) in
    one ∙ (ap (files.file_size (length p.version)) two ∙ ap₂ (λ n ss. files.file_size (length p.version) (node_sizes n ss)) (sym names) lengths)

pub file-below : (p : Project) (plan : Plan) (b : ℕ) (lay : LayBundle) → IsKept p → IsShared p plan → IsFull p plan b lay
    → files.file_size (length p.version) (node_sizes (length (names_told plan lay.direct)) (map (asset_size p) lay.members)) < 2 ^ 29
file-below p plan b lay kept shared full =
    let names = outside-is p plan b lay kept shared full in
    let lengths = sizes-are p plan lay (homes-there p plan b lay kept full) in
    subst (λ n. n < 2 ^ 29) (ap₂ (λ ds ss. files.file_size (length p.version) (node_sizes (length ds) ss)) (sym names) lengths) (small p plan b lay kept full)

-- ---- a bundle of a layout

pub size-kept : (p : Project) (plan : Plan) (b : ℕ) (bundle : PlanBundle) → slice_get plan.bundles b ≡ Some bundle → bundle.kept ≡ true → IsSizeAt p plan b 0
size-kept p plan b bundle at is = (bundle, at, subst (λ t. MatchBool t (◌≡◌ {A = ℕ} 0 0) (IsFileSize p plan b bundle 0)) (sym is) refl)

-- the size that lengths tell
abbrev told-size : Project → Plan → LayBundle → ℕ
told-size p plan lay = files.file_size (length p.version) (node_sizes (length (names_told plan lay.direct)) (map (asset_size p) lay.members))

size-is : (p : Project) (plan : Plan) (lay : LayBundle) (n : ℕ) → n ≡ min (told-size p plan lay) (2 ^ 64 - 1) → told-size p plan lay < 2 ^ 29 → n ≡ told-size p plan lay
size-is p plan lay n is small = omega (arith, is, small)

pub size-new : (p : Project) (plan : Plan) (b : ℕ) (bundle : PlanBundle) (lay : LayBundle) (n : ℕ) → IsKept p → IsShared p plan → IsFull p plan b lay → NodeSizes → FileSizes → slice_get plan.bundles b ≡ Some bundle → bundle.kept ≡ false
    → n ≡ min (files.file_size (length p.version) (node_sizes (length (names_told plan lay.direct)) (map (asset_size p) lay.members))) (2 ^ 64 - 1) → IsSizeAt p plan b n
size-new p plan b bundle lay n kept shared full nodes sizes at new is =
    let told = size-is p plan lay n is (file-below p plan b lay kept shared full) in (
      bundle,
      at,
      subst (λ t. MatchBool t (n ≡ 0) (IsFileSize p plan b bundle n)) (sym new)
          (objects_told p plan lay, objects-are p plan b lay full, told ∙ sym (file-long p plan b bundle lay kept shared full nodes sizes)),
    )

pub size-small : (p : Project) (plan : Plan) (b : ℕ) (lay : LayBundle) (n : ℕ) → IsKept p → IsShared p plan → IsFull p plan b lay
    → n ≡ min (files.file_size (length p.version) (node_sizes (length (names_told plan lay.direct)) (map (asset_size p) lay.members))) (2 ^ 64 - 1) → n < 2 ^ 29
size-small p plan b lay n kept shared full is =
    let small = file-below p plan b lay kept shared full in
    let told = size-is p plan lay n is small in
    subst (λ k. k < 2 ^ 29) (sym told) small
