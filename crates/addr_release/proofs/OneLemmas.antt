-- A project has one release: so a second build makes the same files.
use Rattle.std.proofs.Common.{◌≡◌, ℕ, suc, List, [], ◌∷◌, length, map, get_or, Some, refl, ap, ap₂, subst, ◌∙◌, sym, inl, inr, arith, Bool}
use Rattle.std.proofs.lemmas.Cmp.{on_total, nat_list_cmp_total}
use Rattle.std.specs.Cmp.{IsTotalOrder}
use Rattle.std.specs.List.{AllZip, slice_get}
use Rattle.addr_base.specs.Ids.{digest_of, hex_of}
use Rattle.addr_base.specs.declared.ids.BundleNo.{BundleNo}
use Rattle.addr_base.specs.declared.ids.Digest.{Digest}
use Rattle.addr_base.specs.declared.ids.Guid.{Guid}
use Rattle.addr_base.specs.declared.images.Home.{Home as WrittenHome}
use Rattle.addr_base.specs.declared.images.Home.TheVariants.{Own, Other}
use Rattle.addr_base.specs.declared.images.RefTo.{RefTo}
use Rattle.addr_cab.specs.declared.object.ObjectOut.{ObjectOut}
use Rattle.addr_catalog.specs.Written.{catalogue_text}
use Rattle.addr_layout.specs.Laws.{AtMostOne}
use Rattle.addr_layout.specs.Layout.{MemberNumber, by_guid}
use Rattle.addr_layout.specs.Members.{HasEntry, IsShared, Member}
use Rattle.addr_layout.specs.Needs.{Home, Needs}
use Rattle.addr_layout.proofs.GuidLemmas.{guid_total}
use Rattle.addr_layout.proofs.PlacedLemmas.{one-bundle}
use Rattle.addr_layout.proofs.RankLemmas.{same-some}
use Rattle.addr_layout.proofs.UniqueLemmas.{one-deps}
use Rattle.addr_locate.specs.declared.rows.BundleRow.{BundleRow}
use Rattle.addr_locate.specs.declared.rows.PlainAsset.{PlainAsset}
use Rattle.addr_pack.specs.declared.bundles.Plan.{Plan}
use Rattle.addr_pack.specs.declared.bundles.PlanBundle.{PlanBundle}
use Rattle.addr_project.specs.declared.model.Asset.{Asset}
use Rattle.addr_project.specs.declared.model.Entry.{Entry}
use Rattle.addr_project.specs.declared.model.Group.{Group}
use Rattle.addr_project.specs.Kept.{IsKept, asset_guids}
use Rattle.addr_project.specs.Model.{Project}
use Rattle.addr_project.specs.Reach.{entry_keys}
use Rattle.addr_state.specs.Files.{file_name, side_file}
use Rattle.addr_state.specs.Written.{state_text}
use Rattle.addr_state.specs.declared.model.State.{State}
use Rattle.addr_state.specs.declared.model.StateBundle.{StateBundle}
use Rattle.addr_walks.specs.Closure.{IsDeps}
use Rattle.addr_walks.specs.Places.{EachAt}
use Rattle.addr_walks.proofs.Lists.{one-list}
use Rattle.addr_release.specs.Built.{IsBundleOf, IsEntryRow, IsFileOf, IsFixedName, IsReleaseIn, IsStateBundle, IsStateOf, Release, ReleaseBundle, catalogue_of, fetch_id, file_text}
use Rattle.addr_release.specs.Images.{AreObjects, IsImage, IsImageOf, IsRefTo, TellsBundle, TellsHome}
use Rattle.addr_release.specs.Names.{digest_from}

-- ---- lists

-- partners that are determined make one list
zip-one : {A B : Type 0} (R : A → B → Type 0) → ((x : A) → AtMostOne (R x)) → (xs : List A) → AtMostOne (AllZip R xs)
zip-one R each [] [] [] first second = refl
zip-one R each [] [] (z ∷ zs) first second = absurd second
zip-one R each [] (y ∷ ys) zs first second = absurd first
zip-one R each (x ∷ xs) [] zs first second = absurd first
zip-one R each (x ∷ xs) (y ∷ ys) [] first second = absurd second
zip-one R each (x ∷ xs) (y ∷ ys) (z ∷ zs) first second = let here = each x y z first.0 second.0 in let rest = zip-one R each xs ys zs first.1 second.1 in cc

-- lists of one length are the same, where one thing fits each place
one-at : {X : Type 0} (fits : ℕ → X → Type 0) → ((k : ℕ) → AtMostOne (fits k)) → (xs ys : List X) → length xs ≡ length ys → EachAt fits xs → EachAt fits ys → xs ≡ ys
one-at fits one [] [] long first second = refl
one-at fits one [] (y ∷ ys) long first second = absurd (omega arith)
one-at fits one (x ∷ xs) [] long first second = absurd (omega arith)
one-at fits one (x ∷ xs) (y ∷ ys) long first second =
    let head = one 0 x y (first 0 x refl) (second 0 y refl) in
    let tail = one-at (λ k. fits (suc k)) (λ k. one (suc k)) xs ys (omega arith) (λ k z at. first (suc k) z at) (λ k z at. second (suc k) z at) in
    cc

numbers-same : (xs ys : List BundleNo) → map (λ d. d.0) xs ≡ map (λ d. d.0) ys → xs ≡ ys
numbers-same [] [] e = refl
numbers-same [] (y ∷ ys) e = absurd (cc e)
numbers-same (x ∷ xs) [] e = absurd (cc e)
numbers-same (x ∷ xs) (y ∷ ys) e =
    let head : x.0 ≡ y.0 = cc in
    let tail : map (λ (d : BundleNo). d.0) xs ≡ map (λ (d : BundleNo). d.0) ys = cc in
    ap₂ (λ (n : ℕ) (rest : List BundleNo). let first : BundleNo = record { 0 = n } in first ∷ rest) head (numbers-same xs ys tail)

-- ---- records, field by field

row-same : (x y : BundleRow) → x.key ≡ y.key → x.size ≡ y.size → x.digest ≡ y.digest → x.name ≡ y.name → x.id ≡ y.id → x ≡ y
row-same x y key size digest name id =
    ap (λ (v : List ℕ). let r : BundleRow = record { key = v; size = x.size; digest = x.digest; name = x.name; id = x.id } in r) key
    ∙ (ap (λ (v : ℕ). let r : BundleRow = record { key = y.key; size = v; digest = x.digest; name = x.name; id = x.id } in r) size
    ∙ (ap (λ (v : Digest). let r : BundleRow = record { key = y.key; size = y.size; digest = v; name = x.name; id = x.id } in r) digest
    ∙ (ap (λ (v : List ℕ). let r : BundleRow = record { key = y.key; size = y.size; digest = y.digest; name = v; id = x.id } in r) name
    ∙ ap (λ (v : List ℕ). let r : BundleRow = record { key = y.key; size = y.size; digest = y.digest; name = y.name; id = v } in r) id)))

made-same : (x y : ReleaseBundle) → x.remote ≡ y.remote → x.row ≡ y.row → x.file ≡ y.file → x ≡ y
made-same x y remote row file =
    ap (λ (v : Bool). let r : ReleaseBundle = record { remote = v; row = x.row; file = x.file } in r) remote
    ∙ (ap (λ (v : BundleRow). let r : ReleaseBundle = record { remote = y.remote; row = v; file = x.file } in r) row
    ∙ ap (λ (v : List ℕ). let r : ReleaseBundle = record { remote = y.remote; row = y.row; file = v } in r) file)

asset-same : (x y : PlainAsset) → x.id ≡ y.id → x.kind ≡ y.kind → x.deps ≡ y.deps → x.keys ≡ y.keys → x ≡ y
asset-same x y id kind deps keys =
    ap (λ (v : List ℕ). let r : PlainAsset = record { id = v; kind = x.kind; deps = x.deps; keys = x.keys } in r) id
    ∙ (ap (λ (v : List ℕ). let r : PlainAsset = record { id = y.id; kind = v; deps = x.deps; keys = x.keys } in r) kind
    ∙ (ap (λ (v : List BundleNo). let r : PlainAsset = record { id = y.id; kind = y.kind; deps = v; keys = x.keys } in r) deps
    ∙ ap (λ (v : List (List ℕ)). let r : PlainAsset = record { id = y.id; kind = y.kind; deps = y.deps; keys = v } in r) keys))

texts-same : (x y : StateBundle) → x.name ≡ y.name → x.file ≡ y.file → x.id ≡ y.id → x.group ≡ y.group
    → x ≡ record { name = y.name; file = y.file; id = y.id; group = y.group; digest = x.digest; size = x.size; entries = x.entries; objects = x.objects }
texts-same x y name file id group =
    ap (λ (v : List ℕ). let r : StateBundle = record { name = v; file = x.file; id = x.id; group = x.group; digest = x.digest; size = x.size; entries = x.entries; objects = x.objects } in r) name
    ∙ (ap (λ (v : List ℕ). let r : StateBundle = record { name = y.name; file = v; id = x.id; group = x.group; digest = x.digest; size = x.size; entries = x.entries; objects = x.objects } in r) file
    ∙ (ap (λ (v : List ℕ). let r : StateBundle = record { name = y.name; file = y.file; id = v; group = x.group; digest = x.digest; size = x.size; entries = x.entries; objects = x.objects } in r) id
    ∙ ap (λ (v : List ℕ). let r : StateBundle = record { name = y.name; file = y.file; id = y.id; group = v; digest = x.digest; size = x.size; entries = x.entries; objects = x.objects } in r) group))

lists-same : (x y : StateBundle) → x.digest ≡ y.digest → x.size ≡ y.size → x.entries ≡ y.entries → x.objects ≡ y.objects
    → (let r : StateBundle = record { name = y.name; file = y.file; id = y.id; group = y.group; digest = x.digest; size = x.size; entries = x.entries; objects = x.objects } in r) ≡ y
lists-same x y digest size entries objects =
    ap (λ (v : Digest). let r : StateBundle = record { name = y.name; file = y.file; id = y.id; group = y.group; digest = v; size = x.size; entries = x.entries; objects = x.objects } in r) digest
    ∙ (ap (λ (v : ℕ). let r : StateBundle = record { name = y.name; file = y.file; id = y.id; group = y.group; digest = y.digest; size = v; entries = x.entries; objects = x.objects } in r) size
    ∙ (ap (λ (v : List Guid). let r : StateBundle = record { name = y.name; file = y.file; id = y.id; group = y.group; digest = y.digest; size = y.size; entries = v; objects = x.objects } in r) entries
    ∙ ap (λ (v : List Guid). let r : StateBundle = record { name = y.name; file = y.file; id = y.id; group = y.group; digest = y.digest; size = y.size; entries = y.entries; objects = v } in r) objects))

-- ---- one of each

module _ (p : Project) (plan : Plan) (kept : IsKept p) (shared : IsShared p plan) where
  one-home : (b : ℕ) (g : Guid) → AtMostOne (Home p plan b g)
  one-home b g c d (inl has) (inl also) = one-bundle p plan kept shared c d g has also
  one-home b g c d (inl (x, x-in, x-is)) (inr (none, same)) = absurd (none (x, x-is))
  one-home b g c d (inr (none, same)) (inl (y, y-in, y-is)) = absurd (none (y, y-is))
  one-home b g c d (inr (none, same)) (inr (also, too)) = sym same ∙ too

  one-bundle-told : (b c : ℕ) → AtMostOne (TellsBundle plan b c)
  one-bundle-told b c Own Own first second = refl
  one-bundle-told b c Own (Other name) first (apart, y, there, was) = absurd (apart first)
  one-bundle-told b c (Other name) Own (apart, x, at, is) second = absurd (apart second)
  one-bundle-told b c (Other name) (Other other) (apart, x, at, is) (also, y, there, was) =
      let bundle : x ≡ y = same-some x y (sym at ∙ there) in
      ap Other (is ∙ (ap (λ (z : PlanBundle). digest_from z.name) bundle ∙ sym was))

  one-told : (b : ℕ) (g : Guid) → AtMostOne (TellsHome p plan b g)
  one-told b g h k (c, home, told) (d, also, tells) =
      one-bundle-told b c h k told (subst (λ n. TellsBundle plan b n k) (one-home b g d c also home) tells)

  one-ref : (b : ℕ) (g : Guid) → AtMostOne (IsRefTo p plan b g)
  one-ref b g r s first second = let guid = first.guid ∙ sym second.guid in let home = one-told b g r.home s.home first.home second.home in
      ap₂ (λ (x : Guid) (h : WrittenHome). let t : RefTo = record { guid = x; home = h } in t) guid home

  one-image : (b n : ℕ) → AtMostOne (IsImageOf p plan b n)
  one-image b n x y (d, d-at, first) (e, e-at, second) =
      let same : d ≡ e = same-some d e (sym d-at ∙ e-at) in
      let other : IsImage p plan b d y = subst (λ (a : Asset). IsImage p plan b a y) (sym same) second in
      let guid = first.guid ∙ sym other.guid in
      let bytes = first.bytes ∙ sym other.bytes in
      let refs = zip-one (IsRefTo p plan b) (one-ref b) d.refs x.refs y.refs first.refs other.refs in
      ap (λ (v : Guid). let t : ObjectOut = record { guid = v; bytes = x.bytes; refs = x.refs } in t) guid
      ∙ (ap (λ (v : List ℕ). let t : ObjectOut = record { guid = y.guid; bytes = v; refs = x.refs } in t) bytes
      ∙ ap (λ (v : List RefTo). let t : ObjectOut = record { guid = y.guid; bytes = y.bytes; refs = v } in t) refs)

  guid-order : IsTotalOrder (by_guid p)
  guid-order = on_total (λ (n : ℕ). get_or (asset_guids p.assets) n []) nat_list_cmp_total

  pub one-objects : (b : ℕ) → AtMostOne (AreObjects p plan b)
  one-objects b xs ys first second =
      let members = one-list guid-order (MemberNumber p plan b) first.members second.members first.list second.list in
      zip-one (IsImageOf p plan b) (one-image b) first.members xs ys first.images (subst (λ ms. AllZip (IsImageOf p plan b) ms ys) (sym members) second.images)

  -- so a bundle has one file
  pub one-file : (b : ℕ) → AtMostOne (IsFileOf p plan b)
  one-file b f g first second =
      let bundle : first.bundle ≡ second.bundle = same-some first.bundle second.bundle (sym first.at ∙ second.at) in
      let objects : first.objects ≡ second.objects = one-objects b first.objects second.objects first.are second.are in
      first.text ∙ (ap₂ (file_text p) bundle objects ∙ sym second.text)

  pub one-made : (b : ℕ) → AtMostOne (IsBundleOf p plan b)
  one-made b x y first second =
      let bundle : first.bundle ≡ second.bundle = same-some first.bundle second.bundle (sym first.at ∙ second.at) in
      let name : first.bundle.name ≡ second.bundle.name = ap (λ (z : PlanBundle). z.name) bundle in
      let group : first.group ≡ second.group = same-some first.group second.group (sym first.group_at ∙ (ap (λ (z : PlanBundle). slice_get p.groups z.group) bundle ∙ second.group_at)) in
      let side : first.group.remote ≡ second.group.remote = ap (λ (g : Group). g.remote) group in
      let file : x.file ≡ y.file = one-file b x.file y.file first.is second.is in
      let key : file_name first.bundle.name (digest_from x.file) ≡ file_name second.bundle.name (digest_from y.file) = ap₂ (λ n f. file_name n (digest_from f)) name file in
      let row = row-same x.row y.row
      (first.told.key ∙ (key ∙ sym second.told.key))
      (first.told.size ∙ (ap length file ∙ sym second.told.size))
      (first.told.digest ∙ (ap digest_from file ∙ sym second.told.digest))
      (first.told.name ∙ (ap (λ (z : PlanBundle). hex_of (digest_of z.name)) bundle ∙ sym second.told.name))
      (first.told.id ∙ (ap₂ (fetch_id p) side key ∙ sym second.told.id)) in
      made-same x y (first.side ∙ (side ∙ sym second.side)) row file

  one-row : (e : Entry) → AtMostOne (IsEntryRow p plan e)
  one-row e x y first second =
      let asset : first.asset ≡ second.asset = same-some first.asset second.asset (sym first.at ∙ second.at) in
      let bundle : first.bundle ≡ second.bundle = one-bundle p plan kept shared first.bundle second.bundle second.asset.guid (subst (λ (a : Asset). HasEntry p plan first.bundle a.guid) asset first.has) second.has in
      let deps = one-deps (Needs p plan) second.bundle (map (λ (d : BundleNo). d.0) x.deps) (map (λ (d : BundleNo). d.0) y.deps) (subst (λ b. IsDeps (Needs p plan) b (map (λ (d : BundleNo). d.0) x.deps)) bundle first.deps) second.deps in
      asset-same x y
      (first.id ∙ (ap (λ (a : Asset). hex_of a.guid.0) asset ∙ sym second.id))
      (first.kind ∙ (ap (λ (a : Asset). a.kind) asset ∙ sym second.kind))
      (numbers-same x.deps y.deps deps)
      (first.keys ∙ (ap (entry_keys e) asset ∙ sym second.keys))

  one-state-bundle : (bundles : List ReleaseBundle) (b : ℕ) → AtMostOne (IsStateBundle p plan bundles b)
  one-state-bundle bundles b x y (made, at, first) (other, there, second) =
      let same : made ≡ other = same-some made other (sym at ∙ there) in
      let bundle : first.bundle ≡ second.bundle = same-some first.bundle second.bundle (sym first.at ∙ second.at) in
      let group : first.group ≡ second.group = same-some first.group second.group (sym first.group_at ∙ (ap (λ (z : PlanBundle). slice_get p.groups z.group) bundle ∙ second.group_at)) in
      texts-same x y
      (first.name ∙ (ap (λ (z : PlanBundle). z.name) bundle ∙ sym second.name))
      (first.file ∙ (ap₂ (λ (m : ReleaseBundle) (z : PlanBundle). side_file m.remote z.name m.row.digest) same bundle ∙ sym second.file))
      (first.id ∙ (ap (λ (m : ReleaseBundle). m.row.id) same ∙ sym second.id))
      (first.group_name ∙ (ap (λ (g : Group). g.name) group ∙ sym second.group_name))
      ∙ lists-same x y
      (first.digest ∙ (ap (λ (m : ReleaseBundle). m.row.digest) same ∙ sym second.digest))
      (first.size ∙ (ap (λ (m : ReleaseBundle). m.row.size) same ∙ sym second.size))
      (one-list guid_total (HasEntry p plan b) x.entries y.entries first.entries second.entries)
      (one-list guid_total (Member p plan b) x.objects y.objects first.objects second.objects)

  one-state : (bundles : List ReleaseBundle) → AtMostOne (IsStateOf p plan bundles)
  one-state bundles x y first second =
      ap₂ (λ (bs : List StateBundle) (names : List (List ℕ)). let s : State = record { bundles = bs; fixed = names } in s)
      (one-at (IsStateBundle p plan bundles) (one-state-bundle bundles) x.bundles y.bundles (first.as_many ∙ sym second.as_many) first.each second.each)
      (one-list nat_list_cmp_total (IsFixedName p) x.fixed y.fixed first.fixed second.fixed)

  -- a placement has one release
  pub one-in : AtMostOne (IsReleaseIn p plan)
  one-in r s first second =
      let bundles : r.bundles ≡ s.bundles = one-at (IsBundleOf p plan) one-made r.bundles s.bundles (first.rows.as_many ∙ sym second.rows.as_many) first.rows.each second.rows.each in
      let assets : r.assets ≡ s.assets = zip-one (IsEntryRow p plan) one-row p.entries r.assets s.assets first.rows.entries second.rows.entries in
      let state : r.state ≡ s.state = one-state s.bundles r.state s.state (subst (λ bs. IsStateOf p plan bs r.state) bundles first.told) second.told in
      let bytes : r.state_bytes ≡ s.state_bytes = first.text ∙ (ap state_text state ∙ sym second.text) in
      let listed : r.catalogue ≡ s.catalogue =
      first.listed
      ∙ (ap (λ (bs : List ReleaseBundle). catalogue_text (catalogue_of bs r.assets (Some (digest_from r.state_bytes)))) bundles
      ∙ (ap (λ (rows : List PlainAsset). catalogue_text (catalogue_of s.bundles rows (Some (digest_from r.state_bytes)))) assets
      ∙ (ap (λ (bs : List ℕ). catalogue_text (catalogue_of s.bundles s.assets (Some (digest_from bs)))) bytes ∙ sym second.listed))) in
      ap (λ (v : List ReleaseBundle). let t : Release = record { bundles = v; assets = r.assets; state = r.state; state_bytes = r.state_bytes; catalogue = r.catalogue } in t) bundles
      ∙ (ap (λ (v : List PlainAsset). let t : Release = record { bundles = s.bundles; assets = v; state = r.state; state_bytes = r.state_bytes; catalogue = r.catalogue } in t) assets
      ∙ (ap (λ (v : State). let t : Release = record { bundles = s.bundles; assets = s.assets; state = v; state_bytes = r.state_bytes; catalogue = r.catalogue } in t) state
      ∙ (ap (λ (v : List ℕ). let t : Release = record { bundles = s.bundles; assets = s.assets; state = s.state; state_bytes = v; catalogue = r.catalogue } in t) bytes
      ∙ ap (λ (v : List ℕ). let t : Release = record { bundles = s.bundles; assets = s.assets; state = s.state; state_bytes = s.state_bytes; catalogue = v } in t) listed)))
