-- Right after a build the state is intact, and nothing moves.
use Rattle.std.proofs.Common.{◌≡◌, ◌<◌, ◌++◌, ℕ, inl, inr, Bool, true, false, List, [], ◌∷◌, length, map, slice_index_or, Some, refl, sym, ap, subst, ◌∙◌, arith}
use Rattle.std.proofs.lemmas.Option.{get_or_from_slice_get, slice_get_within}
use Rattle.std.specs.List.{AllZip, Contains, slice_get}
use Rattle.std.specs.List.Sorted.{IsStrictlySortedBy}
use Rattle.addr_base.specs.Files.{file_at}
use Rattle.addr_base.specs.Ids.{digest_of, hex_of}
use Rattle.addr_base.specs.declared.files.MemFile.{MemFile}
use Rattle.addr_base.specs.declared.ids.Digest.{Digest}
use Rattle.addr_base.specs.declared.ids.Guid.{Guid}
use Rattle.addr_base.specs.declared.images.Home.{Home as WrittenHome}
use Rattle.addr_base.specs.declared.images.Home.TheVariants.{Own, Other}
use Rattle.addr_base.specs.declared.images.RefTo.{RefTo}
use Rattle.addr_cab.specs.Objects.{HoldsCab}
use Rattle.addr_cab.specs.declared.object.ObjectOut.{ObjectOut}
use Rattle.addr_layout.specs.Agreement.{Place, place}
use Rattle.addr_layout.specs.Layout.{by_guid}
use Rattle.addr_layout.specs.Members.{HasEntry, IsShared, Member}
use Rattle.addr_layout.specs.Needs.{Home, Needs}
use Rattle.addr_layout.proofs.GuidLemmas.{guid_total, same-guid}
use Rattle.addr_layout.proofs.PlacedLemmas.{one-entry}
use Rattle.addr_layout.proofs.RankLemmas.{same-some}
use Rattle.addr_layout.proofs.SharedLemmas.{shared as placed-shared}
use Rattle.addr_locate.specs.Rows.{rows_of}
use Rattle.addr_locate.specs.declared.rows.BundleRow.{BundleRow}
use Rattle.addr_pack.specs.Placement.{InBundle, IsPlaced}
use Rattle.addr_pack.specs.declared.bundles.Plan.{Plan}
use Rattle.addr_pack.specs.declared.bundles.PlanBundle.{PlanBundle}
use Rattle.addr_pack.proofs.DigestLemmas.{digests-fit}
use Rattle.addr_project.specs.declared.model.Asset.{Asset}
use Rattle.addr_project.specs.declared.model.Entry.{Entry}
use Rattle.addr_project.specs.declared.model.Group.{Group}
use Rattle.addr_project.specs.Kept.{IsKept as IsKeptProject, asset_guids}
use Rattle.addr_project.specs.Model.{Project}
use Rattle.addr_project.specs.Reach.{guid_cmp}
use Rattle.addr_project.specs.Reading.{path}
use Rattle.addr_project.proofs.OnceLemmas.{from_map, to_map}
use Rattle.addr_release.specs.Built.{IsBundleOf, IsReleaseIn, IsStateBundleOf, Release, ReleaseBundle}
use Rattle.addr_release.specs.Images.{AreObjects, IsImageOf, IsRefTo, NamesApart, TellsBundle}
use Rattle.addr_release.specs.Names.{digest_from, side_path}
use Rattle.addr_release.specs.Opened.{Opened, Holds, LeadsTo}
use Rattle.addr_release.specs.Laws.{AreThere}
use Rattle.addr_release.specs.Puts.{IsAfter, NoneTaken, puts_of}
use Rattle.addr_release.proofs.BuiltLemmas.{built-carries, bundle-there, free-after, held-as, holds-just, listed_puts, there-after}
use Rattle.addr_release.proofs.FaithfulLemmas.{Carries, HasAssets, good-along, has-assets}
use Rattle.addr_release.proofs.ImageLemmas.{AreOpened, FilesApart, beside, image-at, member-asset, told-leads}
use Rattle.addr_release.proofs.OpenedLemmas.{files-apart, hex-same, zip-from}
use Rattle.addr_state.specs.Files.{file_name, side_folder}
use Rattle.addr_state.specs.declared.model.StateBundle.{StateBundle}
use Rattle.addr_walks.specs.Walks.{IsListOf}
use Rattle.addr_walks.proofs.Lists.{Contains-map, Contains-slice_get, map-Contains, one-list, slice_get-Contains, sorted-map}
use Rattle.addr_walks.proofs.Zips.{zip-here, zip-right, zip-there}
use Rattle.addr_update.specs.Clean.{HasCleanWay}
use Rattle.addr_update.specs.Fresh.{IsFresh, KeepsAll, NoneMoved}
use Rattle.addr_update.specs.Intact.{AreIntact, IsIntact}
use Rattle.addr_update.specs.Moved.{Update, HasOld, IsIn, IsLedOn, IsOld, MovedBefore, moved_name}
use Rattle.addr_update.proofs.CleanLemmas.{clean-led, clean-same}

zip-lengths : {A B : Type 0} (R : A → B → Type 0) (xs : List A) (ys : List B) → AllZip R xs ys → length ys ≡ length xs
zip-lengths R [] [] zipped = refl
zip-lengths R [] (y ∷ ys) zipped = absurd zipped
zip-lengths R (x ∷ xs) [] zipped = absurd zipped
zip-lengths R (x ∷ xs) (y ∷ ys) zipped = let rest = zip-lengths R xs ys zipped.1 in cc

-- ---- the GUIDs of a bundle's objects are those of its members

abbrev guid_at : Project → ℕ → Guid
guid_at p n = record { 0 = slice_index_or (asset_guids p.assets) n [] }

guid-of : (p : Project) (n : ℕ) (asset : Asset) → slice_get p.assets n ≡ Some asset → guid_at p n ≡ asset.guid
guid-of p n asset at = same-guid (guid_at p n) asset.guid (get_or_from_slice_get (asset_guids p.assets) n asset.guid.0 [] (to_map (λ (a : Asset). a.guid.0) p.assets n asset at))

module _ (p : Project) (plan : Plan) (b : ℕ) where
  same-guids : (ns : List ℕ) (os : List ObjectOut) → AllZip (IsImageOf p plan b) ns os → map (guid_at p) ns ≡ map (λ (o : ObjectOut). o.guid) os
  same-guids [] [] zipped = refl
  same-guids [] (o ∷ os) zipped = absurd zipped
  same-guids (n ∷ ns) [] zipped = absurd zipped
  same-guids (n ∷ ns) (o ∷ os) zipped =
      let first : guid_at p n ≡ o.guid = guid-of p n zipped.0.0 zipped.0.1 ∙ sym zipped.0.2.guid in
      let rest = same-guids ns os zipped.1 in
      cc

  object-guids : (assets : HasAssets p) → IsShared p plan → (objects : List ObjectOut) → AreObjects p plan b objects → IsListOf guid_cmp (Member p plan b) (map (λ (o : ObjectOut). o.guid) objects)
  object-guids assets shared objects are = record {
    rising = subst (λ gs. IsStrictlySortedBy guid_cmp gs) (same-guids are.members objects are.images)
        (sorted-map (by_guid p) guid_cmp (guid_at p) are.members (λ m n here there less. less) are.list.rising);
    within = λ g here. within g (map-Contains (λ (o : ObjectOut). o.guid) objects g here);
    all = λ g member. all g member (member-asset p plan assets shared b g member);
  }
    where
      within : (g : Guid) → (o : ObjectOut) × Contains objects o × (o.guid ≡ g) → Member p plan b g
      within g (o, here, is) =
          let from = zip-there (IsImageOf p plan b) are.members objects o are.images here in
          let number = are.list.within from.0 from.1 in
          let own : number.0 ≡ from.2.0.guid = sym number.1.2 ∙ ap (λ (a : Asset). a.guid) (same-some number.1.0 from.2.0 (sym number.1.1 ∙ from.2.1)) in
          subst (Member p plan b) (own ∙ (sym from.2.2.guid ∙ is)) number.2

      all : (g : Guid) → Member p plan b g → (asset : Asset) × Contains p.assets asset × (asset.guid ≡ g) → Contains (map (λ (o : ObjectOut). o.guid) objects) g
      all g member (asset, here, is) =
          let at = slice_get-Contains p.assets asset here in
          let found = zip-here (IsImageOf p plan b) are.members objects at.0 are.images (are.list.all at.0 (g, (asset, at.1, is), member)) in
          let own : found.2.0 ≡ asset = same-some found.2.0 asset (sym found.2.1 ∙ at.1) in
          subst (Contains (map (λ (o : ObjectOut). o.guid) objects)) (found.2.2.guid ∙ (ap (λ (a : Asset). a.guid) own ∙ is)) (Contains-map (λ (o : ObjectOut). o.guid) objects found.0 found.1)

-- ---- after the puts of a project's release

module _ (p : Project) (project : IsKeptProject p) (plan : Plan) (placed : IsPlaced p plan) (r : Release) (is : IsReleaseIn p plan r) (folder : List ℕ) (old files : List MemFile)
    (none : NoneTaken old folder r) (after : IsAfter (puts_of folder r) old files) where
  shared : IsShared p plan
  shared = placed-shared p plan placed

  assets : HasAssets p
  assets = has-assets p project

  free : NoneTaken files folder r
  free = free-after p plan project placed r folder old files (plan, placed, is) none after

  there : AreThere (listed_puts folder r) files
  there = there-after p plan project placed r folder old files (plan, placed, is) none after

  -- the bundle of the release that the state speaks of
  made-of : (b : ℕ) (s : StateBundle) → slice_get r.state.bundles b ≡ Some s → (made : ReleaseBundle) × (slice_get r.bundles b ≡ Some made) × IsStateBundleOf p plan b made s × IsBundleOf p plan b made
  made-of b s at = let told = is.told.each b s at in (told.0, told.1, told.2, is.rows.each b told.0 told.1)

  state-there : (b : ℕ) (s : StateBundle) (at : slice_get r.state.bundles b ≡ Some s) → file_at (path folder s.file) files ≡ Some (made-of b s at).0.file
  state-there b s at =
      let made = made-of b s at in
      let told = made.2 in
      let own = made.3 in
      let bundle : told.bundle ≡ own.bundle = same-some told.bundle own.bundle (sym told.at ∙ own.at) in
      let key : file_name told.bundle.name made.0.row.digest ≡ made.0.row.key =
      ap (λ (x : PlanBundle). file_name x.name made.0.row.digest) bundle ∙ (ap (λ (d : Digest). file_name own.bundle.name d) own.told.digest ∙ sym own.told.key) in
      let name : path folder s.file ≡ side_path folder made.0.remote made.0.row.key = ap (path folder) (told.file ∙ ap (λ (k : List ℕ). side_folder made.0.remote ++ k) key) in
      ap (λ (n : List ℕ). file_at n files) name ∙ bundle-there p plan r placed is folder files free there b made.0 made.1

  one-intact : (b : ℕ) (s : StateBundle) → slice_get r.state.bundles b ≡ Some s → (w : Opened) × IsIntact files folder s w
  one-intact b s at =
      let made = made-of b s at in
      let told = made.2 in
      let own = made.3 in
      let digest : s.digest ≡ digest_from made.0.file = told.digest ∙ own.told.digest in (
        record { name = hex_of (digest_of s.name); objects = own.is.objects },
        record {
          file = made.0.file;
          there = state-there b s at;
          bytes = own.is.bytes;
          short = own.is.short;
          size = sym (told.size ∙ own.told.size);
          digest = sym (ap (λ (d : Digest). d.0) digest);
          name = refl;
          cab = digest_from own.is.bundle.name;
          holds = own.is.holds;
          objects = one-list guid_total (Member p plan b) (map (λ (o : ObjectOut). o.guid) own.is.objects) s.objects (object-guids p plan b assets shared own.is.objects own.is.are) told.objects;
        },
      )

  pub all-intact : (was : List Opened) × AreIntact r.state files folder was
  all-intact = zip-from (IsIntact files folder) r.state.bundles one-intact

  module _ (apart : NamesApart plan) (unmoved : NoneMoved plan) where
    abbrev pub was : List Opened
    was = all-intact.0

    abbrev pub fresh : Update
    fresh = record { state = r.state; was = was; rows = is.alike.0.locator; project = p; now = plan }

    are : AreOpened plan (AreObjects p plan) was
    are = record {
      as_many = zip-lengths (IsIntact files folder) r.state.bundles was all-intact.1 ∙ is.told.as_many;
      names = λ b bundle w at here.
          let s = zip-right (IsIntact files folder) r.state.bundles was all-intact.1 b w here in
          let told = (made-of b s.0 s.1).2 in
          s.2.name ∙ (ap (λ t. hex_of (digest_of t)) told.name ∙ ap (λ (x : PlanBundle). hex_of (digest_of x.name)) (same-some told.bundle bundle (sym told.at ∙ at)));
      objects = λ b w here.
          let s = zip-right (IsIntact files folder) r.state.bundles was all-intact.1 b w here in
          let made = made-of b s.0 s.1 in
          let file : s.2.file ≡ made.0.file = same-some s.2.file made.0.file (sym s.2.there ∙ state-there b s.0 s.1) in
          let held = subst (λ f. HoldsCab f s.2.cab w.objects) file s.2.holds in
          subst (AreObjects p plan b) ((holds-just p plan b made.0.file made.3.is).one s.2.cab w.objects held) made.3.is.are;
    }

    carries : Carries p plan (Needs p plan) was (λ q. Member p plan q.bundle q.guid)
    carries = built-carries p plan project shared apart was are

    names : FilesApart was
    names = files-apart plan (AreObjects p plan) apart was are

    -- the group of a bundle is that of its entries
    entry-group : (b x : ℕ) (a : Guid) (g : Group) (bundle : PlanBundle) → slice_get plan.bundles b ≡ Some bundle → Contains bundle.entries x → IsIn p x a g → slice_get p.groups bundle.group ≡ Some g
    entry-group b x a g bundle at here (e, found, numbered, group) =
        let named = (placed.classes b bundle at).named x here in
        ap (slice_get p.groups) (named.2 ∙ ap (λ (y : Entry). y.group) (same-some named.0 e (sym named.1 ∙ found))) ∙ group

    bundle-group : (b : ℕ) (bundle : PlanBundle) → slice_get plan.bundles b ≡ Some bundle → (g : Group) × (slice_get p.groups bundle.group ≡ Some g)
    bundle-group b bundle at =
        let class = placed.classes b bundle at in
        let named = class.named class.filled.0 class.filled.1 in
        (named.3.1, ap (slice_get p.groups) named.2 ∙ named.3.3)

    state-at : (b : ℕ) (bundle : PlanBundle) → slice_get plan.bundles b ≡ Some bundle → (s : StateBundle) × (slice_get r.state.bundles b ≡ Some s)
    state-at b bundle at = beside plan.bundles r.state.bundles b bundle is.told.as_many at

    -- the state names the group of a bundle
    state-group : (b : ℕ) (bundle : PlanBundle) (g : Group) (s : StateBundle) → slice_get plan.bundles b ≡ Some bundle → slice_get p.groups bundle.group ≡ Some g → slice_get r.state.bundles b ≡ Some s → g.name ≡ s.group
    state-group b bundle g s at group there =
        let told = (made-of b s there).2 in
        let own : told.bundle ≡ bundle = same-some told.bundle bundle (sym told.at ∙ at) in
        let same : told.group ≡ g = same-some told.group g (sym told.group_at ∙ (ap (λ (x : PlanBundle). slice_get p.groups x.group) own ∙ group)) in
        ap (λ (x : Group). x.name) (sym same) ∙ sym told.group_name

    -- a reference of a member is led on
    led-on : (q : Place) (o : ObjectOut) (ref : RefTo) → Member p plan q.bundle q.guid → Holds was q o → Contains o.refs ref → IsLedOn fresh q ref
    led-on q o ref member holds here =
        let image = image-at p plan assets shared (AreObjects p plan) was are names (λ b. Unit {0}) (λ b objects new is'. is') q o tt holds in
        let told = zip-there (IsRefTo p plan q.bundle) image.0.refs o.refs ref image.3.refs here in
        by_home told.0 told.2.guid told.2.home.0 told.2.home.1 ref.home refl told.2.home.2
      where
        by_home : (d : Guid) → ref.guid ≡ d → (b : ℕ) → Home p plan q.bundle d b → (h : WrittenHome) → ref.home ≡ h → TellsBundle plan q.bundle b h → IsLedOn fresh q ref
        by_home d guid b home Own is' same = inl is'
        by_home d guid b (inr (none, same)) (Other name) is' (other, bundle, at, named) = absurd (other same)
        by_home d guid b (inl has) (Other name) is' (other, bundle, at, named) = by_fixed (bundle-group b bundle at)
          where
            by_fixed : (g : Group) × (slice_get p.groups bundle.group ≡ Some g) → IsLedOn fresh q ref
            by_fixed (g, group) = by_test g.fixed refl
              where
                by_test : (t : Bool) → g.fixed ≡ t → IsLedOn fresh q ref
                by_test false free = inr (inr (b, bundle, at, (g, group, free), subst (HasEntry p plan b) (sym guid) has, is' ∙ ap Other named))
                by_test true fixed =
                    let s = state-at b bundle at in
                    let grouped = state-group b bundle g s.0 at group s.1 in
                    let to = told-leads p plan assets shared (AreObjects p plan) was are names (λ b'. Unit {0}) (λ b' objects new is''. is'') q.bundle b (Other name) (other, bundle, at, named) in
                    let in' = Contains-slice_get p.groups bundle.group g group in
                    inr (inl (b, s.0, subst (λ h. LeadsTo was q.bundle h b) (sym is') to, (s.1, is.told.fixed.all s.0.group (g, in', fixed, grouped), (g, in', fixed, grouped))))

    clean : (b : ℕ) (a : Guid) → HasEntry p plan b a → HasCleanWay fresh b a
    clean b a has q way =
        let member = good-along p was (λ x. Member p plan x.bundle x.guid) assets carries.faithful (place b a) q (carries.entries b a has) way in
        ((carries.faithful.some q member, carries.faithful.same q member), λ o ref holds here. (led-on q o ref member holds here, carries.faithful.leads q member o holds ref here))

    old-of : (b x : ℕ) (a : Guid) (g : Group) → InBundle plan b x → IsIn p x a g → g.fixed ≡ true → IsOld fresh a b
    old-of b x a g (bundle, at, here) is-in fixed =
        let s = state-at b bundle at in
        let group = entry-group b x a g bundle at here is-in in
        let name = state-group b bundle g s.0 at group s.1 in
        let has : HasEntry p plan b a = (x, (bundle, at, here), (is-in.0, is-in.1, is-in.2)) in (
          (s.0, s.1, (made-of b s.0 s.1).2.entries.all a has, is.told.fixed.all s.0.group (g, Contains-slice_get p.groups bundle.group g group, fixed, name), x, g, is-in, name),
          λ n less earlier. never n less earlier has,
        )
      where
        never : (n : ℕ) → n < b → HasOld fresh a n → HasEntry p plan b a → ⊥
        never n less (s, at', stands, fixed', y, g', in', name) has =
            let before = (made-of n s at').2.entries.within a stands in
            let entry = one-entry p project before.0 has.0 a before.2 has.2 in
            let same : n ≡ b = shared.one n b has.0 (subst (InBundle plan n) entry before.1) has.1 in
            omega (arith, same, less)

    not-before : (a : Guid) → ¬ MovedBefore fresh a
    unfolding rows_of
    not-before a (k, row, at, id, first-of, first, dep, b, found, name) =
        let rows : slice_get (map (λ (made : ReleaseBundle). made.row) r.bundles) first.0 ≡ Some b = ap (λ (bs : List BundleRow). slice_get bs first.0) is.alike.2.0 ∙ found in
        let made = from_map (λ (made : ReleaseBundle). made.row) r.bundles first.0 b rows in
        let own = is.rows.each first.0 made.0 made.1 in
        unmoved first.0 own.bundle own.at (hex-same (digest_of own.bundle.name) (digest_of moved_name) (digests-fit own.bundle.name) (digests-fit moved_name)
        (sym own.told.name ∙ (ap (λ (x : BundleRow). x.name) made.2 ∙ name)))

    fresh-kept : KeepsAll fresh
    fresh-kept x a g is-in fixed =
        let own = shared.each x (slice_get_within p.entries x is-in.0 is-in.1) in
        let old-at = old-of own.0 x a g own.1 is-in fixed in
        let way = clean own.0 a (x, own.1, (is-in.0, is-in.1, is-in.2)) in
        (own.0, (a, g, is-in, fixed, record { old = old-at; before = not-before a; same = clean-same fresh assets a own.0 old-at way; led = clean-led fresh assets a own.0 old-at way }))

    pub fresh-keeps : (u : Update) × IsFresh p plan files folder u × KeepsAll u
    fresh-keeps = (
      fresh,
      record {
        catalogue = is.alike.0;
        held = held-as p plan r placed is folder files free there;
        intact = all-intact.1;
        rows = refl;
        project = refl;
        now = refl;
      },
      fresh-kept,
    )
