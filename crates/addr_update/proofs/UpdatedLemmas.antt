-- After an update each place of a new bundle's member, and each place of a kept entry's way, is good: so the release shows the project.
use Rattle.std.proofs.Common.{◌≡◌, ◌≢◌, ℕ, ◌⊎◌, inl, inr, false, List, [], map, get_or, Some, refl, sym, ap, ap₂, subst, ◌∙◌}
use Rattle.std.proofs.lemmas.Bool.{false≢true}
use Rattle.std.proofs.lemmas.List.Quantifiers.{position-Some}
use Rattle.std.proofs.lemmas.Option.{slice_get-get_or}
use Rattle.std.proofs.lemmas.Slice.Eq.{bytes_eq-Decides}
use Rattle.std.specs.List.{Contains, position, slice_get}
use Rattle.std.specs.Str.{bytes_eq}
use Rattle.addr_base.specs.Ids.{digest_of, hex_of}
use Rattle.addr_base.specs.declared.files.MemFile.{MemFile}
use Rattle.addr_base.specs.declared.ids.Guid.{Guid}
use Rattle.addr_base.specs.declared.images.Home.{Home as WrittenHome}
use Rattle.addr_base.specs.declared.images.Home.TheVariants.{Own, Other}
use Rattle.addr_base.specs.declared.images.RefTo.{RefTo}
use Rattle.addr_cab.specs.declared.object.ObjectOut.{ObjectOut}
use Rattle.addr_layout.specs.Agreement.{Place, place, Follows}
use Rattle.addr_layout.specs.Members.{HasEntry, IsEntryOf, IsShared, Member}
use Rattle.addr_layout.proofs.RankLemmas.{same-some}
use Rattle.addr_pack.specs.Placement.{IsPlaced}
use Rattle.addr_pack.specs.declared.bundles.Plan.{Plan}
use Rattle.addr_pack.specs.declared.bundles.PlanBundle.{PlanBundle}
use Rattle.addr_project.specs.declared.model.Asset.{Asset}
use Rattle.addr_project.specs.declared.model.Entry.{Entry}
use Rattle.addr_project.specs.Kept.{IsKept as IsKeptProject}
use Rattle.addr_project.specs.Reach.{Item, Reaches, item_of}
use Rattle.addr_release.specs.Images.{AreObjects, NamesApart}
use Rattle.addr_release.specs.Opened.{Opened, Holds, LeadsTo, Jumps, item_of_object}
use Rattle.addr_project.proofs.OnceLemmas.{to_map}
use Rattle.addr_release.proofs.FaithfulLemmas.{Carries, HasAssets, has-assets}
use Rattle.addr_layout.proofs.AgreementLemmas.{holds-on}
use Rattle.addr_release.proofs.ImageLemmas.{AreOpened, FilesApart, beside, image-at, image-item, member-held, ref-at, jump-follows}
use Rattle.addr_release.proofs.NamedLemmas.{named-first, one-home}
use Rattle.addr_release.proofs.OpenedLemmas.{files-apart}
use Rattle.addr_state.specs.declared.model.StateBundle.{StateBundle}
use Rattle.addr_walks.specs.Once.{AreOnce}
use Rattle.addr_walks.specs.Walks.{Leads}
use Rattle.addr_walks.specs.Walks.Leads.{stays, goes}
use Rattle.addr_walks.proofs.Lists.{Contains-map, Contains-slice_get, slice_get-Contains}
use Rattle.addr_walks.proofs.Zips.{zip-left}
use Rattle.addr_update.specs.declared.model.KeptBundle.{KeptBundle}
use Rattle.addr_layout.specs.KeptBundles.{IsNewAt}
use Rattle.addr_update.specs.After.{IsOldAt, NeedsAfter}
use Rattle.addr_update.specs.Intact.{AreIntact, IsIntact}
use Rattle.addr_update.specs.within.Kept.{StaysWell}
use Rattle.addr_update.specs.Moved.{Update, IsAsNow, IsKept as IsKeptEntry, IsLedOn, Stays}
use Rattle.addr_update.specs.Placement.{IsSplit, IsUpdatePlan, IsUpdateBundle, kept_bundle}
use Rattle.addr_update.proofs.DecidedLemmas.{kept-well}

-- what a bundle holds after the update
abbrev pub HasAfter : Update → Plan → ℕ → List ObjectOut → Type 0
HasAfter u plan b objects = (IsNewAt plan b × AreObjects u.project plan b objects) ⊎ ((m : ℕ) × IsOldAt u plan b m × (opened : Opened) × (slice_get u.was m ≡ Some opened) × (objects ≡ opened.objects))

-- a place of a new bundle's member, or one of the way of a kept entry in a bundle that stays
abbrev pub IsGood : Update → Plan → Place → Type 0
IsGood u plan q = (IsNewAt plan q.bundle × Member u.project plan q.bundle q.guid)
    ⊎ ((e : Guid) × (m : ℕ) × (n : ℕ) × StaysWell u e m × Leads (Jumps u.was) (place m e) (place n q.guid) × IsOldAt u plan q.bundle n)

pub new-not-old : (u : Update) (plan : Plan) (b m : ℕ) → IsNewAt plan b → IsOldAt u plan b m → ⊥
new-not-old u plan b m (bundle, at, new) is = false≢true (sym new ∙ (ap (λ (x : PlanBundle). x.kept) (same-some bundle is.bundle (sym at ∙ is.at)) ∙ is.kept))

-- a bundle is one bundle of the state
pub same-old : (u : Update) (plan : Plan) (b m n : ℕ) → AreOnce (map (λ (s : StateBundle). s.name) u.state.bundles) → IsOldAt u plan b m → IsOldAt u plan b n → m ≡ n
same-old u plan b m n once first second =
    let bundle : first.bundle ≡ second.bundle = same-some first.bundle second.bundle (sym first.at ∙ second.at) in
    let name : first.old.name ≡ second.old.name = sym first.name ∙ (ap (λ (x : PlanBundle). x.name) bundle ∙ second.name) in
    once m n second.old.name (to_map (λ (s : StateBundle). s.name) u.state.bundles m first.old first.stays.0 ∙ ap Some name) (to_map (λ (s : StateBundle). s.name) u.state.bundles n second.old second.stays.0)

no-file : Opened
no-file = record { name = []; objects = [] }

-- what is told by a name is found under it
named-at : (files : List Opened) (name : List ℕ) (n : ℕ) → position (λ (file : Opened). bytes_eq file.name name) files ≡ Some n → (f : Opened) × (slice_get files n ≡ Some f) × (f.name ≡ name)
named-at files name n to = (
  get_or files n no-file,
  slice_get-get_or files n no-file (position-Some (λ (file : Opened). bytes_eq file.name name) files n no-file to).0,
  (bytes_eq-Decides (get_or files n no-file).name name).0 (position-Some (λ (file : Opened). bytes_eq file.name name) files n no-file to).1,
)

module _ (u : Update) (kept : List KeptBundle) (moved : List ℕ) (plan : Plan) (files : List MemFile) (folder : List ℕ) (project : IsKeptProject u.project) (shared : IsShared u.project plan) (apart : NamesApart plan)
    (placed : IsPlaced u.project u.now) (split : IsSplit u kept moved) (updated : IsUpdatePlan u.project u.now kept moved plan) (once : AreOnce (map (λ (b : StateBundle). b.name) u.state.bundles)) (intact : AreIntact u.state files folder u.was) where
  assets : HasAssets u.project
  assets = has-assets u.project project

  -- ---- bundles

  one-old : (b m n : ℕ) → IsOldAt u plan b m → IsOldAt u plan b n → m ≡ n
  one-old b m n first second = same-old u plan b m n once first second

  was-at : (m : ℕ) (old : StateBundle) → slice_get u.state.bundles m ≡ Some old → (w : Opened) × (slice_get u.was m ≡ Some w) × IsIntact files folder old w
  was-at m old at = zip-left (IsIntact files folder) u.state.bundles u.was intact m old at

  stays-at : (n : ℕ) (old : StateBundle) → Stays u n old → (c : ℕ) × ((is : IsOldAt u plan c n) × (is.old ≡ old))
  stays-at n old is =
      let k = split.all n old is in
      let here = updated.all (kept_bundle k.0) (inr (inr (k.0, k.1, refl))) in
      let at = slice_get-Contains plan.bundles (kept_bundle k.0) here in
      (at.0, (record { bundle = kept_bundle k.0; at = at.1; kept = refl; old = old; stays = is; name = k.2.name }, refl))

  free-new : (c : ℕ) (bundle : PlanBundle) → slice_get u.now.bundles c ≡ Some bundle → bundle.kept ≡ false
  free-new c bundle at = (placed.classes c bundle at).new

  same-entry : (x : ℕ) (a d : Guid) → IsEntryOf u.project x a → IsEntryOf u.project x d → a ≡ d
  same-entry x a d (e, at, (asset, there, is)) (f, also, (other, too, are)) =
      let entry : e ≡ f = same-some e f (sym at ∙ also) in
      let same : asset ≡ other = same-some asset other (sym there ∙ (ap (λ (y : Entry). slice_get u.project.assets y.asset) entry ∙ too)) in
      sym is ∙ (ap (λ (y : Asset). y.guid) same ∙ are)

  pub entry-good : (b : ℕ) (a : Guid) → HasEntry u.project plan b a → IsGood u plan (place b a)
  entry-good b a (x, (bundle, at, here), entry) = by_kind (updated.within bundle (Contains-slice_get plan.bundles b bundle at))
    where
      by_kind : IsUpdateBundle u.project u.now kept moved bundle → IsGood u plan (place b a)
      by_kind (inl (in', free)) = (let there = slice_get-Contains u.now.bundles bundle in' in inl ((bundle, at, free-new there.0 bundle there.1), (a, (x, (bundle, at, here), entry), stays)))
      by_kind (inr (inl (some, is))) = inl ((bundle, at, ap (λ (y : PlanBundle). y.kept) is), (a, (x, (bundle, at, here), entry), stays))
      by_kind (inr (inr (k, in', is))) =
          let from = split.bundles k in' in
          let no = from.2.entries.within x (subst (λ (y : PlanBundle). Contains y.entries x) is here) in
          let same : no.0 ≡ a = same-entry x no.0 a (no.2.0, no.2.1, no.2.2) entry in
          inr (
            a,
            from.0,
            from.0,
            kept-well u a from.0 (subst (λ g. IsKeptEntry u g from.0) same no.4),
            stays,
            record { bundle = bundle; at = at; kept = ap (λ (y : PlanBundle). y.kept) is; old = from.1; stays = from.2.stays; name = ap (λ (y : PlanBundle). y.name) is ∙ from.2.name },
          )

  -- ---- files

  module _ (opened : List Opened) (are : AreOpened plan (HasAfter u plan) opened) where
    names : FilesApart opened
    names = files-apart plan (HasAfter u plan) apart opened are

    written : (b : ℕ) (objects : List ObjectOut) → IsNewAt plan b → HasAfter u plan b objects → AreObjects u.project plan b objects
    written b objects new (inl (also, is)) = is
    written b objects new (inr (m, is, held, at, same)) = absurd (new-not-old u plan b m new is)

    -- a bundle that stays holds what it held
    old-objects : (b n : ℕ) (f w : Opened) → IsOldAt u plan b n → slice_get opened b ≡ Some f → slice_get u.was n ≡ Some w → f.objects ≡ w.objects
    old-objects b n f w is at was = by_has (are.objects b f at)
      where
        by_has : HasAfter u plan b f.objects → f.objects ≡ w.objects
        by_has (inl (new, objects)) = absurd (new-not-old u plan b n new is)
        by_has (inr (m, also, x, there, same)) =
            let one : m ≡ n = one-old b m n also is in
            let w' : x ≡ w = same-some x w (sym there ∙ (ap (slice_get u.was) one ∙ was)) in
            same ∙ ap (λ (y : Opened). y.objects) w'

    old-holds : (b n : ℕ) (g : Guid) (o : ObjectOut) → IsOldAt u plan b n → Holds opened (place b g) o → Holds u.was (place n g) o
    old-holds b n g o is (f, at, here, guid) =
        let w = was-at n is.old is.stays.0 in
        (w.0, w.1, subst (λ os. Contains os o) (old-objects b n f w.0 is at w.1) here, guid)

    new-holds : (b n : ℕ) (g : Guid) (o : ObjectOut) → IsOldAt u plan b n → Holds u.was (place n g) o → Holds opened (place b g) o
    new-holds b n g o is (w, at, here, guid) =
        let f = beside plan.bundles opened b is.bundle are.as_many is.at in
        (f.0, f.1, subst (λ os. Contains os o) (sym (old-objects b n f.0 w is f.1 at)) here, guid)

    -- the way of a kept entry visits only what the entry leads to in the project
    way-reaches : (e : Guid) (m : ℕ) (q : Place) → StaysWell u e m → Leads (Jumps u.was) (place m e) q → Reaches u.project e q.guid
    way-reaches e m q well stays = stays
    way-reaches e m q well (goes {x = x} {y = y} before (o, holds, r, here, guid, leads)) =
        let reach = way-reaches e m x well before in
        let found = (well.unchanged x before reach).1 o holds in
        let refs : map (λ (r : RefTo). r.guid) o.refs ≡ found.0.refs = ap (λ (i : Item). i.refs) found.2 in
        goes reach (found.0, found.1, sym (ap (λ (i : Item). i.guid) found.2) ∙ holds.3, rw (← refs, ← guid) (Contains-map (λ (r : RefTo). r.guid) o.refs r here))

    as-was : (e : Guid) (m : ℕ) (q : Place) → StaysWell u e m → Leads (Jumps u.was) (place m e) q → IsAsNow u q
    as-was e m q well way = well.unchanged q way (way-reaches e m q well way)

    -- the name of a bundle leads to it
    name-leads : (b c : ℕ) (bundle : PlanBundle) (name : List ℕ) → slice_get plan.bundles c ≡ Some bundle → hex_of (digest_of bundle.name) ≡ name → position (λ (file : Opened). bytes_eq file.name name) opened ≡ Some c
    name-leads b c bundle name at same =
        let f = beside plan.bundles opened c bundle are.as_many at in
        let is : f.0.name ≡ name = are.names c bundle f.0 at f.1 ∙ same in
        rw (← is) (named-first opened c f.0 f.1 (λ d g there also. names d c g f.0 there f.1 also))

    -- a reference on the way leads to a good place
    led-good : (e : Guid) (m n b : ℕ) (g : Guid) (o : ObjectOut) (r : RefTo) → StaysWell u e m → Leads (Jumps u.was) (place m e) (place n g) → IsOldAt u plan b n → Holds u.was (place n g) o → Contains o.refs r
        → (h : WrittenHome) → r.home ≡ h → IsLedOn u (place n g) r → (c : ℕ) × LeadsTo opened b r.home c × IsGood u plan (place c r.guid)
    led-good e m n b g o r well way is holds here Own own led = (b, rw own refl, inr (e, m, n, well, goes way (o, holds, r, here, refl, rw own refl), is))
    led-good e m n b g o r well way is holds here (Other name) other (inl own) = absurd (cc (sym own ∙ other))
    led-good e m n b g o r well way is holds here (Other name) other (inr (inl (n', old, to, stay))) =
        let was : position (λ (file : Opened). bytes_eq file.name (hex_of name.0)) u.was ≡ Some n' = subst (λ h. LeadsTo u.was n h n') other to in
        let w = named-at u.was (hex_of name.0) n' was in
        let at = stays-at n' old stay in
        let there = was-at n' old stay.0 in
        let same : hex_of (digest_of at.1.0.bundle.name) ≡ hex_of name.0 =
        ap (λ (t : List ℕ). hex_of (digest_of t)) (at.1.0.name ∙ ap (λ (x : StateBundle). x.name) at.1.1) ∙ (sym there.2.name ∙ (ap (λ (x : Opened). x.name) (same-some there.0 w.0 (sym there.1 ∙ w.1)) ∙ w.2)) in
        (at.0, subst (λ h. LeadsTo opened b h at.0) (sym other) (name-leads b at.0 at.1.0.bundle (hex_of name.0) at.1.0.at same), inr (e, m, n', well, goes way (o, holds, r, here, refl, to), at.1.0))
    led-good e m n b g o r well way is holds here (Other name) other (inr (inr (c, bundle, at, free, (x, (also, there, in'), entry), told))) =
        let in-plan = updated.all bundle (inl (Contains-slice_get u.now.bundles c bundle at, free)) in
        let now = slice_get-Contains plan.bundles bundle in-plan in
        let same : also ≡ bundle = same-some also bundle (sym there ∙ at) in
        let has : HasEntry u.project plan now.0 r.guid = (x, (bundle, now.1, subst (λ (y : PlanBundle). Contains y.entries x) same in'), entry) in (
          now.0,
          subst (λ h. LeadsTo opened b h now.0) (sym told) (name-leads b now.0 bundle (hex_of (digest_of bundle.name)) now.1 refl),
          inl ((bundle, now.1, free-new c bundle at), (r.guid, has, stays)),
        )

    -- where a new bundle's reference leads is good
    follows-good : (q s : Place) → IsNewAt plan q.bundle → Member u.project plan q.bundle q.guid → Follows u.project plan q s → IsGood u plan s
    follows-good q s new member (refers, inl has) = entry-good s.bundle s.guid has
    follows-good q s new member (refers, inr (none, same)) = inl (subst (IsNewAt plan) same new, holds-on u.project plan q s member (refers, inr (none, same)))

    some-object : (q : Place) → IsGood u plan q → (o : ObjectOut) × Holds opened q o
    some-object q (inl (new, member)) = member-held u.project plan assets shared (HasAfter u plan) opened are names (IsNewAt plan) written q new member
    some-object q (inr (e, m, n, well, way, is)) = (let there = (as-was e m (place n q.guid) well way).0 in (there.0, new-holds q.bundle n q.guid there.0 is there.1))

    same-asset : (q : Place) → IsGood u plan q → (o : ObjectOut) → Holds opened q o → (asset : Asset) × Contains u.project.assets asset × (item_of_object o ≡ item_of asset)
    same-asset q (inl (new, member)) o holds =
        let image = image-at u.project plan assets shared (HasAfter u plan) opened are names (IsNewAt plan) written q o new holds in
        (image.0, image.1, image-item u.project plan q.bundle image.0 o image.3)
    same-asset q (inr (e, m, n, well, way, is)) o holds = (as-was e m (place n q.guid) well way).1 o (old-holds q.bundle n q.guid o is holds)

    next-good : (q : Place) → IsGood u plan q → (o : ObjectOut) → Holds opened q o → (r : RefTo) → Contains o.refs r → (c : ℕ) × LeadsTo opened q.bundle r.home c × IsGood u plan (place c r.guid)
    next-good q (inl (new, member)) o holds r here =
        let led = ref-at u.project plan assets shared (HasAfter u plan) opened are names (IsNewAt plan) written q o r new member holds here in
        (led.0, led.1, follows-good q (place led.0 r.guid) new member led.2)
    next-good q (inr (e, m, n, well, way, is)) o holds r here =
        let before = old-holds q.bundle n q.guid o is holds in
        led-good e m n q.bundle q.guid o r well way is before here r.home refl (well.led (place n q.guid) o r way before here)

    -- where a step leaves a bundle, the bundle needs the other one
    needs-next : (q s : Place) → IsGood u plan q → Jumps opened q s → q.bundle ≢ s.bundle → NeedsAfter u plan q.bundle s.bundle
    needs-next q s (inl (new, member)) jump other =
        by_follows (jump-follows u.project plan assets shared (HasAfter u plan) opened are names (IsNewAt plan) written q s new member jump)
      where
        by_follows : Follows u.project plan q s → NeedsAfter u plan q.bundle s.bundle
        by_follows (refers, inl has) = inl (new, (other, q.guid, s.guid, member, refers, has))
        by_follows (refers, inr (none, same)) = absurd (other same)
    needs-next q s (inr (e, m, n, well, way, is)) (o, holds, r, here, guid, leads) other = by_home r.home refl leads
      where
        by_home : (h : WrittenHome) → r.home ≡ h → LeadsTo opened q.bundle h s.bundle → NeedsAfter u plan q.bundle s.bundle
        by_home Own own same = absurd (other same)
        by_home (Other name) told to =
            let f = named-at opened (hex_of name.0) s.bundle to in
            let bundle = beside opened plan.bundles s.bundle f.0 (sym are.as_many) f.1 in
            let before = old-holds q.bundle n q.guid o is holds in
            inr ((is.bundle, is.at, is.kept), (other, n, is, (before.0, before.1, o, before.2, r, here, name, told, bundle.0, bundle.1, sym f.2 ∙ are.names s.bundle bundle.0 f.0 bundle.1 f.1)))

    pub updated-carries : Carries u.project plan (NeedsAfter u plan) opened (IsGood u plan)
    updated-carries = record {
      faithful = record {
        some = some-object;
        same = same-asset;
        leads = λ q good o holds r here. let next = next-good q good o holds r here in (next.0, next.1);
        kept = λ q s good jump.
            let next = next-good q good jump.0 jump.1 jump.2 jump.3 in
            let to : next.0 ≡ s.bundle = one-home opened q.bundle jump.2.home next.0 s.bundle next.1 jump.5 in
            subst (IsGood u plan) (ap₂ place to jump.4) next.2;
      };
      entries = entry-good;
      needed = needs-next;
    }
