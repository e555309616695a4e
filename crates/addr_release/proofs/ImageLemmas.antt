-- Files that hold the images of a placement's members show what the project shows.
use Rattle.std.proofs.Common.{◌≡◌, ℕ, List, [], ◌∷◌, length, map, get_or, Some, refl, ap, subst, ◌∙◌, sym, arith}
use Rattle.std.proofs.lemmas.Option.{slice_get_within, slice_get-get_or}
use Rattle.std.specs.List.{AllZip, Contains, position, slice_get}
use Rattle.std.specs.Str.{bytes_eq}
use Rattle.addr_base.specs.Ids.{hex_of, digest_of}
use Rattle.addr_base.specs.declared.ids.Digest.{Digest}
use Rattle.addr_base.specs.declared.ids.Guid.{Guid}
use Rattle.addr_base.specs.declared.images.Home.{Home as WrittenHome}
use Rattle.addr_base.specs.declared.images.Home.TheVariants.{Own, Other}
use Rattle.addr_base.specs.declared.images.RefTo.{RefTo}
use Rattle.addr_cab.specs.declared.object.ObjectOut.{ObjectOut}
use Rattle.addr_layout.specs.Agreement.{Place, place, Follows}
use Rattle.addr_layout.specs.Members.{IsNumbered, IsShared, Member, RefersWithin}
use Rattle.addr_layout.specs.Needs.{Home}
use Rattle.addr_layout.proofs.RankLemmas.{same-some}
use Rattle.addr_pack.specs.declared.bundles.Plan.{Plan}
use Rattle.addr_pack.specs.declared.bundles.PlanBundle.{PlanBundle}
use Rattle.addr_project.specs.declared.model.Asset.{Asset}
use Rattle.addr_project.specs.Model.{Project}
use Rattle.addr_project.specs.Reach.{item_of}
use Rattle.addr_walks.specs.Places.{EachAt}
use Rattle.addr_walks.specs.Walks.{Leads}
use Rattle.addr_walks.specs.Walks.Leads.{stays, goes}
use Rattle.addr_walks.proofs.Lists.{Contains-slice_get, slice_get-Contains}
use Rattle.addr_walks.proofs.Zips.{zip-here, zip-there}
use Rattle.addr_release.specs.Images.{IsRefTo, IsImage, IsImageOf, AreObjects, TellsBundle}
use Rattle.addr_release.specs.Opened.{Opened, Holds, LeadsTo, Jumps, item_of_object}
use Rattle.addr_release.proofs.FaithfulLemmas.{HasAssets}
use Rattle.addr_release.proofs.NamedLemmas.{named-first, one-home}

-- the opened files of a placement: each holds objects that its bundle may have, under the digits of its bundle's internal name
pub record AreOpened (plan : Plan) (has : ℕ → List ObjectOut → Type 0) (files : List Opened) : Type 0 where
  pub as_many : length files ≡ length plan.bundles
  pub names : (b : ℕ) (bundle : PlanBundle) (file : Opened) → slice_get plan.bundles b ≡ Some bundle → slice_get files b ≡ Some file → file.name ≡ hex_of (digest_of bundle.name)
  pub objects : EachAt (λ b file. has b file.objects) files

-- bundles with one name in the catalogue are one bundle
abbrev pub FilesApart : List Opened → Type 0
FilesApart files = (b c : ℕ) (f g : Opened) → slice_get files b ≡ Some f → slice_get files c ≡ Some g → f.name ≡ g.name → b ≡ c

map-zip : {A B : Type 0} (R : A → B → Type 0) (f : B → A) → ((x : A) (y : B) → R x y → f y ≡ x) → (xs : List A) (ys : List B) → AllZip R xs ys → map f ys ≡ xs
map-zip R f each [] [] zipped = refl
map-zip R f each [] (y ∷ ys) zipped = absurd zipped
map-zip R f each (x ∷ xs) [] zipped = absurd zipped
map-zip R f each (x ∷ xs) (y ∷ ys) zipped = let rest = map-zip R f each xs ys zipped.1 in let here = each x y zipped.0 in cc

pub image-item : (p : Project) (plan : Plan) (b : ℕ) (asset : Asset) (o : ObjectOut) → IsImage p plan b asset o → item_of_object o ≡ item_of asset
image-item p plan b asset o image =
    let guid = image.guid in
    let bytes = image.bytes in
    let refs = map-zip (IsRefTo p plan b) (λ (r : RefTo). r.guid) (λ g r ref. ref.guid) asset.refs o.refs image.refs in
    cc

-- there is something at each place of a list that is as long
pub beside : {X Y : Type 0} (xs : List X) (ys : List Y) (k : ℕ) (x : X) → length ys ≡ length xs → slice_get xs k ≡ Some x → (y : Y) × (slice_get ys k ≡ Some y)
beside xs [] k x same at = absurd (let within = slice_get_within xs k x at in omega arith)
beside xs (y ∷ ys) k x same at = let within = slice_get_within xs k x at in (get_or (y ∷ ys) k y, slice_get-get_or (y ∷ ys) k y (omega arith))

one-there : {X : Type 0} (xs : List X) (k : ℕ) (x y : X) → slice_get xs k ≡ Some x → slice_get xs k ≡ Some y → x ≡ y
one-there xs k x y first second = same-some x y (sym first ∙ second)

guid-through : (g : Guid) (a b : Asset) (h : Guid) → g ≡ a.guid → a ≡ b → b.guid ≡ h → g ≡ h
guid-through g a b h first same last = first ∙ (ap (λ (x : Asset). x.guid) same ∙ last)

module _ (p : Project) (plan : Plan) (assets : HasAssets p) (shared : IsShared p plan) where
  -- a member is an asset of the project
  numbered-asset : (n : ℕ) (g : Guid) → IsNumbered p n g → (asset : Asset) × Contains p.assets asset × (asset.guid ≡ g)
  numbered-asset n g (asset, at, guid) = (asset, Contains-slice_get p.assets n asset at, guid)

  within-asset : (e d : Guid) → ((asset : Asset) × Contains p.assets asset × (asset.guid ≡ e)) → Leads (RefersWithin p) e d → (asset : Asset) × Contains p.assets asset × (asset.guid ≡ d)
  within-asset e d first stays = first
  within-asset e d first (goes {x = x} {y = y} before last) = assets.named x y last.0

  pub member-asset : (b : ℕ) (d : Guid) → Member p plan b d → (asset : Asset) × Contains p.assets asset × (asset.guid ≡ d)
  member-asset b d (e, has, walk) = within-asset e d (numbered-asset has.2.0.asset e has.2.2) walk

  pub member-bundle : (b : ℕ) (d : Guid) → Member p plan b d → (bundle : PlanBundle) × (slice_get plan.bundles b ≡ Some bundle)
  member-bundle b d (e, has, walk) = (has.1.0, has.1.1)

  -- of some bundles, the fresh ones, the files hold the objects that the placement gives them
  module _ (has : ℕ → List ObjectOut → Type 0) (files : List Opened) (opened : AreOpened plan has files) (apart : FilesApart files)
      (fresh : ℕ → Type 0) (written : (b : ℕ) (objects : List ObjectOut) → fresh b → has b objects → AreObjects p plan b objects) where
    -- what is told of a home leads to it
    pub told-leads : (b c : ℕ) (home : WrittenHome) → TellsBundle plan b c home → LeadsTo files b home c
    told-leads b c Own same = same
    told-leads b c (Other name) (other, named, there, is) =
        let file = beside plan.bundles files c named opened.as_many there in
        let text : file.0.name ≡ hex_of (digest_of named.name) = opened.names c named file.0 there file.1 in
        let first : position (λ (f : Opened). bytes_eq f.name file.0.name) files ≡ Some c = named-first files c file.0 file.1 (λ d g' at' same. apart d c g' file.0 at' file.1 same) in
        subst (λ (d : Digest). position (λ (f : Opened). bytes_eq f.name (hex_of d.0)) files ≡ Some c) (sym is) (subst (λ t. position (λ (f : Opened). bytes_eq f.name t) files ≡ Some c) text first)

    pub ref-leads : (b : ℕ) (x g : Guid) (r : RefTo) → Member p plan b x → IsRefTo p plan b g r → (c : ℕ) × Home p plan b g c × LeadsTo files b r.home c
    ref-leads b x g r member ref =
        (ref.home.0, ref.home.1, told-leads b ref.home.0 r.home ref.home.2)

    -- the image of what a place holds
    pub image-at : (q : Place) (o : ObjectOut) → fresh q.bundle → Holds files q o → (asset : Asset) × Contains p.assets asset × Member p plan q.bundle asset.guid × IsImage p plan q.bundle asset o × (asset.guid ≡ q.guid)
    image-at q o new (file, at, here, guid) =
        let are = written q.bundle file.objects new (opened.objects q.bundle file at) in
        let from = zip-there (IsImageOf p plan q.bundle) are.members file.objects o are.images here in
        let asset = from.2.0 in
        let image = from.2.2 in
        let number = are.list.within from.0 from.1 in
        let guid' : number.0 ≡ asset.guid = sym number.1.2 ∙ ap (λ (a : Asset). a.guid) (same-some number.1.0 asset (sym number.1.1 ∙ from.2.1)) in
        (asset, Contains-slice_get p.assets from.0 asset from.2.1, subst (Member p plan q.bundle) guid' number.2, image, sym image.guid ∙ guid)

    pub member-held : (q : Place) → fresh q.bundle → Member p plan q.bundle q.guid → (o : ObjectOut) × Holds files q o
    member-held q new member =
        let asset = member-asset q.bundle q.guid member in
        let at = slice_get-Contains p.assets asset.0 asset.1 in
        let bundle = member-bundle q.bundle q.guid member in
        let file = beside plan.bundles files q.bundle bundle.0 opened.as_many bundle.1 in
        let are = written q.bundle file.0.objects new (opened.objects q.bundle file.0 file.1) in
        let here = are.list.all at.0 (q.guid, (asset.0, at.1, asset.2), member) in
        let found = zip-here (IsImageOf p plan q.bundle) are.members file.0.objects at.0 are.images here in
        let same : found.2.0 ≡ asset.0 = one-there p.assets at.0 found.2.0 asset.0 found.2.1 at.1 in
        (found.0, (file.0, file.1, found.1, guid-through found.0.guid found.2.0 asset.0 q.guid found.2.2.guid same asset.2))

    pub jump-follows : (q s : Place) → fresh q.bundle → Member p plan q.bundle q.guid → Jumps files q s → Follows p plan q s
    jump-follows q s new member (o, holds, r, here, guid, leads) =
        let image = image-at q o new holds in
        let from = zip-there (IsRefTo p plan q.bundle) image.0.refs o.refs r image.3.refs here in
        let led = ref-leads q.bundle q.guid from.0 r member from.2 in
        let same : from.0 ≡ s.guid = sym from.2.guid ∙ guid in
        let bundle : led.0 ≡ s.bundle = one-home files q.bundle r.home led.0 s.bundle led.2 leads in
        ((image.0, image.1, image.4, subst (Contains image.0.refs) same from.1), subst (Home p plan q.bundle s.guid) bundle (subst (λ g. Home p plan q.bundle g led.0) same led.1))

    -- each reference of a member is told, and it leads to its home
    pub ref-at : (q : Place) (o : ObjectOut) (r : RefTo) → fresh q.bundle → Member p plan q.bundle q.guid → Holds files q o → Contains o.refs r
        → (c : ℕ) × LeadsTo files q.bundle r.home c × Follows p plan q (place c r.guid)
    ref-at q o r new member holds here =
        let image = image-at q o new holds in
        let from = zip-there (IsRefTo p plan q.bundle) image.0.refs o.refs r image.3.refs here in
        let led = ref-leads q.bundle q.guid from.0 r member from.2 in
        (led.0, led.2, jump-follows q (place led.0 r.guid) new member (o, holds, r, here, refl, led.2))
