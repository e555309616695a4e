-- Whether an entry moves is decided, and so is why: walks through a project and through files go over finitely many things.
use Rattle.std.proofs.Common.{◌≡◌, ◌≢◌, ◌<◌, ◌+◌, ◌++◌, ℕ, zero, suc, ◌⊎◌, inl, inr, Bool, true, false, List, [], ◌∷◌, length, map, Option, Some, None, Less, Equal, Greater, refl, sym, ap, ap₂, subst, ◌∙◌, arith}
use Rattle.std.proofs.lemmas.Bool.{cases_eq, cases_order, false≢true}
use Rattle.std.proofs.lemmas.List.Elements.{Contains-append_left, Contains-append_right}
use Rattle.std.proofs.lemmas.List.Quantifiers.{position-Some}
use Rattle.std.proofs.lemmas.Option.{slice_get_within}
use Rattle.std.specs.List.{Contains, position, slice_get}
use Rattle.std.specs.Ordering.{ordering_reverse}
use Rattle.std.specs.Str.{bytes_eq}
use Rattle.std.specs.declared.cmp.Ordering.{Ordering}
use Rattle.addr_base.specs.Ids.{digest_of, hex_of}
use Rattle.addr_base.specs.declared.ids.BundleNo.{BundleNo}
use Rattle.addr_base.specs.declared.ids.Guid.{Guid}
use Rattle.addr_base.specs.declared.images.Home.{Home}
use Rattle.addr_base.specs.declared.images.Home.TheVariants.{Own, Other}
use Rattle.addr_base.specs.declared.images.RefTo.{RefTo}
use Rattle.addr_cab.specs.declared.object.ObjectOut.{ObjectOut}
use Rattle.addr_layout.specs.Agreement.{Place, place}
use Rattle.addr_layout.proofs.GuidLemmas.{exact-guid, guid_total}
use Rattle.addr_layout.proofs.RankLemmas.{same-some}
use Rattle.addr_locate.specs.declared.rows.AssetRow.{AssetRow}
use Rattle.addr_locate.specs.declared.rows.BundleRow.{BundleRow}
use Rattle.addr_project.specs.declared.model.Asset.{Asset}
use Rattle.addr_project.specs.Model.{Project}
use Rattle.addr_project.specs.Reach.{Reaches, Refers, guid_cmp}
use Rattle.addr_project.proofs.WalkLemmas.{led, led-walk, walk-led}
use Rattle.addr_release.specs.Opened.{Opened, Holds, Jumps, LeadsTo}
use Rattle.addr_release.proofs.FaithfulLemmas.{HasAssets}
use Rattle.addr_walks.specs.Walks.{Leads}
use Rattle.addr_walks.specs.Walks.Leads.{stays, goes}
use Rattle.addr_walks.proofs.Lists.{Contains-cases, Contains-here, Contains-later, Contains-map, Contains-none}
use Rattle.addr_update.specs.Moved.{Update, HasChanged, IsAsNow, IsLeast, IsLedAway, IsLedOn, IsOld, MovedBefore, OnWay, moved_name}
use Rattle.addr_update.proofs.DecidedLemmas.{Decided, as-now, at-of, both-of, first-of, guid-of, led-on, not-of, same-bytes, some-of}
use Rattle.addr_update.proofs.SplitLemmas.{one-first}

-- ---- walks

abbrev is_so : {P : Type 0} → Decided P → Bool
is_so (inl holds) = true
is_so (inr fails) = false

so-holds : {P : Type 0} (d : Decided P) → is_so d ≡ true → P
so-holds (inl holds) is = holds
so-holds (inr fails) is = absurd (false≢true is)

holds-so : {P : Type 0} (d : Decided P) → P → is_so d ≡ true
holds-so (inl holds) p = refl
holds-so (inr fails) p = absurd (fails p)

map-walk : {X : Type 0} (R S : X → X → Type 0) → ((a b : X) → R a b → S a b) → (x y : X) → Leads R x y → Leads S x y
map-walk R S takes x y stays = stays
map-walk R S takes x y (goes {x = m} {y = z} before last) = goes (map-walk R S takes x m before) (takes m z last)

abbrev step_test : {X : Type 0} (step : X → X → Type 0) → ((x y : X) → Decided (step x y)) → X → X → Bool
step_test step decided a b = is_so (decided a b)

-- a walk of steps that are decided and leave things of a list is decided
walk-of : {X : Type 0} (step : X → X → Type 0) → ((x y : X) → Decided (step x y)) → ((x y : X) → Decided (x ≡ y)) → (all : List X) → ((x y : X) → step x y → Contains all x) → (x y : X) → Decided (Leads step x y)
walk-of {X} step decided same all leaves x y = by_led (led (step_test step decided) all x y) refl (same x y)
  where
    by_either : (led (step_test step decided) all x y ≡ false) → (x ≡ y → ⊥) → (x ≡ y) ⊎ (led (step_test step decided) all x y ≡ true) → ⊥
    by_either none other (inl is) = other is
    by_either none other (inr is) = false≢true (sym none ∙ is)

    by_led : (t : Bool) → led (step_test step decided) all x y ≡ t → Decided (x ≡ y) → Decided (Leads step x y)
    by_led true is either = inl (map-walk (λ a b. step_test step decided a b ≡ true) step (λ a b so. so-holds (decided a b) so) x y (led-walk (step_test step decided) all x y is))
    by_led false none (inl is) = inl (subst (Leads step x) is stays)
    by_led false none (inr other) = inr (λ walk. by_either none other (walk-led (step_test step decided) all (λ a b so. leaves a b (so-holds (decided a b) so)) x y (map-walk step (λ a b. step_test step decided a b ≡ true) (λ a b is. holds-so (decided a b) is) x y walk)))

-- ---- the least of a set

module _ (set : Guid → Type 0) (decided : (d : Guid) → Decided (set d)) where
  -- the least among some GUIDs
  abbrev IsAmong : List Guid → Guid → Type 0
  IsAmong xs d = set d × ((e : Guid) → Contains xs e → set e → guid_cmp e d ≡ Less → ⊥)

  never-less : (d : Guid) → guid_cmp d d ≡ Less → ⊥
  never-less d less = let turned : Less ≡ Greater = sym less ∙ (guid_total.antisymm d d ∙ ap ordering_reverse less) in absurd (cc turned)

  join : (x d : Guid) (xs : List Guid) → set x → IsAmong xs d → (o : Ordering) → guid_cmp x d ≡ o → (e : Guid) × IsAmong (x ∷ xs) e
  join x d xs here (is, least) Less less = (x, (here, λ e in' has below. by_place e has below (Contains-cases x xs e in')))
    where
      by_place : (e : Guid) → set e → guid_cmp e x ≡ Less → (x ≡ e) ⊎ Contains xs e → ⊥
      by_place e has below (inl same) = never-less e (subst (λ z. guid_cmp e z ≡ Less) same below)
      by_place e has below (inr later) = least e later has (guid_total.trans e x d below less)
  join x d xs here (is, least) Equal same = (d, (is, λ e in' has below. by_place e has below (Contains-cases x xs e in')))
    where
      by_place : (e : Guid) → set e → guid_cmp e d ≡ Less → (x ≡ e) ⊎ Contains xs e → ⊥
      by_place e has below (inl own) = never-less d (subst (λ z. guid_cmp z d ≡ Less) (sym own ∙ exact-guid x d same) below)
      by_place e has below (inr later) = least e later has below
  join x d xs here (is, least) Greater more = (d, (is, λ e in' has below. by_place e has below (Contains-cases x xs e in')))
    where
      by_place : (e : Guid) → set e → guid_cmp e d ≡ Less → (x ≡ e) ⊎ Contains xs e → ⊥
      by_place e has below (inl own) = absurd (cc (sym more ∙ subst (λ z. guid_cmp z d ≡ Less) (sym own) below))
      by_place e has below (inr later) = least e later has below

  skip : (x d : Guid) (xs : List Guid) → ¬ set x → IsAmong xs d → IsAmong (x ∷ xs) d
  skip x d xs fails (is, least) = (is, λ e in' has below. by_place e has below (Contains-cases x xs e in'))
    where
      by_place : (e : Guid) → set e → guid_cmp e d ≡ Less → (x ≡ e) ⊎ Contains xs e → ⊥
      by_place e has below (inl own) = fails (subst set (sym own) has)
      by_place e has below (inr later) = least e later has below

  alone : (x : Guid) (xs : List Guid) → set x → ((d : Guid) → Contains xs d → ¬ set d) → IsAmong (x ∷ xs) x
  alone x xs here none = (here, λ e in' has below. by_place e has below (Contains-cases x xs e in'))
    where
      by_place : (e : Guid) → set e → guid_cmp e x ≡ Less → (x ≡ e) ⊎ Contains xs e → ⊥
      by_place e has below (inl own) = never-less e (subst (λ z. guid_cmp e z ≡ Less) own below)
      by_place e has below (inr later) = none e later has

  neither : (x : Guid) (xs : List Guid) → ¬ set x → ((d : Guid) → Contains xs d → ¬ set d) → (d : Guid) → Contains (x ∷ xs) d → ¬ set d
  neither x xs fails none d in' has = by_place (Contains-cases x xs d in')
    where
      by_place : (x ≡ d) ⊎ Contains xs d → ⊥
      by_place (inl own) = fails (subst set (sym own) has)
      by_place (inr later) = none d later has

  more : (x : Guid) (xs : List Guid) → Decided (set x) → ((d : Guid) × IsAmong xs d) ⊎ ((d : Guid) → Contains xs d → ¬ set d) → ((d : Guid) × IsAmong (x ∷ xs) d) ⊎ ((d : Guid) → Contains (x ∷ xs) d → ¬ set d)
  more x xs (inl here) (inl (d, least)) = inl (join x d xs here least (guid_cmp x d) refl)
  more x xs (inl here) (inr none) = inl (x, alone x xs here none)
  more x xs (inr fails) (inl (d, least)) = inl (d, skip x d xs fails least)
  more x xs (inr fails) (inr none) = inr (neither x xs fails none)

  among : (xs : List Guid) → ((d : Guid) × IsAmong xs d) ⊎ ((d : Guid) → Contains xs d → ¬ set d)
  among [] = inr (λ d in' has. Contains-none d in')
  among (x ∷ xs) = more x xs (decided x) (among xs)

  -- a decided set that a list covers has a least, or is empty
  least-of : (all : List Guid) → ((d : Guid) → set d → Contains all d) → ((d : Guid) × IsLeast set d) ⊎ ((d : Guid) → ¬ set d)
  least-of all covers = by_all (among all)
    where
      by_all : ((d : Guid) × IsAmong all d) ⊎ ((d : Guid) → Contains all d → ¬ set d) → ((d : Guid) × IsLeast set d) ⊎ ((d : Guid) → ¬ set d)
      by_all (inl (d, (is, least))) = inl (d, (is, λ e has. least e (covers e has) has))
      by_all (inr none) = inr (λ d has. none d (covers d has) has)

-- ---- through the project

refers-of : (p : Project) (x y : Guid) → Decided (Refers p x y)
refers-of p x y = by_asset (some-of (λ (asset : Asset). (asset.guid ≡ x) × Contains asset.refs y) (λ asset. both-of (guid-of asset.guid x) (guid-in asset.refs)) p.assets)
  where
    guid-in : (guids : List Guid) → Decided (Contains guids y)
    guid-in guids = by_same (some-of (λ (g : Guid). g ≡ y) (λ g. guid-of g y) guids)
      where
        by_same : Decided ((g : Guid) × Contains guids g × (g ≡ y)) → Decided (Contains guids y)
        by_same (inl (g, here, same)) = inl (subst (Contains guids) same here)
        by_same (inr fails) = inr (λ here. fails (y, here, refl))

    by_asset : Decided ((asset : Asset) × Contains p.assets asset × ((asset.guid ≡ x) × Contains asset.refs y)) → Decided (Refers p x y)
    by_asset (inl (asset, here, (guid, refs))) = inl (asset, here, guid, refs)
    by_asset (inr fails) = inr (λ (asset, here, guid, refs). fails (asset, here, (guid, refs)))

abbrev guids_of : Project → List Guid
guids_of p = map (λ (asset : Asset). asset.guid) p.assets

reaches-of : (p : Project) (x y : Guid) → Decided (Reaches p x y)
reaches-of p x y = walk-of (Refers p) (refers-of p) guid-of (guids_of p)
    (λ a b (asset, here, guid, refs). subst (Contains (guids_of p)) guid (Contains-map (λ (s : Asset). s.guid) p.assets asset here)) x y

-- what is reached from an asset is it or one of the project
reached-in : (p : Project) → HasAssets p → (a d : Guid) → Reaches p a d → Contains (a ∷ guids_of p) d
reached-in p assets a d stays = Contains-here a (guids_of p)
reached-in p assets a d (goes {x = x} {y = y} before last) =
    let target = assets.named x d last in
    Contains-later a (guids_of p) d (subst (Contains (guids_of p)) target.2 (Contains-map (λ (s : Asset). s.guid) p.assets target.0 target.1))

-- ---- through files

abbrev places_from : ℕ → List Opened → List Place
places_from b [] = []
places_from b (f ∷ fs) = map (λ (o : ObjectOut). place b o.guid) f.objects ++ places_from (suc b) fs

place-in : (b i : ℕ) (fs : List Opened) (f : Opened) (o : ObjectOut) → slice_get fs i ≡ Some f → Contains f.objects o → Contains (places_from b fs) (place (i + b) o.guid)
place-in b i [] f o at here = absurd (cc at)
place-in b zero (g ∷ fs) f o at here =
    let same : g ≡ f = same-some g f at in
    let number : b ≡ 0 + b = omega arith in
    subst (λ n. Contains (places_from b (g ∷ fs)) (place n o.guid)) number
    (Contains-append_left (map (λ (x : ObjectOut). place b x.guid) g.objects) (places_from (suc b) fs) (place b o.guid)
    (Contains-map (λ (x : ObjectOut). place b x.guid) g.objects o (subst (λ (h : Opened). Contains h.objects o) (sym same) here)))
place-in b (suc i) (g ∷ fs) f o at here =
    let later = place-in (suc b) i fs f o at here in
    let number : i + suc b ≡ suc i + b = omega arith in
    Contains-append_right (map (λ (x : ObjectOut). place b x.guid) g.objects) (places_from (suc b) fs) (place (suc i + b) o.guid)
    (subst (λ n. Contains (places_from (suc b) fs) (place n o.guid)) number later)

place-same : (q s : Place) → Decided (q ≡ s)
place-same q s = by_parts (cases_eq q.bundle s.bundle) (guid-of q.guid s.guid)
  where
    by_parts : (q.bundle ≡ s.bundle) ⊎ (q.bundle ≡ s.bundle → ⊥) → Decided (q.guid ≡ s.guid) → Decided (q ≡ s)
    by_parts (inl bundle) (inl guid) = inl (ap₂ place bundle guid)
    by_parts (inr other) guid = inr (λ same. other (ap (λ (w : Place). w.bundle) same))
    by_parts (inl bundle) (inr other) = inr (λ same. other (ap (λ (w : Place). w.guid) same))

-- the GUIDs of all references
abbrev refs_of : List ObjectOut → List Guid
refs_of [] = []
refs_of (o ∷ os) = map (λ (r : RefTo). r.guid) o.refs ++ refs_of os

abbrev all_refs : List Opened → List Guid
all_refs [] = []
all_refs (f ∷ fs) = refs_of f.objects ++ all_refs fs

ref-of : (os : List ObjectOut) (o : ObjectOut) (r : RefTo) → Contains os o → Contains o.refs r → Contains (refs_of os) r.guid
ref-of [] o r here in' = absurd (Contains-none o here)
ref-of (x ∷ os) o r here in' = by_place (Contains-cases x os o here) (λ later. ref-of os o r later in')
  where
    by_place : (x ≡ o) ⊎ Contains os o → (Contains os o → Contains (refs_of os) r.guid) → Contains (refs_of (x ∷ os)) r.guid
    by_place (inl same) rest = Contains-append_left (map (λ (y : RefTo). y.guid) x.refs) (refs_of os) r.guid (Contains-map (λ (y : RefTo). y.guid) x.refs r (subst (λ (z : ObjectOut). Contains z.refs r) (sym same) in'))
    by_place (inr later) rest = Contains-append_right (map (λ (y : RefTo). y.guid) x.refs) (refs_of os) r.guid (rest later)

ref-in : (fs : List Opened) (i : ℕ) (f : Opened) (o : ObjectOut) (r : RefTo) → slice_get fs i ≡ Some f → Contains f.objects o → Contains o.refs r → Contains (all_refs fs) r.guid
ref-in [] i f o r at here in' = absurd (cc at)
ref-in (g ∷ fs) zero f o r at here in' = Contains-append_left (refs_of g.objects) (all_refs fs) r.guid (ref-of g.objects o r (subst (λ (z : Opened). Contains z.objects o) (sym (same-some g f at)) here) in')
ref-in (g ∷ fs) (suc i) f o r at here in' = Contains-append_right (refs_of g.objects) (all_refs fs) r.guid (ref-in fs i f o r at here in')

module _ (was : List Opened) where
  number-of : (o : Option ℕ) (c : ℕ) → Decided (o ≡ Some c)
  number-of None c = inr (λ is. absurd (cc is))
  number-of (Some d) c = by_same (cases_eq d c)
    where
      by_same : (d ≡ c) ⊎ (d ≡ c → ⊥) → Decided (Some d ≡ Some c)
      by_same (inl same) = inl (ap Some same)
      by_same (inr other) = inr (λ is. other (same-some d c is))

  leads-of : (b : ℕ) (h : Home) (c : ℕ) → Decided (LeadsTo was b h c)
  leads-of b Own c = cases_eq b c
  leads-of b (Other name) c = number-of (position (λ file. bytes_eq file.name (hex_of name.0)) was) c

  jumps-of : (q s : Place) → Decided (Jumps was q s)
  jumps-of q s = by_file (at-of (λ (file : Opened). (o : ObjectOut) × Contains file.objects o × ((o.guid ≡ q.guid) × ((r : RefTo) × Contains o.refs r × ((r.guid ≡ s.guid) × LeadsTo was q.bundle r.home s.bundle))))
      (λ file. some-of (λ (o : ObjectOut). (o.guid ≡ q.guid) × ((r : RefTo) × Contains o.refs r × ((r.guid ≡ s.guid) × LeadsTo was q.bundle r.home s.bundle)))
      (λ o. both-of (guid-of o.guid q.guid) (some-of (λ (r : RefTo). (r.guid ≡ s.guid) × LeadsTo was q.bundle r.home s.bundle) (λ r. both-of (guid-of r.guid s.guid) (leads-of q.bundle r.home s.bundle)) o.refs)) file.objects)
      (slice_get was q.bundle))
    where
      by_file : Decided ((file : Opened) × (slice_get was q.bundle ≡ Some file) × ((o : ObjectOut) × Contains file.objects o × ((o.guid ≡ q.guid) × ((r : RefTo) × Contains o.refs r × ((r.guid ≡ s.guid) × LeadsTo was q.bundle r.home s.bundle))))) → Decided (Jumps was q s)
      by_file (inl (file, at, (o, here, (guid, (r, in', (same, to)))))) = inl (o, (file, at, here, guid), r, in', same, to)
      by_file (inr fails) = inr (λ (o, (file, at, here, guid), r, in', same, to). fails (file, at, (o, here, (guid, (r, in', (same, to))))))

  held-in : (q : Place) (o : ObjectOut) → Holds was q o → Contains (places_from 0 was) q
  held-in q o (file, at, here, guid) =
      let number : q.bundle + 0 ≡ q.bundle = omega arith in
      subst (Contains (places_from 0 was)) (ap₂ place number guid) (place-in 0 q.bundle was file o at here)

  way-of : (start q : Place) → Decided (Leads (Jumps was) start q)
  way-of start q = walk-of (Jumps was) jumps-of place-same (places_from 0 was) (λ x y (o, holds, r, in', same, to). held-in x o holds) start q

  -- a walk ends where it begins, or in a bundle that is there
  no-file : Opened
  no-file = record { name = []; objects = [] }

  to-below : (b : ℕ) (h : Home) (c : ℕ) → b < length was → LeadsTo was b h c → c < length was
  to-below b Own c small to = subst (λ n. n < length was) to small
  to-below b (Other name) c small to = (position-Some (λ (file : Opened). bytes_eq file.name (hex_of name.0)) was c no-file to).0

  way-below : (m : ℕ) (a : Guid) (q : Place) → Leads (Jumps was) (place m a) q → q.bundle < length was + suc m
  way-below m a q stays = omega arith
  way-below m a q (goes {x = x} {y = y} before (o, (file, at, here, guid), r, in', same, to)) =
      let small = slice_get_within was x.bundle file at in
      let below = to-below x.bundle r.home q.bundle small to in
      omega (arith, below)

module _ (u : Update) (assets : HasAssets u.project) where
  -- ---- moved before

  abbrev HasRow : Guid → ℕ → Type 0
  HasRow a k = (row : AssetRow) × (slice_get u.rows.assets k ≡ Some row) × (row.id ≡ hex_of a.0)

  row-of : (a : Guid) (k : ℕ) → Decided ((row : AssetRow) × (slice_get u.rows.assets k ≡ Some row) × (row.id ≡ hex_of a.0))
  row-of a k = at-of (λ (row : AssetRow). row.id ≡ hex_of a.0) (λ row. same-bytes row.id (hex_of a.0)) (slice_get u.rows.assets k)

  abbrev IsIntoMoved : AssetRow → Type 0
  IsIntoMoved row = (first : BundleNo) × (slice_get row.deps 0 ≡ Some first) × ((b : BundleRow) × (slice_get u.rows.bundles first.0 ≡ Some b) × (b.name ≡ hex_of (digest_of moved_name)))

  into-of : (row : AssetRow) → Decided (IsIntoMoved row)
  into-of row = at-of (λ (first : BundleNo). (b : BundleRow) × (slice_get u.rows.bundles first.0 ≡ Some b) × (b.name ≡ hex_of (digest_of moved_name)))
      (λ first. at-of (λ (b : BundleRow). b.name ≡ hex_of (digest_of moved_name)) (λ b. same-bytes b.name (hex_of (digest_of moved_name))) (slice_get u.rows.bundles first.0)) (slice_get row.deps 0)

  pub before-of : (a : Guid) → Decided (MovedBefore u a)
  before-of a = by_first (first-of (HasRow a) (row-of a) (length u.rows.assets))
    where
      by_into : (k : ℕ) (row : AssetRow) → slice_get u.rows.assets k ≡ Some row → row.id ≡ hex_of a.0 → ((n : ℕ) → n < k → HasRow a n → ⊥) → Decided (IsIntoMoved row) → Decided (MovedBefore u a)
      by_into k row at id earliest (inl (first, dep, (b, found, name))) = inl (k, row, at, id, (λ j other less there same. earliest j less (other, there, same)), first, dep, b, found, name)
      by_into k row at id earliest (inr fails) = inr (λ (j, other, there, same, first-of', first, dep, b, found, name). by_order j other there same first-of' first dep b found name (cases_order j k))
        where
          by_order : (j : ℕ) (other : AssetRow) → slice_get u.rows.assets j ≡ Some other → other.id ≡ hex_of a.0 → ((i : ℕ) (before : AssetRow) → i < j → slice_get u.rows.assets i ≡ Some before → before.id ≢ hex_of a.0)
              → (first : BundleNo) → slice_get other.deps 0 ≡ Some first → (b : BundleRow) → slice_get u.rows.bundles first.0 ≡ Some b → b.name ≡ hex_of (digest_of moved_name) → (j ≡ k) ⊎ ((j < k) ⊎ (k < j)) → ⊥
          by_order j other there same first-of' first dep b found name (inl own) =
              let row-same : other ≡ row = same-some other row (sym there ∙ (ap (slice_get u.rows.assets) own ∙ at)) in
              fails (first, ap (λ (x : AssetRow). slice_get x.deps 0) (sym row-same) ∙ dep, (b, found, name))
          by_order j other there same first-of' first dep b found name (inr (inl less)) = earliest j less (other, there, same)
          by_order j other there same first-of' first dep b found name (inr (inr later)) = first-of' k row later at id

      by_first : ((k : ℕ) × HasRow a k × ((n : ℕ) → n < k → HasRow a n → ⊥)) ⊎ ((n : ℕ) → n < length u.rows.assets → HasRow a n → ⊥) → Decided (MovedBefore u a)
      by_first (inl (k, (row, at, id), earliest)) = by_into k row at id earliest (into-of row)
      by_first (inr none) = inr (λ moved. none moved.0 (slice_get_within u.rows.assets moved.0 moved.1 moved.2) (moved.1, moved.2, moved.3))

  -- ---- from an old bundle

  module _ (a : Guid) (m : ℕ) (old : IsOld u a m) where
    own-way : (q : Place) → OnWay u a q → Leads (Jumps u.was) (place m a) q
    own-way q (n, other, way) = subst (λ k. Leads (Jumps u.was) (place k a) q) (one-first u a n m other old) way

    abbrev IsSpoilt : Guid → ℕ → Type 0
    IsSpoilt d c = Leads (Jumps u.was) (place m a) (place c d) × (¬ IsAsNow u (place c d))

    changed-of : (d : Guid) → Decided (HasChanged u a d)
    changed-of d = by_reach (reaches-of u.project a d)
      where
        own-place : (q : Place) → q.guid ≡ d → place q.bundle d ≡ q
        own-place q guid = ap (place q.bundle) (sym guid)

        by_spoilt : Reaches u.project a d → (b : ℕ) → Leads (Jumps u.was) (place m a) (place b d)
            → ((c : ℕ) × IsSpoilt d c × ((n : ℕ) → n < c → IsSpoilt d n → ⊥)) ⊎ ((n : ℕ) → n < length u.was + suc m → IsSpoilt d n → ⊥) → Decided (HasChanged u a d)
        by_spoilt reach b way (inl (c, (spoilt-way, spoilt), first)) = inl (reach, inr (place c d, (m, old, spoilt-way), refl, spoilt))
        by_spoilt reach b way (inr none) = inr refuted
          where
            refuted : ¬ HasChanged u a d
            refuted (again, inl never) = never (place b d) (m, old, way) refl
            refuted (again, inr (q, on, guid, spoilt)) =
                let walk = own-way q on in
                none q.bundle (way-below u.was m a q walk) (subst (Leads (Jumps u.was) (place m a)) (sym (own-place q guid)) walk, λ now. spoilt (subst (IsAsNow u) (own-place q guid) now))

        by_there : Reaches u.project a d → ((c : ℕ) × Leads (Jumps u.was) (place m a) (place c d) × ((n : ℕ) → n < c → Leads (Jumps u.was) (place m a) (place n d) → ⊥)) ⊎ ((n : ℕ) → n < length u.was + suc m → Leads (Jumps u.was) (place m a) (place n d) → ⊥) → Decided (HasChanged u a d)
        by_there reach (inr none) = inl (reach, inl (λ q on guid. (let walk = own-way q on in none q.bundle (way-below u.was m a q walk) (subst (Leads (Jumps u.was) (place m a)) (sym (own-place q guid)) walk))))
        by_there reach (inl (b, way, first)) = by_spoilt reach b way (first-of (IsSpoilt d) (λ c. both-of (way-of u.was (place m a) (place c d)) (not-of (as-now u (place c d)))) (length u.was + suc m))

        by_reach : Decided (Reaches u.project a d) → Decided (HasChanged u a d)
        by_reach (inr fails) = inr (λ (reach, rest). fails reach)
        by_reach (inl reach) = by_there reach (first-of (λ c. Leads (Jumps u.was) (place m a) (place c d)) (λ c. way-of u.was (place m a) (place c d)) (length u.was + suc m))

    pub some-changed : ((d : Guid) × IsLeast (HasChanged u a) d) ⊎ ((d : Guid) → ¬ HasChanged u a d)
    some-changed = least-of (HasChanged u a) changed-of (a ∷ guids_of u.project) (λ d (reach, rest). reached-in u.project assets a d reach)

    abbrev IsAwayFor : Guid → Place → ObjectOut → Type 0
    IsAwayFor d q o = (o.guid ≡ q.guid) × ((r : RefTo) × Contains o.refs r × ((r.guid ≡ d) × (¬ IsLedOn u q r)))

    abbrev IsAway : Guid → Place → Type 0
    IsAway d q = Leads (Jumps u.was) (place m a) q × ((file : Opened) × (slice_get u.was q.bundle ≡ Some file) × ((o : ObjectOut) × Contains file.objects o × IsAwayFor d q o))

    away-of : (d : Guid) → Decided (IsLedAway u a d)
    away-of d = by_place (some-of (IsAway d) away-at (places_from 0 u.was))
      where
        away-for : (q : Place) (o : ObjectOut) → Decided (IsAwayFor d q o)
        away-for q o = both-of (guid-of o.guid q.guid) (some-of (λ (r : RefTo). (r.guid ≡ d) × (¬ IsLedOn u q r)) (λ r. both-of (guid-of r.guid d) (not-of (led-on u q r r.home refl))) o.refs)

        away-at : (q : Place) → Decided (IsAway d q)
        away-at q = both-of (way-of u.was (place m a) q)
            (at-of (λ (file : Opened). (o : ObjectOut) × Contains file.objects o × IsAwayFor d q o) (λ file. some-of (IsAwayFor d q) (away-for q) file.objects) (slice_get u.was q.bundle))

        by_place : Decided ((q : Place) × Contains (places_from 0 u.was) q × IsAway d q) → Decided (IsLedAway u a d)
        by_place (inl (q, here, (way, (file, at, (o, in', (guid, (r, ref, (same, fails)))))))) = inl (q, (m, old, way), o, (file, at, in', guid), r, ref, same, fails)
        by_place (inr nowhere) = inr (λ (q, on, o, (file, at, in', guid), r, ref, same, fails).
            nowhere (q, held-in u.was q o (file, at, in', guid), (own-way q on, (file, at, (o, in', (guid, (r, ref, (same, fails))))))))

    pub some-away : ((d : Guid) × IsLeast (IsLedAway u a) d) ⊎ ((d : Guid) → ¬ IsLedAway u a d)
    some-away = least-of (IsLedAway u a) away-of (all_refs u.was) covers
      where
        covers : (d : Guid) → IsLedAway u a d → Contains (all_refs u.was) d
        covers d (q, on, o, (file, at, in', guid), r, ref, same, fails) = subst (Contains (all_refs u.was)) same (ref-in u.was q.bundle file o r at in' ref)
