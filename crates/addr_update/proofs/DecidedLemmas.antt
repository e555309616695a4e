-- Whether a place is as the project has it, and whether a reference is led on, can be decided: so what isn't moved stays well.
use Rattle.std.proofs.Common.{◌≡◌, ◌<◌, ℕ, zero, suc, ◌⊎◌, inl, inr, Bool, true, false, List, [], ◌∷◌, length, map, Option, Some, None, refl, sym, ap, subst, ◌∙◌, arith}
use Rattle.std.proofs.lemmas.Bool.{cases_order, false≢true}
use Rattle.std.proofs.lemmas.Option.{slice_get_within}
use Rattle.std.proofs.lemmas.Slice.Eq.{bytes_eq-Decides}
use Rattle.std.specs.List.{Contains, position, slice_get}
use Rattle.std.specs.Str.{bytes_eq}
use Rattle.addr_base.specs.Ids.{digest_of, hex_of}
use Rattle.addr_base.specs.declared.ids.Digest.{Digest}
use Rattle.addr_base.specs.declared.ids.Guid.{Guid}
use Rattle.addr_base.specs.declared.images.Home.{Home}
use Rattle.addr_base.specs.declared.images.Home.TheVariants.{Own, Other}
use Rattle.addr_base.specs.declared.images.RefTo.{RefTo}
use Rattle.addr_cab.specs.declared.object.ObjectOut.{ObjectOut}
use Rattle.addr_layout.specs.Agreement.{Place}
use Rattle.addr_layout.specs.Members.{IsEntryOf, IsNumbered}
use Rattle.addr_layout.proofs.GuidLemmas.{same-guid}
use Rattle.addr_layout.proofs.RankLemmas.{same-some}
use Rattle.addr_pack.specs.declared.bundles.PlanBundle.{PlanBundle}
use Rattle.addr_project.specs.declared.model.Asset.{Asset}
use Rattle.addr_project.specs.declared.model.Entry.{Entry}
use Rattle.addr_project.specs.declared.model.Group.{Group}
use Rattle.addr_project.specs.Reach.{Item, item_of}
use Rattle.addr_release.specs.Built.{IsFixedName}
use Rattle.addr_release.specs.Names.{digest_from}
use Rattle.addr_release.specs.Opened.{Opened, Holds, LeadsTo, item_of_object}
use Rattle.addr_state.specs.declared.model.StateBundle.{StateBundle}
use Rattle.addr_walks.proofs.Lists.{Contains-here, Contains-later, Contains-cases, Contains-none, Contains-slice_get, slice_get-Contains}
use Rattle.addr_update.specs.within.Kept.{StaysWell}
use Rattle.addr_update.specs.Moved.{Update, HasOld, IsAsNow, IsIn, IsUnfixed, IsKept, IsLedOn, IsOld, Stays}

abbrev pub Decided : Type 0 → Type 0
Decided P = P ⊎ (¬ P)

pub by-decided : {P : Type 0} → Decided P → ¬ (¬ P) → P
by-decided (inl holds) never = holds
by-decided (inr fails) never = absurd (never fails)

pub both-of : {P Q : Type 0} → Decided P → Decided Q → Decided (P × Q)
both-of (inl p) (inl q) = inl (p, q)
both-of (inl p) (inr fails) = inr (λ both. fails both.1)
both-of (inr fails) q = inr (λ both. fails both.0)

pub three-of : {P Q R : Type 0} → Decided P → Decided Q → Decided R → Decided (P × Q × R)
three-of (inl p) (inl q) (inl r) = inl (p, q, r)
three-of (inl p) (inl q) (inr fails) = inr (λ all. fails all.2)
three-of (inl p) (inr fails) r = inr (λ all. fails all.1)
three-of (inr fails) q r = inr (λ all. fails all.0)

pub not-of : {P : Type 0} → Decided P → Decided (¬ P)
not-of (inl p) = inr (λ fails. fails p)
not-of (inr fails) = inl fails

pub then-of : {P Q : Type 0} → Decided P → Decided Q → Decided (P → Q)
then-of (inr fails) q = inl (λ p. absurd (fails p))
then-of (inl p) (inl q) = inl (λ is. q)
then-of (inl p) (inr fails) = inr (λ gives. fails (gives p))

pub some-of : {X : Type 0} (P : X → Type 0) → ((x : X) → Decided (P x)) → (xs : List X) → Decided ((x : X) × Contains xs x × P x)
some-of P decided [] = inr (λ (x, here, holds). Contains-none x here)
some-of {X} P decided (y ∷ ys) = by_first (decided y) (some-of P decided ys)
  where
    none : ¬ P y → ¬ ((x : X) × Contains ys x × P x) → (x : X) → (y ≡ x) ⊎ Contains ys x → P x → ⊥
    none fails nowhere x (inl same) holds = fails (subst P (sym same) holds)
    none fails nowhere x (inr later) holds = nowhere (x, later, holds)

    by_first : Decided (P y) → Decided ((x : X) × Contains ys x × P x) → Decided ((x : X) × Contains (y ∷ ys) x × P x)
    by_first (inl holds) rest = inl (y, Contains-here y ys, holds)
    by_first (inr fails) (inl (x, here, holds)) = inl (x, Contains-later y ys x here, holds)
    by_first (inr fails) (inr nowhere) = inr (λ (x, here, holds). none fails nowhere x (Contains-cases y ys x here) holds)

pub all-of : {X : Type 0} (P : X → Type 0) → ((x : X) → Decided (P x)) → (xs : List X) → Decided ((x : X) → Contains xs x → P x)
all-of {X} P decided xs = by_some (some-of (λ x. ¬ P x) (λ x. not-of (decided x)) xs)
  where
    by_some : Decided ((x : X) × Contains xs x × (¬ P x)) → Decided ((x : X) → Contains xs x → P x)
    by_some (inl (x, here, fails)) = inr (λ each. fails (each x here))
    by_some (inr nowhere) = inl (λ x here. by-decided (decided x) (λ fails. nowhere (x, here, fails)))

pub at-of : {X : Type 0} (P : X → Type 0) → ((x : X) → Decided (P x)) → (o : Option X) → Decided ((x : X) × (o ≡ Some x) × P x)
at-of P decided None = inr (λ (x, at, holds). absurd (cc at))
at-of {X} P decided (Some y) = by_it (decided y)
  where
    by_it : Decided (P y) → Decided ((x : X) × (Some y ≡ Some x) × P x)
    by_it (inl holds) = inl (y, refl, holds)
    by_it (inr fails) = inr (λ (x, at, holds). fails (subst P (sym (same-some y x at)) holds))

-- the first number below a bound for which it holds
pub first-of : (P : ℕ → Type 0) → ((n : ℕ) → Decided (P n)) → (k : ℕ) → ((m : ℕ) × P m × ((n : ℕ) → n < m → P n → ⊥)) ⊎ ((n : ℕ) → n < k → P n → ⊥)
first-of P decided zero = inr (λ n below holds. absurd (omega arith))
first-of P decided (suc k) = by_rest (first-of P decided k) (decided k)
  where
    by_rest : ((m : ℕ) × P m × ((n : ℕ) → n < m → P n → ⊥)) ⊎ ((n : ℕ) → n < k → P n → ⊥) → Decided (P k) → ((m : ℕ) × P m × ((n : ℕ) → n < m → P n → ⊥)) ⊎ ((n : ℕ) → n < suc k → P n → ⊥)
    by_rest (inl found) here = inl found
    by_rest (inr none) (inl holds) = inl (k, holds, none)
    by_rest (inr none) (inr fails) = inr (λ n below holds. by_order n below holds (cases_order n k))
      where
        by_order : (n : ℕ) → n < suc k → P n → (n ≡ k) ⊎ ((n < k) ⊎ (k < n)) → ⊥
        by_order n below holds (inl same) = fails (subst P same holds)
        by_order n below holds (inr (inl less)) = none n less holds
        by_order n below holds (inr (inr more)) = omega (arith, below, more)

-- ---- bytes, GUIDs, items

pub same-bytes : (a b : List ℕ) → Decided (a ≡ b)
same-bytes a b = by_test (bytes_eq a b) refl
  where
    by_test : (t : Bool) → bytes_eq a b ≡ t → Decided (a ≡ b)
    by_test true same = inl ((bytes_eq-Decides a b).0 same)
    by_test false differs = inr (λ is. false≢true (sym differs ∙ (bytes_eq-Decides a b).1 is))

pub guid-of : (x y : Guid) → Decided (x ≡ y)
guid-of x y = by_bytes (same-bytes x.0 y.0)
  where
    by_bytes : Decided (x.0 ≡ y.0) → Decided (x ≡ y)
    by_bytes (inl same) = inl (same-guid x y same)
    by_bytes (inr differs) = inr (λ is. differs (ap (λ (g : Guid). g.0) is))

guids-of : (xs ys : List Guid) → Decided (xs ≡ ys)
guids-of [] [] = inl refl
guids-of [] (y ∷ ys) = inr (λ is. absurd (cc is))
guids-of (x ∷ xs) [] = inr (λ is. absurd (cc is))
guids-of (x ∷ xs) (y ∷ ys) = by_parts (guid-of x y) (guids-of xs ys)
  where
    by_parts : Decided (x ≡ y) → Decided (xs ≡ ys) → Decided ((x ∷ xs) ≡ (y ∷ ys))
    by_parts (inl first) (inl rest) = inl (cc)
    by_parts (inl first) (inr differs) = inr (λ is. differs (cc is))
    by_parts (inr differs) rest = inr (λ is. differs (cc is))

item-of : (o : ObjectOut) (asset : Asset) → Decided (item_of_object o ≡ item_of asset)
item-of o asset = by_parts (guid-of o.guid asset.guid) (same-bytes o.bytes asset.bytes) (guids-of (map (λ (r : RefTo). r.guid) o.refs) asset.refs)
  where
    by_parts : Decided (o.guid ≡ asset.guid) → Decided (o.bytes ≡ asset.bytes) → Decided (map (λ (r : RefTo). r.guid) o.refs ≡ asset.refs) → Decided (item_of_object o ≡ item_of asset)
    by_parts (inl guid) (inl bytes) (inl refs) = inl (cc)
    by_parts (inr differs) bytes refs = inr (λ is. differs (ap (λ (i : Item). i.guid) is))
    by_parts (inl guid) (inr differs) refs = inr (λ is. differs (ap (λ (i : Item). i.bytes) is))
    by_parts (inl guid) (inl bytes) (inr differs) = inr (λ is. differs (ap (λ (i : Item). i.refs) is))

module _ (u : Update) where
  -- ---- a place is as the project has it

  asset-of : (o : ObjectOut) → Decided ((asset : Asset) × Contains u.project.assets asset × (item_of_object o ≡ item_of asset))
  asset-of o = some-of (λ (asset : Asset). item_of_object o ≡ item_of asset) (λ asset. item-of o asset) u.project.assets

  holds-of : (q : Place) → Decided ((o : ObjectOut) × Holds u.was q o)
  holds-of q = by_file (at-of (λ (file : Opened). (o : ObjectOut) × Contains file.objects o × (o.guid ≡ q.guid)) (λ file. some-of (λ (o : ObjectOut). o.guid ≡ q.guid) (λ o. guid-of o.guid q.guid) file.objects) (slice_get u.was q.bundle))
    where
      by_file : Decided ((file : Opened) × (slice_get u.was q.bundle ≡ Some file) × ((o : ObjectOut) × Contains file.objects o × (o.guid ≡ q.guid))) → Decided ((o : ObjectOut) × Holds u.was q o)
      by_file (inl (file, at, (o, here, guid))) = inl (o, (file, at, here, guid))
      by_file (inr fails) = inr (λ (o, (file, at, here, guid)). fails (file, at, (o, here, guid)))

  all-now : (q : Place) (f : Option Opened) → slice_get u.was q.bundle ≡ f → Decided ((o : ObjectOut) → Holds u.was q o → (asset : Asset) × Contains u.project.assets asset × (item_of_object o ≡ item_of asset))
  all-now q None none = inl (λ o (file, at, here, guid). absurd (cc (sym none ∙ at)))
  all-now q (Some f) is = by_each (all-of (λ (o : ObjectOut). o.guid ≡ q.guid → (asset : Asset) × Contains u.project.assets asset × (item_of_object o ≡ item_of asset)) (λ o. then-of (guid-of o.guid q.guid) (asset-of o)) f.objects)
    where
      by_each : Decided ((o : ObjectOut) → Contains f.objects o → o.guid ≡ q.guid → (asset : Asset) × Contains u.project.assets asset × (item_of_object o ≡ item_of asset))
          → Decided ((o : ObjectOut) → Holds u.was q o → (asset : Asset) × Contains u.project.assets asset × (item_of_object o ≡ item_of asset))
      by_each (inl each) = inl (λ o (file, at, here, guid). each o (subst (λ (x : Opened). Contains x.objects o) (same-some file f (sym at ∙ is)) here) guid)
      by_each (inr fails) = inr (λ each. fails (λ o here guid. each o (f, is, here, guid)))

  pub as-now : (q : Place) → Decided (IsAsNow u q)
  as-now q = both-of (holds-of q) (all-now q (slice_get u.was q.bundle) refl)

  -- ---- a reference is led on

  entry-of : (x : ℕ) (a : Guid) → Decided (IsEntryOf u.project x a)
  entry-of x a = at-of (λ (e : Entry). IsNumbered u.project e.asset a) (λ e. at-of (λ (asset : Asset). asset.guid ≡ a) (λ asset. guid-of asset.guid a) (slice_get u.project.assets e.asset)) (slice_get u.project.entries x)

  text-of : (texts : List (List ℕ)) (text : List ℕ) → Decided (Contains texts text)
  text-of texts text = by_same (some-of (λ (t : List ℕ). t ≡ text) (λ t. same-bytes t text) texts)
    where
      by_same : Decided ((t : List ℕ) × Contains texts t × (t ≡ text)) → Decided (Contains texts text)
      by_same (inl (t, here, same)) = inl (subst (Contains texts) same here)
      by_same (inr fails) = inr (λ here. fails (text, here, refl))

  bool-of : (b : Bool) (c : Bool) → Decided (b ≡ c)
  bool-of true true = inl refl
  bool-of true false = inr (λ is. false≢true (sym is))
  bool-of false true = inr (λ is. false≢true is)
  bool-of false false = inl refl

  free-of : (n : ℕ) → Decided (IsUnfixed u.project n)
  free-of n = at-of (λ (g : Group). g.fixed ≡ false) (λ g. bool-of g.fixed false) (slice_get u.project.groups n)

  fixed-of : (name : List ℕ) → Decided (IsFixedName u.project name)
  fixed-of name = by_group (some-of (λ (g : Group). (g.fixed ≡ true) × (g.name ≡ name)) (λ g. both-of (bool-of g.fixed true) (same-bytes g.name name)) u.project.groups)
    where
      by_group : Decided ((g : Group) × Contains u.project.groups g × ((g.fixed ≡ true) × (g.name ≡ name))) → Decided (IsFixedName u.project name)
      by_group (inl (g, here, (fixed, is))) = inl (g, here, fixed, is)
      by_group (inr fails) = inr (λ (g, here, fixed, is). fails (g, here, (fixed, is)))

  stays-of : (n : ℕ) → Decided ((old : StateBundle) × Stays u n old)
  stays-of n = by_old (at-of (λ (old : StateBundle). Contains u.state.fixed old.group × IsFixedName u.project old.group)
      (λ old. both-of (text-of u.state.fixed old.group) (fixed-of old.group)) (slice_get u.state.bundles n))
    where
      by_old : Decided ((old : StateBundle) × (slice_get u.state.bundles n ≡ Some old) × (Contains u.state.fixed old.group × IsFixedName u.project old.group)) → Decided ((old : StateBundle) × Stays u n old)
      by_old (inl (old, at, (listed, fixed))) = inl (old, (at, listed, fixed))
      by_old (inr fails) = inr (λ (old, (at, listed, fixed)). fails (old, at, (listed, fixed)))

  abbrev IsNamedNew : Digest → Guid → PlanBundle → Type 0
  IsNamedNew name a bundle = IsUnfixed u.project bundle.group × ((x : ℕ) × Contains bundle.entries x × IsEntryOf u.project x a) × (name.0 ≡ digest_of bundle.name)

  named-of : (name : Digest) (a : Guid) → Decided ((bundle : PlanBundle) × Contains u.now.bundles bundle × IsNamedNew name a bundle)
  named-of name a = some-of (IsNamedNew name a)
      (λ bundle. three-of (free-of bundle.group) (some-of (λ x. IsEntryOf u.project x a) (λ x. entry-of x a) bundle.entries) (same-bytes name.0 (digest_of bundle.name)))
      u.now.bundles

  same-digest : (x y : Digest) → x.0 ≡ y.0 → x ≡ y
  same-digest x y same = λ i. record { 0 = same i }

  name_of : Home → List ℕ
  name_of Own = []
  name_of (Other name) = name.0

  pub led-on : (q : Place) (r : RefTo) (h : Home) → r.home ≡ h → Decided (IsLedOn u q r)
  unfolding name_of
  led-on q r Own own = inl (inl own)
  led-on q r (Other name) other = by_old (at-of (λ n. (old : StateBundle) × Stays u n old) stays-of (position (λ file. bytes_eq file.name (hex_of name.0)) u.was)) (named-of name r.guid)
    where
      by_old : Decided ((n : ℕ) × (LeadsTo u.was q.bundle (Other name) n) × ((old : StateBundle) × Stays u n old)) → Decided ((bundle : PlanBundle) × Contains u.now.bundles bundle × IsNamedNew name r.guid bundle) → Decided (IsLedOn u q r)
      by_old (inl (n, to, (old, is))) new = inl (inr (inl (n, old, subst (λ h. LeadsTo u.was q.bundle h n) (sym other) to, is)))
      by_old (inr fails) (inl (bundle, here, (free, (x, in', entry), named))) =
          let at = slice_get-Contains u.now.bundles bundle here in
          inl (inr (inr (at.0, bundle, at.1, free, (x, (bundle, at.1, in'), entry), other ∙ ap Other (same-digest name (digest_from bundle.name) named))))
      by_old (inr fails) (inr nowhere) = inr none
        where
          none : ¬ IsLedOn u q r
          none (inl own) = absurd (cc (sym own ∙ other))
          none (inr (inl (n, old, to, is))) = fails (n, subst (λ h. LeadsTo u.was q.bundle h n) other to, (old, is))
          none (inr (inr (c, bundle, at, free, (x, (also, there, in'), entry), named))) =
              nowhere (bundle, Contains-slice_get u.now.bundles c bundle at, (free, (x, subst (λ (b : PlanBundle). Contains b.entries x) (same-some also bundle (sym there ∙ at)) in', entry), ap name_of (sym other ∙ named)))

  -- what isn't moved stays well
  pub kept-well : (a : Guid) (m : ℕ) → IsKept u a m → StaysWell u a m
  kept-well a m kept = record {
    old = kept.old;
    unchanged = λ q way reach. by-decided (as-now q) (λ fails. kept.same q.guid (reach, inr (q, (m, kept.old, way), refl, fails)));
    led = λ q o r way holds here. by-decided (led-on q r r.home refl) (λ fails. kept.led r.guid (q, (m, kept.old, way), o, holds, r, here, refl, fails));
  }

  -- ---- an entry has an old bundle, or none

  in-of : (a : Guid) (name : List ℕ) → Decided ((x : ℕ) × (g : Group) × IsIn u.project x a g × (g.name ≡ name))
  in-of a name = by_entry (some-of (λ (e : Entry). IsNumbered u.project e.asset a × ((g : Group) × (slice_get u.project.groups e.group ≡ Some g) × (g.name ≡ name)))
      (λ e. both-of (at-of (λ (asset : Asset). asset.guid ≡ a) (λ asset. guid-of asset.guid a) (slice_get u.project.assets e.asset))
      (at-of (λ (g : Group). g.name ≡ name) (λ g. same-bytes g.name name) (slice_get u.project.groups e.group))) u.project.entries)
    where
      by_entry : Decided ((e : Entry) × Contains u.project.entries e × (IsNumbered u.project e.asset a × ((g : Group) × (slice_get u.project.groups e.group ≡ Some g) × (g.name ≡ name)))) → Decided ((x : ℕ) × (g : Group) × IsIn u.project x a g × (g.name ≡ name))
      by_entry (inl (e, here, (numbered, (g, group, named)))) = let at = slice_get-Contains u.project.entries e here in inl (at.0, g, (e, at.1, numbered, group), named)
      by_entry (inr fails) = inr (λ (x, g, (e, at, numbered, group), named). fails (e, Contains-slice_get u.project.entries x e at, (numbered, (g, group, named))))

  guid-in : (guids : List Guid) (a : Guid) → Decided (Contains guids a)
  guid-in guids a = by_same (some-of (λ (g : Guid). g ≡ a) (λ g. guid-of g a) guids)
    where
      by_same : Decided ((g : Guid) × Contains guids g × (g ≡ a)) → Decided (Contains guids a)
      by_same (inl (g, here, same)) = inl (subst (Contains guids) same here)
      by_same (inr fails) = inr (λ here. fails (a, here, refl))

  has-old-of : (a : Guid) (m : ℕ) → Decided (HasOld u a m)
  has-old-of a m = by_old (at-of (λ (old : StateBundle). (Contains old.entries a × Contains u.state.fixed old.group) × ((x : ℕ) × (g : Group) × IsIn u.project x a g × (g.name ≡ old.group)))
      (λ old. both-of (both-of (guid-in old.entries a) (text-of u.state.fixed old.group)) (in-of a old.group)) (slice_get u.state.bundles m))
    where
      by_old : Decided ((old : StateBundle) × (slice_get u.state.bundles m ≡ Some old) × ((Contains old.entries a × Contains u.state.fixed old.group) × ((x : ℕ) × (g : Group) × IsIn u.project x a g × (g.name ≡ old.group)))) → Decided (HasOld u a m)
      by_old (inl (old, at, ((has, fixed), (x, g, is-in, named)))) = inl (old, at, has, fixed, x, g, is-in, named)
      by_old (inr fails) = inr (λ (old, at, has, fixed, x, g, is-in, named). fails (old, at, ((has, fixed), (x, g, is-in, named))))

  pub some-old : (a : Guid) → Decided ((m : ℕ) × IsOld u a m)
  some-old a = by_first (first-of (HasOld u a) (has-old-of a) (length u.state.bundles))
    where
      by_first : ((m : ℕ) × HasOld u a m × ((n : ℕ) → n < m → HasOld u a n → ⊥)) ⊎ ((n : ℕ) → n < length u.state.bundles → HasOld u a n → ⊥) → Decided ((m : ℕ) × IsOld u a m)
      by_first (inl (m, has, first)) = inl (m, (has, first))
      by_first (inr none) = inr (λ (m, (has, first)). none m (slice_get_within u.state.bundles m has.0 has.1) has)
