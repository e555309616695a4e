-- Bundles of the state by the GUIDs of their entries: one more GUID, one more bundle, and the old bundle of an entry.
use Rattle.std.proofs.Common.{◌≡◌, ◌≢◌, ◌↔◌, ◌<◌, ◌+◌, ◌⊎◌, inl, inr, ℕ, Bool, true, false, IsTrue, is_some, List, [], ◌∷◌, ◌++◌, length, map, Option, Some, None, refl, sym, ap, subst, ◌∙◌, arith}
use Rattle.std.proofs.lemmas.Bool.{cases_order, false≢true}
use Rattle.std.proofs.lemmas.List.{length-map}
use Rattle.std.proofs.lemmas.List.Elements.{Contains-append_left, Contains-push, Contains-push_cases}
use Rattle.std.proofs.lemmas.Option.{slice_get_within}
use Rattle.std.specs.List.{Contains, slice_get}
use Rattle.addr_base.specs.Ids.{digest_of, hex_of}
use Rattle.addr_base.specs.declared.ids.Guid.{Guid}
use Rattle.addr_layout.proofs.GuidLemmas.{same-guid}
use Rattle.addr_layout.proofs.PlacedLemmas.{one-entry}
use Rattle.addr_layout.proofs.RankLemmas.{same-some}
use Rattle.addr_layout.specs.Members.{IsEntryOf}
use Rattle.addr_locate.specs.Rows.{Rows}
use Rattle.addr_locate.specs.declared.rows.AssetRow.{AssetRow}
use Rattle.addr_project.proofs.OnceLemmas.{to_map}
use Rattle.addr_pack.specs.declared.bundles.Plan.{Plan}
use Rattle.addr_project.specs.Kept.{IsKept}
use Rattle.addr_project.specs.declared.model.Entry.{Entry}
use Rattle.addr_project.specs.declared.model.Group.{Group}
use Rattle.addr_project.specs.Model.{Project}
use Rattle.addr_release.specs.Opened.{Opened}
use Rattle.addr_state.specs.Sound.{EntriesOnce}
use Rattle.addr_state.specs.declared.model.State.{State}
use Rattle.addr_state.specs.declared.model.StateBundle.{StateBundle}
use Rattle.addr_update.specs.Moved.{HasOld, IsIn, IsOld, MovedBefore, moved_name}
use Rattle.addr_walks.proofs.Lists.{Contains-map, Contains-none, Contains-slice_get, map-Contains}
use Rattle.addr_moves.specs.Fates.{IsGroupOf, comparing}
use Rattle.addr_moves.specs.Firsts.{AreFirsts, IsFirstAt}
use Rattle.addr_moves.specs.Olds.{TellsOld}
use Rattle.addr_moves.specs.within.Holders.{AddsBundle, AddsEach, AddsIf, AreHolders, HasFixed, HasIn, IsHolder, IsOldIn}
use Rattle.addr_moves.specs.within.Rows.{IsMovedIn, LeadsToMoved}
use Rattle.addr_moves.proofs.FirstLemmas.{Puts, text-cases}

-- ---- one more GUID, one more bundle

pub adds-none : (find : List ℕ → Option ℕ) (m : ℕ) → AddsEach find [] m find
adds-none find m a = inr ((λ here. Contains-none a here), refl)

pub adds-more : (old find new : List ℕ → Option ℕ) (guids : List Guid) (g : Guid) (m : ℕ) → Puts find g.0 m new → AddsEach old guids m find → AddsEach old (guids ++ g ∷ []) m new
adds-more old find new guids g m puts before a = by_same (text-cases g.0 a.0) (before a)
  where
    none-more : (g.0 ≡ a.0 → ⊥) → (Contains guids a → ⊥) → Contains guids a ⊎ (g ≡ a) → ⊥
    none-more other none (inl here) = none here
    none-more other none (inr same) = other (ap (λ (x : Guid). x.0) same)

    by_same : (g.0 ≡ a.0) ⊎ (g.0 ≡ a.0 → ⊥) → (Contains guids a × (find a.0 ≡ Some m)) ⊎ ((Contains guids a → ⊥) × (find a.0 ≡ old a.0))
        → (Contains (guids ++ g ∷ []) a × (new a.0 ≡ Some m)) ⊎ ((Contains (guids ++ g ∷ []) a → ⊥) × (new a.0 ≡ old a.0))
    by_same (inl same) either = inl (subst (Contains (guids ++ g ∷ [])) (same-guid g a same) (Contains-push guids g), ap new (sym same) ∙ puts.0)
    by_same (inr other) (inl (here, is)) = inl (Contains-append_left guids (g ∷ []) a here, puts.1 a.0 other ∙ is)
    by_same (inr other) (inr (none, is)) = inr ((λ here. none-more other none (Contains-push_cases guids g a here)), puts.1 a.0 other ∙ is)

module _ (s : State) where
  pub holders-none : (find : List ℕ → Option ℕ) → ((text : List ℕ) → find text ≡ None) → AreHolders s 0 find
  holders-none find none a = subst (IsHolder s 0 a) (sym (none a.0)) (λ m less has. omega (arith, less))

  pass-none : (k : ℕ) (a : Guid) → (HasFixed s a k → ⊥) → IsHolder s k a None → (m : ℕ) → m < k + 1 → HasFixed s a m → ⊥
  pass-none k a never none m less has = by_order (cases_order m k)
    where
      by_order : (m ≡ k) ⊎ ((m < k) ⊎ (k < m)) → ⊥
      by_order (inl same) = never (subst (HasFixed s a) same has)
      by_order (inr (inl before)) = none m before has
      by_order (inr (inr after)) = omega (arith, less, after)

  pass : (k : ℕ) (a : Guid) (o : Option ℕ) → (HasFixed s a k → ⊥) → IsHolder s k a o → IsHolder s (k + 1) a o
  pass k a None never none = pass-none k a never none
  pass k a (Some m) never (less, has) = (omega (arith, less), has)

  pub holders-more : (k : ℕ) (old : StateBundle) (fixed find new : List ℕ → Option ℕ) → AreFirsts (map (λ text. text) s.fixed) fixed → slice_get s.bundles k ≡ Some old
      → AddsBundle fixed find old k new → AreHolders s k find → AreHolders s (k + 1) new
  holders-more k old fixed find new firsts at adds before a = by_fixed (fixed old.group) (firsts old.group) adds
    where
      own : (b : StateBundle) → slice_get s.bundles k ≡ Some b → old ≡ b
      own b there = same-some old b (sym at ∙ there)

      keeps : (HasFixed s a k → ⊥) → new a.0 ≡ find a.0 → IsHolder s (k + 1) a (new a.0)
      keeps never same = subst (IsHolder s (k + 1) a) (sym same) (pass k a (find a.0) never (before a))

      never-fixed : (Contains (map (λ text. text) s.fixed) old.group → ⊥) → HasFixed s a k → ⊥
      never-fixed none (b, there, here, fix) = none (Contains-map (λ (text : List ℕ). text) s.fixed old.group (subst (λ (x : StateBundle). Contains s.fixed x.group) (sym (own b there)) fix))

      never-here : (Contains old.entries a → ⊥) → HasFixed s a k → ⊥
      never-here none (b, there, here, fix) = none (subst (λ (x : StateBundle). Contains x.entries a) (sym (own b there)) here)

      is-fixed : (place : ℕ) → slice_get (map (λ text. text) s.fixed) place ≡ Some old.group → Contains s.fixed old.group
      is-fixed place there =
          let from = map-Contains (λ (text : List ℕ). text) s.fixed old.group (Contains-slice_get (map (λ text. text) s.fixed) place old.group there) in
          subst (Contains s.fixed) from.2 from.1

      by_side : (place : ℕ) → slice_get (map (λ text. text) s.fixed) place ≡ Some old.group → (Contains old.entries a × (new a.0 ≡ Some k)) ⊎ ((Contains old.entries a → ⊥) × (new a.0 ≡ find a.0)) → IsHolder s (k + 1) a (new a.0)
      by_side place there (inl (here, is)) = subst (IsHolder s (k + 1) a) (sym is) (omega arith, (old, at, here, is-fixed place there))
      by_side place there (inr (none, is)) = keeps (never-here none) is

      by_fixed : (o : Option ℕ) → IsFirstAt (map (λ text. text) s.fixed) old.group o → AddsIf o find old.entries k new → IsHolder s (k + 1) a (new a.0)
      by_fixed None none skips = keeps (never-fixed none) (skips a)
      by_fixed (Some place) first each = by_side place first.0 (each a)

  -- ---- the old bundle of an entry

  pub holder-at : (find : List ℕ → Option ℕ) (a : Guid) (o : Option ℕ) → AreHolders s (length s.bundles) find → o ≡ find a.0 → IsHolder s (length s.bundles) a o
  holder-at find a o holders is = subst (IsHolder s (length s.bundles) a) (sym is) (holders a)

  pub no-holder : (find : List ℕ → Option ℕ) (a : Guid) (name : List ℕ) → AreHolders s (length s.bundles) find → None ≡ find a.0 → IsOldIn s a name None
  no-holder find a name holders is m (old, at, here, fix, same) = holder-at find a None holders is m (slice_get_within s.bundles m old at) (old, at, here, fix)

  module _ (once : EntriesOnce s.bundles) (a : Guid) (m n : ℕ) where
    one-fixed : HasFixed s a m → HasFixed s a n → m ≡ n
    one-fixed (old, at, here, fix) (other, there, also, too) = by_order (cases_order m n)
      where
        by_order : (m ≡ n) ⊎ ((m < n) ⊎ (n < m)) → m ≡ n
        by_order (inl same) = same
        by_order (inr (inl less)) = absurd (once m n old other a less at there here also)
        by_order (inr (inr less)) = absurd (once n m other old a less there at also here)

  pub is-holder : EntriesOnce s.bundles → (a : Guid) (name : List ℕ) (m : ℕ) (old : StateBundle) → IsHolder s (length s.bundles) a (Some m) → slice_get s.bundles m ≡ Some old → old.group ≡ name → IsOldIn s a name (Some m)
  is-holder once a name m old (less, has) at same = (
    (has.0, has.1, has.2, has.3, sym same ∙ ap (λ (b : StateBundle). b.group) (same-some old has.0 (sym at ∙ has.1))),
    λ n before (b, there, here, fix, named). (let one = one-fixed once a m n has (b, there, here, fix) in omega (arith, one, before)),
  )

  pub other-group : EntriesOnce s.bundles → (a : Guid) (name : List ℕ) (m : ℕ) (old : StateBundle) → IsHolder s (length s.bundles) a (Some m) → slice_get s.bundles m ≡ Some old → (old.group ≡ name → ⊥) → IsOldIn s a name None
  other-group once a name m old (less, has) at other n (b, there, here, fix, named) =
      let one : m ≡ n = one-fixed once a m n has (b, there, here, fix) in
      let same : old ≡ b = same-some old b (sym at ∙ (ap (slice_get s.bundles) one ∙ there)) in
      other (ap (λ (x : StateBundle). x.group) same ∙ sym named)

-- ---- what is compared

pub is-in : (p : Project) (x : ℕ) (a : Guid) (g : Group) → IsEntryOf p x a → IsGroupOf p x g → IsIn p x a g
is-in p x a g (e, at, numbered) (f, there, group) =
    let same : f ≡ e = same-some f e (sym there ∙ at) in
    (e, at, numbered, subst (λ (y : Entry). slice_get p.groups y.group ≡ Some g) same group)

pub one-group : (p : Project) (x : ℕ) (a d : Guid) (g h : Group) → IsIn p x a g → IsIn p x d h → g ≡ h
one-group p x a d g h (e, at, numbered, of) (f, also, other, group) =
    let entry : e ≡ f = same-some e f (sym at ∙ also) in
    same-some g h (sym of ∙ (ap (λ (y : Entry). slice_get p.groups y.group) entry ∙ group))

pub one-asset : (p : Project) (x : ℕ) (a d : Guid) → IsEntryOf p x a → IsEntryOf p x d → a ≡ d
one-asset p x a d (e, at, (asset, there, is)) (f, also, (other, too, are)) =
    let entry : e ≡ f = same-some e f (sym at ∙ also) in
    let same = same-some asset other (sym there ∙ (ap (λ (y : Entry). slice_get p.assets y.asset) entry ∙ too)) in
    sym is ∙ (ap (λ y. y.guid) same ∙ are)

module _ (s : State) (p : Project) (kept : IsKept p) (was : List Opened) (r : Rows) (now : Plan) (x : ℕ) (a : Guid) (g : Group) (in' : IsIn p x a g) where
  has-old : (m : ℕ) → HasIn s a g.name m → HasOld (comparing s was r p now) a m
  has-old m (old, at, here, fix, same) = (old, at, here, fix, x, g, in', same)

  old-has : (m : ℕ) → HasOld (comparing s was r p now) a m → HasIn s a g.name m
  old-has m (old, at, here, fix, y, h, also, same) =
      let one : y ≡ x = one-entry p kept y x a (also.0, also.1, also.2) (in'.0, in'.1, in'.2) in
      let group : g ≡ h = one-group p x a a g h in' (subst (λ n. IsIn p n a h) one also) in
      (old, at, here, fix, ap (λ (k : Group). k.name) group ∙ same)

  pub tells-old : (o : Option ℕ) → IsOldIn s a g.name o → TellsOld (comparing s was r p now) a o
  tells-old None none = λ m is. none m (old-has m is.0)
  tells-old (Some m) (has, least) = (has-old m has, λ n less also. least n less (old-has n also))

-- ---- one more bundle's entries, or none of them

pub adds-some : (o : Option ℕ) (find new : List ℕ → Option ℕ) (guids : List Guid) (m : ℕ) → is_some o ≡ true → AddsEach find guids m new → AddsIf o find guids m new
adds-some None find new guids m is adds = absurd (false≢true is)
adds-some (Some n) find new guids m is adds = adds

-- ---- rows that have moved before

pub before-some : (r : Rows) (name : List ℕ) (a : Guid) (find : List ℕ → Option ℕ) (k : ℕ) (row : AssetRow) (t : Bool) → AreFirsts (map (λ (x : AssetRow). x.id) r.assets) find → Some k ≡ find (hex_of a.0)
    → slice_get r.assets k ≡ Some row → IsTrue t ↔ LeadsToMoved r name row → IsTrue t ↔ IsMovedIn r name a
before-some r name a find k row t firsts is at tells = (
  λ holds. (k, row, at, own, least, tells.0 holds),
  λ (j, other, there, id, lowest, leads). tells.1 (subst (LeadsToMoved r name) (same j other there id lowest) leads),
)
  where
    ids : List (List ℕ)
    ids = map (λ (x : AssetRow). x.id) r.assets

    first : IsFirstAt (map (λ (x : AssetRow). x.id) r.assets) (hex_of a.0) (Some k)
    first = subst (IsFirstAt (map (λ (x : AssetRow). x.id) r.assets) (hex_of a.0)) (sym is) (firsts (hex_of a.0))

    own : row.id ≡ hex_of a.0
    own = same-some row.id (hex_of a.0) (sym (to_map (λ (x : AssetRow). x.id) r.assets k row at) ∙ first.0)

    least : (j : ℕ) (other : AssetRow) → j < k → slice_get r.assets j ≡ Some other → other.id ≢ hex_of a.0
    least j other less there same = first.1 j less (to_map (λ (x : AssetRow). x.id) r.assets j other there ∙ ap Some same)

    same : (j : ℕ) (other : AssetRow) → slice_get r.assets j ≡ Some other → other.id ≡ hex_of a.0 → ((i : ℕ) (x : AssetRow) → i < j → slice_get r.assets i ≡ Some x → x.id ≢ hex_of a.0) → other ≡ row
    same j other there id lowest = by_order (cases_order j k)
      where
        by_order : (j ≡ k) ⊎ ((j < k) ⊎ (k < j)) → other ≡ row
        by_order (inl one) = same-some other row (sym there ∙ (ap (slice_get r.assets) one ∙ at))
        by_order (inr (inl less)) = absurd (least j other less there id)
        by_order (inr (inr less)) = absurd (lowest k row less at own)

pub before-last : (p : Project) (r : Rows) (digits : List ℕ) (x : ℕ) (guid : Guid) (t : Bool) → digits ≡ hex_of (digest_of moved_name) → IsEntryOf p x guid → IsTrue t ↔ IsMovedIn r digits guid
    → (a : Guid) (s : State) (was : List Opened) (now : Plan) → IsEntryOf p x a → IsTrue t ↔ MovedBefore (comparing s was r p now) a
before-last p r digits x guid t named entry tells a s was now other =
    let own : IsTrue t ↔ IsMovedIn r (hex_of (digest_of moved_name)) a = subst (λ (d : Guid). IsTrue t ↔ IsMovedIn r (hex_of (digest_of moved_name)) d) (one-asset p x guid a entry other) (subst (λ name. IsTrue t ↔ IsMovedIn r name guid) named tells) in (
      λ holds. (let is = own.0 holds in (is.0, is.1, is.2, is.3, is.4, is.5.0, is.5.1, is.5.2, is.5.3, is.5.4)),
      λ (k, row, at, id, least, first, dep, b, there, name). own.1 (k, row, at, id, least, (first, dep, b, there, name)),
    )

pub row-below : (r : Rows) (find : List ℕ → Option ℕ) (k : ℕ) (text : List ℕ) → AreFirsts (map (λ (x : AssetRow). x.id) r.assets) find → Some k ≡ find text → k < length r.assets
row-below r find k text firsts is =
    let first : IsFirstAt (map (λ (x : AssetRow). x.id) r.assets) text (Some k) = subst (IsFirstAt (map (λ (x : AssetRow). x.id) r.assets) text) (sym is) (firsts text) in
    subst (λ n. k < n) (length-map r.assets (λ (x : AssetRow). x.id)) (slice_get_within (map (λ (x : AssetRow). x.id) r.assets) k text first.0)

pub tells-at : (s : State) (p : Project) → IsKept p → (x : ℕ) (guid : Guid) (group : Group) (o : Option ℕ) → IsEntryOf p x guid → IsGroupOf p x group → IsOldIn s guid group.name o
    → (a : Guid) (g : Group) (was : List Opened) (r : Rows) (now : Plan) → IsIn p x a g → TellsOld (comparing s was r p now) a o
tells-at s p kept x guid group o entry of old a g was r now in' =
    let own : IsIn p x guid group = is-in p x guid group entry of in
    let same : guid ≡ a = one-asset p x guid a entry (in'.0, in'.1, in'.2) in
    let groups : group ≡ g = one-group p x guid a group g own in' in
    tells-old s p kept was r now x a g in' o (subst (λ d. IsOldIn s d g.name o) same (subst (λ (h : Group). IsOldIn s guid h.name o) groups old))
