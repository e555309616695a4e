-- The content state of a release: its lists ascend, and it keeps the reader's rules.
use Rattle.std.proofs.Common.{◌≡◌, ◌<◌, ◌+◌, ℕ, zero, suc, Bool, List, [], ◌∷◌, ◌++◌, length, get_or, map, All, Some, refl, sym, ap, ap₂, subst, ◌∙◌}
use Rattle.std.proofs.lemmas.List.{length_push}
use Rattle.std.proofs.lemmas.List.Elements.{Contains-get_or}
use Rattle.std.proofs.lemmas.List.Kept.{IsStrictlySortedBy-filter}
use Rattle.std.specs.Cmp.Lexicographic.{slice_cmp}
use Rattle.std.specs.List.{Contains, filter, slice_get}
use Rattle.std.specs.List.Sorted.{IsStrictlySortedBy}
use Rattle.std.specs.Ordering.{nat_cmp}
use Rattle.addr_base.specs.declared.ids.Guid.{Guid}
use Rattle.addr_layout.specs.Layout.{IsFull, by_guid}
use Rattle.addr_layout.specs.Members.{HasEntry, IsEntry, IsNumbered, Member}
use Rattle.addr_layout.specs.declared.model.LayBundle.{LayBundle}
use Rattle.addr_locate.specs.declared.rows.BundleRow.{BundleRow}
use Rattle.addr_pack.specs.declared.bundles.Plan.{Plan}
use Rattle.addr_pack.specs.declared.bundles.PlanBundle.{PlanBundle}
use Rattle.addr_project.specs.declared.model.Asset.{Asset}
use Rattle.addr_project.specs.Kept.{IsKept, asset_guids}
use Rattle.addr_project.specs.Model.{Project}
use Rattle.addr_project.specs.Reach.{guid_cmp}
use Rattle.addr_state.specs.declared.model.StateBundle.{StateBundle}
use Rattle.addr_walks.specs.Places.{EachAt}
use Rattle.addr_walks.specs.Walks.{IsListOf}
use Rattle.addr_walks.specs.Walks.Leads.{stays, goes}
use Rattle.addr_walks.proofs.Lists.{Contains-map, map-Contains, Contains-filter, filter-Contains, slice_get-Contains, sorted-map, EachAt-push}
use Rattle.addr_images.specs.within.Stated.{AreEntryGuids, AreEntryMarks, AreMemberGuids, AreStated, HasTexts, IsStated, guid_at, is_marked}
use Rattle.addr_images.specs.within.Told.{no_asset}
use Rattle.addr_images.proofs.ToldLemmas.{asset-is}
use Rattle.addr_images.proofs.WritingLemmas.{members-below}

-- ---- the GUIDs of members

guid-read : (assets : List Asset) (n : ℕ) → get_or (asset_guids assets) n [] ≡ (get_or assets n no_asset).guid.0
guid-read [] n = refl
guid-read (a ∷ as') zero = refl
guid-read (a ∷ as') (suc n) = guid-read as' n

guids-rise : (p : Project) (ns : List ℕ) → IsStrictlySortedBy (by_guid p) ns → IsStrictlySortedBy guid_cmp (map (guid_at p) ns)
guids-rise p ns rising = sorted-map (by_guid p) guid_cmp (guid_at p) ns (λ m n here there less. ap₂ (slice_cmp nat_cmp) (sym (guid-read p.assets m)) (sym (guid-read p.assets n)) ∙ less) rising

guid-numbered : (p : Project) (n : ℕ) (g : Guid) → IsNumbered p n g → guid_at p n ≡ g
guid-numbered p n g (asset, at, is) = ap (λ (a : Asset). a.guid) (asset-is p n asset at) ∙ is

-- a member has a number
member-number : (p : Project) (plan : Plan) (b : ℕ) (g : Guid) → IsKept p → Member p plan b g → (n : ℕ) × IsNumbered p n g
member-number p plan b g kept (e, (x, placed, (entry, at, numbered)), stays) = (entry.asset, numbered)
member-number p plan b g kept (e, has, goes walk ((asset, here, is, refers), none)) =
    let target = kept.refs_named asset g here refers in
    let at = slice_get-Contains p.assets target.0 target.1 in
    (at.0, (target.0, at.1, target.2))

-- a member that is an entry is one of the bundle
member-entry : (p : Project) (plan : Plan) (b : ℕ) (g : Guid) → Member p plan b g → IsEntry p g → HasEntry p plan b g
member-entry p plan b g (e, has, stays) entry = has
member-entry p plan b g (e, has, goes walk (refers, none)) entry = absurd (none entry)

pub member-guids : (p : Project) (plan : Plan) (b : ℕ) (lay : LayBundle) → IsKept p → IsFull p plan b lay → IsListOf guid_cmp (Member p plan b) (map (guid_at p) lay.members)
member-guids p plan b lay kept full = record {
  rising = guids-rise p lay.members full.members.rising;
  within = λ g here. within g (map-Contains (guid_at p) lay.members g here);
  all = λ g member. (let number = member-number p plan b g kept member in
      subst (Contains (map (guid_at p) lay.members)) (guid-numbered p number.0 g number.1) (Contains-map (guid_at p) lay.members number.0 (full.members.all number.0 (g, number.1, member))));
}
  where
    within : (g : Guid) → (n : ℕ) × Contains lay.members n × (guid_at p n ≡ g) → Member p plan b g
    within g (n, here, is) = let from = full.members.within n here in subst (Member p plan b) (sym (guid-numbered p n from.0 from.1) ∙ is) from.2

pub entry-guids : (p : Project) (plan : Plan) (b : ℕ) (lay : LayBundle) (marks : List Bool) → IsKept p → IsFull p plan b lay → AreEntryMarks p marks
    → IsListOf guid_cmp (HasEntry p plan b) (map (guid_at p) (filter (is_marked marks) lay.members))
entry-guids p plan b lay marks kept full are = record {
  rising = guids-rise p (filter (is_marked marks) lay.members) (IsStrictlySortedBy-filter (by_guid p) (is_marked marks) lay.members full.members.rising);
  within = λ g here. within g (map-Contains (guid_at p) (filter (is_marked marks) lay.members) g here);
  all = λ g has. all g has;
}
  where
    within : (g : Guid) → (n : ℕ) × Contains (filter (is_marked marks) lay.members) n × (guid_at p n ≡ g) → HasEntry p plan b g
    within g (n, here, is) =
        let kept' = filter-Contains (is_marked marks) lay.members n here in
        let from = full.members.within n kept'.0 in
        let entry = (are.marked n).0 kept'.1 in
        let guid : from.0 ≡ g = sym (guid-numbered p n from.0 from.1) ∙ is in
        let numbered : IsNumbered p entry.1.asset from.0 = subst (λ k. IsNumbered p k from.0) (sym entry.3) from.1 in
        subst (HasEntry p plan b) guid (member-entry p plan b from.0 from.2 (entry.0, (entry.1, entry.2, numbered)))

    all : (g : Guid) → HasEntry p plan b g → Contains (map (guid_at p) (filter (is_marked marks) lay.members)) g
    all g (x, placed, (e, at, numbered)) =
        let listed = full.members.all e.asset (g, numbered, (g, (x, placed, (e, at, numbered)), stays)) in
        let marked = (are.marked e.asset).1 (x, e, at, refl) in
        subst (Contains (map (guid_at p) (filter (is_marked marks) lay.members))) (guid-numbered p e.asset g numbered)
        (Contains-map (guid_at p) (filter (is_marked marks) lay.members) e.asset (Contains-filter (is_marked marks) lay.members e.asset listed marked))

-- numbers of members are those of assets
pub all-members-below : (p : Project) (plan : Plan) (b : ℕ) (lay : LayBundle) (ns : List ℕ) → IsKept p → IsFull p plan b lay → ns ≡ lay.members → All (λ n. n < length p.assets) ns
all-members-below p plan b lay ns kept full same = λ k d within. members-below p plan b lay kept full (get_or ns k d) (subst (λ xs. Contains xs (get_or ns k d)) same (Contains-get_or ns k d within))

pub all-marked-below : (p : Project) (plan : Plan) (b : ℕ) (lay : LayBundle) (marks : List Bool) (ns : List ℕ) → IsKept p → IsFull p plan b lay → ns ≡ filter (is_marked marks) lay.members → All (λ n. n < length p.assets) ns
all-marked-below p plan b lay marks ns kept full same = λ k d within.
    members-below p plan b lay kept full (get_or ns k d) (filter-Contains (is_marked marks) lay.members (get_or ns k d) (subst (λ xs. Contains xs (get_or ns k d)) same (Contains-get_or ns k d within))).0

-- texts and lists together
pub stated : (p : Project) (plan : Plan) (b : ℕ) (bundle : PlanBundle) (row : BundleRow) (entries objects : List Guid) (s : StateBundle) → slice_get plan.bundles b ≡ Some bundle → HasTexts p bundle row entries objects s
    → AreEntryGuids p plan b entries → AreMemberGuids p plan b objects → IsStated p plan b row s
stated p plan b bundle row entries objects s at texts inside all = record {
  bundle = bundle;
  at = at;
  group = texts.group;
  group_at = texts.group_at;
  name = texts.name;
  file = texts.file;
  id = texts.id;
  group_name = texts.group_name;
  digest = texts.digest;
  size = texts.size;
  entries = subst (IsListOf guid_cmp (HasEntry p plan b)) (sym texts.entries_are) inside;
  objects = subst (IsListOf guid_cmp (Member p plan b)) (sym texts.objects_are) all;
}

-- one more bundle is stated
pub stated-more : (p : Project) (plan : Plan) (rows : List BundleRow) (b : ℕ) (row : BundleRow) (s : StateBundle) (old new : List StateBundle) → slice_get rows b ≡ Some row → IsStated p plan b row s → length old ≡ b → AreStated p plan rows old → new ≡ old ++ s ∷ []
    → (length new ≡ b + 1) × AreStated p plan rows new
stated-more p plan rows b row s old new at is long before grown =
    let fits : ℕ → StateBundle → Type 0 = λ k t. (r : BundleRow) × (slice_get rows k ≡ Some r) × IsStated p plan k r t in
    (ap length grown ∙ (length_push old s ∙ ap (λ n. n + 1) long), subst (EachAt fits) (sym grown) (EachAt-push fits old s before (subst (λ k. fits k s) (sym long) (row, at, is))))
