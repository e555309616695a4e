-- Two entries share a bundle exactly where their names are equal.
use Rattle.std.proofs.Common.{◌≡◌, ℕ, List, ◌++◌, codes, Some, refl, sym, ap, subst, ◌∙◌, inl, inr}
use Rattle.std.proofs.lemmas.List.{append_cancel_left}
use Rattle.std.specs.List.{slice_get}
use Rattle.addr_base.specs.Escapes.{escaped}
use Rattle.addr_base.specs.Ids.{Are16Bytes, hex_of}
use Rattle.addr_base.specs.declared.ids.Guid.{Guid}
use Rattle.addr_project.specs.Kept.{IsKept}
use Rattle.addr_project.specs.Model.{Project}
use Rattle.addr_project.specs.declared.model.Asset.{Asset}
use Rattle.addr_project.specs.declared.model.Entry.{Entry}
use Rattle.addr_project.specs.declared.model.Group.{Group}
use Rattle.addr_project.specs.declared.model.Mode.{Mode}
use Rattle.addr_project.specs.declared.model.Mode.TheVariants.{Together, Separate, Label}
use Rattle.addr_pack.specs.Laws.{GroupsApart, NamesTell}
use Rattle.addr_pack.specs.Naming.{ending, name_of, IsNamed}
use Rattle.addr_pack.specs.SameBundle.{Same, Joined}
use Rattle.addr_pack.proofs.ListLemmas.{same_at, holds_at, mapped_at}
use Rattle.addr_pack.proofs.NameLemmas.{names_apart, labels_apart, digits_apart}

-- an entry has one group and one name
pub one_name : (p : Project) (x g h : ℕ) (m n : List ℕ) → IsNamed p x g m → IsNamed p x h n → (g ≡ h) × (m ≡ n)
one_name p x g h m n (d, is, number, (a, group, at, in', name)) (e, is2, number2, (b, other, at2, in2, name2)) =
    let entry : d ≡ e = same_at p.entries x d e is is2 in
    let asset : a ≡ b = same_at p.assets e.asset a b (rw (← entry) at) at2 in
    let same_group : group ≡ other = same_at p.groups e.group group other (rw (← entry) in') in2 in
    ((number ∙ ap (λ (e : Entry). e.group) entry ∙ sym number2), name ∙ (λ i. name_of (same_group i) (asset i).guid (entry i).labels) ∙ sym name2)

module _ (p : Project) (kept : IsKept p) where
  -- groups of one name are one group
  one_group : (i j : ℕ) (g h : Group) → slice_get p.groups i ≡ Some g → slice_get p.groups j ≡ Some h → g.name ≡ h.name → i ≡ j
  one_group i j g h is at same =
      kept.groups_once i j h.name (mapped_at (λ (g : Group). g.name) p.groups i g is ∙ ap Some same) (mapped_at (λ (g : Group). g.name) p.groups j h at)

  pub groups_apart : GroupsApart p
  groups_apart x y i j name (d, is, number, (a, g, at, in', named)) (e, is2, number2, (b, h, at2, in2, named2)) =
      let both = names_apart g h a.guid b.guid d.labels e.labels (sym named ∙ named2) in
      number ∙ one_group d.group e.group g h in' in2 both.0 ∙ sym number2

-- entries that stand together in a group have one ending
one_ending : (g : Group) (d e : Entry) (guid other : Guid) → Joined g d e → ending g.mode guid d.labels ≡ ending g.mode other e.labels
one_ending g d e guid other (inl together) = rw together
one_ending g d e guid other (inr (label, same)) = rw (label, same)

pub names_from_same : (p : Project) (x y g h : ℕ) (m n : List ℕ) → IsNamed p x g m → IsNamed p y h n → Same p x y → m ≡ n
unfolding name_of
names_from_same p x y i j m n one other (inl same) = (one_name p y i j m n (subst (λ (w : ℕ). IsNamed p w i m) same one) other).1
names_from_same p x y i j m n (d, is, number, (a, g, at, in', named)) (e, is2, number2, (b, h, at2, in2, named2)) (inr (d2, e2, k, is3, at3, groups, in3, joined)) =
    let first : d2 ≡ d = same_at p.entries x d2 d is3 is in
    let second : e2 ≡ e = same_at p.entries y e2 e at3 is2 in
    let group : k ≡ g = same_at p.groups d.group k g (rw (← first) in3) in' in
    let numbers : d.group ≡ e.group = ap (λ (e : Entry). e.group) (sym first) ∙ groups ∙ ap (λ (e : Entry). e.group) second in
    let group2 : g ≡ h = same_at p.groups e.group g h (rw (← numbers) in') in2 in
    let together : Joined g d e = subst (λ (k : Group). Joined k d e) group (subst (λ (w : Entry). Joined k d w) second (subst (λ (w : Entry). Joined k w e2) first joined)) in
    named ∙ ap (λ (l : List ℕ). escaped g.name ++ l) (one_ending g d e a.guid b.guid together) ∙ ap (λ (k : Group). name_of k b.guid e.labels) group2 ∙ sym named2

module _ (p : Project) (kept : IsKept p) where
  -- entries of one GUID are one entry
  one_entry : (x y : ℕ) (d e : Entry) (a b : Asset) → slice_get p.entries x ≡ Some d → slice_get p.entries y ≡ Some e
      → slice_get p.assets d.asset ≡ Some a → slice_get p.assets e.asset ≡ Some b → hex_of a.guid.0 ≡ hex_of b.guid.0 → x ≡ y
  one_entry x y d e a b is at has holds same =
      let P : Asset → Type 0 = λ a. Are16Bytes a.guid.0 in
      let equal : a.guid.0 ≡ b.guid.0 = digits_apart a.guid.0 b.guid.0 (holds_at P p.assets d.asset a kept.guids has) (holds_at P p.assets e.asset b kept.guids holds) same in
      let asset : d.asset ≡ e.asset = kept.assets_once d.asset e.asset b.guid.0 (mapped_at (λ (a : Asset). a.guid.0) p.assets d.asset a has ∙ ap Some equal) (mapped_at (λ (a : Asset). a.guid.0) p.assets e.asset b holds) in
      kept.entries_once x y e.asset (mapped_at (λ (e : Entry). e.asset) p.entries x d is ∙ ap Some asset) (mapped_at (λ (e : Entry). e.asset) p.entries y e at)

  -- entries of one group whose endings are equal share a bundle
  told : (x y : ℕ) (d e : Entry) (a b : Asset) (g : Group) → slice_get p.entries x ≡ Some d → slice_get p.entries y ≡ Some e
      → slice_get p.assets d.asset ≡ Some a → slice_get p.assets e.asset ≡ Some b → slice_get p.groups d.group ≡ Some g → d.group ≡ e.group
      → (mode : Mode) → g.mode ≡ mode → ending mode a.guid d.labels ≡ ending mode b.guid e.labels → Same p x y
  told x y d e a b g is at has holds in' groups Together mode same = inr (d, e, g, is, at, groups, in', inl mode)
  told x y d e a b g is at has holds in' groups Separate mode same =
      inl (one_entry x y d e a b is at has holds (append_cancel_left (codes "_assets_") (hex_of a.guid.0) (hex_of b.guid.0) same))
  told x y d e a b g is at has holds in' groups Label mode same =
      inr (d, e, g, is, at, groups, in', inr (mode, labels_apart d.labels e.labels (append_cancel_left (codes "_labels") _ _ same)))

  same_from_names : (x y g h : ℕ) (m n : List ℕ) → IsNamed p x g m → IsNamed p y h n → m ≡ n → Same p x y
  same_from_names x y i j m n (d, is, number, (a, g, at, in', named)) (e, is2, number2, (b, h, at2, in2, named2)) equal =
      let both = names_apart g h a.guid b.guid d.labels e.labels (sym named ∙ equal ∙ named2) in
      let groups : d.group ≡ e.group = one_group p kept d.group e.group g h in' in2 both.0 in
      let group : g ≡ h = same_at p.groups e.group g h (rw (← groups) in') in2 in
      told x y d e a b g is is2 at at2 in' groups g.mode refl (both.1 ∙ ap (λ (k : Group). ending k.mode b.guid e.labels) (sym group))

  pub names_tell : NamesTell p
  names_tell x y g h m n one other = (same_from_names x y g h m n one other, names_from_same p x y g h m n one other)
