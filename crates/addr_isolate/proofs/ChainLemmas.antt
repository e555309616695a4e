-- A document made member by member: what it has at each key, and how deep it is.
use Rattle.std.proofs.Common.{◌≡◌, ℕ, Bool, true, false, ◌||◌, List, [], ◌∷◌, ◌++◌, map, Option, Some, None, refl, sym, ap, subst, ◌∙◌, arith}
use Rattle.std.proofs.lemmas.Bool.{false≢true}
use Rattle.std.specs.List.{AllByRecursion}
use Rattle.std.specs.Prelude.{codes}
use Rattle.std.specs.Str.{bytes_eq}
use Rattle.toml.specs.Data.{Data, Members, no_members, get_member}
use Rattle.addr_base.specs.declared.ids.Guid.{Guid}
use Rattle.addr_project_rows.specs.Firsts.{is_among}
use Rattle.addr_isolate.specs.Document.{IsWithEntries, asset_names, entry_names, entry_row, group_names, group_row, profile_names, rows_member, top_names, variable_names}
use Rattle.addr_isolate.specs.Shallow.{AreShallow, IsPlain, IsSetIf, IsShallow, SetsRows, SetsTable}
use Rattle.addr_isolate.proofs.KeepLemmas.{set-shallow}

or-parts : (a b : Bool) → (a || b) ≡ false → (a ≡ false) × (b ≡ false)
or-parts true b is = absurd (false≢true (sym is))
or-parts false b is = (refl, is)

passes : (name : List ℕ) (o : Option Data) (before after : Members) → IsSetIf name o before after → (key : List ℕ) → bytes_eq name key ≡ false → get_member key after ≡ get_member key before
passes name None before after same key other = ap (get_member key) same
passes name (Some d) before after set key other = set.elsewhere key other

lands : (name : List ℕ) (o : Option Data) (before after : Members) → IsSetIf name o before after → get_member name before ≡ None → get_member name after ≡ o
lands name None before after same none = ap (get_member name) same ∙ none
lands name (Some d) before after set none = set.here

shallow-entries : (group : List ℕ) (guids : List Guid) → AllByRecursion (IsShallow 2) (map (entry_row group) guids)
shallow-entries group [] = tt
shallow-entries group (g ∷ gs) = (record { deep = omega arith; dates = refl }, shallow-entries group gs)

module _ (old m0 m1 m2 m3 m4 m5 m6 : Members) (group : List ℕ) (guids : List Guid) (none : m0 ≡ no_members)
    (one : IsSetIf (codes "version") (get_member (codes "version") old) m0 m1)
    (two : SetsTable profile_names (codes "profile") old m1 m2)
    (three : SetsRows variable_names (codes "variable") old [] m2 m3)
    (four : SetsRows group_names (codes "group") old (group_row group ∷ []) m3 m4)
    (five : SetsRows asset_names (codes "asset") old [] m4 m5)
    (six : SetsRows entry_names (codes "entry") old (map (entry_row group) guids) m5 m6) where
  empty : (key : List ℕ) → get_member key m0 ≡ None
  empty key = ap (get_member key) none

  past-one : (key : List ℕ) → bytes_eq (codes "version") key ≡ false → get_member key m1 ≡ get_member key m0
  past-one key other = passes (codes "version") _ m0 m1 one key other

  past-two : (key : List ℕ) → bytes_eq (codes "profile") key ≡ false → get_member key m2 ≡ get_member key m1
  past-two key other = passes (codes "profile") _ m1 m2 two.set key other

  past-three : (key : List ℕ) → bytes_eq (codes "variable") key ≡ false → get_member key m3 ≡ get_member key m2
  past-three key other = passes (codes "variable") _ m2 m3 three.set key other

  past-four : (key : List ℕ) → bytes_eq (codes "group") key ≡ false → get_member key m4 ≡ get_member key m3
  past-four key other = passes (codes "group") _ m3 m4 four.set key other

  past-five : (key : List ℕ) → bytes_eq (codes "asset") key ≡ false → get_member key m5 ≡ get_member key m4
  past-five key other = passes (codes "asset") _ m4 m5 five.set key other

  past-six : (key : List ℕ) → bytes_eq (codes "entry") key ≡ false → get_member key m6 ≡ get_member key m5
  past-six key other = passes (codes "entry") _ m5 m6 six.set key other

  others : (key : List ℕ) → is_among top_names key ≡ false → get_member key m6 ≡ None
  others key other =
      let (k1, r1) = or-parts _ _ other in
      let (k2, r2) = or-parts _ _ r1 in
      let (k3, r3) = or-parts _ _ r2 in
      let (k4, r4) = or-parts _ _ r3 in
      let (k5, r5) = or-parts _ _ r4 in
      let (k6, r6) = or-parts _ _ r5 in
      past-six key k6 ∙ past-five key k5 ∙ past-four key k4 ∙ past-three key k3 ∙ past-two key k2 ∙ past-one key k1 ∙ empty key

  version : get_member (codes "version") m6 ≡ get_member (codes "version") old
  version =
      past-six (codes "version") refl ∙ past-five (codes "version") refl ∙ past-four (codes "version") refl ∙ past-three (codes "version") refl ∙ past-two (codes "version") refl
      ∙ lands (codes "version") (get_member (codes "version") old) m0 m1 one (empty (codes "version"))

  profile : get_member (codes "profile") m6 ≡ two.value
  profile =
      past-six (codes "profile") refl ∙ past-five (codes "profile") refl ∙ past-four (codes "profile") refl ∙ past-three (codes "profile") refl
      ∙ lands (codes "profile") two.value m1 m2 two.set (past-one (codes "profile") refl ∙ empty (codes "profile"))

  variables : get_member (codes "variable") m3 ≡ rows_member (three.kept ++ [])
  variables = lands (codes "variable") _ m2 m3 three.set (past-two (codes "variable") refl ∙ past-one (codes "variable") refl ∙ empty (codes "variable"))

  groups : get_member (codes "group") m4 ≡ rows_member (four.kept ++ group_row group ∷ [])
  groups = lands (codes "group") _ m3 m4 four.set (past-three (codes "group") refl ∙ past-two (codes "group") refl ∙ past-one (codes "group") refl ∙ empty (codes "group"))

  assets : get_member (codes "asset") m5 ≡ rows_member (five.kept ++ [])
  assets = lands (codes "asset") _ m4 m5 five.set (past-four (codes "asset") refl ∙ past-three (codes "asset") refl ∙ past-two (codes "asset") refl ∙ past-one (codes "asset") refl ∙ empty (codes "asset"))

  entries : get_member (codes "entry") m6 ≡ rows_member (six.kept ++ map (entry_row group) guids)
  entries = lands (codes "entry") _ m5 m6 six.set (past-five (codes "entry") refl ∙ past-four (codes "entry") refl ∙ past-three (codes "entry") refl ∙ past-two (codes "entry") refl ∙ past-one (codes "entry") refl ∙ empty (codes "entry"))

  pub with-entries : IsWithEntries old group guids m6
  with-entries = record {
    version = version;
    profile = rw profile two.keeps;
    variables = (three.kept, three.keeps, past-six (codes "variable") refl ∙ past-five (codes "variable") refl ∙ past-four (codes "variable") refl ∙ variables);
    groups = (four.kept, four.keeps, past-six (codes "group") refl ∙ past-five (codes "group") refl ∙ groups);
    assets = (five.kept, five.keeps, past-six (codes "asset") refl ∙ assets);
    entries = (six.kept, six.keeps, entries);
    others = others;
  }

  pub with-shallow : IsPlain old → AreShallow 3 m6
  with-shallow plain =
      let start : AreShallow 3 m0 = subst (AreShallow 3) (sym none) (record { deep = omega arith; dates = refl }) in
      let first = set-shallow 3 (codes "version") _ m0 m1 one plain.version start in
      let second = set-shallow 3 (codes "profile") two.value m1 m2 two.set (two.shallow 2 plain.profile) first in
      let third = set-shallow 3 (codes "variable") _ m2 m3 three.set (three.shallow 1 plain.variables tt) second in
      let fourth = set-shallow 3 (codes "group") _ m3 m4 four.set (four.shallow 1 plain.groups (record { deep = omega arith; dates = refl }, tt)) third in
      let fifth = set-shallow 3 (codes "asset") _ m4 m5 five.set (five.shallow 1 plain.assets tt) fourth in
      set-shallow 3 (codes "entry") _ m5 m6 six.set (six.shallow 1 plain.entries (shallow-entries group guids)) fifth
