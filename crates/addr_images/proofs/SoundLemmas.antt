-- The content state keeps the reader's rules.
use Rattle.std.proofs.Common.{◌≡◌, ◌≤◌, ◌+◌, ◌==◌, ◌||◌, ℕ, zero, suc, Bool, true, false, List, [], ◌∷◌, ◌++◌, codes, length, map, Some, refl, sym, ap, ap₂, subst, ◌∙◌, ◌⊎◌, inl, inr, arith, length-append}
use Rattle.std.proofs.lemmas.Bool.{false≢true}
use Rattle.std.proofs.lemmas.List.Elements.{All-from_recursion}
use Rattle.std.proofs.lemmas.Slice.Eq.{bytes_eq-Decides}
use Rattle.std.specs.Cmp.Lexicographic.{slice_cmp}
use Rattle.std.specs.List.{AllByRecursion, slice_get}
use Rattle.std.specs.List.Sorted.{IsStrictlySortedBy}
use Rattle.std.specs.Ordering.{nat_cmp}
use Rattle.hex.proofs.HexLemmas.{length-encode_with}
use Rattle.hex.specs.Hex.{lower_digits}
use Rattle.addr_base.specs.Escapes.{escaped, is_name_byte}
use Rattle.addr_base.specs.Ids.{digest_of, hex_of}
use Rattle.addr_layout.specs.Members.{IsShared}
use Rattle.addr_layout.proofs.PlacedLemmas.{one-bundle}
use Rattle.addr_layout.proofs.RankLemmas.{same-some}
use Rattle.addr_locate.specs.declared.rows.BundleRow.{BundleRow}
use Rattle.addr_pack.specs.BundleNames.{is_plain}
use Rattle.addr_pack.specs.Laws.{FewBundles, GroupNames, PlainNames, ShortNames}
use Rattle.addr_pack.specs.LongNames.{NamesFit}
use Rattle.addr_pack.specs.Placement.{IsPlaced}
use Rattle.addr_pack.specs.declared.bundles.Plan.{Plan}
use Rattle.addr_pack.specs.declared.bundles.PlanBundle.{PlanBundle}
use Rattle.addr_pack.proofs.DigestLemmas.{digests-fit}
use Rattle.addr_project.specs.declared.model.Group.{Group}
use Rattle.addr_project.specs.Faults.{is_reserved}
use Rattle.addr_project.specs.Kept.{IsKept, IsText}
use Rattle.addr_project.specs.Model.{Project}
use Rattle.addr_release.specs.Built.{IsFixedName, IsStateBundle, ReleaseBundle, fetch_id, side_text}
use Rattle.addr_release.specs.Names.{digest_from}
use Rattle.addr_state.specs.Files.{file_name, is_bundle_byte, side_file, HasNameBytes}
use Rattle.addr_state.specs.Sound.{EntriesOnce, IsSound, IsWellFormed}
use Rattle.addr_state.specs.declared.model.StateBundle.{StateBundle}
use Rattle.addr_walks.specs.Walks.{IsListOf}
use Rattle.addr_walks.specs.Walks.Leads.{stays}
use Rattle.addr_walks.proofs.Lists.{Contains-slice_get}
use Rattle.addr_images.specs.States.{AreBundleRows, IsStateFor}
use Rattle.addr_images.specs.within.Stated.{AreStated, IsStated}
use Rattle.addr_images.proofs.WritingLemmas.{all-at}

-- ---- names and ids

plain-byte : (b : ℕ) → is_plain b ≡ true → is_bundle_byte b ≡ true
plain-byte b passes = turn (is_name_byte b) (b == 126) (b == 95) passes
  where
    turn : (n t u : Bool) → (n || (t || u)) ≡ true → (u || (t || n)) ≡ true
    turn true true true is = refl
    turn true true false is = refl
    turn true false true is = refl
    turn true false false is = refl
    turn false true true is = refl
    turn false true false is = refl
    turn false false true is = refl
    turn false false false is = absurd (false≢true is)

plain-bytes : (bs : List ℕ) → AllByRecursion (λ b. is_plain b ≡ true) bs → AllByRecursion (λ b. is_bundle_byte b ≡ true) bs
plain-bytes [] all = tt
plain-bytes (b ∷ bs) all = (plain-byte b all.0, plain-bytes bs all.1)

file-long : (name : List ℕ) (bytes : List ℕ) → length (file_name name (digest_from bytes)) ≡ length name + 40
file-long name bytes =
    let digits = hex_of (digest_of bytes) in
    let whole = length-append name (95 ∷ (digits ++ codes ".bundle")) in
    let rest = length-append digits (codes ".bundle") in
    let hex = length-encode_with lower_digits (digest_of bytes) in
    let sixteen = (digests-fit bytes).sixteen in
    omega (arith, whole, rest, hex, sixteen)

id-short : (p : Project) (remote : Bool) (name bytes : List ℕ) → IsKept p → length name ≤ 200 → length (fetch_id p remote (file_name name (digest_from bytes))) ≤ 1400
id-short p remote name bytes kept short =
    let key = file_name name (digest_from bytes) in
    let whole = length-append (side_text p remote) (codes "/" ++ key) in
    let rest = length-append (codes "/") key in
    let long = file-long name bytes in
    let side = by_side remote in
    omega (arith, whole, rest, long, side, short)
  where
    by_side : (t : Bool) → length (side_text p t) ≤ 1024
    by_side true = kept.remote
    by_side false = kept.local

map-same : {A B C : Type 0} (f : A → C) (g : B → C) (xs : List A) (ys : List B) → length xs ≡ length ys → ((k : ℕ) (x : A) (y : B) → slice_get xs k ≡ Some x → slice_get ys k ≡ Some y → f x ≡ g y) → map f xs ≡ map g ys
map-same f g [] [] long same = refl
map-same f g [] (y ∷ ys) long same = absurd (omega (arith, long))
map-same f g (x ∷ xs) [] long same = absurd (omega (arith, long))
map-same f g (x ∷ xs) (y ∷ ys) long same = ap₂ (λ a as'. a ∷ as') (same 0 x y refl refl) (map-same f g xs ys (omega (arith, long)) (λ k a b at there. same (suc k) a b at there))

module _ (p : Project) (plan : Plan) (rows : List BundleRow) (kept : IsKept p) (placed : IsPlaced p plan) (shared : IsShared p plan) (stated : List StateBundle) (as_many : length stated ≡ length plan.bundles) (each : AreStated p plan rows stated) where
  -- the state of whatever release has these rows
  pub state-for : (fixed : List (List ℕ)) → IsListOf (slice_cmp nat_cmp) (IsFixedName p) fixed → IsStateFor p plan rows (record { bundles = stated; fixed = fixed })
  state-for fixed list bundles are made = record {
    as_many = as_many;
    each = λ b s at. told b s at (each b s at);
    fixed = list;
  }
    where
      told : (b : ℕ) (s : StateBundle) → slice_get stated b ≡ Some s → (row : BundleRow) × (slice_get rows b ≡ Some row) × IsStated p plan b row s → IsStateBundle p plan bundles b s
      told b s at (row, row_at, is) =
          let there = made-at bundles b row (ap (λ rs. slice_get rs b) are ∙ row_at) in
          let of = made b there.0 there.1 in
          let bundle : of.bundle ≡ is.bundle = same-some of.bundle is.bundle (sym of.at ∙ is.at) in
          let group : of.group ≡ is.group = same-some of.group is.group (sym of.group_at ∙ (ap (λ (q : PlanBundle). slice_get p.groups q.group) bundle ∙ is.group_at)) in (
            there.0,
            there.1,
            record {
              bundle = is.bundle;
              at = is.at;
              group = is.group;
              group_at = is.group_at;
              name = is.name;
              file = is.file ∙ ap₂ (λ side (r : BundleRow). side_file side is.bundle.name r.digest) (sym (of.side ∙ ap (λ (g : Group). g.remote) group)) (sym there.2);
              id = is.id ∙ ap (λ (r : BundleRow). r.id) (sym there.2);
              group_name = is.group_name;
              digest = is.digest ∙ ap (λ (r : BundleRow). r.digest) (sym there.2);
              size = is.size ∙ ap (λ (r : BundleRow). r.size) (sym there.2);
              entries = is.entries;
              objects = is.objects;
            },
          )
        where
          made-at : (ms : List ReleaseBundle) (k : ℕ) (row : BundleRow) → slice_get (map (λ (m : ReleaseBundle). m.row) ms) k ≡ Some row → (m : ReleaseBundle) × (slice_get ms k ≡ Some m) × (m.row ≡ row)
          made-at [] k row at = absurd (cc at)
          made-at (m ∷ ms) zero row at = (m, refl, same-some m.row row at)
          made-at (m ∷ ms) (suc k) row at = made-at ms k row at

  names-same : map (λ (s : StateBundle). s.name) stated ≡ map (λ (q : PlanBundle). q.name) plan.bundles
  names-same = map-same (λ (s : StateBundle). s.name) (λ (q : PlanBundle). q.name) stated plan.bundles as_many (λ k s q at there. (let is = (each k s at).2 in is.name ∙ ap (λ (b : PlanBundle). b.name) (same-some is.bundle q (sym is.at ∙ there))))

  once : EntriesOnce stated
  once i j b c g less at there here also =
      let same = one-bundle p plan kept shared i j g ((each i b at).2.entries.within g here) ((each j c there).2.entries.within g also) in
      omega (arith, less, same)

  module _ (few : FewBundles p) (begin : GroupNames p) (short : ShortNames p) (plain : PlainNames p) (fit : NamesFit p) (are : AreBundleRows p plan rows) where
    formed : (i : ℕ) (s : StateBundle) → slice_get stated i ≡ Some s → IsWellFormed s
    formed i s at =
        let found = each i s at in
        let is = found.2 in
        let named = begin plan placed i is.bundle is.at in
        let group : named.group ≡ is.group = same-some named.group is.group (sym named.at ∙ is.group_at) in
        let text = all-at (λ (g : Group). IsText g.name) p.groups kept.texts.groups is.group (Contains-slice_get p.groups is.bundle.group is.group is.group_at) in
        let free = all-at (λ (g : Group). is_reserved g ≡ false) p.groups kept.none_reserved is.group (Contains-slice_get p.groups is.bundle.group is.group is.group_at) in
        let name_short = short fit plan placed i is.bundle is.at in
        let made = are.each i found.0 found.1 in
        let of = made.1 in
        let bundle : of.bundle ≡ is.bundle = same-some of.bundle is.bundle (sym of.at ∙ is.at) in
        record {
          group_filled = subst (λ n. 1 ≤ length n) (sym is.group_name) text.filled;
          group_short = subst (λ n. length n ≤ 255) (sym is.group_name) text.short;
          group_free = λ same. false≢true (sym free ∙ (bytes_eq-Decides is.group.name (codes "Content Update")).1 (sym is.group_name ∙ same));
          name_short = subst (λ n. length n ≤ 200) (sym is.name) name_short;
          name_bytes = subst HasNameBytes (sym is.name) (All-from_recursion (λ b. is_bundle_byte b ≡ true) is.bundle.name (plain-bytes is.bundle.name (plain plan placed i is.bundle is.at).plain));
          name_front = (named.begins.0, is.name ∙ (named.begins.1 ∙ ap (λ n. (escaped n ++ 95 ∷ []) ++ named.begins.0) (ap (λ (g : Group). g.name) group ∙ sym is.group_name)));
          file = by_side is.group.remote (is.file ∙ ap₂ (λ n d. side_file is.group.remote n d) (sym is.name) (sym is.digest));
          id_short = subst (λ t. length t ≤ 1400) (sym (is.id ∙ (ap (λ (r : BundleRow). r.id) (sym made.2) ∙ of.told.id)))
              (id-short p of.group.remote of.bundle.name made.0.file kept (subst (λ (q : PlanBundle). length q.name ≤ 200) (sym bundle) name_short));
          entries_rise = is.entries.rising;
          objects_rise = is.objects.rising;
          entries_objects = λ g here. is.objects.all g (g, is.entries.within g here, stays);
        }
      where
        by_side : (t : Bool) → s.file ≡ side_file t s.name s.digest → (s.file ≡ side_file false s.name s.digest) ⊎ (s.file ≡ side_file true s.name s.digest)
        by_side false is = inl is
        by_side true is = inr is

    pub sound : (fixed : List (List ℕ)) → IsListOf (slice_cmp nat_cmp) (IsFixedName p) fixed → IsSound (record { bundles = stated; fixed = fixed })
    sound fixed list = record {
      few = (let most = (few plan placed).1 in omega (arith, most, as_many));
      fixed_rise = list.rising;
      names_rise = subst (IsStrictlySortedBy (slice_cmp nat_cmp)) (sym names-same) placed.by_name;
      formed = formed;
      once = once;
    }
