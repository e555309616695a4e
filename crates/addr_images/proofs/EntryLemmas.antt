-- The rows of entries: their bundles, their keys and their dependencies.
use Rattle.std.proofs.Common.{◌≡◌, ◌<◌, ◌≤◌, ◌+◌, ℕ, Bool, true, not, cond, List, [], ◌∷◌, ◌++◌, length, get_or, map, take, Option, Some, None, is_some, refl, sym, ap, subst, ◌∙◌, arith}
use Rattle.std.proofs.lemmas.List.{append_assoc, append-nil, get_or_default, take_all, length-map}
use Rattle.std.proofs.lemmas.Option.{slice_get_within, get_or_from_slice_get}
use Rattle.std.specs.List.{AllZip, Contains, filter, slice_get}
use Rattle.std.specs.Str.{bytes_eq}
use Rattle.addr_base.specs.Ids.{hex_of}
use Rattle.addr_base.specs.declared.ids.BundleNo.{BundleNo}
use Rattle.addr_layout.specs.Counts.{AreFor}
use Rattle.addr_layout.specs.Direct.{Closes}
use Rattle.addr_layout.specs.Members.{IsShared}
use Rattle.addr_layout.specs.Owners.{AreOwners, Replaces}
use Rattle.addr_layout.proofs.OwnerLemmas.{owners-more}
use Rattle.addr_locate.specs.Names.{with_texts}
use Rattle.addr_locate.specs.Rows.{texts_once}
use Rattle.addr_locate.specs.declared.rows.PlainAsset.{PlainAsset}
use Rattle.addr_locate.proofs.NumberLemmas.{texts_once-snoc}
use Rattle.addr_locate.proofs.TextLemmas.{any-texts_once}
use Rattle.addr_pack.specs.Placement.{InBundle}
use Rattle.addr_pack.specs.declared.bundles.Plan.{Plan}
use Rattle.addr_pack.specs.declared.bundles.PlanBundle.{PlanBundle}
use Rattle.addr_project.proofs.OnceLemmas.{from_map, to_map}
use Rattle.addr_project.specs.declared.model.Entry.{Entry}
use Rattle.addr_project.specs.Model.{Project}
use Rattle.addr_project.specs.Reach.{each_once}
use Rattle.addr_release.specs.Built.{IsEntryRowAs}
use Rattle.addr_walks.specs.Closure.{AreDeps, IsDeps}
use Rattle.addr_walks.specs.Rows.{AreBelow, Edge}
use Rattle.addr_walks.proofs.Zips.{zip-more}
use Rattle.addr_images.specs.within.Deps.{IsRowTold}
use Rattle.addr_images.specs.within.Owners.{AreOwnersIn, entry_rows}
use Rattle.addr_images.proofs.ToldLemmas.{zip-changes}

-- ---- owners

edge-in : (plan : Plan) (b x : ℕ) → InBundle plan b x → Edge (entry_rows plan) b x
edge-in plan b x (bundle, at, here) = (bundle.entries, to_map (λ (q : PlanBundle). q.entries) plan.bundles b bundle at, here)

in-edge : (plan : Plan) (b x : ℕ) → Edge (entry_rows plan) b x → InBundle plan b x
in-edge plan b x (row, at, here) =
    let back = from_map (λ (q : PlanBundle). q.entries) plan.bundles b row at in
    (back.0, back.1, subst (λ xs. Contains xs x) (sym back.2) here)

pub rows-below : (p : Project) (plan : Plan) → IsShared p plan → AreBelow (entry_rows plan) (length p.entries)
rows-below p plan shared = record { each = λ b x edge. shared.entries b x (in-edge plan b x edge) }

pub owners-in : (p : Project) (plan : Plan) (owners : List (Option ℕ)) → IsShared p plan → length owners ≡ length p.entries → AreOwners (entry_rows plan) owners → AreOwnersIn p plan owners
owners-in p plan owners shared long are = record { as_many = long; each = each }
  where
    some : (o : Option ℕ) → is_some o ≡ true → (b : ℕ) × (o ≡ Some b)
    some None is = absurd (cc is)
    some (Some b) is = (b, refl)

    each : (x : ℕ) → x < length p.entries → (b : ℕ) × (get_or owners x None ≡ Some b) × InBundle plan b x
    each x within =
        let placed = shared.each x within in
        let found = some (get_or owners x None) (are.all x placed.0 (edge-in plan placed.0 x placed.1)) in
        (found.0, found.1, in-edge plan found.0 x (are.sound x found.0 found.1))

pub owners-next : (plan : Plan) (b : ℕ) (bundle : PlanBundle) (row : List ℕ) (old new : List (Option ℕ)) → slice_get plan.bundles b ≡ Some bundle → row ≡ bundle.entries → AreOwners (take b (entry_rows plan)) old → Replaces old row b new → AreOwners (take (b + 1) (entry_rows plan)) new
owners-next plan b bundle row old new at same owners replaced =
    let there = to_map (λ (q : PlanBundle). q.entries) plan.bundles b bundle at in
    owners-more (entry_rows plan) row b old new (slice_get_within (entry_rows plan) b bundle.entries there) (same ∙ (sym (get_or_from_slice_get (entry_rows plan) b bundle.entries bundle.entries there) ∙ get_or_default (entry_rows plan) b bundle.entries row (slice_get_within (entry_rows plan) b bundle.entries there))) owners replaced

pub owners-done : (plan : Plan) (b : ℕ) (owners : List (Option ℕ)) → length plan.bundles ≤ b → AreOwners (take b (entry_rows plan)) owners → AreOwners (entry_rows plan) owners
owners-done plan b owners past are = subst (λ rows. AreOwners rows owners) (take_all b (entry_rows plan) (let long = length-map plan.bundles (λ (q : PlanBundle). q.entries) in omega (arith, long, past))) are

-- ---- keys

pub each-once : (ts : List (List ℕ)) → each_once ts ≡ texts_once ts
each-once [] = refl
each-once (t ∷ ts) = ap (λ us. t ∷ filter (λ u. not (bytes_eq u t)) us) (each-once ts)

texts-from : (seen ts : List (List ℕ)) → with_texts (texts_once seen) ts ≡ texts_once (seen ++ ts)
texts-from seen [] = ap texts_once (sym (append-nil seen))
texts-from seen (t ∷ ts) =
    ap (λ us. with_texts us ts) (ap (λ (found : Bool). texts_once seen ++ cond found [] (t ∷ [])) (any-texts_once t seen) ∙ sym (texts_once-snoc seen t))
    ∙ (texts-from (seen ++ t ∷ []) ts ∙ ap texts_once (append_assoc seen (t ∷ []) ts))

pub keys-are : (ts : List (List ℕ)) → with_texts [] ts ≡ each_once ts
keys-are ts = texts-from [] ts ∙ sym (each-once ts)

-- ---- dependencies

-- the dependency lists over rows, one for each bundle
pub deps-for : (plan : Plan) (direct lists : List (List ℕ)) → length direct ≡ length plan.bundles → AreDeps direct lists → AreFor plan (IsDeps (Edge direct)) lists
deps-for plan direct lists many are = record { as_many = are.each_row ∙ many; each = are.deps }

-- ---- rows

numbers-back : (ns : List ℕ) → map (λ (d : BundleNo). d.0) (map (λ n. let d : BundleNo = record { 0 = n } in d) ns) ≡ ns
numbers-back [] = refl
numbers-back (n ∷ ns) = ap (λ ms. n ∷ ms) (numbers-back ns)

module _ (p : Project) (plan : Plan) (needs : ℕ → ℕ → Type 0) (lists : List (List ℕ)) (are : AreFor plan (IsDeps needs) lists) where
  entry-row : (x b : ℕ) (deps : List ℕ) (row : PlainAsset) → InBundle plan b x → slice_get lists b ≡ Some deps → (told : IsRowTold p x deps row) → IsEntryRowAs p plan needs told.entry row
  entry-row x b deps row placed at told = record {
    asset = told.asset;
    at = told.asset_at;
    id = told.id;
    kind = told.kind;
    bundle = b;
    has = (x, placed, (told.entry, told.entry_at, (told.asset, told.asset_at, refl)));
    deps = subst (IsDeps needs b) (sym (ap (map (λ (d : BundleNo). d.0)) told.numbers ∙ numbers-back deps)) (are.each b deps at);
    keys = told.keys ∙ keys-are (told.entry.address ∷ hex_of told.asset.guid.0 ∷ told.entry.labels);
  }

  pub rows-more : (x b : ℕ) (deps : List ℕ) (row : PlainAsset) (rows new : List PlainAsset) → InBundle plan b x → slice_get lists b ≡ Some deps
      → IsRowTold p x deps row → AllZip (IsEntryRowAs p plan needs) (take x p.entries) rows → new ≡ rows ++ row ∷ [] → AllZip (IsEntryRowAs p plan needs) (take (x + 1) p.entries) new
  rows-more x b deps row rows new placed at told zipped grown =
      subst (AllZip (IsEntryRowAs p plan needs) (take (x + 1) p.entries)) (sym grown)
      (zip-more (IsEntryRowAs p plan needs) p.entries rows x told.entry row (slice_get_within p.entries x told.entry told.entry_at) (sym (get_or_from_slice_get p.entries x told.entry told.entry told.entry_at)) zipped
      (entry-row x b deps row placed at told))

  -- a bundle of an entry has a list
  pub list-there : (b x : ℕ) → InBundle plan b x → b < length lists
  list-there b x (bundle, at, here) = let within = slice_get_within plan.bundles b bundle at in let long = are.as_many in omega (arith, within, long)

-- rows of entries over direct lists are rows over what these close
pub rows-closed : (p : Project) (plan : Plan) (needs : ℕ → ℕ → Type 0) (direct : List (List ℕ)) (es : List Entry) (rows : List PlainAsset) → Closes needs direct
    → AllZip (IsEntryRowAs p plan (Edge direct)) es rows → AllZip (IsEntryRowAs p plan needs) es rows
rows-closed p plan needs direct es rows closes zipped = zip-changes (IsEntryRowAs p plan (Edge direct)) (IsEntryRowAs p plan needs) es rows (λ e row here is. over e row is) zipped
  where
    over : (e : Entry) (row : PlainAsset) → IsEntryRowAs p plan (Edge direct) e row → IsEntryRowAs p plan needs e row
    over e row is = record {
      asset = is.asset;
      at = is.at;
      id = is.id;
      kind = is.kind;
      bundle = is.bundle;
      has = is.has;
      deps = (closes is.bundle (map (λ (d : BundleNo). d.0) row.deps)).0 is.deps;
      keys = is.keys;
    }
