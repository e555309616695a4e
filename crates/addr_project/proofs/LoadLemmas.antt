-- Loading asset files in a loop: what is kept so far, where the depot tells its files and for every depot.
use Rattle.std.proofs.Common.{◌≡◌, ℕ, ◌+◌, ◌<◌, ◌≤◌, nat_lt, Bool, true, false, cond, List, [], ◌∷◌, ◌++◌, length, get_or, take, map, sum, Option, Some, None, IfSome, refl, sym, ap, subst, ◌∙◌}
use Rattle.std.proofs.lemmas.List.{take_more, take_all, get_or-map, length-map, map-append}
use Rattle.std.proofs.lemmas.List.Sums.{fold_push}
use Rattle.std.specs.Option.{option_or, option_map, is_none}
use Rattle.addr_base.specs.declared.files.MemFile.{MemFile}
use Rattle.addr_project.specs.declared.loaded.Loaded.{Loaded}
use Rattle.addr_project.specs.declared.error.ProjectErr.{ProjectErr}
use Rattle.addr_project.specs.declared.error.ProjectErr.TheVariants.{MissingFile, DepotFault, OverLimit}
use Rattle.addr_project.specs.declared.limit.Limit.{Limit}
use Rattle.addr_project.specs.declared.limit.Limit.TheVariants as limit
use Rattle.addr_project.specs.declared.model.Asset.{Asset}
use Rattle.addr_project.specs.declared.rows.AssetRow.{AssetRow}
use Rattle.addr_project.specs.AssetFiles.{contents, assets_of, KeepsRows}
use Rattle.addr_project.specs.Faults.{guids_of, passes}
use Rattle.addr_project_rows.specs.Firsts.{first_from, first_where, number_if}
use Rattle.addr_project.specs.Kept.{asset_guids}
use Rattle.addr_project.specs.Limits.{most}
use Rattle.addr_project.specs.Loading.{Adds}
use Rattle.addr_project.specs.Reading.{bytes_of, asset_fault, asset_from, size_answer, size_fault, length_of, over_after}
use Rattle.addr_project_rows.proofs.FirstLemmas.{first_from-append, first_from-one, first_from-none, first_where-pass, first_where-found}

none-parts : {A : Type 0} (a b : Option A) → option_or a b ≡ None → (a ≡ None) × (b ≡ None)
none-parts None b is = (refl, is)
none-parts (Some x) b is = absurd (cc)

abbrev lengths_of : List MemFile → List ℕ → List AssetRow → List ℕ
lengths_of files folder rows = map length_of (contents files folder rows)

abbrev asset_lengths : List Asset → List ℕ
asset_lengths assets = map (λ a. length a.bytes) assets

sum-push : (ns : List ℕ) (n : ℕ) → sum (ns ++ n ∷ []) ≡ sum ns + n
sum-push ns n = fold_push (λ (a x : ℕ). a + x) 0 ns n

-- one more of a mapped list
map-more : {X Y : Type 0} (f : X → Y) (xs : List X) (i : ℕ) (x : X) → i < length xs → get_or xs i x ≡ x → take (i + 1) (map f xs) ≡ take i (map f xs) ++ f x ∷ []
map-more f xs i x small at =
    let within : i < length (map f xs) = rw (length-map xs f) small in
    take_more (map f xs) i (f x) within ∙ ap (λ y. take i (map f xs) ++ y ∷ []) (get_or-map f xs i x (f x) small ∙ ap f at)

pub record Told (files : List MemFile) (folder : List ℕ) (rows : List AssetRow) (i : ℕ) (loaded : Loaded) : Type 0 where
  pub found : first_where (λ b o. is_none o) (take i (contents files folder rows)) ≡ None
  pub over : loaded.over ≡ first_from size_answer [] (take i (lengths_of files folder rows))
  pub assets : loaded.over ≡ None → loaded.assets ≡ take i (assets_of files folder rows)
  pub total : loaded.over ≡ None → loaded.total ≡ sum (take i (lengths_of files folder rows))

pub record Anyhow (rows : List AssetRow) (i : ℕ) (loaded : Loaded) : Type 0 where
  pub guids : asset_guids loaded.assets ≡ take i (guids_of rows)
  pub kinds : map (λ a. a.kind) loaded.assets ≡ take i (map (λ row. row.kind) rows)
  pub refs : map (λ a. a.refs) loaded.assets ≡ take i (map (λ row. row.refs) rows)
  pub sizes : size_fault (asset_lengths loaded.assets) ≡ None
  pub total : loaded.total ≡ sum (asset_lengths loaded.assets)

module _ (files : List MemFile) (folder : List ℕ) (rows : List AssetRow) where
  pub told-none : (loaded : Loaded) → loaded.over ≡ None → loaded.assets ≡ [] → loaded.total ≡ 0 → Told files folder rows 0 loaded
  told-none loaded over assets total = record {
    found = first_from-none (number_if (λ b o. is_none o));
    over = over ∙ sym (first_from-none size_answer);
    assets = λ none. assets;
    total = λ none. total;
  }

  module _ (i : ℕ) (row : AssetRow) (small : i < length rows) (at : get_or rows i row ≡ row) where
    within : i < length (contents files folder rows)
    within = rw (length-map rows (bytes_of files folder)) small

    -- a file that is missing is the first fault
    pub told-missing : (loaded : Loaded) → Told files folder rows i loaded → bytes_of files folder row ≡ None → asset_fault (contents files folder rows) ≡ Some (MissingFile i)
    unfolding asset_fault
    told-missing loaded told none =
        let here : get_or (contents files folder rows) i None ≡ None = get_or-map (bytes_of files folder) rows i row None small ∙ ap (bytes_of files folder) at ∙ none in
        ap (λ o. option_or (option_map MissingFile o) (size_fault (lengths_of files folder rows))) (first_where-found (λ b o. is_none o) (contents files folder rows) i None within told.found (ap is_none here))

    module _ (bytes : List ℕ) (is : bytes_of files folder row ≡ Some bytes) (old new : Loaded) (adds : Adds old row bytes new) (told : Told files folder rows i old) where
      file : get_or (contents files folder rows) i (Some bytes) ≡ Some bytes
      file = get_or-map (bytes_of files folder) rows i row (Some bytes) small ∙ ap (bytes_of files folder) at ∙ is

      more_lengths : take (i + 1) (lengths_of files folder rows) ≡ take i (lengths_of files folder rows) ++ length bytes ∷ []
      more_lengths = map-more length_of (contents files folder rows) i (Some bytes) within file

      same_total : (o : Option ProjectErr) → old.over ≡ o → option_or old.over (over_after old.total (length bytes)) ≡ option_or old.over (size_answer (take i (lengths_of files folder rows)) (length bytes))
      same_total None none = ap (λ t. option_or old.over (over_after t (length bytes))) (told.total none)
      same_total (Some f) some = ap (λ o. option_or o (over_after old.total (length bytes))) some ∙ sym (ap (λ o. option_or o (size_answer (take i (lengths_of files folder rows)) (length bytes))) some)

      over_more : new.over ≡ first_from size_answer [] (take (i + 1) (lengths_of files folder rows))
      over_more =
          adds.0
          ∙ same_total old.over refl
          ∙ ap (λ o. option_or o (size_answer (take i (lengths_of files folder rows)) (length bytes))) told.over
          ∙ ap (option_or (first_from size_answer [] (take i (lengths_of files folder rows)))) (sym (first_from-one size_answer (take i (lengths_of files folder rows)) (length bytes)))
          ∙ sym (first_from-append size_answer [] (take i (lengths_of files folder rows)) (length bytes ∷ []))
          ∙ ap (first_from size_answer []) (sym more_lengths)

      pub told-more : Told files folder rows (i + 1) new
      told-more = record {
        found = first_where-pass (λ b o. is_none o) (contents files folder rows) i (Some bytes) within told.found (ap is_none file);
        over = over_more;
        assets = λ none. (
            let was = (none-parts old.over (over_after old.total (length bytes)) (sym adds.0 ∙ none)).0 in
            let same : asset_from row (bytes_of files folder row) ≡ asset_from row (Some bytes) = ap (asset_from row) is in
            (adds.1 none).0
            ∙ ap (λ assets. assets ++ asset_from row (Some bytes) ∷ []) (told.assets was)
            ∙ ap (λ a. take i (assets_of files folder rows) ++ a ∷ []) (sym same)
            ∙ sym (map-more (λ (r : AssetRow). asset_from r (bytes_of files folder r)) rows i row small at));
        total = λ none. (
            let was = (none-parts old.over (over_after old.total (length bytes)) (sym adds.0 ∙ none)).0 in
            (adds.1 none).1
            ∙ ap (λ t. t + length bytes) (told.total was)
            ∙ sym (ap sum more_lengths ∙ sum-push (take i (lengths_of files folder rows)) (length bytes)));
      }

  -- after all rows, what is over is the first fault
  pub told-all : (i : ℕ) (loaded : Loaded) → Told files folder rows i loaded → length rows ≤ i → asset_fault (contents files folder rows) ≡ loaded.over
  unfolding asset_fault
  told-all i loaded told past =
      let all : take i (contents files folder rows) ≡ contents files folder rows = take_all i (contents files folder rows) (rw (length-map rows (bytes_of files folder)) past) in
      let lengths : take i (lengths_of files folder rows) ≡ lengths_of files folder rows = take_all i (lengths_of files folder rows) (rw (length-map (contents files folder rows) length_of, length-map rows (bytes_of files folder)) past) in
      ap (λ o. option_or (option_map MissingFile o) (size_fault (lengths_of files folder rows))) (ap (first_where (λ b o. is_none o)) (sym all) ∙ told.found)
      ∙ sym (told.over ∙ ap (first_from size_answer []) lengths)

  pub told-assets : (i : ℕ) (loaded : Loaded) → Told files folder rows i loaded → length rows ≤ i → loaded.over ≡ None → loaded.assets ≡ assets_of files folder rows
  told-assets i loaded told past none =
      told.assets none ∙ take_all i (assets_of files folder rows) (rw (length-map rows (λ (r : AssetRow). asset_from r (bytes_of files folder r))) past)

module _ (rows : List AssetRow) where
  pub anyhow-none : (loaded : Loaded) → loaded.assets ≡ [] → loaded.total ≡ 0 → Anyhow rows 0 loaded
  anyhow-none loaded assets total = record {
    guids = ap asset_guids assets;
    kinds = ap (map (λ (a : Asset). a.kind)) assets;
    refs = ap (map (λ (a : Asset). a.refs)) assets;
    sizes = ap (λ some. size_fault (asset_lengths some)) assets ∙ first_from-none size_answer;
    total = total ∙ sym (ap (λ some. sum (asset_lengths some)) assets);
  }

  pub anyhow-more : (i : ℕ) (row : AssetRow) → i < length rows → get_or rows i row ≡ row → (bytes : List ℕ) (old new : Loaded) → Adds old row bytes new → (old.over ≡ None → Anyhow rows i old) → new.over ≡ None → Anyhow rows (i + 1) new
  anyhow-more i row small at bytes old new adds kept none =
      let was = none-parts old.over (over_after old.total (length bytes)) (sym adds.0 ∙ none) in
      let before = kept was.0 in
      let asset : Asset = asset_from row (Some bytes) in
      let lens : asset_lengths new.assets ≡ asset_lengths old.assets ++ length bytes ∷ [] = ap asset_lengths (adds.1 none).0 ∙ map-append (λ (a : Asset). length a.bytes) old.assets (asset ∷ []) in
      record {
        guids =
            ap asset_guids (adds.1 none).0
            ∙ map-append (λ (a : Asset). a.guid.0) old.assets (asset ∷ [])
            ∙ ap (λ gs. gs ++ row.guid.0 ∷ []) before.guids
            ∙ sym (map-more (λ (r : AssetRow). r.guid.0) rows i row small at);
        kinds =
            ap (map (λ (a : Asset). a.kind)) (adds.1 none).0
            ∙ map-append (λ (a : Asset). a.kind) old.assets (asset ∷ [])
            ∙ ap (λ ks. ks ++ row.kind ∷ []) before.kinds
            ∙ sym (map-more (λ (r : AssetRow). r.kind) rows i row small at);
        refs =
            ap (map (λ (a : Asset). a.refs)) (adds.1 none).0
            ∙ map-append (λ (a : Asset). a.refs) old.assets (asset ∷ [])
            ∙ ap (λ gs. gs ++ row.refs ∷ []) before.refs
            ∙ sym (map-more (λ (r : AssetRow). r.refs) rows i row small at);
        sizes =
            ap size_fault lens
            ∙ first_from-append size_answer [] (asset_lengths old.assets) (length bytes ∷ [])
            ∙ ap (λ o. option_or o (first_from size_answer (asset_lengths old.assets) (length bytes ∷ []))) before.sizes
            ∙ first_from-one size_answer (asset_lengths old.assets) (length bytes)
            ∙ ap (λ t. over_after t (length bytes)) (sym before.total)
            ∙ was.1;
        total =
            (adds.1 none).1
            ∙ ap (λ t. t + length bytes) before.total
            ∙ sym (ap sum lens ∙ sum-push (asset_lengths old.assets) (length bytes));
      }

  pub anyhow-all : (i : ℕ) (loaded : Loaded) → Anyhow rows i loaded → length rows ≤ i → KeepsRows rows loaded.assets
  anyhow-all i loaded kept past = record {
    guids = kept.guids ∙ take_all i (guids_of rows) (rw (length-map rows (λ (r : AssetRow). r.guid.0)) past);
    kinds = kept.kinds ∙ take_all i (map (λ (r : AssetRow). r.kind) rows) (rw (length-map rows (λ (r : AssetRow). r.kind)) past);
    refs = kept.refs ∙ take_all i (map (λ (r : AssetRow). r.refs) rows) (rw (length-map rows (λ (r : AssetRow). r.refs)) past);
    sizes = kept.sizes;
  }

-- what is told is told of the files
pub if-some : {A : Type 0} (o : Option A) (P : A → Type 0) → ((x : A) → o ≡ Some x → P x) → IfSome o P
if-some None P h = tt
if-some (Some x) P h = h x refl

pub if-some-at : {A : Type 0} (P : A → Type 0) (o : Option A) (x : A) → o ≡ Some x → IfSome o P → P x
if-some-at P o x is h = subst (λ p. IfSome p P) is h

over-is-limit : (n most : ℕ) (b : Bool) (which : Limit) → nat_lt most n ≡ b → (rest : Option ProjectErr) → (rest ≡ Some DepotFault → ⊥) → option_or (cond (nat_lt most n) (Some (OverLimit which n)) None) rest ≡ Some DepotFault → ⊥
over-is-limit n most true which is rest other same =
    let e : Some (OverLimit which n) ≡ Some DepotFault = sym (ap (λ (b : Bool). option_or (cond b (Some (OverLimit which n)) None) rest) is) ∙ same in
    cc
over-is-limit n most false which is rest other same = other (sym (ap (λ (b : Bool). option_or (cond b (Some (OverLimit which n)) None) rest) is) ∙ same)

all-is-limit : (n most : ℕ) (b : Bool) (which : Limit) → nat_lt most n ≡ b → cond (nat_lt most n) (Some (OverLimit which n)) None ≡ Some DepotFault → ⊥
all-is-limit n most true which is same =
    let e : Some (OverLimit which n) ≡ Some DepotFault = sym (ap (λ (b : Bool). cond b (Some (OverLimit which n)) None) is) ∙ same in
    cc
all-is-limit n most false which is same =
    let e : None ≡ Some DepotFault = sym (ap (λ (b : Bool). cond b (Some (OverLimit which n)) None) is) ∙ same in
    cc

-- what is over is a limit, and no fault of the depot
pub never-more : (old new : Loaded) (row : AssetRow) (bytes : List ℕ) → Adds old row bytes new → (old.over ≡ Some DepotFault → ⊥) → new.over ≡ Some DepotFault → ⊥
never-more old new row bytes adds never same = by_over old.over refl
  where
    by_over : (o : Option ProjectErr) → old.over ≡ o → ⊥
    by_over None none =
        over-is-limit (length bytes) (most limit.AssetBytes) (nat_lt (most limit.AssetBytes) (length bytes)) limit.AssetBytes refl (passes limit.AllBytes (old.total + length bytes))
        (all-is-limit (old.total + length bytes) (most limit.AllBytes) (nat_lt (most limit.AllBytes) (old.total + length bytes)) limit.AllBytes refl)
        (sym (ap (λ o. option_or o (over_after old.total (length bytes))) none) ∙ sym adds.0 ∙ same)
    by_over (Some f) some = never (some ∙ sym (ap (λ o. option_or o (over_after old.total (length bytes))) some) ∙ sym adds.0 ∙ same)
