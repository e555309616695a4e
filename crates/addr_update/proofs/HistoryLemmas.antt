-- What was shipped stays, over any list of edits, builds and updates.
use Rattle.std.proofs.Common.{◌≡◌, ◌≢◌, ◌<◌, ◌↔◌, ◌⊎◌, inl, inr, ℕ, codes, get_or, length, take, Bool, true, false, List, [], ◌∷◌, Option, None, Some, Ok, refl, sym, ap, ap₂, subst, ◌∙◌, arith}
use Rattle.std.specs.List.{AllZip, Contains}
use Rattle.std.specs.Option.{option_or}
use Rattle.addr_base.specs.Files.{file_at}
use Rattle.addr_base.specs.declared.files.MemFile.{MemFile}
use Rattle.addr_base.specs.declared.ids.Digest.{Digest}
use Rattle.addr_catalog.specs.declared.catalogue.Catalogue.{Catalogue}
use Rattle.addr_project.specs.Kept.{IsKept as IsKeptProject}
use Rattle.addr_project.specs.Model.{Project}
use Rattle.addr_project.specs.Reach.{Row, Shown}
use Rattle.addr_project.specs.Reading.{ProjectOf, path}
use Rattle.addr_release.specs.Built.{IsReleaseOf}
use Rattle.addr_release.specs.Held.{HasDigest, IsHeldAs}
use Rattle.addr_release.specs.Names.{bundle_file, catalogue_path, hash_path, side_path, state_path}
use Rattle.addr_release.specs.Opened.{Opened}
use Rattle.addr_release.specs.Puts.{IsAfter}
use Rattle.addr_release.specs.Resolve.{IsOpened, IsRelease, Resolve}
use Rattle.addr_release.specs.Sound.{HasSoundRelease}
use Rattle.addr_release.proofs.BuiltLemmas.{free-after, held-as, release-shows, release-sound, there-after}
use Rattle.addr_release.proofs.NameLemmas.{bytes-apart, path-same, state-beside}
use Rattle.addr_state.specs.Files.{file_name, side_file}
use Rattle.addr_state.specs.Reading.{state_read}
use Rattle.addr_state.specs.Sound.{IsSound}
use Rattle.addr_state.specs.declared.model.State.{State}
use Rattle.addr_state.specs.declared.model.StateBundle.{StateBundle}
use Rattle.addr_walks.proofs.Lists.{slice_get-Contains}
use Rattle.addr_walks.proofs.Walking.{kept-along}
use Rattle.addr_update.specs.After.{UpdatedRelease, update_puts}
use Rattle.addr_update.specs.History.{Moment, IsShipped, IsEdit, IsBuild, IsUpdate, IsStep, UpdatesShow}
use Rattle.addr_update.specs.Intact.{AreIntact, IsIntact}
use Rattle.addr_update.specs.Laws.{IsUpdateOf, LeavesShown}
use Rattle.addr_update.specs.Moved.{Update}
use Rattle.addr_update.proofs.FreshLemmas.{all-intact}
use Rattle.addr_update.proofs.PutLemmas.{all-after, all-far, catalogue-there, keeps, zip-in}
use Rattle.addr_update.proofs.ShowsLemmas.{all-shown}

zip-each : {A B : Type 0} (R S : A → B → Type 0) → ((x : A) (y : B) → R x y → S x y) → (xs : List A) (ys : List B) → AllZip R xs ys → AllZip S xs ys
zip-each R S takes [] [] zip = tt
zip-each R S takes [] (y ∷ ys) zip = absurd zip
zip-each R S takes (x ∷ xs) [] zip = absurd zip
zip-each R S takes (x ∷ xs) (y ∷ ys) zip = (takes x y zip.0, zip-each R S takes xs ys zip.1)

-- what is read as a state keeps its rules
abbrev pub ReadSound : Type 0
ReadSound = (bytes : List ℕ) (s : State) → state_read bytes ≡ Ok s → IsSound s

-- a folder's files stand for at most one project
abbrev pub OneProject : Type 0
OneProject = (files : List MemFile) (folder : List ℕ) (p q : Project) → ProjectOf files folder p → ProjectOf files folder q → p ≡ q

-- ---- a release is seen through the files of the two sides alone

abbrev pub SameSides : List ℕ → List MemFile → List MemFile → Type 0
SameSides folder old new = (remote : Bool) (key : List ℕ) → file_at (side_path folder remote key) new ≡ file_at (side_path folder remote key) old

same-bundle : (folder : List ℕ) (old new : List MemFile) → SameSides folder old new → (key : List ℕ) → bundle_file new folder key ≡ bundle_file old folder key
same-bundle folder old new same key = ap₂ option_or (same false key) (same true key)

same-release : (folder : List ℕ) (old new : List MemFile) → SameSides folder old new → (c : Catalogue) (opened : List Opened) → IsRelease old folder c opened → IsRelease new folder c opened
same-release folder old new same c opened release = record {
  bytes = release.bytes;
  there = same true (codes "catalog_main.json") ∙ release.there;
  read = release.read;
  bundles = zip-each (IsOpened old folder) (IsOpened new folder) (λ row o (file, at, holds, name). (file, same-bundle folder old new same row.key ∙ at, holds, name)) c.locator.bundles opened release.bundles;
}

back : (folder : List ℕ) (old new : List MemFile) → SameSides folder old new → SameSides folder new old
back folder old new same remote key = sym (same remote key)

pub same-resolve : (folder : List ℕ) (old new : List MemFile) → SameSides folder old new → (key : List ℕ) (shown : List Row) → Resolve new folder key shown ↔ Resolve old folder key shown
same-resolve folder old new same key shown = (
  λ (c, opened, release, resolves). (c, opened, same-release folder new old (back folder old new same) c opened release, resolves),
  λ (c, opened, release, resolves). (c, opened, same-release folder old new same c opened release, resolves),
)

pub same-sound : (folder : List ℕ) (old new : List MemFile) → SameSides folder old new → HasSoundRelease old folder → HasSoundRelease new folder
same-sound folder old new same (c, opened, release, sound) = (
  c,
  opened,
  same-release folder old new same c opened release,
  record {
    stored = λ row here. let file = sound.stored row here in (file.0, same-bundle folder old new same row.key ∙ file.1, file.2, file.3);
    names = sound.names;
    deps = sound.deps;
    same = sound.same;
  },
)

both-ways : {A B C : Type 0} → (A ↔ B) → (B ↔ C) → (A ↔ C)
both-ways first second = (λ a. second.0 (first.0 a), λ c. first.1 (second.1 c))

other-way : {A B : Type 0} → (A ↔ B) → (B ↔ A)
other-way first = (first.1, first.0)

-- ---- a state stands beside catalogue and hash

none-beside : (name : List ℕ) → get_or name 0 0 ≡ 114 → codes "state_.json" ≢ name
none-beside name begins e = bytes-apart 114 115 (omega arith) (sym (ap (λ (xs : List ℕ). get_or xs 0 0) e ∙ begins))

pub aside : (folder : List ℕ) (named : Option Digest) → (state_path folder named ≢ catalogue_path folder) × (state_path folder named ≢ hash_path folder)
aside folder (Some digest) = state-beside folder digest
aside folder None = (
  λ e. none-beside (codes "remote/catalog_main.json") refl (path-same folder (codes "state_.json") (codes "remote/catalog_main.json") e),
  λ e. none-beside (codes "remote/catalog_main.hash") refl (path-same folder (codes "state_.json") (codes "remote/catalog_main.hash") e),
)

-- ---- each step keeps what was shipped

edit-intact : (folder : List ℕ) (old new : List MemFile) → SameSides folder old new → (s : State) → IsSound s → (was : List Opened) → AreIntact s old folder was → AreIntact s new folder was
edit-intact folder old new same s sound was intact = zip-in (IsIntact old folder) (IsIntact new folder) s.bundles was stays intact
  where
    by_side : (b : StateBundle) → (b.file ≡ side_file false b.name b.digest) ⊎ (b.file ≡ side_file true b.name b.digest) → file_at (path folder b.file) new ≡ file_at (path folder b.file) old
    by_side b (inl is) = subst (λ f. file_at (path folder f) new ≡ file_at (path folder f) old) (sym is) (same false (file_name b.name b.digest))
    by_side b (inr is) = subst (λ f. file_at (path folder f) new ≡ file_at (path folder f) old) (sym is) (same true (file_name b.name b.digest))

    files : (b : StateBundle) → Contains s.bundles b → file_at (path folder b.file) new ≡ file_at (path folder b.file) old
    files b here = let at = slice_get-Contains s.bundles b here in by_side b (sound.formed at.0 b at.1).file

    stays : (b : StateBundle) (w : Opened) → Contains s.bundles b → IsIntact old folder b w → IsIntact new folder b w
    stays b w here is = record {
      file = is.file;
      there = files b here ∙ is.there;
      bytes = is.bytes;
      short = is.short;
      size = is.size;
      digest = is.digest;
      name = is.name;
      cab = is.cab;
      holds = is.holds;
      objects = is.objects;
    }

edit-keeps : ReadSound → (folder : List ℕ) (m n : Moment) → IsShipped folder m → IsEdit folder m n → IsShipped folder n
edit-keeps sound folder m n was edit = record {
  shows = λ key shown. both-ways (same-resolve folder m.files n.files edit.sides key shown) (subst (λ (p : Project). Resolve m.files folder key shown ↔ Shown p key shown) (sym edit.project) (was.shows key shown));
  sound = same-sound folder m.files n.files edit.sides was.sound;
  catalogue = was.catalogue;
  held = record {
    bytes = was.held.bytes;
    there = edit.sides true (codes "catalog_main.json") ∙ was.held.there;
    read = was.held.read;
    kept = was.held.kept;
    kept_there = edit.states was.catalogue.state ∙ was.held.kept_there;
    kept_read = was.held.kept_read ∙ ap Ok (sym edit.state);
    digest = was.held.digest;
  };
  was = was.was;
  intact = subst (λ (s : State). AreIntact s n.files folder was.was) (sym edit.state) (edit-intact folder m.files n.files edit.sides m.state (sound was.held.kept m.state was.held.kept_read) was.was was.intact);
}

pub build-ships : (folder : List ℕ) (m n : Moment) → IsBuild folder m n → IsShipped folder n
build-ships folder m n build =
    let of : IsReleaseOf n.project build.release = (build.plan, build.placed, build.is) in
    let free = free-after n.project build.plan build.keeps build.placed build.release folder m.files n.files of build.free build.after in
    let there = there-after n.project build.plan build.keeps build.placed build.release folder m.files n.files of build.free build.after in
    let held = held-as n.project build.plan build.release build.placed build.is folder n.files free there in
    let intact = all-intact n.project build.keeps build.plan build.placed build.release build.is folder m.files n.files build.free build.after in
    record {
      shows = release-shows n.project build.plan build.keeps build.placed build.release folder m.files n.files (build.plan, build.placed, build.is) build.free build.after build.apart;
      sound = release-sound n.project build.plan build.keeps build.placed build.release folder m.files n.files (build.plan, build.placed, build.is) build.free build.after build.apart;
      catalogue = build.is.alike.0;
      held = record {
        bytes = held.bytes;
        there = held.there;
        read = held.read;
        kept = held.kept;
        kept_there = held.kept_there;
        kept_read = held.kept_read ∙ ap Ok (sym build.state);
        digest = held.digest;
      };
      was = intact.0;
      intact = subst (λ (s : State). AreIntact s n.files folder intact.0) (sym build.state) intact.1;
    }

-- once its catalogue is put, an update leaves the state that the catalogue before it named
pub held-after : (u : Update) (old : List MemFile) (folder : List ℕ) (present : Catalogue) (held : IsHeldAs old folder present u.state) (r : UpdatedRelease) (of : IsUpdateOf u old folder present.state r)
    (new : List MemFile) (k : ℕ) → length r.bundles < k → IsAfter (take k (update_puts folder r)) old new → IsHeldAs new folder of.is.alike.0 u.state
held-after u old folder present held r of new k far after =
    let beside = aside folder present.state in
    record {
      bytes = r.catalogue;
      there = catalogue-there u old folder present.state r of new k far after;
      read = of.is.alike.1;
      kept = held.kept;
      kept_there = ap (λ d. file_at (state_path folder d) new) of.is.alike.3 ∙ keeps u old folder present.state r of new k far after (state_path folder present.state) held.kept beside.0 beside.1 held.kept_there;
      kept_read = held.kept_read;
      digest = subst (HasDigest held.kept) (sym of.is.alike.3) held.digest;
    }

update-ships : (folder : List ℕ) (m n : Moment) → IsUpdate folder m n → IsShipped folder n
update-ships folder m n up = record {
  shows = λ key shown. subst (λ (p : Project). Resolve n.files folder key shown ↔ Shown p key shown) up.of_project (leaves.shows key shown);
  sound = leaves.sound;
  catalogue = up.of.is.alike.0;
  held = subst (IsHeldAs n.files folder up.of.is.alike.0) (up.of_state ∙ sym up.state)
      (held-after up.u m.files folder up.present (subst (IsHeldAs m.files folder up.present) (sym up.of_state) up.held) up.release up.of n.files (length (update_puts folder up.release))
      (all-far up.u m.files folder up.present.state up.release up.of) (all-after up.u m.files folder up.present.state up.release up.of n.files up.after));
  was = up.u.was;
  intact = subst (λ (s : State). AreIntact s n.files folder up.u.was) (up.of_state ∙ sym up.state) leaves.intact;
}
  where
    project : IsKeptProject up.u.project
    project = subst IsKeptProject (sym up.of_project) up.keeps

    leaves : LeavesShown up.u m.files n.files folder
    leaves = all-shown up.u project m.files folder up.present.state up.release up.of n.files up.after up.apart

step-keeps : ReadSound → (folder : List ℕ) (m n : Moment) → IsShipped folder m → IsStep folder m n → IsShipped folder n
step-keeps sound folder m n was (inl edit) = edit-keeps sound folder m n was edit
step-keeps sound folder m n was (inr (inl build)) = build-ships folder m n build
step-keeps sound folder m n was (inr (inr up)) = update-ships folder m n up

pub updates-show : ReadSound → OneProject → UpdatesShow
updates-show sound one = record {
  builds = build-ships;
  stays = λ folder first last shipped history. kept-along (IsStep folder) (IsShipped folder) (step-keeps sound folder) first last shipped history;
  as_built = λ folder last after fresh shipped up build key shown.
      both-ways ((update-ships folder last after up).shows key shown)
      (other-way (subst (λ (p : Project). Resolve fresh.files folder key shown ↔ Shown p key shown) (one last.files folder fresh.project after.project build.read up.read) ((build-ships folder last fresh build).shows key shown)));
}
