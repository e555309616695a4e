-- What a build leaves: its release shows what the project shows, is sound, and holds its state.
use Rattle.std.proofs.Common.{◌≡◌, ℕ, List, [], ◌∷◌, length, map, Option, Some, None, Ok, refl, sym, subst, ◌∙◌}
use Rattle.std.proofs.Math.Seq.{take-length}
use Rattle.std.proofs.lemmas.List.Elements.{Contains-append_left}
use Rattle.std.specs.Prelude.{IfSome, IsSomeAnd}
use Rattle.addr_base.specs.declared.files.MemFile.{MemFile}
use Rattle.addr_pack.specs.Placement.{IsPlaced}
use Rattle.addr_project.specs.Kept.{IsKept}
use Rattle.addr_project.specs.Model.{Project}
use Rattle.addr_project.specs.Reading.{ProjectOf}
use Rattle.addr_release.specs.Held.{IsHeld}
use Rattle.addr_release.specs.Images.{NamesApart}
use Rattle.addr_release.specs.Built.{IsReleaseOf, Release}
use Rattle.addr_build.specs.Release.{Sums}
use Rattle.addr_release.specs.Laws.{AreThere}
use Rattle.addr_release.specs.Puts.{IsAfter, bundle_put, catalogue_put, content_puts, hash_put, puts_of, state_put}
use Rattle.addr_release.proofs.BuiltLemmas.{release-again, release-held, release-shows, release-sound}
use Rattle.addr_release.proofs.OwnLemmas.{are-named}
use Rattle.addr_release.proofs.ProjectLemmas.{same-folder}
use Rattle.addr_build.proofs.LaidLemmas.{none-owed}
use Rattle.addr_build.specs.After.{IsSoundFor, NamesDiffer, ResolvesTo, Shows}
use Rattle.addr_build.specs.Outcomes.{IsBuilt}
use Rattle.addr_build.specs.declared.release.Summary.{Summary}

-- a folder stands for one project
pub same-project : (files : List MemFile) (folder : List ℕ) (p q : Project) → ProjectOf files folder p → ProjectOf files folder q → p ≡ q
same-project files folder p q one two = let e : Ok p ≡ Ok q = sym one ∙ two in cc e

module _ (folder : List ℕ) (old new : List MemFile) (summary : Summary) (built : IsBuilt folder old new summary) (kept : IsKept built.project) where
  own : (q : Project) → ProjectOf old folder q → built.project ≡ q
  own q read = same-project old folder built.project q built.read read

  apart : (q : Project) → ProjectOf old folder q → NamesDiffer q → NamesApart built.plan
  apart q read differ = differ built.plan (subst (λ r. IsPlaced r built.plan) (own q read) built.within.placed.placed)

  pub built-shows : Shows folder old new
  built-shows q read differ = subst (λ r. ResolvesTo r folder new) (own q read)
      (release-shows built.project built.plan kept built.within.placed.placed built.release folder old new built.is built.free built.after (apart q read differ))

  pub built-sound : IsSoundFor folder old new
  built-sound q read differ = release-sound built.project built.plan kept built.within.placed.placed built.release folder old new built.is built.free built.after (apart q read differ)

  pub built-held : IsHeld new folder
  built-held = release-held built.project built.plan kept built.within.placed.placed built.release folder old new built.is built.free built.after

-- a second build
module _ (folder : List ℕ) (first old : List MemFile) (earlier : Summary) (one : IsBuilt folder first old earlier) (p : Project) (kept : IsKept p) (read : ProjectOf old folder p) (r : Release) (is : IsReleaseOf p r) where
  same-read : one.project ≡ p
  same-read =
      let after = subst (λ ps. IsAfter ps first old) (sym (take-length (puts_of folder one.release))) one.after in
      let stays = same-folder folder one.release (are-named one.project one.release one.is) (length (puts_of folder one.release)) first old after in
      same-project old folder one.project p (stays ∙ one.read) read

  pub there-again : AreThere (puts_of folder r) old
  there-again = (release-again p kept one.release r folder first old (subst (λ q. IsReleaseOf q one.release) same-read one.is) is one.free one.after).1

  pub owes-none : (summary : Summary) → Sums folder old r summary → summary.put ≡ 0
  owes-none summary sums = sums.put ∙ none-owed old (map (bundle_put folder) r.bundles) (λ f here. there-again f
      (Contains-append_left (content_puts folder r) (catalogue_put folder r.catalogue ∷ hash_put folder r.catalogue ∷ []) f
      (Contains-append_left (map (bundle_put folder) r.bundles) (state_put folder r.state_bytes ∷ []) f here)))

-- what follows of told files
pub some-map : (o n : Option (List MemFile)) (P Q : List MemFile → List MemFile → Type 0) → ((x y : List MemFile) → o ≡ Some x → P x y → Q x y)
    → IfSome o (λ x. IsSomeAnd n (P x)) → IfSome o (λ x. IsSomeAnd n (Q x))
some-map None n P Q step told = tt
some-map (Some x) None P Q step told = told
some-map (Some x) (Some y) P Q step told = step x y refl told
