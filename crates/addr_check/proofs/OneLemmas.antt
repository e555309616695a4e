-- Files have one answer: one list of moves, or one first cause of a refusal.
use Rattle.std.proofs.Common.{◌≡◌, ◌<◌, ◌⊎◌, ℕ, List, length, inl, inr, refl, sym, ap, ap₂, subst, ◌∙◌}
use Rattle.std.proofs.lemmas.Bool.{cases_order}
use Rattle.std.specs.Cmp.{nat_cmp_total}
use Rattle.std.specs.List.{AllZip}
use Rattle.std.specs.Prelude.{Result, Ok, Err}
use Rattle.addr_base.specs.declared.files.MemFile.{MemFile}
use Rattle.addr_check.specs.Checking.{Checks}
use Rattle.addr_check.specs.FromCauses.{of_held}
use Rattle.addr_check.specs.Laws.{HaveOneAnswer, IsOfFiles}
use Rattle.addr_check.specs.declared.error.CheckErr.{CheckErr}
use Rattle.addr_check.specs.declared.error.CheckErr.TheVariants as checks
use Rattle.addr_held.proofs.FaultLemmas.{either-one, with-one}
use Rattle.addr_held.proofs.OneLemmas.{zip-one}
use Rattle.addr_held.specs.Laws.{Seen, ShowsRelease}
use Rattle.addr_held.specs.declared.error.HeldErr.{HeldErr}
use Rattle.addr_held.specs.declared.error.HeldErr.TheVariants as held
use Rattle.addr_layout.specs.Laws.{AtMostOne}
use Rattle.addr_locate.specs.Rows.{Rows}
use Rattle.addr_moves.specs.Fates.{AreMoves, IsMove, comparing}
use Rattle.addr_pack.proofs.SameLemmas.{one_name}
use Rattle.addr_pack.proofs.UniqueLemmas.{one_placement}
use Rattle.addr_pack.specs.LongNames.{HasLongName as IsLongAt, IsFirstLong, NamesFit}
use Rattle.addr_pack.specs.Placement.{IsPlaced}
use Rattle.addr_pack.specs.declared.bundles.Plan.{Plan}
use Rattle.addr_project.specs.Laws.{HasOneAnswer}
use Rattle.addr_project.specs.Model.{Project}
use Rattle.addr_project.specs.Reading.{ProjectFault, ProjectOf}
use Rattle.addr_project.specs.declared.error.ProjectErr.{ProjectErr}
use Rattle.addr_project.specs.declared.limit.Limit.{Limit}
use Rattle.addr_project.specs.declared.limit.Limit.TheVariants as limit
use Rattle.addr_update.proofs.SplitLemmas.{one-reason, same-in}
use Rattle.addr_update.specs.Moved.{IsMovedNo, IsReason, Update}
use Rattle.addr_update.specs.declared.model.Move.{Move}
use Rattle.addr_update.specs.declared.model.Why.{Why}
use Rattle.addr_walks.proofs.Lists.{one-list}

abbrev Answer : Type 0
Answer = Result (List Move) CheckErr

abbrev refused : CheckErr → Answer
refused e = Err e

-- ---- moves

same-move : (m n : Move) → m.guid ≡ n.guid → m.why ≡ n.why → m ≡ n
same-move m n guid why = λ i. record { guid = guid i; why = why i }

one-move : (u : Update) (x : ℕ) → AtMostOne (IsMove u x)
one-move u x m n (g, is-in, fixed, reason) (h, also, too, other) =
    let guid : m.guid ≡ n.guid = same-in u.project x m.guid n.guid g h is-in also in
    same-move m n guid (one-reason u n.guid m.why n.why (subst (λ a. IsReason u a m.why) guid reason) other)

pub moves-one : (u : Update) → AtMostOne (AreMoves u)
moves-one u moves others (xs, list, zip) (ys, listed, zipped) =
    let same : xs ≡ ys = one-list nat_cmp_total (IsMovedNo u) xs ys list listed in
    zip-one (IsMove u) (one-move u) ys moves others (subst (λ zs. AllZip (IsMove u) zs moves) same zip) zipped

-- ---- names that are too long

module _ (p : Project) where
  one-size : (x : ℕ) → AtMostOne (IsLongAt p x)
  one-size x size other (group, name, named, is, long) (also, again, too, are, over) = is ∙ (ap length (one_name p x group also name again named too).1 ∙ sym are)

  first-size : (x y : ℕ) (size other : ℕ) → IsFirstLong p x size → IsFirstLong p y other → size ≡ other
  first-size x y size other first second = by_order (cases_order x y)
    where
      by_order : (x ≡ y) ⊎ ((x < y) ⊎ (y < x)) → size ≡ other
      by_order (inl same) = one-size y size other (subst (λ z. IsLongAt p z size) same first.0) second.0
      by_order (inr (inl less)) = absurd (second.1 x size less first.0)
      by_order (inr (inr more)) = absurd (first.1 y other more second.0)

-- ---- answers, kind by kind

module _ (p : Project) where
  abbrev IsLong : ℕ → Type 0
  IsLong size = (x : ℕ) × IsFirstLong p x size

  abbrev TooLong : Answer → Type 0
  TooLong a = (size : ℕ) × IsLong size × (a ≡ refused (checks.TooLarge limit.BundleName size))

  abbrev Told : Seen → Answer → Type 0
  Told r a = NamesFit p × ((now : Plan) × IsPlaced p now
      × ((moves : List Move) × AreMoves (comparing r.state r.was r.catalogue.locator p now) moves × (a ≡ Ok moves)))

  abbrev OfRelease : Result Seen HeldErr → Answer → Type 0
  OfRelease (Ok r) a = TooLong a ⊎ Told r a
  OfRelease (Err e) a = a ≡ refused (of_held e)

  too-long-one : AtMostOne TooLong
  too-long-one = with-one IsLong (λ size a. a ≡ refused (checks.TooLarge limit.BundleName size)) (λ size other x y. first-size p x.0 y.0 size other x.1 y.1) (λ size is x y a b. a ∙ sym b)

  told-one : (r : Seen) → AtMostOne (Told r)
  told-one r a b (fits, first) (fit, second) =
      with-one (IsPlaced p) (λ now a. (moves : List Move) × AreMoves (comparing r.state r.was r.catalogue.locator p now) moves × (a ≡ Ok moves)) (one_placement p)
      (λ now placed. with-one (AreMoves (comparing r.state r.was r.catalogue.locator p now)) (λ moves a. a ≡ Ok moves) (moves-one (comparing r.state r.was r.catalogue.locator p now)) (λ moves are x y is also. is ∙ sym also))
      a b first second

  release-one : (h : Result Seen HeldErr) → AtMostOne (OfRelease h)
  release-one (Ok r) = either-one TooLong (Told r) too-long-one (told-one r) (λ x y (size, (n, first), is) (fits, told). fits n size first.0)
  release-one (Err e) = λ x y a b. a ∙ sym b

module _ (files : List MemFile) (folder : List ℕ) (project : HasOneAnswer files folder) (shows : AtMostOne (ShowsRelease files folder)) where
  abbrev OfProject : Project → Answer → Type 0
  OfProject p a = (h : Result Seen HeldErr) × ShowsRelease files folder h × OfRelease p h a

  abbrev FromProject : Answer → Type 0
  FromProject a = (p : Project) × ProjectOf files folder p × OfProject p a

  abbrev BadProject : Answer → Type 0
  BadProject a = (fault : ProjectErr) × ProjectFault files folder fault × (a ≡ refused (checks.Project fault))

  abbrev OfFolder : Answer → Type 0
  OfFolder a = BadProject a ⊎ FromProject a

  folder-one : AtMostOne OfFolder
  folder-one = either-one BadProject FromProject
      (with-one (ProjectFault files folder) (λ fault a. a ≡ refused (checks.Project fault)) project.one_fault (λ fault is x y a b. a ∙ sym b))
      (with-one (ProjectOf files folder) OfProject project.one_project (λ p is. with-one (ShowsRelease files folder) (OfRelease p) shows (λ h shown. release-one p h)))
      (λ x y bad read. project.never_both read.0 bad.0 read.1 bad.1)

  -- ---- the answers of checking are of these kinds

  compared-moves : (u : Update) (moves : List Move) (rows : Rows) → u.rows ≡ rows → AreMoves u moves → AreMoves (comparing u.state u.was rows u.project u.now) moves
  compared-moves u moves rows same are = subst (λ (r : Rows). AreMoves (comparing u.state u.was r u.project u.now) moves) same are

  kind-of : (x : Answer) → Checks files folder x → IsOfFiles x → OfFolder x
  kind-of (Ok moves) (u, is, are) own =
      let told : Told u.project (record { catalogue = is.catalogue; state = u.state; was = u.was }) (Ok moves) = (is.fits, (u.now, is.placed, (moves, compared-moves u moves is.catalogue.locator is.rows are, refl))) in
      inr (u.project, is.project, (Ok (record { catalogue = is.catalogue; state = u.state; was = u.was }), (is.held, is.intact), inr told))
  kind-of (Err (checks.Project fault)) bad own = inl (fault, bad, refl)
  kind-of (Err (checks.NoRelease name)) (p, read, lacks) own = inr (p, read, (Err (held.NoRelease name), lacks, refl))
  kind-of (Err (checks.BadCatalogue fault)) (p, read, bad) own = inr (p, read, (Err (held.BadCatalogue fault), bad, refl))
  kind-of (Err (checks.BadRelease name why)) (p, read, c, has, wrong) own = inr (p, read, (Err (held.BadRelease name why), (c, has, wrong), refl))
  kind-of (Err (checks.TooLarge which size)) (is, (p, read, x, first, c, s, was, holds, intact)) own =
      inr (p, read, (Ok (record { catalogue = c; state = s; was = was }), (holds, intact), inl (size, (x, first), ap (λ (w : Limit). refused (checks.TooLarge w size)) is)))
  kind-of (Err checks.DepotFault) is own = absurd own
  kind-of (Err checks.NoMemory) is own = absurd own

  pub one-answer : HaveOneAnswer files folder
  one-answer x y first second own also = folder-one x y (kind-of x first own) (kind-of y second also)
