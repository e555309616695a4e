-- One piece of work: its Take, its fetch, its end.
use Rattle.std.proofs.Common.{◌≡◌, ◌⊎◌, inl, inr, ℕ, Bool, true, List, [], ◌∷◌, ◌++◌, refl, sym, ap, ◌∙◌, subst, Option, Some, None}
use Rattle.addr_base.specs.declared.cause.Cause.{Cause}
use Rattle.addr_base.specs.declared.cause.Cause.TheVariants as causes
use Rattle.addr_base.specs.declared.ids.BundleNo.{BundleNo}
use Rattle.addr_base.specs.declared.ids.Digest.{Digest}
use Rattle.addr_locate.specs.Rows.{Rows}
use Rattle.addr_history.specs.declared.event.Event.{Event}
use Rattle.addr_history.specs.declared.event.Event.TheVariants.{Take}
use Rattle.addr_history.specs.Events.{number_of}
use Rattle.addr_turn.specs.OneHistory.{own}
use Rattle.addr_fetch.specs.declared.fetch.Fetched.{Fetched}
use Rattle.addr_fetch.specs.declared.fetch.Fetched.TheVariants as fetched
use Rattle.addr_loader.specs.declared.job.Job.{Job}
use Rattle.addr_loader.specs.declared.worker.Worked.{Worked}
use Rattle.addr_loader.specs.declared.worker.Worked.TheVariants as worked
use Rattle.addr_loader.specs.Turn.{Knowledge, Turn, rows_of}
use Rattle.addr_loader.specs.Taking.{IsJob}
use Rattle.addr_loader.specs.Gains.{Gains, gained}
use Rattle.addr_loader.specs.Chain.{Fetching, Chain, Fetches, EndsAs, fetch_limit, events_of, end_of}
use Rattle.addr_loader.specs.Works.{Works, Carried, IsAtWork}
use Rattle.addr_loader.specs.Waits.{WorksOn}
use Rattle.addr_loader.proofs.Gaining.{one_gained, gains_more, fetches, chain_more, events_more}

pub at_work : (v w : Knowledge) (g : List Event) (b : BundleNo) → Turn v w g (Take b v.number ∷ []) → IsAtWork w b
at_work v w g b t = let number : w.number ≡ v.number = ap (λ (z : Knowledge). z.number) t.after in (ap (λ (n : ℕ). own number_of n w.seen) number ∙ t.own_are, fetches v w g b t)

module _ {F : Type 0} (gives : F → List ℕ → ℕ → Fetched → F → Type 0) where
  -- a fetch of what the job says is one of the bundle's row
  pub row_fetches : (rows : Rows) (f g : F) (b : BundleNo) (job : Job) (answer : Fetched) (cause : Option Cause) → IsJob rows b (Some job) → gives f job.id (fetch_limit job.size) answer g → EndsAs job.size job.digest answer cause
      → Fetches gives rows f (record { b = b; answer = answer; cause = cause }) g
  row_fetches rows f g b job answer cause j fetch ends = inl (
    j.0,
    j.1,
    subst (λ (z : List ℕ × ℕ). gives f z.0 (fetch_limit z.1) answer g) (λ i. (j.2 i, j.3 i)) fetch,
    subst (λ (z : ℕ × Digest). EndsAs z.0 z.1 answer cause) (λ i. (j.3 i, j.4 i)) ends,
  )

  -- with no job none is made
  pub no_fetch : (rows : Rows) (f : F) (b : BundleNo) → Fetches gives rows f (record { b = b; answer = fetched.NoMemory; cause = Some causes.NoMemory }) f
  no_fetch rows f b = inr (refl, refl, refl)

  -- a Take, and what was carried out after it
  pub work_done : (v w u : Knowledge) (f g : F) (h : List Event) (b : BundleNo) → Turn v w h (Take b v.number ∷ []) → Carried gives w b f u g → Works gives v f (worked.Did b) u g
  work_done v w u f g h b t c =
      let number : w.number ≡ v.number = ap (λ (z : Knowledge). z.number) t.after in
      let rows : rows_of w ≡ rows_of v = ap (λ (z : Knowledge). rows_of z) t.after in
      let x = c.0 in
      let all : Gains v u (Take b v.number ∷ end_of w.number b x.cause ∷ []) = gains_more v w u (Take b v.number ∷ []) (end_of w.number b x.cause ∷ []) (one_gained v w h (Take b v.number) refl t) c.3 in
      let named : Gains v u (events_of v.number (x ∷ [])) = subst (λ (z : ℕ × BundleNo). Gains v u (Take z.1 v.number ∷ end_of z.0 z.1 x.cause ∷ [])) (λ i. (number i, sym c.1 i)) all in
      (x, c.1, subst (λ (r : Rows). Fetches gives r f x g) rows c.2, named)

module _ {F : Type 0} (gives : F → List ℕ → ℕ → Fetched → F → Type 0) where
  pub works_more : (v w u : Knowledge) (f m g : F) → WorksOn gives v f w m → WorksOn gives w m u g → WorksOn gives v f u g
  works_more v w u f m g a b =
      let number : w.number ≡ v.number = ap (λ (z : Knowledge). z.number) a.2.after in
      let rows : rows_of w ≡ rows_of v = ap (λ (z : Knowledge). rows_of z) a.2.after in
      let rest : Chain gives (rows_of v) m b.0 g = subst (λ (r : Rows). Chain gives r m b.0 g) rows b.1 in
      let gained : Gains v u (events_of v.number a.0 ++ events_of v.number b.0) = gains_more v w u (events_of v.number a.0) (events_of v.number b.0) a.2 (subst (λ (n : ℕ). Gains w u (events_of n b.0)) number b.2) in (
        a.0 ++ b.0,
        chain_more gives (rows_of v) f m g a.0 b.0 a.1 rest,
        subst (λ (l : List Event). Gains v u l) (sym (events_more v.number a.0 b.0)) gained,
      )

  pub works_none : (v w : Knowledge) (f g : F) → g ≡ f → Gains v w [] → WorksOn gives v f w g
  works_none v w f g same gains = ([], same, gains)

  pub works_one : (v w : Knowledge) (f g : F) (did : Worked) → Works gives v f did w g → WorksOn gives v f w g
  works_one v w f g (worked.Did b) t = (t.0 ∷ [], (g, t.2, refl), t.3)
  works_one v w f g worked.Idle t = works_none v w f g t.2 t.0
  works_one v w f g worked.End t = works_none v w f g t.2 t.0

  -- works at some calls before, or none was made
  abbrev pub Since : Knowledge → F → Knowledge → F → Type 0
  Since v f w m = WorksOn gives v f w m ⊎ ((w ≡ v) × (m ≡ f))

  pub since_more : (v w u : Knowledge) (f m g : F) → Since v f w m → WorksOn gives w m u g → WorksOn gives v f u g
  since_more v w u f m g (inl a) b = works_more v w u f m g a b
  since_more v w u f m g (inr a) b = subst (λ (z : Knowledge × F). WorksOn gives z.0 z.1 u g) (λ i. (a.0 i, a.1 i)) b

  pub since_rows : (v w : Knowledge) (f m : F) → Since v f w m → rows_of w ≡ rows_of v
  since_rows v w f m (inl a) = ap (λ (z : Knowledge). rows_of z) a.2.after
  since_rows v w f m (inr a) = ap (λ (z : Knowledge). rows_of z) a.0
