-- Where files of bytes decide what is shown under a key, `resolve` prints that or is stopped.
use Rattle.std.proofs.Common.{◌≡◌, ◌∙◌, ◌⊎◌, inl, inr, ℕ, List, [], refl, sym, ap, subst, get_or}
use Rattle.std.specs.Prelude.{Result, Ok, Err}
use Rattle.addr_base.specs.Files.{Store}
use Rattle.addr_base.specs.Streams.{Stream}
use Rattle.addr_base.specs.declared.files.MemFile.{MemFile}
use Rattle.addr_project.specs.Reach.{Row}
use Rattle.addr_project.proofs.LoadLemmas.{if-some, if-some-at}
use Rattle.addr_resolve.specs.Laws.{AreFiles, HaveOneAnswer, IsOfFiles, answer_view}
use Rattle.addr_resolve.specs.Resolving.{Resolves}
use Rattle.addr_resolve.specs.declared.error.ResolveErr.{ResolveErr}
use Rattle.addr_resolve.specs.declared.error.ResolveErr.TheVariants.{NoRelease, BadCatalogue, NoKey, BadBundle, DepotFault, NoMemory}
use Rattle.addr_resolve.specs.declared.rows.Resolved.{Resolved}
use Rattle.addr_change.specs.Printing.{IsPrintedWhole}
use Rattle.addr_change.specs.Resolving.{AsksToResolve, IsAsked, IsComplete, IsDecided, IsStopped, PrintsEnd, ResolvesTo, resolved_status, resolved_text}

-- the words ask for one folder and one key
one-folder : (words : List (List ℕ)) (f g k l : List ℕ) → AsksToResolve words f k → AsksToResolve words g l → f ≡ g
one-folder words f g k l first second = ap (λ w. get_or w 1 []) (sym first ∙ second)

one-key : (words : List (List ℕ)) (f g k l : List ℕ) → AsksToResolve words f k → AsksToResolve words g l → k ≡ l
one-key words f g k l first second = ap (λ w. get_or w 2 []) (sym first ∙ second)

-- an answer that files don't decide has one of two statuses
decided : (ended : Result (List Resolved) ResolveErr) → IsOfFiles ended ⊎ ((resolved_status (answer_view ended) ≡ 1) ⊎ (resolved_status (answer_view ended) ≡ 3))
decided (Ok rows) = inl tt
decided (Err (NoRelease name)) = inl tt
decided (Err (BadCatalogue fault)) = inl tt
decided (Err NoKey) = inl tt
decided (Err (BadBundle name why)) = inl tt
decided (Err DepotFault) = inr (inr refl)
decided (Err NoMemory) = inr (inl refl)

module _ (key : List ℕ) (status : ℕ) (out out' : Stream) where
  abbrev Whole : Result (List Row) ResolveErr → Type 0
  Whole v = IsPrintedWhole (resolved_status v) (resolved_text key v) status out out'

  whole-or-stopped : (ended : Result (List Resolved) ResolveErr) → PrintsEnd key (answer_view ended) status out out' → (IsOfFiles ended × Whole (answer_view ended)) ⊎ IsStopped status
  whole-or-stopped ended (inl (inl whole)) = by_kind (decided ended)
    where
      by_kind : IsOfFiles ended ⊎ ((resolved_status (answer_view ended) ≡ 1) ⊎ (resolved_status (answer_view ended) ≡ 3)) → (IsOfFiles ended × Whole (answer_view ended)) ⊎ IsStopped status
      by_kind (inl own) = inl (own, whole)
      by_kind (inr (inl memory)) = inr (inl (whole.status_is ∙ memory))
      by_kind (inr (inr fault)) = inr (inr (inl (whole.status_is ∙ fault)))
  whole-or-stopped ended (inl (inr part)) = inr (inr (inr part.status_is))
  whole-or-stopped ended (inr (takes, inl whole)) = inr (inl whole.status_is)
  whole-or-stopped ended (inr (takes, inr part)) = inr (inr (inr part.status_is))

module _ (laws : (files : List MemFile) (folder key : List ℕ) → AreFiles files → HaveOneAnswer files folder key) (words : List (List ℕ)) (depot depot' : Store) (out out' : Stream) (status : ℕ) where
  asked : (files : List MemFile) (key : List ℕ) (answer : Result (List Resolved) ResolveErr) → IsDecided words files key answer → (is : IsAsked words depot depot' out out' status)
      → Resolves files is.folder is.key is.ended → IsPrintedWhole (resolved_status (answer_view answer)) (resolved_text key (answer_view answer)) status out out' ⊎ IsStopped status
  asked files key answer d is shows = by_print (whole-or-stopped is.key status out out' is.ended is.prints)
    where
      folders : is.folder ≡ d.folder
      folders = one-folder words is.folder d.folder is.key key is.asks d.asks

      keys : is.key ≡ key
      keys = one-key words is.folder d.folder is.key key is.asks d.asks

      again : Resolves files d.folder key is.ended
      again = subst (λ f. Resolves files f key is.ended) folders (subst (λ k. Resolves files is.folder k is.ended) keys shows)

      by_print : (IsOfFiles is.ended × Whole is.key status out out' (answer_view is.ended)) ⊎ IsStopped status
          → IsPrintedWhole (resolved_status (answer_view answer)) (resolved_text key (answer_view answer)) status out out' ⊎ IsStopped status
      by_print (inl (own, whole)) =
          let same : answer_view is.ended ≡ answer_view answer = laws files d.folder key d.bytes is.ended answer again d.answers own d.decided in
          inl (subst (λ k. Whole k status out out' (answer_view answer)) keys (subst (λ (v : Result (List Row) ResolveErr). Whole is.key status out out' v) same whole))
      by_print (inr stopped) = inr stopped

  pub complete : ResolvesTo words depot depot' out out' status → IsComplete words depot out out' status
  complete (inl is) = if-some depot.files _ (λ files at key answer d. asked files key answer d is (if-some-at _ depot.files files at is.answers))
  complete (inr unasked) = if-some depot.files _ (λ files at key answer d. absurd (unasked.other (d.folder, key, d.asks)))
