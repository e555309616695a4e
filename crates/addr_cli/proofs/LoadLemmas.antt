-- The words of `load` ask for one number of workers; and how it ends, from how its script was played.
use Rattle.std.proofs.Common.{◌≡◌, ◌∙◌, ℕ, List, [], sym, ap, arith, get_or, subst, map, Ok, Err}
use Rattle.std.specs.Prelude.{Result, MatchResult}
use Rattle.std.proofs.lemmas.Fmt.{decimal_injective}
use Rattle.addr_base.specs.Files.{Store}
use Rattle.addr_fetch.specs.declared.fetch.Fetched.{Fetched}
use Rattle.addr_fields.specs.Fields.{IsNumber}
use Rattle.addr_live.specs.Whole.{PlaysBeside}
use Rattle.addr_live.specs.declared.reading.Prepared.{Prepared}
use Rattle.addr_cli.specs.Loading.{AsksToLoad, IsWorkers, LoadEnds, ReadiesFrom}
use Rattle.addr_cli.specs.declared.refusal.Refusal.{Refusal}
use Rattle.addr_cli.specs.declared.refusal.Refusal.TheVariants.{NoMemory}

pub same_workers : (text : List ℕ) (m n : ℕ) → IsNumber 32 text m → IsWorkers text n → n ≡ m
same_workers text m n im is = decimal_injective n m (omega (arith, is.most)) (omega (arith, im.0)) (sym is.spelled ∙ im.1)

pub asks_workers : (words : List (List ℕ)) (f g : List ℕ) (m n : ℕ) (s t : List ℕ) → AsksToLoad words f m s → AsksToLoad words g n t → m ≡ n
asks_workers words f g m n s t a b = decimal_injective m n (omega (arith, a.most)) (omega (arith, b.most)) (ap (λ w. get_or w 2 []) (sym a.line ∙ b.line))

module _ {F : Type 0} (gives : F → List ℕ → ℕ → Fetched → F → Type 0) (old new : Store) (folder script : List ℕ) (fetchers back : List F) (fetch came : F) where
  pub load_played : (p : Prepared) (ended : Result (List ℕ) Refusal) → new.faults ≡ old.faults → ReadiesFrom old new folder script (Ok p)
      → MatchResult ended (λ text. PlaysBeside gives p.locator p.limit (map (λ o. o.command) p.orders.items) fetchers back fetch came text) (λ refusal. refusal ≡ NoMemory)
      → LoadEnds gives old new folder script fetchers back fetch came ended
  load_played p (Ok text) kept ready plays = (kept, p, ready, plays)
  load_played p (Err refusal) kept ready is = subst (λ (r : Refusal). LoadEnds gives old new folder script fetchers back fetch came (Err r)) (sym is) tt
