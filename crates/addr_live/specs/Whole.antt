-- What a whole run leaves: its text, and each fetcher as it came back.
use Rattle.std.specs.Prelude.{ℕ, ◌≡◌, ◌⊎◌, ◌++◌, List, [], ◌∷◌, map}
use Rattle.std.specs.List.{AllByRecursion, flat_map}
use Rattle.addr_locate.specs.Rows.{Rows}
use Rattle.addr_history.specs.Answers.{close_adds}
use Rattle.addr_base.specs.declared.ids.BundleNo.{BundleNo}
use Rattle.addr_history.specs.declared.event.Event.{Event}
use Rattle.addr_history.specs.declared.event.Event.TheVariants.{Take}
use Rattle.addr_turn.specs.OneHistory.{At}
use Rattle.addr_fetch.specs.declared.fetch.Fetched.{Fetched}
use Rattle.addr_script.specs.declared.command.Command.{Command}
use Rattle.addr_loader.specs.Teams.{Trios, AreDistinct}
use Rattle.addr_live.specs.Steps.{Step, IsLive, IsChained}
use Rattle.addr_live.specs.LiveText.{IsLine, Line, LiveText, lines_text}

-- a script was played to its end on that last history, of which its lines print the text
pub record RanLive (rows : Rows) (limit : ℕ) (commands : List Command) (text : List ℕ) (h : List Event) : Type 0 where
  pub lines : List Line
  pub asked : map (λ l. l.asked) lines ≡ commands
  pub are_lines : AllByRecursion (IsLine rows limit) lines
  pub closing : Step
  pub close_is : closing.added ≡ close_adds closing.before
  pub live : IsLive rows limit (flat_map (λ l. l.steps) lines ++ closing ∷ []) h
  pub text_is : text ≡ lines_text lines

-- who took a bundle has the number 0 or one of these
abbrev pub TakersAre : List Event → List ℕ → Type 0
TakersAre h numbers = (x : List Event) (b : BundleNo) (n : ℕ) (y : List Event) → h ≡ x ++ Take b n ∷ y → (n ≡ 0) ⊎ ((i : ℕ) × At numbers i n)

module _ {F : Type 0} (gives : F → List ℕ → ℕ → Fetched → F → Type 0) (rows : Rows) (h : List Event) where
  -- the script's fetcher has the number 0, and each worker's a number of its own; a chain joins each as it was handed in to it as it came
  -- back, with one answer for each Take of its number, in order
  pub record AreChained (fetchers back : List F) (fetch came : F) : Type 0 where
    pub script : IsChained gives rows h fetch came 0
    pub numbers : List ℕ
    pub workers : Trios (λ n f g. IsChained gives rows h f g n) numbers fetchers back
    pub distinct : AreDistinct (0 ∷ numbers)
    pub takers : TakersAre h numbers

-- what `load` prints of a script, and what its fetchers did, on one history
pub record PlaysBeside {F : Type 0} (gives : F → List ℕ → ℕ → Fetched → F → Type 0) (rows : Rows) (limit : ℕ) (commands : List Command) (fetchers back : List F) (fetch came : F) (text : List ℕ) : Type 0 where
  pub history : List Event
  pub printed : LiveText rows limit commands history text
  pub chained : AreChained gives rows history fetchers back fetch came
