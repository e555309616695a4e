-- What a line does to the script's pass, and what all of them do.
use Rattle.std.specs.Prelude.{ℕ, ◌≡◌, ◌++◌, List, [], ◌∷◌, length, map}
use Rattle.std.specs.List.{AllByRecursion, flat_map}
use Rattle.addr_locate.specs.Rows.{Rows}
use Rattle.addr_history.specs.Answers.{close_adds}
use Rattle.addr_history.specs.declared.event.Event.{Event}
use Rattle.addr_fetch.specs.declared.fetch.Fetched.{Fetched}
use Rattle.addr_script.specs.declared.command.Command.{Command}
use Rattle.addr_script.specs.declared.reply.Reply.{Reply}
use Rattle.addr_loader.specs.Turn.{Knowledge, rows_of, limit_of}
use Rattle.addr_live.specs.Steps.{Step, Played, end_at}
use Rattle.addr_live.specs.LiveText.{IsLine, Line, line_text, lines_text}

module _ {F : Type 0} (gives : F → List ℕ → ℕ → Fetched → F → Type 0) where
  -- the command that the order is has the reply, by calls that the pass then knows
  pub record PlaysLine (v : Knowledge) (f : F) (c : Command) (reply : Reply) (w : Knowledge) (g : F) : Type 0 where
    pub steps : List Step
    pub line : IsLine (rows_of v) (limit_of v) (record { asked = c; reply = reply; steps = steps })
    pub played : Played gives v f steps w g
    pub seen : w.seen ≡ end_at [] steps

  -- and the line of its reply and its place stands behind a text
  pub record PlaysAs (v : Knowledge) (f : F) (c : Command) (before : List ℕ) (w : Knowledge) (g : F) (after : List ℕ) : Type 0 where
    pub reply : Reply
    pub plays : PlaysLine v f c reply w g
    pub written : after ≡ before ++ line_text reply (length w.seen)

  -- the lines of the commands, and the text of their replies and places
  pub record PlaysLines (v : Knowledge) (f : F) (commands : List Command) (text : List ℕ) (w : Knowledge) (g : F) : Type 0 where
    pub lines : List Line
    pub asked : map (λ l. l.asked) lines ≡ commands
    pub are_lines : AllByRecursion (IsLine (rows_of v) (limit_of v)) lines
    pub played : Played gives v f (flat_map (λ l. l.steps) lines) w g
    pub text_is : text ≡ lines_text lines

  -- and a last close behind them
  pub record RanScript (v : Knowledge) (f : F) (commands : List Command) (text : List ℕ) (w : Knowledge) (g : F) : Type 0 where
    pub lines : List Line
    pub asked : map (λ l. l.asked) lines ≡ commands
    pub are_lines : AllByRecursion (IsLine (rows_of v) (limit_of v)) lines
    pub closing : Step
    pub close_is : closing.added ≡ close_adds closing.before
    pub played : Played gives v f (flat_map (λ l. l.steps) lines ++ closing ∷ []) w g
    pub text_is : text ≡ lines_text lines
