-- The text of a whole run, from its lines and the journal behind them.
use Rattle.std.proofs.Common.{◌≡◌, ℕ, List, ◌++◌, Option, Some, None, IfSome, refl, sym, ap, ◌∙◌, subst}
use Rattle.std.specs.Option.{IsSomeAnd}
use Rattle.addr_locate.specs.Rows.{Rows}
use Rattle.addr_history.specs.declared.event.Event.{Event}
use Rattle.addr_core.specs.Machine.{Machine}
use Rattle.addr_fetch.specs.declared.fetch.Fetched.{Fetched}
use Rattle.addr_script.specs.declared.command.Command.{Command}
use Rattle.addr_live.specs.LiveText.{LiveText, journal_text}
use Rattle.addr_live.specs.Whole.{AreChained, PlaysBeside, RanLive}

pub live_text : (rows : Rows) (limit : ℕ) (cs : List Command) (text whole : List ℕ) (h : List Event) → RanLive rows limit cs text h → whole ≡ text ++ journal_text rows h → LiveText rows limit cs h whole
live_text rows limit cs text whole h r is = record {
  lines = r.lines;
  asked = r.asked;
  are_lines = r.are_lines;
  closing = r.closing;
  close_is = r.close_is;
  live = r.live;
  text_is = is ∙ ap (λ (t : List ℕ). t ++ journal_text rows h) r.text_is;
}

module _ {F I S : Type 0} (bytes : S → List ℕ) (gives : F → List ℕ → ℕ → Fetched → F → Type 0) (rows : Rows) (limit : ℕ) (cs : List Command) (fetchers back : List F) (f g : F) where
  pub printed : (core : Option (Machine I)) (text : Option S) (whole : Option (List ℕ))
      → IfSome text (λ t. IfSome core (λ m. m.rows ≡ rows))
      → IfSome text (λ t. IfSome core (λ m. RanLive rows limit cs (bytes t) m.history))
      → IfSome text (λ t. IfSome core (λ m. AreChained gives rows m.history fetchers back f g))
      → IfSome whole (λ w. IsSomeAnd core (λ m. IsSomeAnd text (λ t. w ≡ bytes t ++ journal_text m.rows m.history)))
      → IfSome whole (λ w. PlaysBeside gives rows limit cs fetchers back f g w)
  printed core text None same live chained is = tt
  printed None text (Some w) same live chained is = absurd is
  printed (Some m) None (Some w) same live chained is = absurd is
  printed (Some m) (Some t) (Some w) same live chained is = record {
    history = m.history;
    printed = live_text rows limit cs (bytes t) w m.history live (is ∙ ap (λ (r : Rows). bytes t ++ journal_text r m.history) same);
    chained = chained;
  }
