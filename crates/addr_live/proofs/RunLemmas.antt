-- Lines one after the other, and a close behind them.
use Rattle.std.proofs.Common.{◌≡◌, ℕ, List, [], ◌∷◌, ◌++◌, map, length, refl, sym, ap, ap₂, ◌∙◌, subst, append_assoc, append-nil, Option, Some, None, IfSome, Ok, Err, IfOk}
use Rattle.std.specs.Prelude.{Result}
use Rattle.std.specs.List.{AllByRecursion, flat_map}
use Rattle.std.proofs.lemmas.List.{map-append}
use Rattle.addr_locate.specs.Rows.{Rows}
use Rattle.addr_history.specs.Events.{number_of}
use Rattle.addr_history.specs.Answers.{close_adds}
use Rattle.addr_history.specs.declared.event.Event.{Event}
use Rattle.addr_fetch.specs.declared.fetch.Fetched.{Fetched}
use Rattle.addr_script.specs.declared.command.Command.{Command}
use Rattle.addr_script.specs.declared.reply.Reply.{Reply}
use Rattle.addr_turn.specs.OneHistory.{own}
use Rattle.addr_loader.specs.Turn.{Knowledge, Turn, rows_of, limit_of}
use Rattle.addr_live.specs.declared.order.Order.{Order}
use Rattle.addr_live.specs.Orders.{IsOrder}
use Rattle.addr_live.specs.Steps.{Step, IsScripts, Played}
use Rattle.addr_live.specs.LiveText.{IsLine, Line, line_text, lines_text, place_of}
use Rattle.addr_live.specs.Plays.{PlaysAs, PlaysLine, PlaysLines, RanScript}
use Rattle.addr_live.proofs.Lines.{step_turn}
use Rattle.addr_live.proofs.PlayLemmas.{added_close}
use Rattle.addr_live.proofs.Scripts.{each_join, played_join, played_none, played_one, played_scripts}

flat_more : (lines : List Line) (line : Line) → flat_map (λ (l : Line). l.steps) (lines ++ line ∷ []) ≡ flat_map (λ (l : Line). l.steps) lines ++ line.steps
flat_more [] line = append-nil line.steps
flat_more (l ∷ lines) line = ap (λ (z : List Step). l.steps ++ z) (flat_more lines line) ∙ sym (append_assoc l.steps (flat_map (λ (x : Line). x.steps) lines) line.steps)

text_more : (lines : List Line) (line : Line) → lines_text (lines ++ line ∷ []) ≡ lines_text lines ++ line_text line.reply (place_of line)
text_more [] line = append-nil (line_text line.reply (place_of line))
text_more (l ∷ lines) line = ap (λ (z : List ℕ). line_text l.reply (place_of l) ++ z) (text_more lines line) ∙ sym (append_assoc (line_text l.reply (place_of l)) (lines_text lines) (line_text line.reply (place_of line)))

module _ {F : Type 0} (gives : F → List ℕ → ℕ → Fetched → F → Type 0) where
  pub lines_none : (v : Knowledge) (f : F) (text : List ℕ) → IsScripts v → text ≡ [] → PlaysLines gives v f [] text v f
  lines_none v f text scripts empty = record { lines = []; asked = refl; are_lines = tt; played = played_none gives v f scripts.1; text_is = empty }

  pub lines_scripts : (v w : Knowledge) (f g : F) (cs : List Command) (text : List ℕ) → IsScripts v → PlaysLines gives v f cs text w g → IsScripts w
  lines_scripts v w f g cs text scripts p = played_scripts gives v w f g (flat_map (λ (l : Line). l.steps) p.lines) scripts p.played

  pub lines_rows : (v w : Knowledge) (f g : F) (cs : List Command) (text : List ℕ) → PlaysLines gives v f cs text w g → (rows_of w ≡ rows_of v) × (limit_of w ≡ limit_of v)
  lines_rows v w f g cs text p = (ap (λ (z : Knowledge). rows_of z) p.played.same, ap (λ (z : Knowledge). limit_of z) p.played.same)

  pub lines_more : (v w u : Knowledge) (f m g : F) (cs : List Command) (c : Command) (text after : List ℕ) → PlaysLines gives v f cs text w m → PlaysAs gives w m c text u g after → PlaysLines gives v f (cs ++ c ∷ []) after u g
  lines_more v w u f m g cs c text after p a =
      let line : Line = record { asked = c; reply = a.reply; steps = a.plays.steps } in
      let same = lines_rows v w f m cs text p in
      let is : IsLine (rows_of v) (limit_of v) line = subst (λ (z : Rows × ℕ). IsLine z.0 z.1 line) (λ i. (same.0 i, same.1 i)) a.plays.line in
      let steps = flat_map (λ (l : Line). l.steps) p.lines in
      record {
        lines = p.lines ++ line ∷ [];
        asked = map-append (λ (l : Line). l.asked) p.lines (line ∷ []) ∙ ap (λ (z : List Command). z ++ c ∷ []) p.asked;
        are_lines = each_join (IsLine (rows_of v) (limit_of v)) p.lines (line ∷ []) p.are_lines (is, tt);
        played = subst (λ (ss : List Step). Played gives v f ss u g) (sym (flat_more p.lines line)) (played_join gives v w u f m g steps a.plays.steps p.played a.plays.played);
        text_is = a.written ∙ (ap₂ (λ (x y : List ℕ). x ++ y) p.text_is (ap (λ (h : List Event). line_text a.reply (length h)) a.plays.seen) ∙ sym (text_more p.lines line));
      }

  pub ran_of : (v w u : Knowledge) (f m : F) (cs : List Command) (text : List ℕ) (b : List Event) → IsScripts v → PlaysLines gives v f cs text w m → Turn w u b (close_adds b) → RanScript gives v f cs text u m
  ran_of v w u f m cs text b scripts p t =
      let s : Step = record { before = b; added = close_adds b } in
      let plays = step_turn gives w u m b (close_adds b) (lines_scripts v w f m cs text scripts p) (added_close b) t in
      record {
        lines = p.lines;
        asked = p.asked;
        are_lines = p.are_lines;
        closing = s;
        close_is = refl;
        played = played_join gives v w u f m m (flat_map (λ (l : Line). l.steps) p.lines) (s ∷ []) p.played (played_one gives w u m m s plays);
        text_is = p.text_is;
      }

-- of a result, where it is a value
pub if_some_from : {A E : Type 0} (r : Result A E) (o : Option A) (P Q : A → Type 0) → IfOk r P → ((a : A) → o ≡ Some a → r ≡ Ok a) → ((a : A) → P a → Q a) → IfSome o Q
if_some_from r None P Q given value makes = tt
if_some_from r (Some a) P Q given value makes = makes a (subst (λ (z : Result _ _). IfOk z P) (value a refl) given)
