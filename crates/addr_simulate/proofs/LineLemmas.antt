-- A script that is played line by line as it is read: what was read so far, and what was written of it.
use Rattle.std.proofs.Common.{◌≡◌, ◌+◌, ◌≤◌, ℕ, List, [], ◌∷◌, ◌++◌, Option, None, Ok, Err, refl, arith, ap, sym, ◌∙◌, subst, map, length, length-append, append_assoc, append-nil}
use Rattle.std.specs.Prelude.{Result, Some, MatchOption, unwrap_or}
use Rattle.std.specs.List.{AllByRecursion}
use Rattle.std.specs.Result.{IsErrAnd}
use Rattle.std.proofs.lemmas.List.{map-append}
use Rattle.addr_base.specs.declared.var.Var.{Var}
use Rattle.addr_fields.specs.Lines.{lines_of}
use Rattle.addr_locate.specs.Rows.{Rows}
use Rattle.addr_history.specs.declared.event.Event.{Event}
use Rattle.addr_core.specs.Machine.{Machine}
use Rattle.addr_script.specs.Commands.{spell, IsOf}
use Rattle.addr_script.specs.ScriptParts.{BeginsScript, IsBadNext, IsNextCommand}
use Rattle.addr_script.specs.declared.command.Command.{Command}
use Rattle.addr_script.specs.declared.command.Grammar.TheVariants.{Simulate}
use Rattle.addr_script.specs.declared.error.ScriptErr.{ScriptErr}
use Rattle.addr_script.specs.declared.error.ScriptErr.TheVariants.{Line, NoMemory}
use Rattle.addr_simulate.specs.SimText.{PlaysAs, SimText, SimulatesScript}
use Rattle.addr_simulate.proofs.PlayLemmas.{steady_line, text_step}

-- the commands so far are those of the lines before the rest, and the text so far is what is printed of them
pub record SoFar {I : Type 0} (rows : Rows) (limit : ℕ) (bytes : List ℕ) (first : ℕ) (core : Machine I) (text rest : List ℕ) (number : ℕ) : Type 0 where
  pub commands : List Command
  pub read : lines_of bytes ≡ map spell commands ++ lines_of rest
  pub each : AllByRecursion (IsOf Simulate) commands
  pub place : number ≡ first + length commands
  pub few : number ≤ 100001
  pub whole : (later : List Command) (more : List ℕ) → SimText rows limit core.history later more → SimText rows limit [] (commands ++ later) (text ++ more)
  pub rows_stay : core.rows ≡ rows
  pub limit_stays : core.limit ≡ limit

pub none_yet : {I : Type 0} (rows : Rows) (limit : ℕ) (bytes : List ℕ) (first : ℕ) (core : Machine I) → first ≤ 100001 → core.history ≡ [] → core.rows ≡ rows → core.limit ≡ limit → SoFar rows limit bytes first core [] bytes first
none_yet rows limit bytes first core few empty rows_stay limit_stays = record {
  commands = [];
  read = refl;
  each = tt;
  place = omega arith;
  few = few;
  whole = λ later more text. subst (λ (h : List Event). SimText rows limit h later more) empty text;
  rows_stay = rows_stay;
  limit_stays = limit_stays;
}

each_more : (commands : List Command) (command : Command) → AllByRecursion (IsOf Simulate) commands → IsOf Simulate command → AllByRecursion (IsOf Simulate) (commands ++ command ∷ [])
each_more [] command each is = (is, tt)
each_more (c ∷ commands) command each is = (each.0, each_more commands command each.1 is)

pub one_more_line : {I : Type 0} (rows : Rows) (limit : ℕ) (bytes : List ℕ) (first : ℕ) (core new : Machine I) (text text_after rest after : List ℕ) (number : ℕ) (command : Command)
    → SoFar rows limit bytes first core text rest number → IsNextCommand Simulate rest number command after → PlaysAs core command text new text_after
    → SoFar rows limit bytes first new text_after after (number + 1)
one_more_line rows limit bytes first core new text text_after rest after number command so next (reply, plays, written) = record {
  commands = so.commands ++ command ∷ [];
  read = so.read ∙ ap (λ (ls : List (List ℕ)). map spell so.commands ++ ls) next.line ∙ sym (append_assoc (map spell so.commands) (spell command ∷ []) (lines_of after)) ∙ ap (λ (ls : List (List ℕ)). ls ++ lines_of after) (sym (map-append spell so.commands (command ∷ [])));
  each = each_more so.commands command so.each next.is;
  place = omega (arith, so.place, length-append so.commands (command ∷ []));
  few = omega (arith, next.few);
  whole = λ later more tail. subst (λ (cs : List Command). SimText rows limit [] cs (text_after ++ more)) (sym (append_assoc so.commands (command ∷ []) later))
      (text_step rows limit core.history new.history (command ∷ later) later command reply text text_after (so.commands ++ command ∷ later) (so.whole (command ∷ later)) refl (steady_line rows limit core new command reply so.rows_stay so.limit_stays plays) written more tail);
  rows_stay = plays.rows ∙ so.rows_stay;
  limit_stays = plays.limit ∙ so.limit_stays;
}

module _ {I : Type 0} (rows : Rows) (script bytes : List ℕ) (limit : Option ℕ) (vars : List Var) (first : ℕ) (begins : BeginsScript script limit vars bytes first) where
  pub all_played : (core : Machine I) (text rest : List ℕ) (number : ℕ) → SoFar rows (unwrap_or limit 100000) bytes first core text rest number → rest ≡ [] → SimulatesScript rows script (Ok text)
  all_played core text rest number so none =
      let nothing : SimText rows (unwrap_or limit 100000) core.history [] [] = refl in
      let lines : lines_of bytes ≡ map spell so.commands = so.read ∙ ap (λ (b : List ℕ). map spell so.commands ++ lines_of b) none ∙ append-nil (map spell so.commands) in (
        record { limit = limit; vars = vars; commands = so.commands },
        begins Simulate (Ok so.commands) (record { spelled = lines; each = so.each }, omega (arith, so.place, so.few)),
        subst (λ (cs : List Command). SimText rows (unwrap_or limit 100000) [] cs text) (append-nil so.commands) (subst (SimText rows (unwrap_or limit 100000) [] (so.commands ++ [])) (append-nil text) (so.whole [] [] nothing)),
      )

  pub none_played : (core : Machine I) (text rest : List ℕ) (number : ℕ) (e : ScriptErr) → SoFar rows (unwrap_or limit 100000) bytes first core text rest number → IsBadNext Simulate rest number e → SimulatesScript rows script (Err e)
  none_played core text rest number (Line bad) so (same, none) = begins Simulate (Err (Line bad)) (record {
    commands = so.commands;
    line = none.line;
    after = none.after;
    split = so.read ∙ ap (λ (ls : List (List ℕ)). map spell so.commands ++ ls) none.split;
    each = so.each;
    place = same ∙ so.place;
    wrong = λ few. none.wrong (omega (arith, same, few));
    few = omega (arith, same, so.few);
  })
  none_played core text rest number NoMemory so bad = begins Simulate (Err NoMemory) tt

-- what was found, and what was told of an error
pub found_some : {A : Type 0} (N : Type 0) (P : A → Type 0) (found : Option A) (a : A) → found ≡ Some a → MatchOption found N P → P a
found_some N P found a e told = subst (λ f. MatchOption f N P) e told

pub found_none : {A : Type 0} (N : Type 0) (P : A → Type 0) (found : Option A) → found ≡ None → MatchOption found N P → N
found_none N P found e told = subst (λ f. MatchOption f N P) e told

pub told_as : (rows : Rows) (script : List ℕ) (e : ScriptErr) (result : Result (List ℕ) ScriptErr) → IsErrAnd result (λ f. f ≡ e) → SimulatesScript rows script (Err e) → SimulatesScript rows script result
told_as rows script e (Ok text) is told = absurd is
told_as rows script e (Err f) is told = subst (λ (g : ScriptErr). SimulatesScript rows script (Err g)) (sym is) told
