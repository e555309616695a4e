-- The orders of a script, line by line.
use Rattle.std.proofs.Common.{◌≡◌, ◌+◌, ◌≤◌, ℕ, List, [], ◌∷◌, ◌++◌, Option, None, Ok, Err, refl, arith, ap, sym, ◌∙◌, subst, map, length, length-append, append_assoc, append-nil}
use Rattle.std.specs.Prelude.{Result, Some, MatchOption}
use Rattle.std.specs.List.{AllByRecursion}
use Rattle.std.proofs.lemmas.List.{map-append, length-map}
use Rattle.addr_fields.specs.Lines.{lines_of}
use Rattle.addr_locate.specs.Rows.{Rows}
use Rattle.addr_script.specs.Commands.{spell, IsOf}
use Rattle.addr_script.specs.ScriptParts.{IsBadNext, IsNextCommand, ReadsFrom}
use Rattle.addr_script.specs.declared.command.Command.{Command}
use Rattle.addr_script.specs.declared.command.Grammar.TheVariants.{Load as Live}
use Rattle.addr_script.specs.declared.error.ScriptErr.{ScriptErr}
use Rattle.addr_script.specs.declared.error.ScriptErr.TheVariants.{Line, NoMemory}
use Rattle.addr_live.specs.declared.order.Order.{Order}
use Rattle.addr_live.specs.Orders.{IsOrder}
use Rattle.addr_live.specs.Prepares.{PreparesAs}
use Rattle.addr_live.specs.declared.reading.Prepared.{Prepared}
use Rattle.addr_script.specs.Scripts.{ReadsScript}
use Rattle.std.specs.Result.{IsErrAnd}

-- the orders so far are those of the lines before the rest
pub record SoFar (rows : Rows) (bytes : List ℕ) (first : ℕ) (orders : List Order) (rest : List ℕ) (number : ℕ) : Type 0 where
  pub read : lines_of bytes ≡ map spell (map (λ (o : Order). o.command) orders) ++ lines_of rest
  pub each : AllByRecursion (IsOf Live) (map (λ (o : Order). o.command) orders)
  pub are : AllByRecursion (IsOrder rows) orders
  pub place : number ≡ first + length orders
  pub few : number ≤ 100001

pub none_yet : (rows : Rows) (bytes : List ℕ) (first : ℕ) (orders : List Order) → orders ≡ [] → first ≤ 100001 → SoFar rows bytes first orders bytes first
none_yet rows bytes first orders empty few = subst (λ (os : List Order). SoFar rows bytes first os bytes first) (sym empty) (record { read = refl; each = tt; are = tt; place = omega arith; few = few })

each_more : {A : Type 0} (P : A → Type 0) (xs : List A) (x : A) → AllByRecursion P xs → P x → AllByRecursion P (xs ++ x ∷ [])
each_more P [] x each is = (is, tt)
each_more P (y ∷ xs) x each is = (each.0, each_more P xs x each.1 is)

pub one_more : (rows : Rows) (bytes : List ℕ) (first : ℕ) (orders more : List Order) (rest after : List ℕ) (number : ℕ) (command : Command) (order : Order)
    → SoFar rows bytes first orders rest number → IsNextCommand Live rest number command after → order.command ≡ command → IsOrder rows order → more ≡ orders ++ order ∷ [] → SoFar rows bytes first more after (number + 1)
one_more rows bytes first orders more rest after number command order so next same is pushed = subst (λ (os : List Order). SoFar rows bytes first os after (number + 1)) (sym pushed) (record {
  read = so.read ∙ (ap (λ (ls : List (List ℕ)). map spell (map (λ (o : Order). o.command) orders) ++ ls) (next.line ∙ ap (λ (c : Command). spell c ∷ lines_of after) (sym same)) ∙ (sym (append_assoc (map spell (map (λ (o : Order). o.command) orders)) (spell order.command ∷ []) (lines_of after))
      ∙ ap (λ (ls : List (List ℕ)). ls ++ lines_of after) (sym (ap (map spell) (map-append (λ (o : Order). o.command) orders (order ∷ [])) ∙ map-append spell (map (λ (o : Order). o.command) orders) (order.command ∷ [])))));
  each = subst (AllByRecursion (IsOf Live)) (sym (map-append (λ (o : Order). o.command) orders (order ∷ []))) (each_more (IsOf Live) (map (λ (o : Order). o.command) orders) order.command so.each is.0);
  are = each_more (IsOrder rows) orders order so.are is;
  place = omega (arith, so.place, length-append orders (order ∷ []));
  few = omega (arith, next.few);
})

pub all_read : (rows : Rows) (bytes : List ℕ) (first : ℕ) (orders : List Order) (rest : List ℕ) (number : ℕ) → SoFar rows bytes first orders rest number → rest ≡ [] → ReadsFrom Live bytes first (Ok (map (λ (o : Order). o.command) orders))
all_read rows bytes first orders rest number so none =
    let counted = length-map orders (λ (o : Order). o.command) in (
      record { spelled = so.read ∙ (ap (λ (b : List ℕ). map spell (map (λ (o : Order). o.command) orders) ++ lines_of b) none ∙ append-nil (map spell (map (λ (o : Order). o.command) orders))); each = so.each },
      omega (arith, so.place, so.few, counted),
    )

pub none_read : (rows : Rows) (bytes : List ℕ) (first : ℕ) (orders : List Order) (rest : List ℕ) (number : ℕ) (e : ScriptErr) → SoFar rows bytes first orders rest number → IsBadNext Live rest number e → ReadsFrom Live bytes first (Err e)
none_read rows bytes first orders rest number (Line bad) so (same, none) =
    let counted = length-map orders (λ (o : Order). o.command) in record {
      commands = map (λ (o : Order). o.command) orders;
      line = none.line;
      after = none.after;
      split = so.read ∙ ap (λ (ls : List (List ℕ)). map spell (map (λ (o : Order). o.command) orders) ++ ls) none.split;
      each = so.each;
      place = omega (arith, same, so.place, counted);
      wrong = λ few. none.wrong (omega (arith, same, few));
      few = omega (arith, same, so.few);
    }
none_read rows bytes first orders rest number NoMemory so bad = tt

-- what was found
pub found_some : {A : Type 0} (N : Type 0) (P : A → Type 0) (found : Option A) (a : A) → found ≡ Some a → MatchOption found N P → P a
found_some N P found a e told = subst (λ f. MatchOption f N P) e told

pub found_none : {A : Type 0} (N : Type 0) (P : A → Type 0) (found : Option A) → found ≡ None → MatchOption found N P → N
found_none N P found e told = subst (λ f. MatchOption f N P) e told

pub prepared_err : (rows : Rows) (bytes : List ℕ) (e : ScriptErr) (result : Result Prepared ScriptErr) → IsErrAnd result (λ f. f ≡ e) → ReadsScript Live bytes (Err e) → PreparesAs rows bytes result
prepared_err rows bytes e (Ok p) is bad = absurd is
prepared_err rows bytes e (Err f) is bad = subst (λ (g : ScriptErr). ReadsScript Live bytes (Err g)) (sym is) bad
