-- From the lines that were read to the script, and from the line that wasn't to the first bad line.
use Rattle.std.proofs.Common.{◌≡◌, ◌==◌, ◌+◌, ◌-◌, ◌≤◌, ℕ, List, [], ◌∷◌, ◌++◌, true, false, refl, arith, ap, sym, ◌∙◌, map, Option, Some, None, IfSome, Ok, Err, take, drop, length, length-append, append_assoc, codes, decimal}
use Rattle.std.specs.List.{AllByRecursion}
use Rattle.std.proofs.lemmas.Bool.{false≢true}
use Rattle.std.proofs.lemmas.List.{length-map, take_at, take-append-drop, length-take-le}
use Rattle.addr_base.specs.declared.var.Var.{Var}
use Rattle.addr_script.specs.Commands.{set_line, spell, IsNone, IsOf, IsSet, ReadsSet}
use Rattle.addr_fields.specs.Lines.{lines_of}
use Rattle.addr_script.specs.ScriptParts.{AreCommands, BeginsScript, IsBadFrom, HasLimit, HasSets, ReadsFrom}
use Rattle.addr_script.specs.Scripts.{body_lines, IsScript, IsFirstBad, IsLimit, ReadsScript, limit_lines}
use Rattle.addr_script.specs.declared.error.ScriptErr.{ScriptErr}
use Rattle.addr_script.specs.declared.error.ScriptErr.TheVariants.{Line, NoMemory}
use Rattle.addr_script.specs.declared.command.Command.{Command}
use Rattle.addr_script.specs.declared.command.Grammar.{Grammar}
use Rattle.addr_script.specs.declared.command.Command.TheVariants.{Load, Acquire, Release, Status, Wait, References, Read, ReadAll, Count, Close, Take, Done, Fail}
use Rattle.addr_script.proofs.KeyLemmas.{image_at}

-- no command and no line that sets a variable is spelled as a limit, and no command as such a line
no_limit_line : (command : Command) (n : ℕ) → spell command ≡ codes "limit " ++ decimal n → ⊥
no_limit_line (Load caller all mode kind keys) n e = let same : 111 ≡ 105 = cc in let wrong : false ≡ true = ap (λ x. x == 105) same in false≢true wrong
no_limit_line (Acquire caller op) n e = let same : 97 ≡ 108 = cc in let wrong : false ≡ true = ap (λ x. x == 108) same in false≢true wrong
no_limit_line (Release caller op) n e = let same : 114 ≡ 108 = cc in let wrong : false ≡ true = ap (λ x. x == 108) same in false≢true wrong
no_limit_line (Status op) n e = let same : 115 ≡ 108 = cc in let wrong : false ≡ true = ap (λ x. x == 108) same in false≢true wrong
no_limit_line (Wait op) n e = let same : 119 ≡ 108 = cc in let wrong : false ≡ true = ap (λ x. x == 108) same in false≢true wrong
no_limit_line (References op) n e = let same : 114 ≡ 108 = cc in let wrong : false ≡ true = ap (λ x. x == 108) same in false≢true wrong
no_limit_line (Read op i) n e = let same : 114 ≡ 108 = cc in let wrong : false ≡ true = ap (λ x. x == 108) same in false≢true wrong
no_limit_line (ReadAll op i) n e = let same : 114 ≡ 108 = cc in let wrong : false ≡ true = ap (λ x. x == 108) same in false≢true wrong
no_limit_line (Count b) n e = let same : 99 ≡ 108 = cc in let wrong : false ≡ true = ap (λ x. x == 108) same in false≢true wrong
no_limit_line Close n e = let same : 99 ≡ 108 = cc in let wrong : false ≡ true = ap (λ x. x == 108) same in false≢true wrong
no_limit_line (Take worker) n e = let same : 116 ≡ 108 = cc in let wrong : false ≡ true = ap (λ x. x == 108) same in false≢true wrong
no_limit_line (Done worker b) n e = let same : 100 ≡ 108 = cc in let wrong : false ≡ true = ap (λ x. x == 108) same in false≢true wrong
no_limit_line (Fail worker b cause) n e = let same : 102 ≡ 108 = cc in let wrong : false ≡ true = ap (λ x. x == 108) same in false≢true wrong

no_limit_set : (v : Var) (n : ℕ) → set_line v ≡ codes "limit " ++ decimal n → ⊥
no_limit_set v n e = let same : 115 ≡ 108 = cc in let wrong : false ≡ true = ap (λ x. x == 108) same in false≢true wrong

pub no_set_line : (command : Command) (v : Var) → spell command ≡ set_line v → ⊥
no_set_line (Load caller all mode kind keys) v e = let same : 108 ≡ 115 = cc in let wrong : false ≡ true = ap (λ x. x == 115) same in false≢true wrong
no_set_line (Acquire caller op) v e = let same : 97 ≡ 115 = cc in let wrong : false ≡ true = ap (λ x. x == 115) same in false≢true wrong
no_set_line (Release caller op) v e = let same : 114 ≡ 115 = cc in let wrong : false ≡ true = ap (λ x. x == 115) same in false≢true wrong
no_set_line (Status op) v e = let same : 116 ≡ 101 = cc in let wrong : false ≡ true = ap (λ x. x == 101) same in false≢true wrong
no_set_line (Wait op) v e = let same : 119 ≡ 115 = cc in let wrong : false ≡ true = ap (λ x. x == 115) same in false≢true wrong
no_set_line (References op) v e = let same : 114 ≡ 115 = cc in let wrong : false ≡ true = ap (λ x. x == 115) same in false≢true wrong
no_set_line (Read op i) v e = let same : 114 ≡ 115 = cc in let wrong : false ≡ true = ap (λ x. x == 115) same in false≢true wrong
no_set_line (ReadAll op i) v e = let same : 114 ≡ 115 = cc in let wrong : false ≡ true = ap (λ x. x == 115) same in false≢true wrong
no_set_line (Count b) v e = let same : 99 ≡ 115 = cc in let wrong : false ≡ true = ap (λ x. x == 115) same in false≢true wrong
no_set_line Close v e = let same : 99 ≡ 115 = cc in let wrong : false ≡ true = ap (λ x. x == 115) same in false≢true wrong
no_set_line (Take worker) v e = let same : 116 ≡ 115 = cc in let wrong : false ≡ true = ap (λ x. x == 115) same in false≢true wrong
no_set_line (Done worker b) v e = let same : 100 ≡ 115 = cc in let wrong : false ≡ true = ap (λ x. x == 115) same in false≢true wrong
no_set_line (Fail worker b cause) v e = let same : 102 ≡ 115 = cc in let wrong : false ≡ true = ap (λ x. x == 115) same in false≢true wrong

pub no_limit_first : (vars : List Var) (commands : List Command) (n : ℕ) (more : List (List ℕ)) → body_lines vars commands ≡ limit_lines (Some n) ++ more → ⊥
no_limit_first [] [] n more e = absurd (cc)
no_limit_first [] (command ∷ commands) n more e = no_limit_line command n (cc)
no_limit_first (v ∷ vars) commands n more e = no_limit_set v n (cc)

-- lines that a line follows that is none's are no script's
no_body : (g : Grammar) → (vars vars' : List Var) (commands commands' : List Command) (line : List ℕ) → AllByRecursion IsSet vars' → AllByRecursion (IsOf g) commands' → IsNone g line → (commands ≡ [] → ReadsSet line None) → body_lines vars' commands' ≡ body_lines vars commands ++ line ∷ [] → ⊥
no_body g (v ∷ vars) (w ∷ vars') commands commands' line sets each none first e = no_body g vars vars' commands commands' line sets.1 each none first (cc)
no_body g (v ∷ vars) [] commands [] line sets each none first e = cc
no_body g (v ∷ vars) [] commands (c ∷ commands') line sets each none first e = no_set_line c v (cc)
no_body g [] (w ∷ vars') [] commands' line sets each none first e = first refl w sets.0 (cc)
no_body g [] (w ∷ vars') (c ∷ commands) commands' line sets each none first e = no_set_line c w (cc)
no_body g [] [] commands commands' line sets each none first e =
    let found = image_at spell (IsOf g) commands' each (map spell commands) line [] e in
    none found.0 found.1 found.2

-- two ways to begin the same lines name the same lines behind the limit
same_rest : (ours theirs : Option ℕ) (lines rest read : List (List ℕ)) (vars : List Var) (commands : List Command) (k : ℕ) → HasLimit lines ours rest → IfSome theirs IsLimit → take k lines ≡ limit_lines ours ++ read → take k lines ≡ limit_lines theirs ++ body_lines vars commands → body_lines vars commands ≡ read
same_rest None None lines rest read vars commands k has small a b = sym b ∙ a
same_rest (Some m) None lines rest read vars commands k has small a b = absurd (no_limit_first vars commands m read (sym b ∙ a))
same_rest (Some m) (Some n) lines rest read vars commands k has small a b = cc
same_rest None (Some n) lines rest read vars commands k has small a b = absurd (has.none refl n (body_lines vars commands ++ drop k lines) small (sym (take-append-drop k lines) ∙ ap (λ t. t ++ drop k lines) b))

-- what stands before the bad line, and with it
placed : (lines ahead limits read : List (List ℕ)) (line : List ℕ) (after : List (List ℕ)) (n : ℕ) → ahead ≡ limits ++ read → lines ≡ ahead ++ line ∷ after → n ≡ 1 + length ahead → (n ≤ length lines) × (take (n - 1) lines ≡ ahead) × (take n lines ≡ limits ++ (read ++ line ∷ []))
placed lines ahead limits read line after n parts split place =
    let counted : length lines ≡ length ahead + (1 + length after) = omega (arith, ap length split, length-append ahead (line ∷ after)) in
    let before : take (n - 1) lines ≡ ahead = ap (take (n - 1)) split ∙ take_at ahead (line ∷ after) (n - 1) (omega arith) in
    let again : lines ≡ (ahead ++ line ∷ []) ++ after = split ∙ sym (append_assoc ahead (line ∷ []) after) in
    let long : length (ahead ++ line ∷ []) ≡ n = omega (arith, length-append ahead (line ∷ [])) in
    let upto : take n lines ≡ ahead ++ line ∷ [] = ap (take n) again ∙ take_at (ahead ++ line ∷ []) after n long in
    (omega arith, before, upto ∙ ap (λ a. a ++ line ∷ []) parts ∙ append_assoc limits read (line ∷ []))

body_length : (vars : List Var) (commands : List Command) → length (body_lines vars commands) ≡ length vars + length commands
body_length vars commands = omega (arith, length-append (map set_line vars) (map spell commands), length-map vars set_line, length-map commands spell)

pub first_bad : (g : Grammar) → (lines rest more : List (List ℕ)) (limit : Option ℕ) (vars : List Var) (next n : ℕ) → HasLimit lines limit rest → HasSets rest (1 + length (limit_lines limit)) vars more next → IsBadFrom g more next n → IsFirstBad g lines n
first_bad g lines rest more limit vars next n has sets wrong =
    let body = body_lines vars wrong.commands in
    let ahead = limit_lines limit ++ body in
    let behind : rest ≡ body ++ wrong.line ∷ wrong.after = sets.whole ∙ ap (λ r. map set_line vars ++ r) wrong.split ∙ sym (append_assoc (map set_line vars) (map spell wrong.commands) (wrong.line ∷ wrong.after)) in
    let split : lines ≡ ahead ++ wrong.line ∷ wrong.after = has.whole ∙ ap (λ r. limit_lines limit ++ r) behind ∙ sym (append_assoc (limit_lines limit) body (wrong.line ∷ wrong.after)) in
    let long : length ahead ≡ length (limit_lines limit) + (length vars + length wrong.commands) = length-append (limit_lines limit) body ∙ ap (λ k. length (limit_lines limit) + k) (body_length vars wrong.commands) in
    let at_place : n ≡ 1 + length ahead = omega (arith, wrong.place, sets.place, long) in
    let there = placed lines ahead (limit_lines limit) body wrong.line wrong.after n refl split at_place in
    record {
      there = there.0;
      before = (record { limit = limit; vars = vars; commands = wrong.commands }, record { spelled = there.1; limit = has.small; vars = sets.each; commands = wrong.each; few = rw there.1 (omega (arith, wrong.few, at_place)) });
      bad = λ script is.
          let counted : length (take n lines) ≡ n = length-take-le n lines there.0 in
          let few : n ≤ 100000 = omega (arith, is.few, counted) in
          let same = same_rest limit script.limit lines rest (body ++ wrong.line ∷ []) script.vars script.commands n has is.limit there.2 is.spelled in
          no_body g vars script.vars wrong.commands script.commands wrong.line is.vars is.commands (wrong.wrong few) (no_set few) same;
    }
  where
    no_set : n ≤ 100000 → wrong.commands ≡ [] → ReadsSet wrong.line None
    no_set few none v is e =
        let early : next ≤ 100000 = omega (arith, wrong.place, ap length none, few) in
        sets.none early v wrong.after is (wrong.split ∙ ap (λ (cs : List Command). map spell cs ++ wrong.line ∷ wrong.after) none ∙ ap (λ l. l ∷ wrong.after) e)

pub script_read : (g : Grammar) → (lines rest more : List (List ℕ)) (limit : Option ℕ) (vars : List Var) (next : ℕ) (commands : List Command) → HasLimit lines limit rest → HasSets rest (1 + length (limit_lines limit)) vars more next → AreCommands g more commands → next + length commands ≤ 100001 → IsScript g lines (record { limit = limit; vars = vars; commands = commands })
script_read g lines rest more limit vars next commands has sets are small =
    let whole : lines ≡ limit_lines limit ++ body_lines vars commands = has.whole ∙ ap (λ r. limit_lines limit ++ r) (sets.whole ∙ ap (λ r. map set_line vars ++ r) are.spelled) in
    let long : length lines ≡ length (limit_lines limit) + (length vars + length commands) = ap length whole ∙ length-append (limit_lines limit) (body_lines vars commands) ∙ ap (λ k. length (limit_lines limit) + k) (body_length vars commands) in
    record { spelled = whole; limit = has.small; vars = sets.each; commands = are.each; few = omega (arith, long, sets.place, small) }

pub script_err : (g : Grammar) → (bytes rest more : List ℕ) (limit : Option ℕ) (vars : List Var) (next : ℕ) (e : ScriptErr) → HasLimit (lines_of bytes) limit (lines_of rest) → HasSets (lines_of rest) (1 + length (limit_lines limit)) vars (lines_of more) next → ReadsFrom g more next (Err e) → ReadsScript g bytes (Err e)
script_err g bytes rest more limit vars next (Line n) has sets wrong = first_bad g (lines_of bytes) (lines_of rest) (lines_of more) limit vars next n has sets wrong
script_err g bytes rest more limit vars next NoMemory has sets wrong = tt

-- a head, and whatever is read behind it
pub begins : (bytes rest more : List ℕ) (limit : Option ℕ) (vars : List Var) (next : ℕ) → HasLimit (lines_of bytes) limit (lines_of rest) → HasSets (lines_of rest) (1 + length (limit_lines limit)) vars (lines_of more) next → BeginsScript bytes limit vars more next
begins bytes rest more limit vars next has sets g (Ok commands) read = script_read g (lines_of bytes) (lines_of rest) (lines_of more) limit vars next commands has sets read.0 read.1
begins bytes rest more limit vars next has sets g (Err e) read = script_err g bytes rest more limit vars next e has sets read
