-- A script that is played, or refused: what `simulate` then ends with.
use Rattle.std.proofs.Common.{◌≡◌, ℕ, List, Option, Some, None, Result, Ok, Err, sym, ap, subst}
use Rattle.std.specs.Prelude.{IfSome}
use Rattle.std.specs.Result.{IsErrAnd}
use Rattle.addr_base.specs.Files.{Store, file_at}
use Rattle.addr_base.specs.declared.files.MemFile.{MemFile}
use Rattle.addr_locate.specs.Rows.{Rows}
use Rattle.addr_script.specs.Scripts.{ReadsScript, Script}
use Rattle.addr_script.specs.declared.command.Grammar.TheVariants.{Simulate}
use Rattle.addr_simulate.specs.SimText.{SimText, SimulatesScript, limit_of}
use Rattle.addr_script.specs.declared.error.ScriptErr.{ScriptErr}
use Rattle.addr_script.specs.declared.error.ScriptErr.TheVariants.{Line, NoMemory}
use Rattle.addr_cli.specs.Outcome.{CommandEnds, HasRows, Simulates}
use Rattle.addr_cli.specs.Refusals.{from_script}
use Rattle.addr_cli.specs.Words.{simulate}
use Rattle.addr_cli.specs.declared.refusal.Refusal.{Refusal}
use Rattle.addr_cli.specs.declared.refusal.Refusal.TheVariants.{BadScript}

module _ (rows script bytes : List ℕ) (r : Rows) (n : ℕ) (bad : ReadsScript Simulate bytes (Err (Line n))) where
  bad_line : (o p : Option (List MemFile)) → p ≡ o → IfSome o (λ files. HasRows files rows r) → IfSome p (λ files. file_at script files ≡ Some bytes)
      → IfSome o (λ files. Simulates files rows script (Err (BadScript n)))
  bad_line None p same has at = tt
  bad_line (Some files) p same has at = (r, has, bytes, subst (λ q. IfSome q (λ fs. file_at script fs ≡ Some bytes)) same at, bad)

is_refusal : (result : Result (List ℕ) Refusal) (refusal : Refusal) → IsErrAnd result (λ e. e ≡ refusal) → result ≡ Err refusal
is_refusal (Ok text) refusal is = absurd is
is_refusal (Err e) refusal is = ap Err is

pub script_refused : (rows script bytes : List ℕ) (r : Rows) (old one new : Store) (e : ScriptErr) (result : Result (List ℕ) Refusal)
    → IfSome old.files (λ files. HasRows files rows r) → IfSome one.files (λ files. file_at script files ≡ Some bytes) → one.files ≡ old.files
    → ReadsScript Simulate bytes (Err e) → IsErrAnd result (λ f. f ≡ from_script e) → CommandEnds (simulate rows script) old new result
script_refused rows script bytes r old one new (Line n) result has at same bad is =
    subst (CommandEnds (simulate rows script) old new) (sym (is_refusal result (from_script (Line n)) is)) (bad_line rows script bytes r n bad old.files one.files same has at)
script_refused rows script bytes r old one new NoMemory result has at same bad is = subst (CommandEnds (simulate rows script) old new) (sym (is_refusal result (from_script NoMemory) is)) tt

-- the text of a script that was read, and played over the rows
pub script_played : (rows script bytes : List ℕ) (r : Rows) (old one : Store) (text : List ℕ) → IfSome old.files (λ files. HasRows files rows r) → IfSome one.files (λ files. file_at script files ≡ Some bytes) → one.files ≡ old.files
    → SimulatesScript r bytes (Ok text) → IfSome old.files (λ files. Simulates files rows script (Ok text))
script_played rows script bytes r old one text has at same (s, read, plays) = at_files old.files one.files same has at
  where
    at_files : (o p : Option (List MemFile)) → p ≡ o → IfSome o (λ files. HasRows files rows r) → IfSome p (λ files. file_at script files ≡ Some bytes) → IfSome o (λ files. Simulates files rows script (Ok text))
    at_files None p e there found = tt
    at_files (Some files) p e there found = (r, s, there, record { bytes = bytes; file = subst (λ q. IfSome q (λ fs. file_at script fs ≡ Some bytes)) e found; read = read }, plays)
