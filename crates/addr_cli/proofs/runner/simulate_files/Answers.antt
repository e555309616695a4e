use Rattle.std.proofs.Common.{List, ℕ, Ok, Err, subst}
use Rattle.addr_script.specs.Scripts.{ReadsScript}
use Rattle.addr_script.specs.declared.command.Grammar.TheVariants.{Simulate}
use Rattle.addr_simulate.specs.SimText.{SimulatesScript}
use Rattle.addr_cli.proofs.ScriptLemmas.{script_played, script_refused}
use Rattle.addr_cli.proofs.runner.simulate_files.Goals as goal

pub returns-in_err-text-clause-ends : goal.returns-in_err-text-clause-ends
returns-in_err-text-clause-ends g c =
    let R : List ℕ → Type 0 = λ bytes. ReadsScript Simulate bytes (Err c.in_err-text.field-0.0) in
    script_refused c.args.rows.now c.args.script.now c.in_ok-bytes.bytes c.in_ok-locator.locator (g.D.Depot.now c.args.depot.now) (g.D.Depot.now c.read_rows_file.new.depot) (g.D.Depot.now c.read_file.new.depot)
    c.in_err-text.field-0.0 c.from_residual-in_err-text.result c.in_ok-locator.ensures.read c.in_ok-bytes.ensures.read c.read_rows_file.ensures.same.files (subst R c.as_slice.ensures c.in_err-text.ensures) c.from_residual-in_err-text.ensures.1

pub returns-clause-ends : goal.returns-clause-ends
returns-clause-ends g c =
    let R : List ℕ → Type 0 = λ bytes. SimulatesScript c.in_ok-locator.locator bytes (Ok c.in_ok-text.text) in
    script_played c.args.rows.now c.args.script.now c.in_ok-bytes.bytes c.in_ok-locator.locator (g.D.Depot.now c.args.depot.now) (g.D.Depot.now c.read_rows_file.new.depot)
    c.in_ok-text.text c.in_ok-locator.ensures.read c.in_ok-bytes.ensures.read c.read_rows_file.ensures.same.files (subst R c.as_slice.ensures c.in_ok-text.ensures)
