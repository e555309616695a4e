use Rattle.std.proofs.Common.{◌∙◌, ap, sym, subst, List, ℕ, Ok, string_bytes}
use Rattle.std.specs.Prelude.{unwrap_or}
use Rattle.addr_script.specs.declared.error.ScriptErr.TheVariants.{NoMemory}
use Rattle.addr_simulate.specs.SimText.{SimulatesScript}
use Rattle.addr_simulate.proofs.LineLemmas.{SoFar, all_played, found_none, found_some, none_played, none_yet, one_more_line, told_as}
use Rattle.addr_simulate.proofs.simulator.simulate.Goals as goal

pub loop-text-init : goal.loop-text-init
loop-text-init c =
    let head = c.in_ok-head.head in
    let made = c.in_ok-core.ensures in
    subst (λ (text : List ℕ). SoFar c.args.locator (unwrap_or head.limit 100000) head.rest.now head.next c.in_ok-core.core text head.rest.now head.next) (sym c.new-text.ensures.bytes)
    (none_yet c.args.locator (unwrap_or head.limit 100000) head.rest.now head.next c.in_ok-core.core c.in_ok-head.ensures.few (ap (λ m. m.history) made) (ap (λ m. m.rows) made) (ap (λ m. m.limit) made ∙ c.limit_of.ensures.is))

pub returns-in_err-command : goal.returns-in_err-command
returns-in_err-command c =
    let head = c.in_ok-head.head in
    told_as c.args.locator c.args.script.now c.in_err-command.field-0.0 c.from_residual-in_err-command.result c.from_residual-in_err-command.ensures.1
    (none_played c.args.locator c.args.script.now head.rest.now head.limit head.vars head.next c.in_ok-head.ensures.begins c.loop-text.core (string_bytes c.loop-text.text) c.loop-text.rest.now c.loop-text.number c.in_err-command.field-0.0 c.loop-text.invariant c.in_err-command.ensures.refused)

pub returns-in_err-play_line : goal.returns-in_err-play_line
returns-in_err-play_line c = told_as c.args.locator c.args.script.now NoMemory c.from_residual-in_err-play_line.result c.from_residual-in_err-play_line.ensures.1 tt

pub loop-text-preserved-in_ok-play_line : goal.loop-text-preserved-in_ok-play_line
loop-text-preserved-in_ok-play_line c =
    let head = c.in_ok-head.head in
    one_more_line c.args.locator (unwrap_or head.limit 100000) head.rest.now head.next c.loop-text.core c.play_line.new.core (string_bytes c.loop-text.text) (string_bytes c.play_line.new.text) c.loop-text.rest.now c.in-Some.after.now c.loop-text.number c.in-Some.command
    c.loop-text.invariant (found_some _ _ _ _ c.in-Some.is c.in_ok-command.ensures.found) c.in_ok-play_line.ensures

pub loop-text-preserved : goal.loop-text-preserved
loop-text-preserved c =
    let head = c.in_ok-head.head in
    one_more_line c.args.locator (unwrap_or head.limit 100000) head.rest.now head.next c.loop-text.core c.play_line.new.core (string_bytes c.loop-text.text) (string_bytes c.play_line.new.text) c.loop-text.rest.now c.in-Some.after.now c.loop-text.number c.in-Some.command
    c.loop-text.invariant (found_some _ _ _ _ c.in-Some.is c.in_ok-command.ensures.found) c.in_ok-play_line.ensures

pub returns : goal.returns
returns c =
    let head = c.in_ok-head.head in
    subst (λ (text : List ℕ). SimulatesScript c.args.locator c.args.script.now (Ok text)) (sym c.from_string.ensures)
    (all_played c.args.locator c.args.script.now head.rest.now head.limit head.vars head.next c.in_ok-head.ensures.begins c.loop-text.core (string_bytes c.loop-text.text) c.loop-text.rest.now c.loop-text.number c.loop-text.invariant (found_none _ _ _ c.in_default.is c.in_ok-command.ensures.found))
