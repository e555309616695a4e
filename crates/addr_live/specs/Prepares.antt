-- What a script beside workers is read as over rows.
use Rattle.std.specs.Prelude.{ℕ, ◌≡◌, List, Result, Ok, Err, map}
use Rattle.std.specs.List.{AllByRecursion}
use Rattle.addr_locate.specs.Rows.{Rows}
use Rattle.addr_locate.specs.Evaluated.{evaluated}
use Rattle.addr_script.specs.Scripts.{IsLimit, ReadsScript, Script}
use Rattle.addr_script.specs.declared.command.Grammar.TheVariants.{Load as Live}
use Rattle.addr_script.specs.declared.error.ScriptErr.{ScriptErr}
use Rattle.addr_simulate.specs.SimText.{limit_of}
use Rattle.addr_live.specs.Orders.{IsOrder}
use Rattle.addr_live.specs.declared.order.Order.{Order}
use Rattle.addr_live.specs.declared.reading.Prepared.{Prepared}

-- the rows with the ids that the script sets, its limit, and the orders of its commands
pub record IsPrepared (rows : Rows) (script : Script) (p : Prepared) : Type 0 where
  pub rows_are : p.locator ≡ evaluated script.vars rows
  pub limit_is : p.limit ≡ limit_of script
  pub limit_fits : IsLimit p.limit
  pub commands_are : map (λ o. o.command) p.orders.items ≡ script.commands
  pub orders_are : AllByRecursion (IsOrder p.locator) p.orders.items

-- what bytes are prepared as: as the script that they are, or their first bad line
abbrev pub PreparesAs : Rows → List ℕ → Result Prepared ScriptErr → Type 0
PreparesAs rows bytes (Ok p) = (s : Script) × ReadsScript Live bytes (Ok s) × IsPrepared rows s p
PreparesAs rows bytes (Err e) = ReadsScript Live bytes (Err e)
