-- The command that a request of the code is.
use Rattle.addr_cli.specs.Words.{Command, simulate, list_rows, inspect, plan}
use Rattle.addr_cli.specs.declared.command.Request.{Request}
use Rattle.addr_cli.specs.declared.command.Request.TheVariants.{Simulate, ListRows, Inspect, Plan}

abbrev pub command_of : Request → Command
command_of (Simulate rows script) = simulate rows.now script.now
command_of (ListRows file) = list_rows file.now
command_of (Inspect file) = inspect file.now
command_of (Plan folder) = plan folder.now
