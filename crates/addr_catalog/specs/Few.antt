-- When the rows of a locator are so few that the numbers of each fit: the first step by which `can_write` decides.
use Rattle.std.specs.Prelude.{◌+◌, ◌<◌, ◌^◌, length}
use Rattle.addr_locate.specs.Rows.{Rows}

-- the rows and keys together are so few that the numbers of each fit
abbrev pub AreFew : Rows → Type 0
AreFew r = length r.bundles + length r.assets + length r.keys < 2 ^ 30
