use Rattle.std.proofs.Common.{take}
use Rattle.std.specs.List.{AllZip}
use Rattle.addr_moves.specs.Firsts.{number_under}
use Rattle.addr_moves.specs.within.Assets.{AreFound}
use Rattle.addr_moves.proofs.assets.refs_of.Given as goal

abbrev pub invariant-loop-asset : goal.invariant-loop-asset
invariant-loop-asset l = AllZip (λ asset row. AreFound (number_under l.numbers) asset.refs row) (take l.asset-index l.project.assets) l.rows
