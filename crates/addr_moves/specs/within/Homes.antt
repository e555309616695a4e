-- The tables by which references are looked up are those of what is compared.
use Rattle.std.specs.Prelude.{ℕ, List, length, map}
use Rattle.std.specs.List.{AllZip}
use Rattle.addr_locate.specs.declared.rows.BundleRow.{BundleRow}
use Rattle.addr_pack.specs.declared.bundles.Plan.{Plan}
use Rattle.addr_project.specs.Model.{Project}
use Rattle.addr_state.specs.declared.model.State.{State}
use Rattle.addr_moves.specs.Firsts.{AreFirsts, number_under}
use Rattle.addr_moves.specs.Stays.{StaysAs}
use Rattle.addr_moves.specs.declared.looks.Homes.{Homes}
use Rattle.addr_moves.specs.within.Anew.{AreAnew, name_under}

pub record AreHomes (s : State) (p : Project) (now : Plan) (rows : List BundleRow) (h : Homes) : Type 0 where
  pub names : AreFirsts (map (λ row. row.name) rows) (number_under h.names)
  pub stays : AllZip (StaysAs s.fixed p) s.bundles h.stays
  pub numbers : AreFirsts (map (λ asset. asset.guid.0) p.assets) (number_under h.numbers)
  pub anew : AreAnew p now (length now.bundles) (name_under h.anew)
