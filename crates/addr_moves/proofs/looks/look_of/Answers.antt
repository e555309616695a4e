use Rattle.std.proofs.Common.{List, not, refl, subst, sym}
use Rattle.addr_base.specs.Images.{Object}
use Rattle.addr_base.specs.declared.ids.Guid.{Guid}
use Rattle.addr_moves.specs.within.Leasts.{IsLeastIn}
use Rattle.addr_moves.specs.within.Looks.{AreSpoils}
use Rattle.addr_moves.proofs.LookLemmas.{away-from, spoils-from}
use Rattle.addr_moves.proofs.looks.look_of.Goals as goal

pub returns : goal.returns
returns c =
    let p = c.args.project.now in
    let h = c.args.homes.now in
    let places = c.args.places.now in
    let q = c.args.place in
    let x : Object = record { bytes = c.args.bytes.now; refs = c.args.refs.now } in
    let built = c.is_built-is_other.result in
    record {
      spoilt = subst (AreSpoils p h places q x) (sym c.in_ok-add_if.ensures) (spoils-from p h places q x c.in_ok-spoils.spoils built (not built) refl c.is_built-is_other.ensures c.in_ok-spoils.ensures);
      led = away-from h q x c.in_ok-strays.strays c.least_of-away.result c.in_ok-strays.ensures (subst (λ (gs : List Guid). IsLeastIn gs c.least_of-away.result) c.as_slice.ensures c.least_of-away.ensures);
    }
