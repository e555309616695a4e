use Rattle.std.proofs.Common.{sym, ap, ◌∙◌, ◌+◌, ◌*◌}
use Rattle.std.specs.Option.{option_map}
use Rattle.addr_cab.proofs.OutsideLaws.{unnamed_is}
use Rattle.addr_cab.proofs.ending.unnamed_at.Goals as goal

pub returns-in-Some : goal.returns-in-Some
returns-in-Some c =
    sym (ap (option_map (λ i. 8 + 16 * i)) c.in-Some.is) ∙ unnamed_is c.args.rows.now c.args.outside.now c.in_ok-found.found.keys c.first_absent.result c.in_ok-found.ensures c.first_absent.ensures.place

pub returns : goal.returns
returns c =
    sym (ap (option_map (λ i. 8 + 16 * i)) c.in-None.is) ∙ unnamed_is c.args.rows.now c.args.outside.now c.in_ok-found.found.keys c.first_absent.result c.in_ok-found.ensures c.first_absent.ensures.place
