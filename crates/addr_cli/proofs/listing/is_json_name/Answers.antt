use Rattle.std.proofs.Common.{codes, length, ◌-◌, refl}
use Rattle.addr_cli.proofs.WordLemmas.{ending_there, ending_is}
use Rattle.addr_cli.proofs.listing.is_json_name.Goals as goal

pub returns-then-name-ge5 : goal.returns-then-name-ge5
returns-then-name-ge5 c = (λ yes. ending_there c.args.name.now (codes ".json") (length c.args.name.now - 5) (c.is_same.ensures.0 yes), λ is. c.is_same.ensures.1 (ending_is c.args.name.now is.0 (codes ".json") (length c.args.name.now - 5) refl is.1))
