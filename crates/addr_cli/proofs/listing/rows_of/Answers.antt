use Rattle.std.proofs.Common.{refl, inl, subst}
use Rattle.addr_cli.specs.Words.{IsJsonName}
use Rattle.addr_cli.proofs.listing.rows_of.Goals as goal

pub returns-in_ok-catalogue : goal.returns-in_ok-catalogue
returns-in_ok-catalogue c = inl (subst IsJsonName c.as_bytes.ensures (c.is_json_name.ensures.0 c.if-is_json_name.true), c.in_ok-catalogue.catalogue, c.in_ok-catalogue.ensures, refl)
