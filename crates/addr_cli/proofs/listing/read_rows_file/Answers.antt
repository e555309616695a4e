use Rattle.std.proofs.Common.{List, ℕ, subst}
use Rattle.addr_cli.specs.Listing.{ReadsFile}
use Rattle.addr_cli.proofs.ListingLemmas.{rows_read}
use Rattle.addr_cli.proofs.listing.read_rows_file.Goals as goal

pub returns-clause-read : goal.returns-clause-read
returns-clause-read g c =
    let R : List ℕ → Type 0 = λ bytes. ReadsFile c.args.name.now bytes c.rows_of.result in
    rows_read c.args.name.now c.in_ok-bytes.bytes (g.D.Depot.now c.args.depot.now) (g.D.Depot.now c.read_file.new.depot) c.rows_of.result c.in_ok-bytes.ensures.read (subst R c.as_slice.ensures c.rows_of.ensures)
