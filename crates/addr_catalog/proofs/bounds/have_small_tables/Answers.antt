use Rattle.std.proofs.Common.{◌∙◌, length, sym, ap}
use Rattle.addr_catalog.proofs.KeyNumberLemmas.{paired}
use Rattle.addr_catalog.proofs.bounds.have_small_tables.Goals as goal

pub are_small-requires : goal.are_small-requires
are_small-requires c =
    let rows = c.in_ok-rows.ensures.rows in
    ap (λ rows. length rows.buckets) rows ∙ paired c.in_ok-numbers.numbers.locator.now ∙ sym (ap (λ rows. length rows.keys) rows)
