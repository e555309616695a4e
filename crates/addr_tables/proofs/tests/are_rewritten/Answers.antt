use Rattle.std.proofs.Common.{arith}
use Rattle.addr_tables.proofs.DecodedLemmas.{short_can}
use Rattle.addr_tables.proofs.tests.are_rewritten.Goals as goal

pub encode-requires : goal.encode-requires
encode-requires c =
    short_can c.in_ok-tables.tables c.in_ok-rows.rows c.in_ok-rows.ensures.found (record {
      key = omega (arith, c.if-not-are_short.ensures.key);
      bucket = omega (arith, c.if-not-are_short.ensures.bucket);
      entry = omega (arith, c.if-not-are_short.ensures.entry);
      extra = omega (arith, c.if-not-are_short.ensures.extra);
    })
