use Rattle.std.proofs.Common.{subst, arith}
use Rattle.std.specs.Str.{IsUtf8}
use Rattle.addr_locate.proofs.plain_writer.push_bundle.Goals as goal

pub returns-clause-form : goal.returns-clause-form
returns-clause-form c = record {
  key = subst IsUtf8 c.as_str.ensures c.as_str.utf8;
  size = omega arith;
  digest = c.sixteen_bytes.ensures;
  name = subst IsUtf8 c.as_str-2.ensures c.as_str-2.utf8;
  id = subst IsUtf8 c.as_str-3.ensures c.as_str-3.utf8;
}
