use Rattle.std.proofs.Common.{[], arith}
use Rattle.addr_unityfs.specs.Flags.{to_sixteen}
use Rattle.addr_unityfs.proofs.WrittenLengths.{lengths}
use Rattle.addr_cab.proofs.tests.without_nodes.Goals as goal

pub write_bundle-requires : goal.write_bundle-requires
unfolding to_sixteen
write_bundle-requires c = record {
  text = λ k d lt. absurd (omega (arith, lt));
  paths = λ k d lt. absurd (omega (arith, lt));
  distinct = λ i j d less within. absurd (omega (arith, within));
  small = omega (arith, (lengths [] []).file_is);
}
