use Rattle.std.proofs.Common.{subst, ◌∙◌}
use Rattle.addr_base.specs.Files.{file_at}
use Rattle.addr_build.specs.within.Testing.{IsSpotOf}
use Rattle.addr_build.proofs.EndLemmas.{tells-spot, rose-spot}
use Rattle.addr_build.proofs.PutLemmas.{if-told, told-at}
use Rattle.addr_build.proofs.testing.is_owed.Goals as goal

pub returns : goal.returns
returns g c = record {
  tests = if-told (g.D.Depot.now c.args.depot.now).files _ (λ files is. (
      let spot = told-at (g.D.Depot.now c.args.depot.now).files _ files is c.in_ok-spot.ensures.spot in
      let at = c.as_str.ensures ∙ c.in_ok-path.ensures in
      tells-spot files c.args.folder.now c.args.name.now c.args.bytes.now c.in_ok-spot.spot c.owed_at.result (subst (λ n. IsSpotOf (file_at n files) c.args.bytes.now c.in_ok-spot.spot) at spot) c.owed_at.ensures));
  same = c.in_ok-spot.ensures.same;
  cause = rose-spot _ _ c.args.name.now c.in_ok-spot.spot c.owed_at.result c.in_ok-spot.ensures.cause c.owed_at.ensures;
}
