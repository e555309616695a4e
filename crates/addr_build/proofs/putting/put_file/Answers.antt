use Rattle.addr_base.specs.Files.{file_at}
use Rattle.addr_build.proofs.PutLemmas.{puts-same, rose-same, not-there, if-told, told-at}
use Rattle.addr_build.proofs.putting.put_file.Goals as goal

pub returns-in-Free : goal.returns-in-Free
returns-in-Free g c = record {
  puts = puts-same c.args.name.now c.args.bytes.now (g.D.Depot.now c.args.depot.now) (g.D.Depot.now c.look.new.depot) (g.D.Depot.now c.put.new.depot) c.put.result c.in_ok-look.ensures.same c.put.ensures.puts;
  again = if-told (g.D.Depot.now c.args.depot.now).files _ (λ files is there. (
      let spot = told-at (g.D.Depot.now c.args.depot.now).files _ files is c.in_ok-look.ensures.spot in
      absurd (not-there (file_at c.args.name.now files) c.args.bytes.now c.in_ok-look.field-0 spot c.in-Free.is there)));
  cause = rose-same (g.D.Depot.now c.args.depot.now).faults (g.D.Depot.now c.look.new.depot).faults (g.D.Depot.now c.put.new.depot).faults c.put.result c.in_ok-look.ensures.cause c.put.ensures.cause;
}
