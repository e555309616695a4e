use Rattle.std.proofs.Common.{rules}
use Rattle.addr_cli.proofs.LoadLemmas.{load_played}
use Rattle.addr_cli.proofs.loading.load_folder.Goals as goal

pub returns-in-Ok-clause-ends : goal.returns-in-Ok-clause-ends
returns-in-Ok-clause-ends g c =
    load_played g.F.Fetch.gives (g.D.Depot.now c.args.depot.now) (g.D.Depot.now c.prepare.new.depot) c.args.folder.now c.args.script.now c.args.fetchers.items c.play.result.fetchers.items c.args.fetch c.play.result.fetch
    c.in-Ok.prepared c.play.result.ended c.in-Ok.ensures.cause c.in-Ok.ensures.ready c.play.ensures
