use Rattle.std.proofs.Common.{rules, ◌≡◌, [], ◌∷◌, ◌∙◌, sym, refl, Some}
use Rattle.addr_base.specs.declared.cause.Cause.TheVariants as causes
use Rattle.addr_turn.specs.Held.{view}
use Rattle.addr_fetch.specs.declared.fetch.Fetched.TheVariants as fetched
use Rattle.addr_loader.specs.Turn.{rows_of}
use Rattle.addr_loader.specs.Taking.{IsJob}
use Rattle.addr_loader.specs.Works.{ended_cause}
use Rattle.addr_loader.proofs.Working.{row_fetches, no_fetch}
use Rattle.addr_loader.proofs.session.Session.carry_out.Goals as goal

pub returns-in-Some-clause-carried : goal.returns-in-Some-clause-carried
returns-in-Some-clause-carried g c =
    let job = rw c.in-Some.is at c.requires.job in
    let fetched = c.fetch_job-ended.ensures.fetched in (
      record { b = c.args.b; answer = fetched.0; cause = ended_cause c.fetch_job-ended.result },
      refl,
      row_fetches g.F.Fetch.gives (rows_of (view c.args.pass.now)) c.args.fetch.now c.fetch_job-ended.new.fetch c.args.b c.in-Some.job fetched.0 (ended_cause c.fetch_job-ended.result) job fetched.1 fetched.2,
      c.end.ensures.ended,
    )

pub returns-in-None-clause-carried : goal.returns-in-None-clause-carried
returns-in-None-clause-carried g c = (record { b = c.args.b; answer = fetched.NoMemory; cause = Some causes.NoMemory }, refl, no_fetch g.F.Fetch.gives (rows_of (view c.args.pass.now)) c.args.fetch.now c.args.b, c.end-in-None.ensures.ended)
