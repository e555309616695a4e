use Rattle.std.proofs.Common.{rules, ◌≡◌, eqb-true, refl, sym, ap, ◌∙◌, Some, Option}
use Rattle.addr_history.specs.declared.ask.Ask.{Ask}
use Rattle.addr_turn.specs.Held.{view}
use Rattle.addr_live.proofs.PlayLemmas.{load_line, acquire_line, release_line, close_line, status_line, references_line, count_line, read_line, read_all_line, wait_line, some_own}
use Rattle.addr_live.proofs.playing.play.Goals as goal

pub returns-in-Acquire-clause-plays : goal.returns-in-Acquire-clause-plays
returns-in-Acquire-clause-plays g c =
    let v = view c.args.pass.now in
    let t = c.acquire.ensures.turn in
    let of = rw c.in-Acquire.is at c.requires.order in
    rw c.in-Acquire.is (acquire_line g.F.Fetch.gives v c.args.fetch.now c.requires.scripts (view c.acquire.new.pass) c.in-Acquire.caller c.in-Acquire.op t.0 c.acquire.result c.acquire_told.result (eqb-true c.in-Acquire.caller 0 of.0.1) t.1 t.2 c.acquire_told.ensures)

pub returns-in-Release-clause-plays : goal.returns-in-Release-clause-plays
returns-in-Release-clause-plays g c =
    let v = view c.args.pass.now in
    let t = c.release.ensures.turn in
    let of = rw c.in-Release.is at c.requires.order in
    rw c.in-Release.is (release_line g.F.Fetch.gives v c.args.fetch.now c.requires.scripts (view c.release.new.pass) c.in-Release.caller c.in-Release.op t.0 c.release.result c.release_told.result (eqb-true c.in-Release.caller 0 of.0.1) t.1 t.2 c.release_told.ensures)

pub returns-in-Status-clause-plays : goal.returns-in-Status-clause-plays
returns-in-Status-clause-plays g c =
    let v = view c.args.pass.now in
    rw c.in-Status.is (status_line g.F.Fetch.gives v c.args.fetch.now c.requires.scripts (view c.status.new.pass) c.in-Status.op c.status.result c.status_told.result c.status.ensures.turn c.status.ensures.answer c.status_told.ensures)

pub returns-in-Wait-clause-plays : goal.returns-in-Wait-clause-plays
returns-in-Wait-clause-plays g c =
    let v = view c.args.pass.now in
    rw c.in-Wait.is (wait_line g.F.Fetch.gives v c.args.fetch.now c.requires.scripts (view c.wait.new.pass) c.wait.new.fetch c.in-Wait.op c.wait.result c.status_told-in-Wait.result c.wait.ensures.works c.wait.ensures.answer c.wait.ensures.settled c.status_told-in-Wait.ensures)

pub returns-in-References-clause-plays : goal.returns-in-References-clause-plays
returns-in-References-clause-plays g c =
    let v = view c.args.pass.now in
    rw c.in-References.is (references_line g.F.Fetch.gives v c.args.fetch.now c.requires.scripts (view c.references.new.pass) c.in-References.op c.references.result c.references.ensures.turn c.references.ensures.answer)

pub returns-in-Count-clause-plays : goal.returns-in-Count-clause-plays
returns-in-Count-clause-plays g c =
    let v = view c.args.pass.now in
    rw c.in-Count.is (count_line g.F.Fetch.gives v c.args.fetch.now c.requires.scripts (view c.count.new.pass) c.in-Count.b c.count.result c.count_told.result c.count.ensures.turn c.count.ensures.answer c.count_told.ensures)

pub returns-in-Close-clause-plays : goal.returns-in-Close-clause-plays
returns-in-Close-clause-plays g c =
    let v = view c.args.pass.now in
    let t = c.close.ensures.turn in
    rw c.in-Close.is (close_line g.F.Fetch.gives v c.args.fetch.now c.requires.scripts (view c.close.new.pass) t.0 c.close.result c.close_told.result t.1 t.2 c.close_told.ensures)

pub returns-in-Read-clause-plays : goal.returns-in-Read-clause-plays
returns-in-Read-clause-plays g c =
    let v = view c.args.pass.now in
    rw c.in-Read.is (read_line g.F.Fetch.gives v c.args.fetch.now c.requires.scripts (view c.read-answer.new.pass) c.in-Read.op c.in-Read.i c.read-answer.result c.in_ok-reply-in-Read.reply c.read-answer.ensures.turn c.read-answer.ensures.answer c.in_ok-reply-in-Read.ensures.given c.in_ok-reply-in-Read.ensures.told)

pub returns-in-ReadAll-clause-plays : goal.returns-in-ReadAll-clause-plays
returns-in-ReadAll-clause-plays g c =
    let v = view c.args.pass.now in
    rw c.in-ReadAll.is (read_all_line g.F.Fetch.gives v c.args.fetch.now c.requires.scripts (view c.read_all-answer.new.pass) c.in-ReadAll.op c.in-ReadAll.i c.read_all-answer.result c.in_ok-reply-in-ReadAll.reply c.read_all-answer.ensures.turn c.read_all-answer.ensures.answer c.in_ok-reply-in-ReadAll.ensures.given c.in_ok-reply-in-ReadAll.ensures.told)

pub returns-in-Load-clause-plays : goal.returns-in-Load-clause-plays
returns-in-Load-clause-plays g c =
    let v = view c.args.pass.now in
    let t = c.load-answer.ensures.turn in
    let of = rw c.in-Load.is at c.requires.order in
    rw c.in-Load.is (load_line g.F.Fetch.gives v c.args.fetch.now c.requires.scripts (view c.load-answer.new.pass) c.in-Load.caller c.in-Load.all c.in-Load.mode c.in-Load.kind c.in-Load.keys c.unwrap.result t.0 c.load-answer.result c.in_ok-reply-in-Load.reply (eqb-true c.in-Load.caller 0 of.0.1) (some_own (search rules)) t.1 t.2 c.in_ok-reply-in-Load.ensures.given c.in_ok-reply-in-Load.ensures.told)
