use Rattle.std.proofs.Common.{◌∙◌, ap, refl}
use Rattle.addr_locate.specs.Rows.{Rows}
use Rattle.addr_simulate.specs.SimText.{ask_of}
use Rattle.addr_simulate.proofs.PlayLemmas.{load_plays, acquire_plays, release_plays, status_plays, wait_plays, references_plays, read_plays, read_all_plays, count_plays, close_plays, take_plays, fail_plays}
use Rattle.addr_simulate.proofs.simulator.play.Goals as goal

pub returns-in_ok-reply-in-Load : goal.returns-in_ok-reply-in-Load
returns-in_ok-reply-in-Load c =
    let ask = c.in_ok-ask-in-Load.ensures.ask ∙ ap (λ (r : Rows). ask_of r c.in-Load.all c.in-Load.mode c.in-Load.kind c.in-Load.keys) c.locator.ensures in
    rw c.in-Load.is (load_plays c.args.core.now c.load.new.core c.in-Load.caller c.in-Load.all c.in-Load.mode c.in-Load.kind c.in-Load.keys c.in_ok-ask-in-Load.ask c.in_ok-reply-in-Load.reply ask c.in_ok-reply-in-Load.ensures.grows c.in_ok-reply-in-Load.ensures.reply)

pub returns-in-Acquire : goal.returns-in-Acquire
returns-in-Acquire c = rw c.in-Acquire.is (acquire_plays c.args.core.now c.acquire.new.core c.in-Acquire.caller c.in-Acquire.op c.acquire.result c.acquire.ensures.machine c.acquire.ensures.reply)

pub returns-in-Release : goal.returns-in-Release
returns-in-Release c = rw c.in-Release.is (release_plays c.args.core.now c.release.new.core c.in-Release.caller c.in-Release.op c.release.result c.release.ensures.machine c.release.ensures.reply)

pub returns-in-Status : goal.returns-in-Status
returns-in-Status c = rw c.in-Status.is (status_plays c.args.core.now c.args.core.now c.in-Status.op c.status.result refl c.status.ensures)

pub returns-in-References : goal.returns-in-References
returns-in-References c = rw c.in-References.is (references_plays c.args.core.now c.args.core.now c.in-References.op c.references.result refl c.references.ensures)

pub returns-in_ok-reply-in-Read : goal.returns-in_ok-reply-in-Read
returns-in_ok-reply-in-Read c = rw c.in-Read.is (read_plays c.args.core.now c.args.core.now c.in-Read.op c.in-Read.i c.in_ok-reply-in-Read.reply refl c.in_ok-reply-in-Read.ensures)

pub returns-in_ok-reply-in-ReadAll : goal.returns-in_ok-reply-in-ReadAll
returns-in_ok-reply-in-ReadAll c = rw c.in-ReadAll.is (read_all_plays c.args.core.now c.args.core.now c.in-ReadAll.op c.in-ReadAll.i c.in_ok-reply-in-ReadAll.reply refl c.in_ok-reply-in-ReadAll.ensures)

pub returns-in-Count : goal.returns-in-Count
returns-in-Count c = rw c.in-Count.is (count_plays c.args.core.now c.args.core.now c.in-Count.b c.count.result refl c.count.ensures)

pub returns-in-Close : goal.returns-in-Close
returns-in-Close c = rw c.in-Close.is (close_plays c.args.core.now c.close.new.core c.close.result c.close.ensures.machine c.close.ensures.reply)

pub returns-in-Take : goal.returns-in-Take
returns-in-Take c = rw c.in-Take.is (take_plays c.args.core.now c.take.new.self c.in-Take.worker c.take.result c.take.ensures.reply c.take.ensures.machine)

pub returns-in-Fail : goal.returns-in-Fail
returns-in-Fail c = rw c.in-Fail.is (fail_plays c.args.core.now c.fail.new.core c.in-Fail.worker c.in-Fail.b c.in-Fail.cause c.fail.result c.fail.ensures.machine c.fail.ensures.reply)

pub returns-in-Wait : goal.returns-in-Wait
returns-in-Wait c = rw c.in-Wait.is (wait_plays c.args.core.now c.args.core.now c.in-Wait.op c.status-in-Wait.result refl c.status-in-Wait.ensures)
