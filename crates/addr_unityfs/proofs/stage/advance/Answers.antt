use Rattle.std.proofs.Common.{refl}
use Rattle.addr_unityfs.proofs.StageLaws.{info_after, rest_after, bad_after}
use Rattle.addr_unityfs.proofs.TextLaws.{head_now}
use Rattle.addr_unityfs.proofs.stage.advance.Goals as goal

pub returns-then-bytes-until : goal.returns-then-bytes-until
returns-then-bytes-until c = λ old piece same len e. info_after c.args.total c.in-Info.until c.args.stage c.args.bytes.now old piece c.requires.few c.if-bytes-until.true c.in-Info.is same e

pub returns-in-Rest : goal.returns-in-Rest
returns-in-Rest c = λ old piece same len e. rest_after c.args.total c.args.stage c.args.bytes.now old piece c.requires.few c.in-Rest.is same e

pub returns-in-Bad : goal.returns-in-Bad
returns-in-Bad c = λ old piece same len e. bad_after c.args.total c.in-Bad.field-0 c.args.stage c.args.bytes.now old piece c.requires.few c.in-Bad.is same e

pub returns-then-has_no_zero : goal.returns-then-has_no_zero
returns-then-has_no_zero c = λ old piece same len e. head_now c.args.total c.args.before c.in-Head.text c.args.stage c.args.bytes.now old piece c.if-bytes-total.true c.if-text.true c.in-Head.is (c.if-has_no_zero.ensures.0 refl) same len e
