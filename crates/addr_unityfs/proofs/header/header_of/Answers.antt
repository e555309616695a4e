use Rattle.addr_unityfs.specs.within.Tails.{tail, head}
use Rattle.addr_unityfs.proofs.PastLaws.{head_inside}
use Rattle.addr_unityfs.proofs.header.header_of.Goals as goal

pub returns-clause-inside : goal.returns-clause-inside
returns-clause-inside c = rw c.place.ensures (head_inside c.args.bytes.now (head c.in_ok-head.head, tail c.in_ok-head.rest) c.in_ok-head.ensures)
