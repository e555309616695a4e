use Rattle.std.proofs.Common.{length, ◌<◌, ◌∙◌, arith}
use Rattle.std.proofs.lemmas.List.{length-set}
use Rattle.addr_catalog.proofs.InvertedLemmas.{number_added, number_within}
use Rattle.addr_catalog.proofs.inverted.add_list.Goals as goal

pub loop-n-preserved : goal.loop-n-preserved
loop-n-preserved c =
    let lists = c.loop-n.lists.items in
    let small : c.loop-n.n-index < length c.args.list.now = omega arith in
    let within = number_within c.args.list.now (length c.args.lists.now.items) c.loop-n.n-index small c.requires.within in
    record {
      same = length-set lists _ _ ∙ c.loop-n.invariant.same;
      added = λ numbers are below. number_added c.args.number c.args.list.now c.loop-n.n-index (length c.args.lists.now.items) numbers lists c.index_mut.result.now c.push_once.new.numbers small within below
          (c.loop-n.invariant.added numbers are below) c.index_mut.ensures.value c.in_ok-push_once.ensures.fresh c.in_ok-push_once.ensures.again;
    }
