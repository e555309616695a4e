use Rattle.std.proofs.Common.{◌≡◌, List, length, Some, refl, sym, ap, subst, ◌∙◌, arith}
use Rattle.std.proofs.lemmas.Option.{slice_get_within, slice_get_read}
use Rattle.std.specs.List.{slice_get}
use Rattle.addr_project.specs.declared.model.Asset.{Asset}
use Rattle.addr_layout.specs.Graph.{AreBeside}
use Rattle.addr_layout.specs.Members.{IsNumbered}
use Rattle.addr_layout.proofs.RankLemmas.{numbers-none, numbers-more, numbers-all}
use Rattle.addr_layout.proofs.guids.numbers_of.Goals as goal

pub loop-n-init : goal.loop-n-init
loop-n-init c = record { len = c.in_ok-numbers.ensures.len; numbers = numbers-none c.args.project.now c.args.guids.now c.in_ok-numbers.numbers.items }

pub loop-n-preserved : goal.loop-n-preserved
loop-n-preserved c =
    let p = c.args.project.now in
    let numbers = c.loop-n.numbers in
    let rank = c.rank_of-rank.result in
    let ranked = slice_get_within c.args.guids.now rank _ c.rank_of-rank.ensures in
    let at : slice_get c.assets-asset-items.result.now c.loop-n.n ≡ Some c.asset-item.result = slice_get_read c.assets-asset-items.result.now _ c.loop-n.n c.asset-item.result refl c.loop-n-test.true c.asset-item.is in
    record {
      len = c.loop-n.invariant.len;
      numbers = numbers-more p c.args.guids.now c.loop-n.n rank numbers.items c.asset-item.result c.requires (let long = c.loop-n.invariant.len in omega (arith, numbers.ok.0))
          (ap (λ (assets : List Asset). slice_get assets c.loop-n.n) (sym c.assets-asset-items.ensures) ∙ at) c.rank_of-rank.ensures c.loop-n.invariant.numbers;
    }

pub returns : goal.returns
returns c =
    let p = c.args.project.now in
    let numbers = c.loop-n.numbers in
    let all = numbers-all p c.args.guids.now c.loop-n.n numbers.items c.requires (sym numbers.ok.0 ∙ c.loop-n.invariant.len) (let same = ap length c.assets-asset-items.ensures in omega arith) c.loop-n.invariant.numbers in
    subst (AreBeside c.args.guids.now (λ g m. IsNumbered p m g)) (sym c.from_vec.ensures) all
