use Rattle.std.proofs.Common.{ℕ, List, Option, get_or, take, refl, sym, subst, ◌∙◌, arith, rules}
use Rattle.std.proofs.lemmas.List.Elements.{Contains-get_or}
use Rattle.addr_layout.specs.Owners.{AreOwners}
use Rattle.addr_layout.proofs.OwnerLemmas.{owners-none, owners-more}
use Rattle.addr_layout.proofs.RankLemmas.{read-at, row-read}
use Rattle.addr_layout.proofs.placing.owners_of.Goals as goal

pub loop-b-init : goal.loop-b-init
loop-b-init c = record {
  len = c.in_ok-owners.ensures.len;
  owners = subst (λ (owners : List (Option ℕ)). AreOwners (take 0 c.args.rows.now) owners) (sym (c.in_ok-owners.ensures.items_if_clones_equal (λ y same. search rules))) (owners-none c.args.size c.args.rows.now);
}

pub own_all-requires : goal.own_all-requires
own_all-requires c = λ k d within.
    let rows = c.args.rows.now in
    let row = c.as_slice.result.now in
    let at = read-at rows rows c.loop-b.b row refl c.loop-b-test.true (row-read c.args.rows.now c.loop-b.b c.as_slice.result.now c.index-rows-b.result c.as_slice.ensures c.index-rows-b.is) in
    let below = c.requires.below.each c.loop-b.b (get_or row k d) (row, at, Contains-get_or row k d within) in
    let long = c.loop-b.invariant.len in
    omega arith

pub loop-b-preserved : goal.loop-b-preserved
loop-b-preserved c = record {
  len = c.own_all.ensures.len ∙ c.loop-b.invariant.len;
  owners = owners-more c.args.rows.now c.as_slice.result.now c.loop-b.b c.loop-b.owners.items c.own_all.new.owners.items c.loop-b-test.true (row-read c.args.rows.now c.loop-b.b c.as_slice.result.now c.index-rows-b.result c.as_slice.ensures c.index-rows-b.is) c.loop-b.invariant.owners c.own_all.ensures.replaces;
}
