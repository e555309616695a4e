use Rattle.std.proofs.Common.{◌≡◌, List, length, false, true, sym, ap, ◌∙◌}
use Rattle.std.proofs.lemmas.Bool.{false≢true}
use Rattle.std.proofs.lemmas.Option.{slice_get_within}
use Rattle.addr_project.specs.declared.model.Asset.{Asset}
use Rattle.addr_moves.specs.Firsts.{number_under}
use Rattle.addr_moves.proofs.AssetLemmas.{found-number}
use Rattle.addr_moves.proofs.GroupLemmas.{read-in}
use Rattle.addr_moves.proofs.LookLemmas.{built-iff, other-bytes}
use Rattle.addr_moves.proofs.looks.is_built.Goals as goal

pub returns-then-is_same : goal.returns-then-is_same
returns-then-is_same c =
    let p = c.args.project.now in
    let find = number_under c.args.homes.now.numbers in
    let n = c.in-Some.n in
    let asset : Asset = c.index-assets-n.result in
    let number = found-number p c.kept.ensures find c.requires c.args.guid n (sym c.in-Some.ensures) in
    let at = read-in c.assets.result.now p.assets n asset c.assets.ensures (slice_get_within p.assets n number.0 number.1) c.index-assets-n.is in
    let same = c.is_same.ensures.0 c.if-is_same.true ∙ c.as_slice.ensures in
    built-iff p c.kept.ensures find c.requires c.args.guid c.args.bytes.now c.args.refs.now n asset c.in-Some.ensures at c.are_refs.result same
    (λ holds. c.are_refs.ensures.0 holds ∙ c.as_slice-then-is_same.ensures, λ refs. c.are_refs.ensures.1 (refs ∙ sym c.as_slice-then-is_same.ensures))

pub returns-else-is_same : goal.returns-else-is_same
returns-else-is_same c =
    let p = c.args.project.now in
    let find = number_under c.args.homes.now.numbers in
    let n = c.in-Some.n in
    let asset : Asset = c.index-assets-n.result in
    let number = found-number p c.kept.ensures find c.requires c.args.guid n (sym c.in-Some.ensures) in
    let at = read-in c.assets.result.now p.assets n asset c.assets.ensures (slice_get_within p.assets n number.0 number.1) c.index-assets-n.is in
    other-bytes p c.kept.ensures find c.requires c.args.guid c.args.bytes.now c.args.refs.now n asset c.in-Some.ensures at (λ same. false≢true (sym c.if-is_same.false ∙ c.is_same.ensures.1 (same ∙ sym c.as_slice.ensures)))
