use Rattle.std.proofs.Common.{ℕ, ◌<◌, length, subst, sym, arith}
use Rattle.std.specs.List.{All}
use Rattle.addr_walks.specs.Marks.{Tracks}
use Rattle.addr_walks.proofs.MarkLemmas.{all-listed-below, tracks-cleared}
use Rattle.addr_walks.proofs.marking.Marked.clear.Goals as goal

pub unmark-requires : goal.unmark-requires
unmark-requires c = λ k d within.
    let all = all-listed-below c.args.self.now.marks.items c.args.self.now.queue.items c.requires.tracks in
    let listed : All (λ (n : ℕ). n < length c.args.self.now.marks.items) c.as_slice.result.now = subst (All (λ n. n < length c.args.self.now.marks.items)) (sym c.as_slice.ensures.value) all in
    let here = listed k d within in
    omega (arith, c.args.self.now.marks.ok.0)

pub returns-clause-tracks : goal.returns-clause-tracks
returns-clause-tracks c =
    let cleared = tracks-cleared c.args.self.now.marks.items c.unmark.new.marks.items c.as_slice.result.now (subst (Tracks c.args.self.now.marks.items) (sym c.as_slice.ensures.value) c.requires.tracks) c.unmark.ensures.left in
    subst (Tracks c.unmark.new.marks.items) (sym c.clear.ensures.items) cleared
