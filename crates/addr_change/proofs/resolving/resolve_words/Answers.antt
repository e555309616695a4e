use Rattle.std.proofs.Common.{ℕ, List, IfSome, inl, subst}
use Rattle.addr_resolve.specs.Laws.{answer_view}
use Rattle.addr_resolve.specs.Resolving.{Resolves}
use Rattle.addr_change.specs.Resolving.{PrintsEnd}
use Rattle.addr_change.proofs.resolving.resolve_words.Goals as goal

pub returns-clause-outcome : goal.returns-clause-outcome
returns-clause-outcome g c =
    let depot = g.D.Depot.now c.args.depot.now in
    let key = c.in-Some.request.key.now in
    let ended = c.resolve-ended.result in
    let Told : List ℕ → List ℕ → Type 0 = λ f k. IfSome depot.files (λ files. Resolves files f k ended) in
    let Printed : List ℕ → Type 0 = λ k. PrintsEnd k (answer_view ended) c.print_end.result (g.K.Sink.now c.args.out.now) (g.K.Sink.now c.print_end.new.out) in
    inl (record {
      folder = c.in-Some.request.folder.now;
      key = key;
      asks = c.in-Some.ensures;
      ended = ended;
      answers = subst (λ f. Told f key) c.as_str.ensures (subst (Told c.as_str.result.now) c.as_str-2.ensures c.resolve-ended.ensures.answers);
      cause = c.resolve-ended.ensures.cause;
      prints = subst Printed c.as_str-3.ensures c.print_end.ensures.prints;
    })
