use Rattle.std.proofs.Common.{◌≡◌, ◌++◌, ◌∷◌, [], List, ℕ, Result, Err, codes, inl, sym, ap, subst, ◌∙◌}
use Rattle.addr_cli.specs.Outcome.{Prints}
use Rattle.addr_cli.specs.Refusals.{ended_status, ended_text}
use Rattle.addr_cli.specs.declared.refusal.Refusal.{Refusal}
use Rattle.addr_cli.specs.declared.refusal.Refusal.TheVariants.{Usage}
use Rattle.addr_cli.proofs.report.report.Goals as goal

pub returns-in-Err-Usage-clause-prints : goal.returns-in-Err-Usage-clause-prints
returns-in-Err-Usage-clause-prints g c =
    let status = c.print-in-Err-Usage.result.0 in
    let before = g.K.Sink.now c.args.out.now in
    let after = g.K.Sink.now c.print-in-Err-Usage.new.out in
    let is : c.args.ended ≡ Err Usage = c.in-Err-Usage.is ∙ ap Err c.in-Err-Usage.field-0-is in
    let End : Result (List ℕ) Refusal → Type 0 = λ ended. Prints (ended_status ended) (ended_text ended) status before after in
    let Status : ℕ → Type 0 = λ code. Prints code (codes "error 2 usage" ++ 10 ∷ []) status before after in
    inl (subst End (sym is) (subst Status c.status.ensures c.print-in-Err-Usage.ensures.prints))
