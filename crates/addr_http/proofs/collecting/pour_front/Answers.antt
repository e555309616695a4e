use Rattle.std.proofs.Common.{Result, Ok, Err, OnErr}
use Rattle.addr_http.proofs.CollectingLemmas.{pours_refused}
use Rattle.addr_http.proofs.collecting.pour_front.Goals as goal

-- what follows from what holds of a refusal
on_err : {T E : Type 0} (result : Result T E) (P Q : Type 0) → (P → Q) → OnErr result P → OnErr result Q
on_err (Ok done) P Q follows holds = tt
on_err (Err e) P Q follows holds = follows holds

pub returns-clause-err : goal.returns-clause-err
returns-clause-err g c = on_err c.pour.result _ _ (pours_refused g.P.Pour.took c.args.into.now c.pour.new.self) c.pour.ensures.refused
