use Rattle.std.proofs.Common.{◌≡◌, ℕ, List, subst, arith}
use Rattle.addr_fields.specs.Fields.{IsNumber}
use Rattle.addr_cli.proofs.LoadLemmas.{same_workers}
use Rattle.addr_cli.proofs.loading.workers_of.Goals as goal
use Rattle.addr_cli.proofs.loading.workers_of.Goals.{else-n-ge1-via-then-n-ge1+else-n-le-MOST_WORKERS, else-n-ge1-via-else-n-ge1}

pub returns-else-n-ge1 : goal.returns-else-n-ge1
returns-else-n-ge1 c n is =
    let Spells : List ℕ → Type 0 = λ text. IsNumber 32 text c.in_ok-n.n in
    let same : n ≡ c.in_ok-n.n = same_workers c.args.word.now c.in_ok-n.n n (subst Spells c.as_bytes.ensures c.in_ok-n.ensures) is in
    elim c.else-n-ge1.branch [
      | else-n-ge1-via-then-n-ge1+else-n-le-MOST_WORKERS w ↦ omega (arith, same, is.most, w.if-n-le-MOST_WORKERS.false)
      | else-n-ge1-via-else-n-ge1 w ↦ omega (arith, same, is.some, w.if-n-ge1.false)
    ]
