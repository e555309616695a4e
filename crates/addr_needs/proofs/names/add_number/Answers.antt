use Rattle.std.proofs.Common.{◌∷◌, ◌++◌, [], List, ℕ, Some, None, sym, ap, ◌∙◌, rules}
use Rattle.addr_needs.proofs.NameLemmas.{adds-number}
use Rattle.addr_needs.proofs.names.add_number.Goals as goal

pub returns-in_ok-push-in-Some : goal.returns-in_ok-push-in-Some
returns-in_ok-push-in-Some c =
    let numbers : List ℕ = c.in-Some.numbers.now in
    let next : List ℕ = c.push.new.self in
    let sets = (c.get_mut.follows.holds next).3 (search rules) in
    adds-number c.args.names.now (c.get_mut.follows.lender next) c.args.name c.args.b (Some numbers) next (sym c.in-Some.ensures.value) c.in_ok-push-in-Some.ensures.ok sets.0

pub returns-in_ok-insert-in-None : goal.returns-in_ok-insert-in-None
returns-in_ok-insert-in-None c =
    let next : List ℕ = c.push-in-None.new.self in
    let one = c.in_ok-push-in-None.ensures.ok ∙ ap (λ (l : List ℕ). l ++ c.args.b ∷ []) c.new-numbers.ensures in
    let sets = rw c.get_mut.follows.holds-at-none at (c.in_ok-insert-in-None.ensures.updates.0) in
    adds-number c.args.names.now c.insert.new.self c.args.name c.args.b None next (sym c.in-None.ensures.value) one sets
