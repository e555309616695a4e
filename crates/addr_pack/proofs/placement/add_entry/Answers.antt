use Rattle.std.proofs.Common.{◌∷◌, ◌++◌, [], List, ℕ, Some, None, string_bytes, sym, ap, ◌∙◌, rules}
use Rattle.std.proofs.lemmas.Map.Text.{btree_map_updates_text}
use Rattle.addr_pack.specs.declared.class.Class.{Class}
use Rattle.addr_pack.proofs.ClassLemmas.{added}
use Rattle.addr_pack.proofs.placement.add_entry.Goals as goal

pub returns-in_ok-push-in-Some : goal.returns-in_ok-push-in-Some
returns-in_ok-push-in-Some c =
    let class : Class = c.in-Some.class.now in
    let next : Class = record { group = class.group; entries = c.push.new.self } in
    let is = rw c.as_str.ensures.value at c.in-Some.ensures.value in
    let sets = rw c.as_str.ensures.value at ((c.get_mut.follows.holds next).3 (search rules)) in
    added (string_bytes c.args.name) c.args.group c.args.row c.args.classes.now (c.get_mut.follows.lender next) (Some class) next (sym is) (λ i. record { group = class.group; entries = c.in_ok-push-in-Some.ensures.ok i })
    (btree_map_updates_text (string_bytes c.args.name) c.args.classes.now (c.get_mut.follows.lender next) (Some next) sets)

pub returns-in_ok-insert-in-None : goal.returns-in_ok-insert-in-None
returns-in_ok-insert-in-None c =
    let next : Class = record { group = c.args.group; entries = c.push-in-None.new.self } in
    let is = rw c.as_str.ensures.value at c.in-None.ensures.value in
    let one = c.in_ok-push-in-None.ensures.ok ∙ ap (λ (l : List ℕ). l ++ c.args.row ∷ []) c.new-entries.ensures in
    let before = c.get_mut.follows.lender-at-none in
    let sets = rw c.get_mut.follows.holds-at-none at (btree_map_updates_text (string_bytes c.args.name) before c.insert.new.self (Some next) c.in_ok-insert-in-None.ensures.updates) in
    added (string_bytes c.args.name) c.args.group c.args.row c.args.classes.now c.insert.new.self None next (sym is) (λ i. record { group = c.args.group; entries = one i }) sets
