use Rattle.std.proofs.Common.{rules, ◌≡◌, [], ◌∷◌, Some, ap, sym, ◌∙◌}
use Rattle.atomic_table.specs.Table.{rest}
use Rattle.addr_turn.proofs.Recording.{records}
use Rattle.addr_turn.proofs.lock.Inside.record.Goals as goal

pub fetch_add-requires : goal.fetch_add-requires
fetch_add-requires g c = let entry = c.requires.entry in (
  search rules,
  search rules,
  records _ _ _ g.S.Told.entries g.S.Told.fixed g.S.Told.number _ _ c.exchange.new.seat.me c.args.self.state entry.0 (search rules) (search rules) (search rules) (λ j is. entry.2 j is ∙ (search rules)) (search rules) (search rules),
)

pub exchange-requires-2 : goal.exchange-requires-2
exchange-requires-2 g c = let done = c.fetch_add.ensures.2 c.args.self.state c.requires.entry.0 (search rules) (search rules) in
    let carried : c.fetch_add.new.seat.me.1 ≡ (0, Some c.args.self.state) ∷ [] = ap (λ m. m.1) done ∙ (search rules) in
    (search rules, (Some c.args.self.state, carried ∙ ap (λ cs. (0, Some c.args.self.state) ∷ rest cs) (sym carried)))
