use Rattle.std.proofs.Common.{rules, ◌≡◌, ℕ, ◌+◌, ◌-◌, ◌≤◌, [], ◌∷◌, ◌++◌, List, length, length-append, ◌∙◌, sym, refl, ap, subst, arith, append_assoc}
use Rattle.addr_turn.specs.Held.{view}
use Rattle.addr_loader.specs.declared.team.Team.{Team}
use Rattle.addr_loader.specs.Sessions.{lock_of}
use Rattle.addr_loader.specs.Teams.{AreOf}
use Rattle.addr_live.specs.Hands.{HandedOut, back}
use Rattle.addr_live.proofs.Handing.{are_of_more, handed_more, back_more}
use Rattle.addr_live.proofs.hands.hand_to.Goals as goal

pub loop-fetch-preserved : goal.loop-fetch-preserved
loop-fetch-preserved g c =
    let table = lock_of c.args.session.now in
    let popped : c.loop-fetch.fetchers.items ≡ c.pop.new.self.items ++ c.in-Some.fetch ∷ [] = c.in-Some.ensures.items in
    let fewer : length c.loop-fetch.fetchers.items ≡ length (c.pop.new.self.items ++ c.in-Some.fetch ∷ []) = ap length popped in
    let one = length-append c.pop.new.self.items (c.in-Some.fetch ∷ []) in
    let t : Team g.row.F.Denot = record { pass = c.unwrap-kept.result.1; fetch = c.in-Some.fetch } in
    let pushed : c.push_within.new.items.items ≡ c.loop-fetch.teams.items ++ t ∷ [] = search rules in
    let longer : length c.push_within.new.items.items ≡ length (c.loop-fetch.teams.items ++ t ∷ []) = ap length pushed in
    let two = length-append c.loop-fetch.teams.items (t ∷ []) in
    let more : HandedOut (view c.args.pass) (view c.unwrap-kept.result.0) (c.loop-fetch.teams.items ++ t ∷ []) = handed_more (view c.args.pass) (view c.loop-fetch.pass) (view c.unwrap-kept.result.0) c.loop-fetch.teams.items t c.loop-fetch.invariant.handed (search rules) (search rules) (search rules) in
    let left : (view c.unwrap-kept.result.0).spare ≡ (view c.loop-fetch.pass).spare - 1 = search rules in
    let before = c.loop-fetch.invariant.spare in
    let count = c.loop-fetch.invariant.count in
    record {
      pass = search rules;
      teams = subst (λ (l : List (Team g.row.F.Denot)). AreOf table l) (sym pushed) (are_of_more table c.loop-fetch.teams.items t c.loop-fetch.invariant.teams (search rules));
      handed = subst (λ (l : List (Team g.row.F.Denot)). HandedOut (view c.args.pass) (view c.unwrap-kept.result.0) l) (sym pushed) more;
      back_are = c.loop-fetch.invariant.back_are ∙ (ap (λ (l : List g.row.F.Denot). l ++ back c.loop-fetch.teams.items) popped ∙ (append_assoc c.pop.new.self.items (c.in-Some.fetch ∷ []) (back c.loop-fetch.teams.items) ∙ ap (λ (l : List g.row.F.Denot). c.pop.new.self.items ++ l) (sym (back_more c.loop-fetch.teams.items t) ∙ ap (λ (l : List (Team g.row.F.Denot)). back l) (sym pushed))));
      spare = omega (arith, fewer, one, left, before);
      count = omega (arith, fewer, one, longer, two, count);
      fit = search rules;
      room = search rules;
    }
