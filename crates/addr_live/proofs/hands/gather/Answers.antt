use Rattle.std.proofs.Common.{rules, arith, ◌≡◌, ◌+◌, ◌≤◌, [], ◌∷◌, ◌++◌, List, ◌∙◌, sym, refl, ap, subst, append_assoc, length, length-append, append-nil, take, ℕ, ◌-◌}
use Rattle.addr_turn.specs.Held.{view}
use Rattle.addr_loader.specs.declared.team.Team.{Team}
use Rattle.addr_loader.specs.Sessions.{lock_of}
use Rattle.addr_loader.specs.Teams.{AreOf}
use Rattle.addr_live.specs.Hands.{Gathered, back}
use Rattle.addr_live.proofs.Handing.{are_of_left, are_of_last}
use Rattle.addr_live.proofs.hands.gather.Goals as goal

pub meet-pass-requires : goal.meet-pass-requires
meet-pass-requires g c =
    let table = lock_of c.args.session.now in
    let popped : c.loop-team.teams.items ≡ c.pop.new.self.items ++ c.in-Some.team ∷ [] = c.in-Some.ensures.items in
    let all = subst (λ (l : List (Team g.row.F.Denot)). AreOf table l) popped c.loop-team.invariant.teams in
    (c.loop-team.invariant.pass, are_of_last table c.pop.new.self.items c.in-Some.team all)

pub loop-team-preserved : goal.loop-team-preserved
loop-team-preserved g c =
    let table = lock_of c.args.session.now in
    let popped : c.loop-team.teams.items ≡ c.pop.new.self.items ++ c.in-Some.team ∷ [] = c.in-Some.ensures.items in
    let all = subst (λ (l : List (Team g.row.F.Denot)). AreOf table l) popped c.loop-team.invariant.teams in
    let pushed : c.push_within.new.items.items ≡ c.loop-team.fetchers.items ++ c.in-Some.team.fetch ∷ [] = search rules in
    let fewer : length c.loop-team.teams.items ≡ length (c.pop.new.self.items ++ c.in-Some.team ∷ []) = ap length popped in
    let one = length-append c.pop.new.self.items (c.in-Some.team ∷ []) in
    let longer : length c.push_within.new.items.items ≡ length (c.loop-team.fetchers.items ++ c.in-Some.team.fetch ∷ []) = ap length pushed in
    let two = length-append c.loop-team.fetchers.items (c.in-Some.team.fetch ∷ []) in
    let d = c.loop-team.invariant.gathered in
    let count = c.loop-team.invariant.count in
    record {
      pass = c.meet-pass.ensures.pass;
      teams = are_of_left table c.pop.new.self.items c.in-Some.team all;
      gathered = (c.in-Some.team ∷ d.0, sym (append_assoc c.pop.new.self.items (c.in-Some.team ∷ []) d.0) ∙ (ap (λ (l : List (Team g.row.F.Denot)). l ++ d.0) (sym popped) ∙ d.1), (view c.loop-team.pass, d.2, c.meet-pass.ensures.met), pushed ∙ ap (λ (l : List g.row.F.Denot). l ++ c.in-Some.team.fetch ∷ []) d.3);
      count = omega (arith, fewer, one, longer, two, count);
      fit = search rules;
    }

pub returns-clause-gathered : goal.returns-clause-gathered
returns-clause-gathered g c =
    let d = c.loop-team.invariant.gathered in
    let none : c.loop-team.teams.items ≡ [] = let e = c.in_default.ensures in e.items ∙ (append-nil c.pop.new.self.items ∙ (e.rest ∙ ap (λ (n : ℕ). take (n - 1) c.loop-team.teams.items) e.cases.0)) in
    let whole : d.0 ≡ c.args.teams.items = ap (λ (l : List (Team g.row.F.Denot)). l ++ d.0) (sym none) ∙ d.1 in
    subst (λ (l : List (Team g.row.F.Denot)). Gathered (view c.args.pass) l (view c.loop-team.pass)) whole d.2

pub returns-clause-back : goal.returns-clause-back
returns-clause-back g c =
    let d = c.loop-team.invariant.gathered in
    let none : c.loop-team.teams.items ≡ [] = let e = c.in_default.ensures in e.items ∙ (append-nil c.pop.new.self.items ∙ (e.rest ∙ ap (λ (n : ℕ). take (n - 1) c.loop-team.teams.items) e.cases.0)) in
    let whole : d.0 ≡ c.args.teams.items = ap (λ (l : List (Team g.row.F.Denot)). l ++ d.0) (sym none) ∙ d.1 in
    d.3 ∙ ap (λ (l : List (Team g.row.F.Denot)). back l) whole
