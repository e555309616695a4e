use Rattle.std.proofs.Common.{ℕ, ◌≡◌, ◌+◌, ◌++◌, List, [], ◌∷◌, Bor, get_or, map, take, ap, sym, subst, ◌∙◌}
use Rattle.std.proofs.lemmas.List.{map-append, take_all, take_more}
use Rattle.toml.specs.View.{table_view}
use Rattle.addr_isolate.specs.Document.{Keeps}
use Rattle.addr_isolate.specs.Shallow.{AreShallow, AreShallowAt}
use Rattle.addr_isolate.proofs.KeepLemmas.{keeps-more, shallow-more}
use Rattle.addr_isolate.proofs.members.kept.Goals as goal

abbrev texts : List (Bor (List ℕ)) → List (List ℕ)
texts names = map (λ name. name.now) names

pub loop-name-preserved : goal.loop-name-preserved
loop-name-preserved c =
    let names = c.args.names.now in
    let i = c.loop-name.name-index in
    let d : Bor (List ℕ) = record { ref_ptr = (0, 0); now = [] } in
    let name = (get_or names i d).now in
    let old = table_view c.args.table.now in
    let before = table_view c.loop-name.new in
    let after = table_view c.copy.new.new in
    let more : texts (take (i + 1) names) ≡ texts (take i names) ++ name ∷ [] =
    ap texts (take_more names i d c.loop-name-test.true) ∙ map-append (λ (n : Bor (List ℕ)). n.now) (take i names) (get_or names i d ∷ []) in
    record {
      keeps = subst (λ (ns : List (List ℕ)). Keeps ns old after) (sym more) (keeps-more (texts (take i names)) name old before after c.loop-name.invariant.keeps c.in_ok-copy.ensures);
      shallow = subst (λ (ns : List (List ℕ)). (n : ℕ) → AreShallowAt n ns old → AreShallow n after) (sym more) (shallow-more (texts (take i names)) name old before after c.loop-name.invariant.shallow c.in_ok-copy.ensures);
    }

pub returns-clause-shallow : goal.returns-clause-shallow
returns-clause-shallow c =
    let all = take_all c.loop-name.name-index c.args.names.now c.loop-name-test.false in
    λ n at. c.loop-name.invariant.shallow n (subst (λ names. AreShallowAt n (texts names) (table_view c.args.table.now)) (sym all) at)
