use Rattle.std.proofs.Common.{List, ℕ, ap, sym, subst, ◌∙◌, arith}
use Rattle.std.specs.List.{Contains}
use Rattle.addr_project.specs.Faults.{names_of}
use Rattle.addr_project_rows.specs.Fields.{is_within, most_text}
use Rattle.addr_isolate.proofs.NameLemmas.{name-free, name-taken, name-text, taken-more}
use Rattle.addr_isolate.proofs.naming.free_name.Goals as goal

pub returns-then-not-has_name-clause-free : goal.returns-then-not-has_name-clause-free
returns-then-not-has_name-clause-free c =
    let none = sym c.has_name.ensures ∙ c.if-not-has_name.true in
    record {
      number = c.loop-number.number;
      is = c.in_ok-name.ensures;
      free = subst (λ (name : List ℕ). ¬ Contains (names_of c.args.groups.now) name) c.as_str.ensures (name-free c.args.groups.now c.as_str.result.now none);
      first = c.loop-number.invariant;
    }

pub returns-then-not-has_name-clause-text : goal.returns-then-not-has_name-clause-text
returns-then-not-has_name-clause-text c =
    let small = c.loop-number-test.true in
    ap (is_within 1 most_text) c.in_ok-name.ensures ∙ name-text c.loop-number.number (omega (arith, small))

pub loop-number-preserved : goal.loop-number-preserved
loop-number-preserved c =
    let some = sym c.has_name.ensures ∙ c.if-not-has_name.false in
    taken-more c.args.groups.now c.loop-number.number c.as_str.result.now (c.as_str.ensures ∙ c.in_ok-name.ensures) (name-taken c.args.groups.now c.as_str.result.now some) c.loop-number.invariant
