use Rattle.std.proofs.Common.{subst, sym}
use Rattle.addr_moves.specs.Fates.{IsFate, comparing}
use Rattle.addr_moves.specs.Olds.{TellsOld}
use Rattle.addr_moves.proofs.FateLemmas.{is-fate, is-free, is-unknown}
use Rattle.addr_moves.proofs.fates.fate_of.Goals as goal

pub returns-then-not-group_of-clause-fate : goal.returns-then-not-group_of-clause-fate
returns-then-not-group_of-clause-fate c = λ s now cabs bundles was r a known shared named shows entry tells before. is-free (comparing s was r c.args.project.now now) c.args.x a c.group_of.result.now entry c.group_of.ensures c.if-not-group_of.true

pub returns-in-None-clause-fate : goal.returns-in-None-clause-fate
returns-in-None-clause-fate c = λ s now cabs bundles was r a known shared named shows entry tells before. (
    let p = c.args.project.now in
    is-unknown (comparing s was r p now) c.args.x a c.group_of.result.now entry c.group_of.ensures c.if-not-group_of.false c.args.before c.if-before.false before (subst (TellsOld (comparing s was r p now) a) c.in-None.is tells))

pub returns-in_ok-why-in-Some-clause-fate : goal.returns-in_ok-why-in-Some-clause-fate
returns-in_ok-why-in-Some-clause-fate c = λ s now cabs bundles was r a known shared named shows entry tells before. (
    let p = c.args.project.now in
    let m = c.in-Some.m in
    let old = subst (TellsOld (comparing s was r p now) a) c.in-Some.is tells in
    subst (IsFate (comparing s was r p now) c.args.x) (sym c.fate_by.ensures)
    (is-fate (comparing s was r p now) c.args.x a c.group_of.result.now entry c.group_of.ensures c.if-not-group_of.false c.args.before c.if-before.false before m old c.in_ok-why-in-Some.why (c.in_ok-why-in-Some.ensures.why s now cabs bundles was r a known shared named shows entry old)))
