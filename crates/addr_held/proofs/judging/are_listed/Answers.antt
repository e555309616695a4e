use Rattle.std.proofs.Common.{◌≡◌, ◌∙◌, length, take, map, refl, sym, ap, subst}
use Rattle.std.proofs.lemmas.Bool.{false≢true}
use Rattle.std.proofs.lemmas.List.{length_push}
use Rattle.std.proofs.lemmas.Slice.Zip.{zip_end, zip_turn}
use Rattle.addr_base.specs.declared.ids.Guid.{Guid}
use Rattle.addr_cab.specs.declared.object.ObjectRow.{ObjectRow}
use Rattle.addr_layout.proofs.GuidLemmas.{same-guid}
use Rattle.addr_held.proofs.ListLemmas.{guids-all, guids-more, guids-other}
use Rattle.addr_held.proofs.judging.are_listed.Goals as goal

pub loop-object-preserved : goal.loop-object-preserved
loop-object-preserved c =
    let turn = zip_turn c.args.objects.now c.args.listed.now c.loop-object.yielded c.into_iter-object-iterator.result c.loop-object.object-iterator c.next.new.self c.next.result (cc) (cc) c.loop-object.yielded_by (c.in-Some.object, c.in-Some.guid) c.in-Some.is c.next.ensures.steps in
    subst (λ n. take n (map (λ (o : ObjectRow). o.guid) c.args.objects.now) ≡ take n c.args.listed.now) (sym (length_push c.loop-object.yielded (c.in-Some.object, c.in-Some.guid)))
    (guids-more c.args.objects.now c.args.listed.now (length c.loop-object.yielded) c.in-Some.object.now c.in-Some.guid.now turn.0 turn.1 turn.2 turn.3 (same-guid c.in-Some.object.now.guid c.in-Some.guid.now (c.is_same.ensures.0 c.if-not-is_same.false)) c.loop-object.invariant)

pub returns-then-not-is_same : goal.returns-then-not-is_same
returns-then-not-is_same c =
    let turn = zip_turn c.args.objects.now c.args.listed.now c.loop-object.yielded c.into_iter-object-iterator.result c.loop-object.object-iterator c.next.new.self c.next.result (cc) (cc) c.loop-object.yielded_by (c.in-Some.object, c.in-Some.guid) c.in-Some.is c.next.ensures.steps in (
      (λ true. absurd (false≢true true)),
      (λ same. absurd (guids-other c.args.objects.now c.args.listed.now (length c.loop-object.yielded) c.in-Some.object.now c.in-Some.guid.now turn.0 turn.2 turn.3
          (λ guid. false≢true (sym c.if-not-is_same.true ∙ c.is_same.ensures.1 (ap (λ (g : Guid). g.0) guid))) same)),
    )

pub returns : goal.returns
returns c =
    let end = zip_end c.args.objects.now c.args.listed.now c.loop-object.yielded c.into_iter-object-iterator.result c.loop-object.object-iterator c.next.new.self c.next.result (cc) (cc) c.loop-object.yielded_by c.in-None.is c.next.ensures.steps in
    ((λ true. guids-all c.args.objects.now c.args.listed.now (length c.loop-object.yielded) c.if-objects-listed.false end c.loop-object.invariant), (λ same. refl))
