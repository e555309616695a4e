use Rattle.std.proofs.Common.{◌≡◌, ◌∙◌, ◌+◌, ◌<◌, [], ◌∷◌, ◌++◌, cond, length, refl, ap, subst, sym, arith, length-append}
use Rattle.addr_build.specs.within.Building.{AreLaid}
use Rattle.addr_build.specs.declared.error.PutErr.TheVariants.{NoMemory}
use Rattle.addr_build.proofs.EndLemmas.{err-is}
use Rattle.addr_build.proofs.LaidLemmas.{count-few, laid-memory, laid-none, many}
use Rattle.addr_check.specs.Comparing.{update_of}
use Rattle.addr_patch.specs.within.Putting.{IsPutBundle, LaysBundles}
use Rattle.addr_patch.proofs.BundleLemmas.{keys-apart}
use Rattle.addr_patch.proofs.StepLemmas.{next, stops}
use Rattle.addr_patch.proofs.putting.put_bundles.Goals as goal

pub loop-b-init : goal.loop-b-init
loop-b-init g c =
    let old = g.D.Depot.now c.args.depot.now in
    let is = IsPutBundle (update_of c.args.compared.now) c.args.prepared.now.plan c.args.folder.now old in
    record {
      laid = subst (λ rows. AreLaid is c.args.folder.now old old rows 0) (sym c.new-rows.ensures) (laid-none is c.args.folder.now old);
      as_many = ap length c.new-rows.ensures;
      few = omega arith;
      faults = refl;
    }

pub returns-in_err-one-clause-puts : goal.returns-in_err-one-clause-puts
returns-in_err-one-clause-puts g c =
    let u = update_of c.args.compared.now in
    let made = c.args.prepared.now in
    let folder = c.args.folder.now in
    let old = g.D.Depot.now c.args.depot.now in
    let cur = g.D.Depot.now c.loop-b.depot in
    let new = g.D.Depot.now c.put_one.new.depot in
    let is = IsPutBundle u made.plan folder old in
    let keys = keys-apart u made c.requires.prepared folder old in
    let laid = c.loop-b.invariant.laid in
    let number = sym c.loop-b.invariant.as_many ∙ many is folder keys old cur new c.loop-b.rows c.loop-b.put laid in
    let e = c.in_err-one.field-0.0 in
    let test = c.loop-b-test.true in
    let all = c.len-b-end.ensures in
    subst (LaysBundles u made.plan folder old new) (sym (err-is c.from_residual.result e c.from_residual.ensures.1))
    (stops u made c.requires.prepared folder old cur new c.loop-b.rows c.loop-b.put laid c.requires.there c.loop-b.b number e c.in_err-one.ensures.puts (omega (arith, test, all)) c.in_err-one.ensures.grows)

pub returns-in_err-push-clause-puts : goal.returns-in_err-push-clause-puts
returns-in_err-push-clause-puts g c =
    let u = update_of c.args.compared.now in
    let made = c.args.prepared.now in
    let folder = c.args.folder.now in
    let old = g.D.Depot.now c.args.depot.now in
    let cur = g.D.Depot.now c.loop-b.depot in
    let new = g.D.Depot.now c.put_one.new.depot in
    let is = IsPutBundle u made.plan folder old in
    let keys = keys-apart u made c.requires.prepared folder old in
    let laid = c.loop-b.invariant.laid in
    let number = sym c.loop-b.invariant.as_many ∙ many is folder keys old cur new c.loop-b.rows c.loop-b.put laid in
    let more = next u made c.requires.prepared folder old cur new c.loop-b.rows c.loop-b.put laid c.requires.there c.loop-b.b number c.in_ok-one.one c.in_ok-one.ensures.puts c.in_ok-one.ensures.keyed c.in_ok-one.ensures.grows in
    subst (LaysBundles u made.plan folder old new) (sym (err-is c.from_residual-in_err-push.result NoMemory c.from_residual-in_err-push.ensures.1))
    (laid-memory is folder keys old new new (c.loop-b.rows ++ c.in_ok-one.one.row ∷ []) (c.loop-b.put + cond c.in_ok-one.one.put 1 0) more)

pub loop-b-preserved : goal.loop-b-preserved
loop-b-preserved g c =
    let u = update_of c.args.compared.now in
    let made = c.args.prepared.now in
    let folder = c.args.folder.now in
    let old = g.D.Depot.now c.args.depot.now in
    let cur = g.D.Depot.now c.loop-b.depot in
    let new = g.D.Depot.now c.put_one.new.depot in
    let is = IsPutBundle u made.plan folder old in
    let keys = keys-apart u made c.requires.prepared folder old in
    let laid = c.loop-b.invariant.laid in
    let number = sym c.loop-b.invariant.as_many ∙ many is folder keys old cur new c.loop-b.rows c.loop-b.put laid in
    let more = next u made c.requires.prepared folder old cur new c.loop-b.rows c.loop-b.put laid c.requires.there c.loop-b.b number c.in_ok-one.one c.in_ok-one.ensures.puts c.in_ok-one.ensures.keyed c.in_ok-one.ensures.grows in
    let longer = length-append c.loop-b.rows (c.in_ok-one.one.row ∷ []) in
    let before = c.loop-b.invariant.as_many in
    record {
      laid = subst (λ n. AreLaid is folder old new c.push.new.self (c.loop-b.put + n)) (sym c.count_of-put.ensures)
          (subst (λ rows. AreLaid is folder old new rows (c.loop-b.put + cond c.in_ok-one.one.put 1 0)) (sym c.in_ok-push.ensures.ok) more);
      as_many = ap length c.in_ok-push.ensures.ok ∙ (let e : length (c.loop-b.rows ++ c.in_ok-one.one.row ∷ []) ≡ c.loop-b.b + 1 = omega (arith, longer, before) in e);
      few = count-few c.loop-b.put c.count_of-put.result c.loop-b.b c.in_ok-one.one.put c.loop-b.invariant.few c.count_of-put.ensures;
      faults = c.in_ok-one.ensures.cause ∙ c.loop-b.invariant.faults;
    }

pub returns : goal.returns
returns g c =
    let here = c.loop-b.invariant.as_many in
    let few = c.loop-b.invariant.few in
    let ended = c.loop-b-test.false in
    let within = c.loop-b.auto.b-end in
    let all = c.len-b-end.ensures in
    record { puts = (c.loop-b.invariant.laid, omega (arith, here, ended, within, all), omega (arith, here, few)); cause = c.loop-b.invariant.faults }
