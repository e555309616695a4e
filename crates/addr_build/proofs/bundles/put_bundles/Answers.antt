use Rattle.std.proofs.Common.{Ok, Err, ◌≡◌, ◌∙◌, ◌+◌, [], ◌∷◌, ◌++◌, cond, length, refl, ap, subst, sym, arith, length-append}
use Rattle.addr_catalog.proofs.ReadKeyLemmas.{there_is}
use Rattle.addr_release.specs.Built.{IsBundleOf}
use Rattle.addr_build.specs.Making.{IsMade}
use Rattle.addr_build.specs.within.Building.{AreLaid, PutsBundles}
use Rattle.addr_build.specs.declared.error.PutErr.TheVariants.{NoMemory}
use Rattle.addr_build.proofs.EndLemmas.{err-is}
use Rattle.addr_build.proofs.KeyLemmas.{built-apart}
use Rattle.addr_build.proofs.LaidLemmas.{built-bundle, puts-as, laid-none, laid-next, laid-memory, laid-stops, count-few, many, still-next}
use Rattle.addr_build.proofs.bundles.put_bundles.Goals as goal

pub loop-b-init : goal.loop-b-init
loop-b-init g c =
    let old = g.D.Depot.now c.args.depot.now in
    record {
      laid = subst (λ rows. AreLaid (IsBundleOf c.args.project.now c.args.plan.now) c.args.folder.now old old rows 0) (sym c.new-rows.ensures) (laid-none (IsBundleOf c.args.project.now c.args.plan.now) c.args.folder.now old);
      as_many = ap length c.new-rows.ensures;
      few = omega arith;
      still = λ none. record { files = refl; past = refl };
      faults = refl;
    }

pub returns-in_err-one-clause-puts : goal.returns-in_err-one-clause-puts
returns-in_err-one-clause-puts g c =
    let is = IsBundleOf c.args.project.now c.args.plan.now in
    let keys = built-apart c.args.project.now c.args.plan.now c.requires.placed in
    let folder = c.args.folder.now in
    let old = g.D.Depot.now c.args.depot.now in
    let cur = g.D.Depot.now c.loop-b.depot in
    let new = g.D.Depot.now c.put_new.new.depot in
    let e = c.in_err-one.field-0.0 in
    let laid = c.loop-b.invariant.laid in
    let number = sym c.loop-b.invariant.as_many ∙ many is folder keys old cur new c.loop-b.rows c.loop-b.put laid in
    subst (PutsBundles is (length c.args.plan.now.bundles) folder old new) (sym (err-is c.from_residual.result e c.from_residual.ensures.1))
    (laid-stops is folder keys old cur new c.loop-b.rows c.loop-b.put laid c.loop-b.b e number (puts-as (IsMade c.args.project.now c.args.plan.now) is folder c.loop-b.b cur new (Err e) (built-bundle c.args.project.now c.args.plan.now c.requires.placed c.loop-b.b) c.in_err-one.ensures.puts))

pub returns-in_err-push-clause-puts : goal.returns-in_err-push-clause-puts
returns-in_err-push-clause-puts g c =
    let is = IsBundleOf c.args.project.now c.args.plan.now in
    let keys = built-apart c.args.project.now c.args.plan.now c.requires.placed in
    let folder = c.args.folder.now in
    let old = g.D.Depot.now c.args.depot.now in
    let cur = g.D.Depot.now c.loop-b.depot in
    let new = g.D.Depot.now c.put_new.new.depot in
    let laid = c.loop-b.invariant.laid in
    let number = sym c.loop-b.invariant.as_many ∙ many is folder keys old cur new c.loop-b.rows c.loop-b.put laid in
    let next = laid-next is folder keys old cur new c.loop-b.rows c.loop-b.put laid c.loop-b.b c.in_ok-one.one number (puts-as (IsMade c.args.project.now c.args.plan.now) is folder c.loop-b.b cur new (Ok c.in_ok-one.one) (built-bundle c.args.project.now c.args.plan.now c.requires.placed c.loop-b.b) c.in_ok-one.ensures.puts) in
    subst (PutsBundles is (length c.args.plan.now.bundles) folder old new) (sym (err-is c.from_residual-in_err-push.result NoMemory c.from_residual-in_err-push.ensures.1))
    (laid-memory is folder keys old new new (c.loop-b.rows ++ c.in_ok-one.one.row ∷ []) (c.loop-b.put + cond c.in_ok-one.one.put 1 0) next)

pub loop-b-preserved : goal.loop-b-preserved
loop-b-preserved g c =
    let is = IsBundleOf c.args.project.now c.args.plan.now in
    let keys = built-apart c.args.project.now c.args.plan.now c.requires.placed in
    let folder = c.args.folder.now in
    let old = g.D.Depot.now c.args.depot.now in
    let cur = g.D.Depot.now c.loop-b.depot in
    let new = g.D.Depot.now c.put_new.new.depot in
    let laid = c.loop-b.invariant.laid in
    let number = sym c.loop-b.invariant.as_many ∙ many is folder keys old cur new c.loop-b.rows c.loop-b.put laid in
    let next = laid-next is folder keys old cur new c.loop-b.rows c.loop-b.put laid c.loop-b.b c.in_ok-one.one number (puts-as (IsMade c.args.project.now c.args.plan.now) is folder c.loop-b.b cur new (Ok c.in_ok-one.one) (built-bundle c.args.project.now c.args.plan.now c.requires.placed c.loop-b.b) c.in_ok-one.ensures.puts) in
    let longer = length-append c.loop-b.rows (c.in_ok-one.one.row ∷ []) in
    let before = c.loop-b.invariant.as_many in
    record {
      laid = subst (λ n. AreLaid is folder old new c.push.new.self (c.loop-b.put + n)) (sym c.count_of-put.ensures)
          (subst (λ rows. AreLaid is folder old new rows (c.loop-b.put + cond c.in_ok-one.one.put 1 0)) (sym c.in_ok-push.ensures.ok) next);
      as_many = ap length c.in_ok-push.ensures.ok ∙ (let e : length (c.loop-b.rows ++ c.in_ok-one.one.row ∷ []) ≡ c.loop-b.b + 1 = omega (arith, longer, before) in e);
      few = count-few c.loop-b.put c.count_of-put.result c.loop-b.b c.in_ok-one.one.put c.loop-b.invariant.few c.count_of-put.ensures;
      still = still-next old cur new c.loop-b.put c.count_of-put.result c.in_ok-one.one.put c.count_of-put.ensures c.loop-b.invariant.still c.in_ok-one.ensures.puts.5;
      faults = c.in_ok-one.ensures.cause ∙ c.loop-b.invariant.faults;
    }

pub returns : goal.returns
returns g c =
    let here = c.loop-b.invariant.as_many in
    let few = c.loop-b.invariant.few in
    let ended = c.loop-b-test.false in
    let within = c.loop-b.auto.b-end in
    let all = c.len-b-end.ensures in
    record { puts = (c.loop-b.invariant.laid, omega (arith, here, ended, within, all), omega (arith, here, few), c.loop-b.invariant.still); cause = c.loop-b.invariant.faults }

pub put_new-requires-clause-new : goal.put_new-requires-clause-new
put_new-requires-clause-new g c =
    let test = c.loop-b-test.true in
    let all = c.len-b-end.ensures in
    let (bundle, at) = there_is c.args.plan.now.bundles c.loop-b.b (omega (arith, test, all)) in
    (bundle, at, c.placement_is_shared.ensures.new c.loop-b.b bundle at)
