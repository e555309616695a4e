use Rattle.std.proofs.Common.{◌≡◌, ◌+◌, List, ℕ, get_or, length, subst, sym, ◌∙◌, arith}
use Rattle.std.proofs.lemmas.Option.{slice_get-get_or}
use Rattle.addr_moves.specs.declared.fate.Fate.TheVariants.{Free}
use Rattle.addr_moves.specs.within.Split.{AreKeptRows}
use Rattle.addr_moves.proofs.KeptRowLemmas.{rows-all, rows-empty, rows-more}
use Rattle.addr_moves.proofs.splitting.kept_rows.Goals as goal

pub loop-preserved : goal.loop-preserved
loop-preserved c = record {
  len = (let more = c.in_ok-push.ensures.len in let old = c.loop.invariant.len in omega (arith, more, old));
  rows = rows-empty c.args.fates.now c.loop.rows.items c.push.new.self.items c.new.result c.new.ensures c.in_ok-push.ensures.items c.loop.invariant.rows;
}

pub loop-x-preserved : goal.loop-x-preserved
loop-x-preserved c =
    let fates = c.args.fates.now in
    let x = c.loop-x.x in
    record {
      len = c.in_ok-put_kept.ensures.len ∙ c.loop-x.invariant.len;
      rows = rows-more fates x (get_or fates x Free) c.loop-x.rows.items c.put_kept.new.rows.items (slice_get-get_or fates x Free c.loop-x-test.true) c.in_ok-put_kept.ensures.put c.loop-x.invariant.rows;
    }

pub returns-clause-rows : goal.returns-clause-rows
returns-clause-rows c = subst (AreKeptRows c.args.fates.now (length c.args.fates.now)) (sym c.from_vec.ensures) (rows-all c.args.fates.now c.loop-x.x c.loop-x.rows.items c.loop-x-test.false c.loop-x.invariant.rows)
