use Rattle.std.proofs.Common.{◌≡◌, ◌<◌, ◌∙◌, ℕ, List, length, IfSome, None, Some, ap, subst, sym, arith}
use Rattle.std.proofs.lemmas.Option.{slice_get_within}
use Rattle.addr_base.specs.Files.{file_at}
use Rattle.addr_base.specs.Ids.{Are16Bytes}
use Rattle.addr_build.specs.Making.{IsMade, PutsOne}
use Rattle.addr_build.proofs.LaidLemmas.{puts-as}
use Rattle.addr_check.specs.Comparing.{update_of}
use Rattle.addr_layout.proofs.RankLemmas.{read-at, same-some}
use Rattle.addr_project.specs.Reading.{path}
use Rattle.addr_state.specs.Sound.{IsWellFormed}
use Rattle.addr_state.specs.declared.model.StateBundle.{StateBundle}
use Rattle.addr_update.specs.After.{IsRowOfOld}
use Rattle.addr_patch.specs.within.Putting.{IsPutBundle, Stands}
use Rattle.addr_patch.proofs.BundleLemmas.{kept-keyed, kept-step, new-at, number-at, old-at, olds-many, put-new, row-at}
use Rattle.addr_patch.proofs.putting.put_one.Goals as goal

pub bounds-as_slice-b : goal.bounds-as_slice-b
bounds-as_slice-b g c =
    let many = olds-many (update_of c.args.compared.now) c.args.prepared.now c.requires.prepared in
    let within = c.requires.within in
    let e = ap length c.as_slice.ensures in
    omega (arith, many, within, e)

pub bounds-as_slice-m : goal.bounds-as_slice-m
bounds-as_slice-m g c =
    let u = update_of c.args.compared.now in
    let made = c.args.prepared.now in
    let is = c.requires.prepared in
    let at = old-at u made is c.args.b c.in-Some.m (number-at u made is c.as_slice.result.now c.args.b (Some c.in-Some.m) c.as_slice.ensures c.requires.within c.in-Some.is) c.requires.within in
    let below = slice_get_within u.state.bundles c.in-Some.m at.old at.stays.0 in
    let e = ap length c.as_slice-in-Some.ensures in
    omega (arith, below, e)

pub bounds-as_slice-m-in-Some : goal.bounds-as_slice-m-in-Some
bounds-as_slice-m-in-Some g c =
    let u = update_of c.args.compared.now in
    let made = c.args.prepared.now in
    let is = c.requires.prepared in
    let at = old-at u made is c.args.b c.in-Some.m (number-at u made is c.as_slice.result.now c.args.b (Some c.in-Some.m) c.as_slice.ensures c.requires.within c.in-Some.is) c.requires.within in
    let (row, row_at, told) = row-at u made is c.in-Some.m at.old at.stays.0 in
    let below = slice_get_within made.rows c.in-Some.m row row_at in
    let e = ap length c.as_slice-in-Some-2.ensures in
    omega (arith, below, e)

pub put_kept-requires-clause-formed : goal.put_kept-requires-clause-formed
put_kept-requires-clause-formed g c =
    let u = update_of c.args.compared.now in
    let made = c.args.prepared.now in
    let is = c.requires.prepared in
    let at = old-at u made is c.args.b c.in-Some.m (number-at u made is c.as_slice.result.now c.args.b (Some c.in-Some.m) c.as_slice.ensures c.requires.within c.in-Some.is) c.requires.within in
    let below = slice_get_within u.state.bundles c.in-Some.m at.old at.stays.0 in
    let (row, row_at, told) = row-at u made is c.in-Some.m at.old at.stays.0 in
    let row_below = slice_get_within made.rows c.in-Some.m row row_at in
    let here = read-at c.as_slice-in-Some.result.now u.state.bundles c.in-Some.m c.index-as_slice-m.result c.as_slice-in-Some.ensures (let e = ap length c.as_slice-in-Some.ensures in omega (arith, below, e)) c.index-as_slice-m.is in
    let old_is : c.index-as_slice-m.result ≡ at.old = same-some c.index-as_slice-m.result at.old (sym here ∙ at.stays.0) in
    subst IsWellFormed (sym old_is) (c.requires.sound.formed c.in-Some.m at.old at.stays.0)

pub put_kept-requires-clause-row : goal.put_kept-requires-clause-row
put_kept-requires-clause-row g c =
    let u = update_of c.args.compared.now in
    let made = c.args.prepared.now in
    let is = c.requires.prepared in
    let at = old-at u made is c.args.b c.in-Some.m (number-at u made is c.as_slice.result.now c.args.b (Some c.in-Some.m) c.as_slice.ensures c.requires.within c.in-Some.is) c.requires.within in
    let below = slice_get_within u.state.bundles c.in-Some.m at.old at.stays.0 in
    let (row, row_at, told) = row-at u made is c.in-Some.m at.old at.stays.0 in
    let row_below = slice_get_within made.rows c.in-Some.m row row_at in
    let here = read-at c.as_slice-in-Some.result.now u.state.bundles c.in-Some.m c.index-as_slice-m.result c.as_slice-in-Some.ensures (let e = ap length c.as_slice-in-Some.ensures in omega (arith, below, e)) c.index-as_slice-m.is in
    let old_is : c.index-as_slice-m.result ≡ at.old = same-some c.index-as_slice-m.result at.old (sym here ∙ at.stays.0) in
    let row_here = read-at c.as_slice-in-Some-2.result.now made.rows c.in-Some.m c.index-as_slice-m-in-Some.result c.as_slice-in-Some-2.ensures (let e = ap length c.as_slice-in-Some-2.ensures in omega (arith, row_below, e)) c.index-as_slice-m-in-Some.is in
    let row_is : c.index-as_slice-m-in-Some.result ≡ row = same-some c.index-as_slice-m-in-Some.result row (sym row_here ∙ row_at) in
    let row_told : IsRowOfOld at.old c.index-as_slice-m-in-Some.result = subst (IsRowOfOld at.old) (sym row_is) told in
    subst (λ o. IsRowOfOld o c.index-as_slice-m-in-Some.result) (sym old_is) row_told

pub returns-in-Some-clause-puts : goal.returns-in-Some-clause-puts
returns-in-Some-clause-puts g c =
    let u = update_of c.args.compared.now in
    let made = c.args.prepared.now in
    let is = c.requires.prepared in
    let at = old-at u made is c.args.b c.in-Some.m (number-at u made is c.as_slice.result.now c.args.b (Some c.in-Some.m) c.as_slice.ensures c.requires.within c.in-Some.is) c.requires.within in
    let below = slice_get_within u.state.bundles c.in-Some.m at.old at.stays.0 in
    let (row, row_at, told) = row-at u made is c.in-Some.m at.old at.stays.0 in
    let row_below = slice_get_within made.rows c.in-Some.m row row_at in
    let here = read-at c.as_slice-in-Some.result.now u.state.bundles c.in-Some.m c.index-as_slice-m.result c.as_slice-in-Some.ensures (let e = ap length c.as_slice-in-Some.ensures in omega (arith, below, e)) c.index-as_slice-m.is in
    let old_is : c.index-as_slice-m.result ≡ at.old = same-some c.index-as_slice-m.result at.old (sym here ∙ at.stays.0) in
    let row_here = read-at c.as_slice-in-Some-2.result.now made.rows c.in-Some.m c.index-as_slice-m-in-Some.result c.as_slice-in-Some-2.ensures (let e = ap length c.as_slice-in-Some-2.ensures in omega (arith, row_below, e)) c.index-as_slice-m-in-Some.is in
    let row_is : c.index-as_slice-m-in-Some.result ≡ row = same-some c.index-as_slice-m-in-Some.result row (sym row_here ∙ row_at) in
    let row_told : IsRowOfOld at.old c.index-as_slice-m-in-Some.result = subst (IsRowOfOld at.old) (sym row_is) told in
    let folder = c.args.folder.now in
    let old = g.D.Depot.now c.args.depot.now in
    let new = g.D.Depot.now c.put_kept.new.depot in
    kept-step u made is folder old new c.args.b c.in-Some.m at c.index-as_slice-m-in-Some.result c.put_kept.result row_told (subst (λ (o : StateBundle). Are16Bytes o.digest.0) old_is c.put_kept.ensures.fits)
    (subst (λ (o : StateBundle). (k : ℕ) → IfSome old.files (λ files. (file : List ℕ) × (file_at (path folder o.file) files ≡ Some file)) → PutsOne (Stands o c.index-as_slice-m-in-Some.result old folder) folder k old new c.put_kept.result)
    old_is c.put_kept.ensures.puts)

pub returns-in-Some-clause-keyed : goal.returns-in-Some-clause-keyed
returns-in-Some-clause-keyed g c =
    let u = update_of c.args.compared.now in
    let made = c.args.prepared.now in
    let is = c.requires.prepared in
    let at = old-at u made is c.args.b c.in-Some.m (number-at u made is c.as_slice.result.now c.args.b (Some c.in-Some.m) c.as_slice.ensures c.requires.within c.in-Some.is) c.requires.within in
    let below = slice_get_within u.state.bundles c.in-Some.m at.old at.stays.0 in
    let (row, row_at, told) = row-at u made is c.in-Some.m at.old at.stays.0 in
    let row_below = slice_get_within made.rows c.in-Some.m row row_at in
    let here = read-at c.as_slice-in-Some.result.now u.state.bundles c.in-Some.m c.index-as_slice-m.result c.as_slice-in-Some.ensures (let e = ap length c.as_slice-in-Some.ensures in omega (arith, below, e)) c.index-as_slice-m.is in
    let old_is : c.index-as_slice-m.result ≡ at.old = same-some c.index-as_slice-m.result at.old (sym here ∙ at.stays.0) in
    let row_here = read-at c.as_slice-in-Some-2.result.now made.rows c.in-Some.m c.index-as_slice-m-in-Some.result c.as_slice-in-Some-2.ensures (let e = ap length c.as_slice-in-Some-2.ensures in omega (arith, row_below, e)) c.index-as_slice-m-in-Some.is in
    let row_is : c.index-as_slice-m-in-Some.result ≡ row = same-some c.index-as_slice-m-in-Some.result row (sym row_here ∙ row_at) in
    let row_told : IsRowOfOld at.old c.index-as_slice-m-in-Some.result = subst (IsRowOfOld at.old) (sym row_is) told in
    kept-keyed u made is c.args.b c.in-Some.m at c.index-as_slice-m-in-Some.result c.put_kept.result row_told (subst (λ (o : StateBundle). Are16Bytes o.digest.0) old_is c.put_kept.ensures.fits) c.put_kept.ensures.row

pub put_new-requires-clause-new : goal.put_new-requires-clause-new
put_new-requires-clause-new g c =
    let u = update_of c.args.compared.now in
    let made = c.args.prepared.now in
    let is = c.requires.prepared in
    new-at u made is c.args.b (number-at u made is c.as_slice.result.now c.args.b None c.as_slice.ensures c.requires.within c.in-None.is) c.requires.within

pub returns-in-None-clause-puts : goal.returns-in-None-clause-puts
returns-in-None-clause-puts g c =
    let u = update_of c.args.compared.now in
    let made = c.args.prepared.now in
    let is = c.requires.prepared in
    let folder = c.args.folder.now in
    let old = g.D.Depot.now c.args.depot.now in
    let new = g.D.Depot.now c.put_new.new.depot in
    let fresh = new-at u made is c.args.b (number-at u made is c.as_slice.result.now c.args.b None c.as_slice.ensures c.requires.within c.in-None.is) c.requires.within in
    λ there. puts-as (IsMade u.project made.plan) (IsPutBundle u made.plan folder old) folder c.args.b old new c.put_new.result (put-new u made is folder old c.args.b fresh) c.put_new.ensures.puts
