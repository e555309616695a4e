use Rattle.std.proofs.Common.{◌<◌, ◌∙◌, ap, sym, arith, length, get_or, List}
use Rattle.std.proofs.lemmas.Result.{err_from_is_err_and}
use Rattle.addr_tables.specs.declared.rows.EntryRow.{EntryRow}
use Rattle.addr_catalog.specs.Entries.{bundle_read, keys_holding}
use Rattle.addr_catalog.proofs.EachLemmas.{each_read, each_fails, each_done}
use Rattle.addr_catalog.proofs.InvertedLemmas.{long_as, made_at}
use Rattle.addr_catalog.proofs.reader.read_bundles.Goals as goal

pub bounds-keys-i : goal.bounds-keys-i
bounds-keys-i c = omega (arith, long_as (keys_holding c.args.rows.now) (length c.args.rows.now.entries) c.args.keys.now c.requires.held, ap length c.as_slice-entry-items.ensures)

pub read_bundle-requires : goal.read_bundle-requires
read_bundle-requires c =
    let small : c.loop-i.i < length c.args.rows.now.entries = omega (arith, ap length c.as_slice-entry-items.ensures) in
    c.as_slice.ensures ∙ made_at (keys_holding c.args.rows.now) (length c.args.rows.now.entries) c.loop-i.i c.args.keys.now c.index-keys-i.result c.requires.held small c.index-keys-i.is

pub returns-in_err-bundle : goal.returns-in_err-bundle
returns-in_err-bundle c =
    let p = err_from_is_err_and c.from_residual.result c.from_residual.ensures.1 in
    let entries = c.args.rows.now.entries in
    let small : c.loop-i.i < length entries = omega (arith, ap length c.as_slice-entry-items.ensures) in
    let is = c.entry-item.is ∙ ap (λ (es : List EntryRow). get_or es c.loop-i.i c.entry-item.result) c.as_slice-entry-items.ensures in
    rw (p.1, p.2) (λ ne. each_fails (bundle_read c.args.lists.now c.args.rows.now) entries c.loop-i.i c.entry-item.result c.loop-i.bundles c.in_err-bundle.field-0.0 _ small (ap (bundle_read c.args.lists.now c.args.rows.now c.loop-i.i) (sym is) ∙ c.in_err-bundle.ensures.exact ne) c.loop-i.invariant)

pub loop-i-preserved : goal.loop-i-preserved
loop-i-preserved c =
    let entries = c.args.rows.now.entries in
    let small : c.loop-i.i < length entries = omega (arith, ap length c.as_slice-entry-items.ensures) in
    let is = c.entry-item.is ∙ ap (λ (es : List EntryRow). get_or es c.loop-i.i c.entry-item.result) c.as_slice-entry-items.ensures in
    rw c.in_ok-push.ensures.ok (each_read (bundle_read c.args.lists.now c.args.rows.now) entries c.loop-i.i c.entry-item.result c.loop-i.bundles c.in_ok-bundle.bundle _ small (ap (bundle_read c.args.lists.now c.args.rows.now c.loop-i.i) (sym is) ∙ c.in_ok-bundle.ensures.exact) c.loop-i.invariant)

pub returns : goal.returns
returns c = each_done (bundle_read c.args.lists.now c.args.rows.now) c.args.rows.now.entries c.loop-i.i c.loop-i.bundles _ (omega (arith, ap length c.as_slice-entry-items.ensures)) c.loop-i.invariant
