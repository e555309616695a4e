use Rattle.std.proofs.Common.{◌<◌, ◌∙◌, ap, sym, arith, length, Some, None, take, append-nil, List}
use Rattle.std.specs.List.{filter_map}
use Rattle.addr_base.specs.declared.ids.BundleNo.{BundleNo}
use Rattle.addr_locate.specs.Merge.{distinct}
use Rattle.addr_catalog.specs.Entries.{number_at}
use Rattle.addr_catalog.proofs.BundleLemmas.{none_seen}
use Rattle.addr_catalog.proofs.KeyLemmas.{some_more}
use Rattle.addr_catalog.proofs.numbering.bundles_among.Goals as goal
use Rattle.addr_catalog.proofs.numbering.bundles_among.Goals.{in-Some+in_ok-add_new, in_default}

pub loop-entry-init : goal.loop-entry-init
loop-entry-init c = record { once = c.new-found.ensures; has = none_seen c.new-seen.result c.new-found.result c.new-seen.ensures.empty c.new-found.ensures }

pub loop-entry-preserved : goal.loop-entry-preserved
loop-entry-preserved c =
    let ns = c.args.entries.now in
    let i = c.loop-entry.entry-index in
    let f = number_at c.args.numbers.now in
    let all : List BundleNo = filter_map f (take i ns) in
    let small : i < length ns = omega arith in
    let past = c.loop-entry.invariant in
    elim c.match-number_at.branch [
      | in-Some+in_ok-add_new w ↦
          let more = some_more f ns i (Some w.in-Some.bundle) small (sym c.number_at.ensures ∙ w.in-Some.is) in
          record {
            once = w.found-is ∙ (w.in_ok-add_new.ensures.once all past.has past.once ∙ ap distinct (sym more));
            has = rw (w.seen-is, w.found-is) (w.in_ok-add_new.ensures.has past.has);
          }
      | in_default w ↦
          let more = some_more f ns i None small (sym c.number_at.ensures ∙ w.in_default.is) in
          record { once = w.found-is ∙ (past.once ∙ ap distinct (sym (more ∙ append-nil all))); has = rw (w.seen-is, w.found-is) past.has }
    ]
