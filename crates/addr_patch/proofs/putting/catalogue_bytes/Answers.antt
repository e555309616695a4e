use Rattle.std.proofs.Common.{◌≡◌, ◌∙◌, length, ap, subst, sym}
use Rattle.std.specs.List.{AllZip}
use Rattle.addr_check.specs.Comparing.{update_of}
use Rattle.addr_needs.proofs.NeedLemmas.{edge-row}
use Rattle.addr_release.specs.Built.{IsEntryRowAs}
use Rattle.addr_update.proofs.PutLemmas.{zip-in}
use Rattle.addr_update.specs.After.{NeedsAfter}
use Rattle.addr_walks.specs.Rows.{Edge}
use Rattle.addr_patch.proofs.putting.catalogue_bytes.Goals as goal

pub returns : goal.returns
returns c =
    let u = update_of c.args.compared.now in
    let made = c.args.prepared.now in
    let rows = subst (λ d. AllZip (IsEntryRowAs u.project made.plan (Edge d)) u.project.entries c.in_ok-assets.assets.items) c.as_slice-direct.ensures c.in_ok-assets.ensures in
    record {
      assets = c.in_ok-assets.assets.items;
      entries = zip-in (IsEntryRowAs u.project made.plan (Edge made.needs)) (IsEntryRowAs u.project made.plan (NeedsAfter u made.plan)) u.project.entries c.in_ok-assets.assets.items
          (λ e row here is. edge-row u made.plan made.needs c.requires.prepared.needs u.project e row is) rows;
      text = c.in_ok-bytes.ensures.text;
      alike = c.in_ok-bytes.ensures.alike;
    }
