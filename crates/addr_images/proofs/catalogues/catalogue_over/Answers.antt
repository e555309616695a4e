use Rattle.std.proofs.Common.{◌≡◌, List, map, ap, subst, sym, ◌∙◌}
use Rattle.std.specs.Prelude.{IsTrue}
use Rattle.addr_catalog.specs.ReadsAlike.{ReadsAlike}
use Rattle.addr_catalog.specs.declared.catalogue.Catalogue.{Catalogue}
use Rattle.addr_locate.specs.Rows.{Rows, no_text_twice}
use Rattle.addr_locate.specs.declared.rows.BundleRow.{BundleRow}
use Rattle.addr_images.proofs.FitLemmas.{once-no-twice, rows-bundles}
use Rattle.addr_images.proofs.catalogues.catalogue_over.Goals as goal

pub returns-clause-alike : goal.returns-clause-alike
returns-clause-alike c =
    let rows : List BundleRow = c.args.rows in
    let located = c.in_ok-locator.ensures in
    let bundles : rows ≡ c.in_ok-locator.locator.bundles = sym (ap (λ (r : Rows). r.bundles) located ∙ rows-bundles rows c.args.assets.items) in
    let distinct = subst (λ (bs : List BundleRow). IsTrue (no_text_twice (map (λ b. b.key) bs))) bundles (once-no-twice (map (λ (b : BundleRow). b.key) rows) c.requires.apart) in
    subst (λ (r : Rows). let whole : Catalogue = record { locator = r; state = c.args.state } in ReadsAlike c.in_ok-bytes.bytes.items whole) located (c.in_ok-bytes.ensures.reads distinct)
