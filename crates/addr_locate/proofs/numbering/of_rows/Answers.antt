use Rattle.std.proofs.Common.{◌∙◌, ap, sym, subst, length, refl}
use Rattle.std.specs.List.{list_all}
use Rattle.addr_locate.specs.declared.rows.AssetRow.{AssetRow}
use Rattle.addr_locate.specs.Postings.{no_key_twice}
use Rattle.addr_locate.specs.Rows.{Rows, rows_of, AreRows}
use Rattle.addr_locate.proofs.NumberLemmas.{AreRows-rows_of, rows_of-made, keys_below}
use Rattle.addr_locate.proofs.PostingLemmas.{postings_at, lists_rows, rows_apart}
use Rattle.addr_locate.proofs.numbering.of_rows.Goals as goal

pub postings_of-requires-clause-once : goal.postings_of-requires-clause-once
postings_of-requires-clause-once c =
    let bundles = c.args.bundles.items in
    let items = c.args.assets.items in
    let made = c.in_ok-assets.ensures in
    let same = rows_of-made bundles bundles items c.in_ok-assets.assets c.number_rows.new.keys c.number_rows.new.kinds refl made.rows made.keys made.kinds in
    ap (list_all (λ (a : AssetRow). no_key_twice a.keys)) (c.as_slice.ensures ∙ ap (λ (r : Rows). r.assets) same)
    ∙ rows_apart (rows_of bundles items) (AreRows-rows_of bundles items c.requires.few_bundles c.requires.few_assets c.requires.few_keys c.requires.deps c.requires.keys)

pub invariant_of-result : goal.invariant_of-result
invariant_of-result c =
    let bundles = c.args.bundles.items in
    let items = c.args.assets.items in
    let made = c.in_ok-assets.ensures in
    let same = rows_of-made bundles c.from_vec-bundles.result items c.in_ok-assets.assets c.number_rows.new.keys c.number_rows.new.kinds c.from_vec-bundles.ensures made.rows made.keys made.kinds in
    let are = subst AreRows (sym same) (AreRows-rows_of bundles items c.requires.few_bundles c.requires.few_assets c.requires.few_keys c.requires.deps c.requires.keys) in
    let posted = postings_at c.as_slice.result.now c.in_ok-assets.assets (length c.texts.result.now) (length c.number_rows.new.keys) c.in_ok-postings.postings.items c.as_slice.ensures (ap length c.texts.ensures) c.in_ok-postings.ensures in
    record {
      are = are;
      posted = lists_rows c.in_ok-assets.assets (length c.number_rows.new.keys) c.in_ok-postings.postings.items posted (keys_below (record { bundles = c.from_vec-bundles.result; assets = c.in_ok-assets.assets; keys = c.number_rows.new.keys; kinds = c.number_rows.new.kinds }) are);
    }

pub returns : goal.returns
returns c =
    let made = c.in_ok-assets.ensures in
    rows_of-made c.args.bundles.items c.from_vec-bundles.result c.args.assets.items c.in_ok-assets.assets c.number_rows.new.keys c.number_rows.new.kinds c.from_vec-bundles.ensures made.rows made.keys made.kinds
