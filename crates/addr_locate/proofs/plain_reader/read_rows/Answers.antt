use Rattle.std.proofs.Common.{◌<◌, ℕ, List, sym, subst, arith, length, IsTrue, Err}
use Rattle.std.specs.List.{AllByRecursion, list_all}
use Rattle.addr_locate.specs.PlainParts.{ReadsAssets}
use Rattle.addr_locate.specs.PlainRows.{IsAssetRow}
use Rattle.addr_locate.specs.Rows.{has_sound_deps, no_text_twice, keys_of}
use Rattle.addr_locate.specs.declared.rows.BundleRow.{BundleRow}
use Rattle.addr_locate.specs.declared.rows.PlainAsset.{PlainAsset}
use Rattle.addr_locate.proofs.PlainLemmas.{rows_err, all_sound, all_once, few_keys_of}
use Rattle.addr_locate.proofs.plain_reader.read_rows.Goals as goal

pub returns-in-Err : goal.returns-in-Err
returns-in-Err c =
    let P : ℕ → Type 0 = λ n. ReadsAssets c.in_ok-bundles.rest.now n (Err c.in-Err.e) in
    rows_err c.args.bytes.now c.in-Some.rest.now c.in_ok-bundles.rest.now c.in_ok-bundles.bundles c.in-Err.e c.in-Some.ensures.found c.in_ok-bundles.ensures (subst P c.len-count.ensures c.in-Err.ensures)

pub of_rows-requires-clause-few_keys : goal.of_rows-requires-clause-few_keys
of_rows-requires-clause-few_keys c =
    let P : List PlainAsset → Type 0 = λ assets. length (keys_of assets) < 4294967296 in
    subst P (sym c.into_vec-in-Ok.ensures) (omega (arith, few_keys_of c.in-Ok.assets, c.in-Ok.ensures.key_room, c.in_ok-bundles.ensures.room, c.in-Some.ensures.room, c.requires))

pub of_rows-requires-clause-deps : goal.of_rows-requires-clause-deps
of_rows-requires-clause-deps c =
    let P : List PlainAsset → Type 0 = λ assets. IsTrue (list_all (λ (a : PlainAsset). has_sound_deps (length c.into_vec.result.items) a.deps) assets) in
    let Q : List BundleRow → Type 0 = λ bundles. IsTrue (list_all (λ (a : PlainAsset). has_sound_deps (length bundles) a.deps) c.in-Ok.assets) in
    let R : ℕ → Type 0 = λ n. AllByRecursion (IsAssetRow n) c.in-Ok.assets in
    subst P (sym c.into_vec-in-Ok.ensures) (subst Q (sym c.into_vec.ensures) (all_sound (length c.in_ok-bundles.bundles) c.in-Ok.assets (subst R c.len-count.ensures c.in-Ok.ensures.each)))

pub of_rows-requires-clause-keys : goal.of_rows-requires-clause-keys
of_rows-requires-clause-keys c =
    let P : List PlainAsset → Type 0 = λ assets. IsTrue (list_all (λ (a : PlainAsset). no_text_twice a.keys) assets) in
    subst P (sym c.into_vec-in-Ok.ensures) (all_once c.len-count.result c.in-Ok.assets c.in-Ok.ensures.each)
