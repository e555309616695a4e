-- Rows keep what every locator keeps when other bundles stand for as many: for `evaluate`.
use Rattle.std.proofs.Common.{ℕ, ◌≡◌, List, length, ap, sym, subst, IsTrue, arith}
use Rattle.std.specs.List.{list_all}
use Rattle.addr_locate.specs.Rows.{Rows, AreRows, rows_of, has_sound_deps}
use Rattle.addr_locate.specs.declared.rows.AssetRow.{AssetRow}
use Rattle.addr_locate.specs.declared.rows.BundleRow.{BundleRow}

pub AreRows-as_many : (bundles others : List BundleRow) (assets : List AssetRow) (keys kinds : List (List ℕ)) → length others ≡ length bundles → AreRows (record { bundles = bundles; assets = assets; keys = keys; kinds = kinds }) → AreRows (record { bundles = others; assets = assets; keys = keys; kinds = kinds })
unfolding rows_of
AreRows-as_many bundles others assets keys kinds as_many are = record {
  numbers = ap (λ (r : Rows). record { bundles = others; assets = r.assets; keys = r.keys; kinds = r.kinds }) are.numbers;
  few_bundles = omega (arith, as_many, are.few_bundles);
  few_assets = are.few_assets;
  few_keys = are.few_keys;
  deps = (let P : ℕ → Type 0 = λ count. IsTrue (list_all (λ (a : AssetRow). has_sound_deps count a.deps) assets) in subst P (sym as_many) are.deps);
  keys = are.keys;
}
