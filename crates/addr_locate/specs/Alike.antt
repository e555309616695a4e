-- When two catalogues' rows say the same, whatever numbers their keys have and however a row's later keys are ordered.
use Rattle.std.specs.Prelude.{ℕ, ◌≡◌, ◌↔◌, List}
use Rattle.std.specs.List.{AllZip, Contains, slice_get}
use Rattle.addr_locate.specs.Rows.{Rows, written}
use Rattle.addr_locate.specs.declared.rows.AssetRow.{AssetRow}

-- two asset rows have the same id, type text, dependencies, first key text and set of key texts
pub record AreAlikeRows (r s : Rows) (a b : AssetRow) : Type 0 where
  pub id : a.id ≡ b.id
  pub kind : (written r a).kind ≡ (written s b).kind
  pub deps : a.deps ≡ b.deps
  pub first : slice_get (written r a).keys 0 ≡ slice_get (written s b).keys 0
  pub keys : (text : List ℕ) → Contains (written r a).keys text ↔ Contains (written s b).keys text

-- the bundles are the same, and the asset rows are alike one by one
abbrev pub Alike : Rows → Rows → Type 0
Alike r s = (r.bundles ≡ s.bundles) × AllZip (AreAlikeRows r s) r.assets s.assets
