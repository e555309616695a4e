-- What is known of the state's files, from its parts; and the entries of a project.
use Rattle.std.proofs.Common.{◌≡◌, ◌<◌, ℕ, false, List, [], length, get_or, map, All, Option, Some, refl, sym, ap, subst, ◌∙◌, arith}
use Rattle.std.proofs.lemmas.List.Elements.{All-from_recursion, Contains-get_or}
use Rattle.std.proofs.lemmas.Option.{slice_get-get_or, slice_get_within}
use Rattle.std.specs.List.{AllZip, Contains, slice_get}
use Rattle.addr_base.specs.declared.ids.Guid.{Guid}
use Rattle.addr_layout.specs.Members.{IsNumbered}
use Rattle.addr_project.specs.Kept.{IsKept, IsKeptEntry}
use Rattle.addr_project.specs.declared.model.Asset.{Asset}
use Rattle.addr_project.specs.declared.model.Entry.{Entry}
use Rattle.addr_project.specs.declared.model.Group.{Group}
use Rattle.addr_project.specs.declared.model.Mode.TheVariants.{Together}
use Rattle.addr_project.specs.Model.{Project}
use Rattle.addr_update.specs.Moved.{IsIn}
use Rattle.addr_walks.proofs.Zips.{zip-right}
use Rattle.addr_walks.specs.Rows.{AreBelow}
use Rattle.addr_moves.specs.Firsts.{AreFirsts}
use Rattle.addr_moves.specs.within.Assets.{AreFound}
use Rattle.addr_moves.specs.within.Ways.{AreBadBelow}
use Rattle.addr_moves.proofs.AssetLemmas.{found-number}
use Rattle.addr_moves.proofs.GroupLemmas.{zip-long}

pub refs-below : (p : Project) → IsKept p → (find : List ℕ → Option ℕ) → AreFirsts (map (λ (asset : Asset). asset.guid.0) p.assets) find → (rows : List (List ℕ)) → AllZip (λ (asset : Asset) (row : List ℕ). AreFound find asset.refs row) p.assets rows → AreBelow rows (length rows)
refs-below p kept find firsts rows are = record { each = λ b c (row, at, here). below b c row at here }
  where
    below : (b c : ℕ) (row : List ℕ) → slice_get rows b ≡ Some row → Contains row c → c < length rows
    below b c row at here =
        let asset = zip-right (λ (asset : Asset) (row : List ℕ). AreFound find asset.refs row) p.assets rows are b row at in
        let from = asset.2.within c here in
        let number = found-number p kept find firsts from.0 c from.2 in
        subst (λ n. c < n) (sym (zip-long (λ (asset : Asset) (row : List ℕ). AreFound find asset.refs row) p.assets rows are)) (slice_get_within p.assets c number.0 number.1)

pub bad-below : (spoils : List (List Guid)) (away lost : List (Option Guid)) (k n : ℕ) (bad : List ℕ) → AreBadBelow spoils away lost k bad → k ≡ n → All (λ i. i < n) bad
bad-below spoils away lost k n bad are same = λ i d within. subst (λ m. get_or bad i d < m) same (are.below (get_or bad i d) (Contains-get_or bad i d within))

-- each entry has an asset and a group
pub some-in : (p : Project) → IsKept p → (x : ℕ) → x < length p.entries → (a : Guid) × (g : Group) × IsIn p x a g
some-in p kept x within =
    let none : Entry = record { asset = 0; group = 0; address = []; labels = [] } in
    let nothing : Asset = record { guid = record { 0 = [] }; kind = []; bytes = []; refs = [] } in
    let nobody : Group = record { name = []; mode = Together; fixed = false; remote = false } in
    let e : Entry = get_or p.entries x none in
    let numbers : IsKeptEntry p e = All-from_recursion (IsKeptEntry p) p.entries kept.entries x none within in
    let asset : Asset = get_or p.assets e.asset nothing in (
      asset.guid,
      get_or p.groups e.group nobody,
      (e, slice_get-get_or p.entries x none within, (asset, slice_get-get_or p.assets e.asset nothing numbers.asset, refl), slice_get-get_or p.groups e.group nobody numbers.group),
    )
