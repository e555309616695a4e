-- What `plan` prints of a placement: for each bundle its name, its entries, the implicit assets that are copied into it, and the
-- other bundles that it needs. Each line ends with a line feed (10), and a space (32) parts its fields.
use Rattle.std.specs.Prelude.{ℕ, ◌≡◌, ◌≢◌, ◌+◌, List, [], ◌∷◌, ◌++◌, length, codes, decimal, unwrap_or, option_map, slice_index_or, Some}
use Rattle.std.specs.List.{Contains, flat_map, slice_get}
use Rattle.addr_base.specs.Ids.{hex_of}
use Rattle.addr_project.specs.Kept.{asset_guids}
use Rattle.addr_project.specs.Model.{Project}
use Rattle.addr_project.specs.declared.model.Entry.{Entry}
use Rattle.addr_pack.specs.declared.bundles.Plan.{Plan}
use Rattle.addr_pack.specs.declared.bundles.PlanBundle.{PlanBundle}
use Rattle.addr_walks.specs.Closure.{IsDeps}
use Rattle.addr_walks.specs.Places.{EachAt}
use Rattle.addr_walks.specs.Walks.{IsListOf}
use Rattle.addr_layout.specs.Layout.{by_guid, MemberNumber}
use Rattle.addr_layout.specs.Needs.{Needs}

-- the number of an entry's asset, and the 32 digits of the GUID of an asset
abbrev pub asset_at : Project → ℕ → ℕ
asset_at p x = unwrap_or (option_map (λ e. e.asset) (slice_get p.entries x)) 0

abbrev pub digits_at : Project → ℕ → List ℕ
digits_at p n = hex_of (slice_index_or (asset_guids p.assets) n [])

abbrev pub entry_line : Project → ℕ → List ℕ
entry_line p x = codes "entry " ++ (digits_at p (asset_at p x) ++ 10 ∷ [])

abbrev pub copy_line : Project → ℕ → List ℕ
copy_line p n = codes "copy " ++ (digits_at p n ++ 10 ∷ [])

abbrev pub dep_line : ℕ → List ℕ
dep_line c = codes "dep " ++ (decimal c ++ 10 ∷ [])

-- what is told of a bundle: the numbers of its entries, of the assets copied into it, and of the other bundles that it needs
pub record Block : Type 0 where
  pub name : List ℕ
  pub entries : List ℕ
  pub copies : List ℕ
  pub deps : List ℕ

unfoldable pub block_text : Project → ℕ → Block → List ℕ
block_text p b block = codes "bundle " ++ (decimal b ++ 32 ∷ (block.name ++ 10 ∷ (flat_map (entry_line p) block.entries ++ (flat_map (copy_line p) block.copies ++ flat_map dep_line block.deps))))

-- the blocks of bundles, the first of which has a number
abbrev pub blocks_text : Project → ℕ → List Block → List ℕ
blocks_text p b [] = []
blocks_text p b (block ∷ blocks) = block_text p b block ++ blocks_text p (b + 1) blocks

-- the asset with a number is no entry's
abbrev pub IsImplicit : Project → ℕ → Type 0
IsImplicit p n = (e : Entry) → Contains p.entries e → e.asset ≢ n

-- the block tells of a bundle: its implicit members in the order of their GUIDs, and its dependencies after itself
pub record IsBlock (p : Project) (plan : Plan) (b : ℕ) (block : Block) : Type 0 where
  pub bundle : PlanBundle
  pub there : slice_get plan.bundles b ≡ Some bundle
  pub name : block.name ≡ bundle.name
  pub entries : block.entries ≡ bundle.entries
  pub copies : IsListOf (by_guid p) (λ n. MemberNumber p plan b n × IsImplicit p n) block.copies
  pub deps : IsDeps (Needs p plan) b (b ∷ block.deps)

-- a text goes on with the block of a bundle
abbrev pub TellsBlock : Project → Plan → ℕ → List ℕ → List ℕ → Type 0
TellsBlock p plan b old new = (block : Block) × IsBlock p plan b block × (new ≡ old ++ block_text p b block)

-- a text is the blocks of the first bundles
abbrev pub TellsFirst : Project → Plan → ℕ → List ℕ → Type 0
TellsFirst p plan n text = (blocks : List Block) × (length blocks ≡ n) × EachAt (IsBlock p plan) blocks × (text ≡ blocks_text p 0 blocks)

-- the text is the blocks of all bundles, one after the other
abbrev pub PlanText : Project → Plan → List ℕ → Type 0
PlanText p plan text = TellsFirst p plan (length plan.bundles) text
