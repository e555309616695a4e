-- What the names of bundles are like, whatever the project is.
use Rattle.std.specs.Prelude.{ℕ, ◌≡◌, ◌≢◌, ◌||◌, ◌==◌, codes, Bool, true, List, [], ◌∷◌, ◌++◌, Some}
use Rattle.std.specs.List.{AllByRecursion, slice_get}
use Rattle.std.specs.Str.{IsUtf8}
use Rattle.addr_base.specs.Escapes.{escaped, is_name_byte}
use Rattle.addr_base.specs.Ids.{digest_of, hex_of}
use Rattle.addr_project.specs.declared.model.Group.{Group}
use Rattle.addr_project.specs.Model.{Project}
use Rattle.addr_pack.specs.declared.bundles.Plan.{Plan}
use Rattle.addr_pack.specs.declared.bundles.PlanBundle.{PlanBundle}

-- how the names of a group's bundles begin
abbrev pub beginning : Group → List ℕ
beginning g = escaped g.name ++ 95 ∷ []

abbrev pub BeginsWith : List ℕ → List ℕ → Type 0
BeginsWith front name = (rest : List ℕ) × (name ≡ front ++ rest)

-- the name of the bundle of the entries that an update moves
abbrev pub moved_name : List ℕ
moved_name = codes "Content~20Update_assets_all"

-- a letter, a digit, `-`, `~` or `_`
abbrev pub is_plain : ℕ → Bool
is_plain b = is_name_byte b || (b == 126 || b == 95)

-- a list of such bytes
abbrev pub ArePlain : List ℕ → Type 0
ArePlain bytes = AllByRecursion (λ b. is_plain b ≡ true) bytes

-- a bundle's name begins as those of its group do, and is not that of the moved entries' bundle
pub record IsGroupName (p : Project) (bundle : PlanBundle) : Type 0 where
  pub group : Group
  pub at : slice_get p.groups bundle.group ≡ Some group
  pub begins : BeginsWith (beginning group) bundle.name
  pub not_moved : bundle.name ≢ moved_name

-- a name is of plain bytes, and so it is UTF-8
pub record IsPlainName (name : List ℕ) : Type 0 where
  pub plain : ArePlain name
  pub utf8 : IsUtf8 name

-- the internal name of a bundle
abbrev pub internal_name : PlanBundle → List ℕ
internal_name bundle = digest_of bundle.name

-- different names of a plan have different digests: a premise wherever bundles are found by their internal names, since no
-- proof can give it
abbrev pub InternalNamesDiffer : Plan → Type 0
InternalNamesDiffer plan = (b c : ℕ) (one other : PlanBundle) → slice_get plan.bundles b ≡ Some one → slice_get plan.bundles c ≡ Some other
    → internal_name one ≡ internal_name other → one.name ≡ other.name

-- bundles whose internal names have the same digits are one
abbrev pub DigitsTell : Plan → Type 0
DigitsTell plan = (b c : ℕ) (one other : PlanBundle) → slice_get plan.bundles b ≡ Some one → slice_get plan.bundles c ≡ Some other
    → hex_of (internal_name one) ≡ hex_of (internal_name other) → b ≡ c
