-- What planning knows of the first entries of a project: the classes of one name.
use Rattle.std.specs.Prelude.{ℕ, ◌≡◌, ◌<◌, List, [], ◌∷◌, ◌++◌, false, Option, Some, None, String, string_bytes}
use Rattle.std.specs.BTreeMap.{BTreeMap, get_by_text}
use Rattle.std.specs.Global.{Global}
use Rattle.std.specs.List.{Contains}
use Rattle.std.specs.List.Sorted.{IsStrictlySortedBy}
use Rattle.std.specs.Map.{update}
use Rattle.std.specs.Ordering.{nat_cmp}
use Rattle.std.specs.Str.{bytes_eq}
use Rattle.addr_project.specs.Model.{Project}
use Rattle.addr_pack.specs.declared.bundles.PlanBundle.{PlanBundle}
use Rattle.addr_pack.specs.declared.class.Class.{Class}
use Rattle.addr_pack.specs.Naming.{IsNamed}

-- what is found under a name has, in ascending order, the entries below a number that have this name; nothing has none
pub record IsClassBelow (p : Project) (n : ℕ) (name : List ℕ) (found : Option Class) : Type 0 where
  pub filled : (class : Class) → found ≡ Some class → (x : ℕ) × Contains class.entries x
  pub ascending : (class : Class) → found ≡ Some class → IsStrictlySortedBy nat_cmp class.entries
  pub within : (class : Class) → found ≡ Some class → (x : ℕ) → Contains class.entries x → (x < n) × IsNamed p x class.group name
  pub all : (x g : ℕ) → x < n → IsNamed p x g name → (class : Class) × (found ≡ Some class) × Contains class.entries x

-- the map has the class of each name
abbrev pub AreClasses : Project → ℕ → BTreeMap (String Global) Class → Type 0
AreClasses p n classes = (name : List ℕ) → IsClassBelow p n name (get_by_text classes name)

-- what is found, with one more entry
abbrev pub with_entry : ℕ → ℕ → Option Class → Class
with_entry group x None = record { group = group; entries = x ∷ [] }
with_entry group x (Some class) = record { group = class.group; entries = class.entries ++ x ∷ [] }

-- the class of a name has one more entry, and the others are as before
abbrev pub IsAdded : List ℕ → ℕ → ℕ → BTreeMap (String Global) Class → BTreeMap (String Global) Class → Type 0
IsAdded name group x old new = (other : List ℕ) → get_by_text new other ≡ update bytes_eq (get_by_text old) name (Some (with_entry group x (get_by_text old name))) other

-- the bundle of a name and its class
abbrev pub bundle_of : String Global × Class → PlanBundle
bundle_of entry = record { name = string_bytes entry.0; group = entry.1.group; kept = false; entries = entry.1.entries }
