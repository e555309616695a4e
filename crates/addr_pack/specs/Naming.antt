-- What a bundle is named after its group and one of its entries.
use Rattle.std.specs.Prelude.{ℕ, ◌≡◌, List, ◌∷◌, ◌++◌, codes, Some}
use Rattle.std.specs.List.{flat_map, slice_get}
use Rattle.addr_base.specs.Escapes.{escaped}
use Rattle.addr_base.specs.Ids.{hex_of}
use Rattle.addr_base.specs.declared.ids.Guid.{Guid}
use Rattle.addr_project.specs.Model.{Project}
use Rattle.addr_project.specs.declared.model.Asset.{Asset}
use Rattle.addr_project.specs.declared.model.Entry.{Entry}
use Rattle.addr_project.specs.declared.model.Group.{Group}
use Rattle.addr_project.specs.declared.model.Mode.{Mode}
use Rattle.addr_project.specs.declared.model.Mode.TheVariants.{Together, Separate, Label}

-- labels, one after the other, each behind an underscore
abbrev pub spelled : List (List ℕ) → List ℕ
spelled labels = flat_map (λ label. 95 ∷ escaped label) labels

-- what follows the group's name: for all of the group, for one entry, for a set of labels
abbrev pub ending : Mode → Guid → List (List ℕ) → List ℕ
ending Together guid labels = codes "_assets_all"
ending Separate guid labels = codes "_assets_" ++ hex_of guid.0
ending Label guid labels = codes "_labels" ++ spelled labels

-- the name of the bundle of an entry with this GUID and these labels
unfoldable pub name_of : Group → Guid → List (List ℕ) → List ℕ
name_of g guid labels = escaped g.name ++ ending g.mode guid labels

-- an entry's asset and group are there, and give it the name
abbrev pub IsNameOf : Project → Entry → List ℕ → Type 0
IsNameOf p e name = (a : Asset) × (g : Group) × (slice_get p.assets e.asset ≡ Some a) × (slice_get p.groups e.group ≡ Some g) × (name ≡ name_of g a.guid e.labels)

-- the bundle of an entry's number belongs to a group and has a name
abbrev pub IsNamed : Project → ℕ → ℕ → List ℕ → Type 0
IsNamed p x group name = (e : Entry) × (slice_get p.entries x ≡ Some e) × (group ≡ e.group) × IsNameOf p e name
