-- Which entries of a project share a bundle.
use Rattle.std.specs.Prelude.{ℕ, ◌≡◌, ◌⊎◌, Some}
use Rattle.std.specs.List.{slice_get}
use Rattle.addr_project.specs.Model.{Project}
use Rattle.addr_project.specs.declared.model.Entry.{Entry}
use Rattle.addr_project.specs.declared.model.Group.{Group}
use Rattle.addr_project.specs.declared.model.Mode.TheVariants.{Together, Label}

-- two entries stand together in a group: all entries of one that is packed together do, and in one that is packed by label
-- those with the same set of labels
abbrev pub Joined : Group → Entry → Entry → Type 0
Joined g d e = (g.mode ≡ Together) ⊎ ((g.mode ≡ Label) × (d.labels ≡ e.labels))

-- two numbers of entries are the same, or their entries have one group and stand together in it
abbrev pub Same : Project → ℕ → ℕ → Type 0
Same p x y = (x ≡ y) ⊎ ((d : Entry) × (e : Entry) × (g : Group) × (slice_get p.entries x ≡ Some d) × (slice_get p.entries y ≡ Some e) × (d.group ≡ e.group) × (slice_get p.groups d.group ≡ Some g) × Joined g d e)
