-- The bundles outside that references lead to, as a table lists them: each once, ascending by the bytes of their names.
use Rattle.std.specs.Prelude.{◌≡◌, Bool, List, [], not}
use Rattle.std.specs.BTreeSet.{insert_key}
use Rattle.std.specs.Cmp.Lexicographic.{slice_cmp}
use Rattle.std.specs.List.{fold, list_any}
use Rattle.std.specs.Ordering.{nat_cmp}
use Rattle.std.specs.Str.{bytes_eq}
use Rattle.std.specs.declared.cmp.Ordering.{Ordering}
use Rattle.addr_base.specs.declared.ids.Digest.{Digest}
use Rattle.addr_base.specs.declared.images.Home.{Home}
use Rattle.addr_base.specs.declared.images.Home.TheVariants.{Own, Other}
use Rattle.addr_base.specs.declared.images.RefTo.{RefTo}
use Rattle.addr_cab.specs.Searches.{Ascend}
use Rattle.addr_cab.specs.Spelling.{leads_to}

-- the order of names, by their bytes
abbrev pub name_order : Digest → Digest → Ordering
name_order a b = slice_cmp nat_cmp a.0 b.0

-- ascending names, and at its place a home that is a bundle outside, unless it is there
abbrev pub with_home : List Digest → Home → List Digest
with_home names Own = names
with_home names (Other name) = insert_key name_order names name

-- ascending names, and the homes of references
unfoldable pub with_homes : List Digest → List RefTo → List Digest
with_homes names refs = fold (λ found r. with_home found r.home) names refs

-- the bundles outside that references lead to
abbrev pub outside_of : List RefTo → List Digest
outside_of refs = with_homes [] refs

-- the same in two facts: the names ascend, and they are those of the bundles that some reference leads to
pub record AreOutside (refs : List RefTo) (names : List Digest) : Type 0 where
  pub ascend : Ascend (λ d. d.0) names
  pub named : (name : Digest) → list_any (λ d. bytes_eq d.0 name.0) names ≡ leads_to name refs

-- whether a name is not among names
unfoldable pub is_absent : List Digest → Digest → Bool
is_absent names name = not (list_any (λ d. bytes_eq d.0 name.0) names)
