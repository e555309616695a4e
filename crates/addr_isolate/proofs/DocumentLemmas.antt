-- A document from what its reader says.
use Rattle.std.proofs.Common.{◌≡◌, ℕ, Bool, true, false, List, Some, None, refl, ap, ◌∙◌, cond}
use Rattle.std.proofs.lemmas.Str.{IsUtf8-from_is_utf8, is_utf8-from_IsUtf8}
use Rattle.std.specs.Str.{IsUtf8, is_utf8}
use Rattle.toml.specs.Data.{Members}
use Rattle.toml.specs.Parse.{parse_document}
use Rattle.addr_project.specs.Reading.{tree_of}

pub tree_good : (bytes : List ℕ) (tree : Members) → IsUtf8 bytes → parse_document bytes ≡ Some tree → tree_of bytes ≡ Some tree
tree_good bytes tree utf8 is = ap (λ (b : Bool). cond b (parse_document bytes) None) (is_utf8-from_IsUtf8 bytes utf8) ∙ is

by_utf8 : (bytes : List ℕ) (b : Bool) → is_utf8 bytes ≡ b → (IsUtf8 bytes → parse_document bytes ≡ None) → tree_of bytes ≡ None
by_utf8 bytes true utf8 none = ap (λ (b : Bool). cond b (parse_document bytes) None) utf8 ∙ none (IsUtf8-from_is_utf8 bytes utf8)
by_utf8 bytes false other none = ap (λ (b : Bool). cond b (parse_document bytes) None) other

pub tree_bad : (bytes : List ℕ) → (IsUtf8 bytes → parse_document bytes ≡ None) → tree_of bytes ≡ None
tree_bad bytes none = by_utf8 bytes (is_utf8 bytes) refl none
