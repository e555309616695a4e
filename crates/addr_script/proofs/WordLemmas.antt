-- The words of a load's line.
use Rattle.std.proofs.Common.{◌≡◌, ◌==◌, ℕ, Bool, true, false, List, ◌∷◌, ◌++◌, length, refl, sym, ap, Option, Some, None, codes, decimal, ◌∙◌, if◌then◌else◌}
use Rattle.std.specs.Prelude.{nat_le}
use Rattle.std.specs.Str.{IsUtf8}
use Rattle.addr_base.proofs.TokenLemmas.{mark_no_token}
use Rattle.addr_base.specs.Tokens.{token_of}
use Rattle.addr_fields.specs.Fields.{has_byte}
use Rattle.addr_locate.proofs.FieldLemmas.{token_free_of_space}
use Rattle.addr_locate.specs.declared.rows.Merge.{Merge}
use Rattle.addr_locate.specs.declared.rows.Merge.TheVariants.{UseFirst, Union, Intersection}
use Rattle.addr_base.specs.Ids.{digest_of, hex_of}
use Rattle.addr_base.specs.declared.var.Var.{Var}
use Rattle.addr_script.specs.Commands.{asked_keys_field, kind_field, mode_word, one_or_all, set_line, IsKind, IsSet, Spells}
use Rattle.addr_script.specs.Replies.{content_text}
use Rattle.addr_script.specs.ScriptParts.{IsLoadLine, IsSetLine}
use Rattle.addr_script.specs.declared.command.Command.TheVariants.{Load}

pub all_free : (all : Bool) → has_byte 32 (one_or_all all) ≡ false
all_free false = refl
all_free true = refl

pub mode_free : (mode : Merge) → has_byte 32 (mode_word mode) ≡ false
mode_free UseFirst = refl
mode_free Union = refl
mode_free Intersection = refl

pub kind_free : (kind : Option (List ℕ)) → IsKind kind → has_byte 32 (kind_field kind) ≡ false
kind_free None is = refl
kind_free (Some t) is = token_free_of_space t is

-- the mark of any type is no token
pub no_mark_token : (t : List ℕ) → IsUtf8 t → token_of t ≡ codes "%*" → ⊥
no_mark_token t is e = mark_no_token 42 t (sym e)

-- the words of a line that spells a load, and of one that sets a variable
pub load_words : (line : List ℕ) (caller : ℕ) (all : Bool) (mode : Merge) (kind : Option (List ℕ)) (keys : List (List ℕ)) → Spells line (Load caller all mode kind keys) → IsLoadLine line caller (one_or_all all) (mode_word mode) (kind_field kind) (asked_keys_field keys)
load_words line caller all mode kind keys is =
    let d = asked_keys_field keys in
    let c = kind_field kind ++ 32 ∷ d in
    let b = mode_word mode ++ 32 ∷ c in
    let a = one_or_all all ++ 32 ∷ b in
    (decimal caller ++ 32 ∷ a, a, b, c, is.1, (is.0.0, refl), record { whole = refl; first = all_free all }, record { whole = refl; first = mode_free mode }, record { whole = refl; first = kind_free kind is.0.1 })

pub set_words : (line : List ℕ) (v : Var) → IsSet v → line ≡ set_line v → IsSetLine line (token_of v.name) (token_of v.value)
set_words line v is e = (token_of v.name ++ 32 ∷ token_of v.value, e, record { whole = refl; first = token_free_of_space v.name is.0 })

-- how bytes are shown
pub content_if : (bytes : List ℕ) (t s : Bool) → (length bytes == 0) ≡ t → nat_le (length bytes) 64 ≡ s → content_text bytes ≡ (if t then codes "-" else if s then hex_of bytes else 35 ∷ hex_of (digest_of bytes))
unfolding content_text
content_if bytes t s none few =
    ap (λ x. let l : List ℕ = if x then codes "-" else if nat_le (length bytes) 64 then hex_of bytes else 35 ∷ hex_of (digest_of bytes) in l) none
    ∙ ap (λ x. let l : List ℕ = if t then codes "-" else if x then hex_of bytes else 35 ∷ hex_of (digest_of bytes) in l) few
