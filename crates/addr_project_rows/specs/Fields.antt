-- The members of a project file's tables: what each stands for, with its default, and nothing where it is of another kind
-- or outside its values.
use Rattle.std.specs.Prelude.{codes, ℕ, ◌==◌, ◌&&◌, ◌||◌, not, nat_le, List, [], ◌∷◌, length, Bool, true, if◌then◌else◌, Option, Some, None, is_none, Result, Ok, Err}
use Rattle.std.specs.List.{list_all, list_any, fold, filter_map, slice_split, starts_with}
use Rattle.std.specs.Option.{option_map}
use Rattle.std.specs.Ordering.{nat_cmp, match_ordering}
use Rattle.std.specs.Cmp.Lexicographic.{slice_cmp}
use Rattle.std.specs.Bool.{nat_eq}
use Rattle.std.specs.Str.{bytes_eq}
use Rattle.hex.specs.Hex.{decode_sized}
use Rattle.hex.specs.declared.error.FromHexError.{FromHexError}
use Rattle.toml.specs.Data.{Data, string, array, Items, no_items, item, Members, get_member}
use Rattle.addr_base.specs.Ids.{hex_of}
use Rattle.addr_base.specs.declared.ids.Guid.{Guid}
use Rattle.addr_project_rows.specs.Firsts.{first_where}

-- the values of an array as a list
abbrev pub items_list : Items → List Data
items_list no_items = []
items_list (item d ds) = d ∷ items_list ds

-- what a member stands for, and the default where it is absent
abbrev pub or_default : {A : Type 0} → (Data → Option A) → Option A → Option Data → Option A
or_default read default None = default
or_default read default (Some d) = read d

-- what the member at a key stands for
abbrev pub field : {A : Type 0} → (Data → Option A) → Option A → List ℕ → Members → Option A
field read default key ms = or_default read default (get_member key ms)

-- a text whose bytes pass a test
abbrev pub text_where : (List ℕ → Bool) → Data → Option (List ℕ)
text_where test (string s) = if test s then Some s else None
text_where test _ = None

-- the most bytes of a text, and of a variable's name
abbrev pub most_text : ℕ
most_text = 255

abbrev pub most_name : ℕ
most_name = 64

-- the length is one of low to high
abbrev pub is_within : ℕ → ℕ → List ℕ → Bool
is_within low high s = nat_le low (length s) && nat_le (length s) high

-- a text of at least one byte that is not too long
abbrev pub text_of : Data → Option (List ℕ)
text_of d = text_where (is_within 1 most_text) d

-- a required text
abbrev pub required : List ℕ → Members → Option (List ℕ)
required key ms = field text_of None key ms

-- a version: a text of bytes that are printed and no space
abbrev pub is_version : List ℕ → Bool
is_version s = is_within 1 most_text s && list_all (λ b. nat_le 33 b && nat_le b 126) s

-- `[`, `]`, `{` and `}`
abbrev pub is_bracket : ℕ → Bool
is_bracket b = b == 91 || b == 93 || b == 123 || b == 125

-- a variable's name: at least one byte, none of them a bracket, and not too long
abbrev pub is_name : List ℕ → Bool
is_name s = is_within 1 most_name s && not (list_any is_bracket s)

-- a part of a file's name is neither empty nor one of the two dots
abbrev pub is_part : List ℕ → Bool
is_part part = not (bytes_eq part [] || bytes_eq part (codes ".") || bytes_eq part (codes ".."))

-- the names that a release or the project file has in the folder
abbrev pub is_taken : List ℕ → Bool
is_taken part = bytes_eq part (codes "local") || bytes_eq part (codes "remote") || bytes_eq part (codes "cache") || bytes_eq part (codes "project.toml") || starts_with nat_eq part (codes "state_")

-- the parts of a name, which stand between its `/`
abbrev pub parts_of : List ℕ → List (List ℕ)
parts_of name = slice_split (λ b. b == 47) name

-- the first part of some parts is not taken
abbrev pub is_first_free : List (List ℕ) → Bool
is_first_free [] = true
is_first_free (part ∷ parts) = not (is_taken part)

-- each part names something, and the first is free
abbrev pub are_free : List (List ℕ) → Bool
are_free parts = list_all is_part parts && is_first_free parts

-- the name of a file below the folder
abbrev pub is_file_name : List ℕ → Bool
is_file_name s = is_within 1 most_text s && are_free (parts_of s)

-- the GUID whose bytes are these, where they are written as the text
abbrev pub guid_spelled : List ℕ → Result (List ℕ) FromHexError → Option Guid
guid_spelled s (Ok bytes) = if bytes_eq (hex_of bytes) s then Some (record { 0 = bytes }) else None
guid_spelled s (Err _) = None

-- the GUID that 32 lower-case hex digits spell
abbrev pub guid_from : List ℕ → Option Guid
guid_from s = guid_spelled s (decode_sized s 16)

-- the GUID that a text spells
abbrev pub guid_of : Data → Option Guid
guid_of (string s) = guid_from s
guid_of _ = None

-- a row is bad where it stands for nothing
abbrev pub is_bad : {A : Type 0} → (Data → Option A) → Data → Bool
is_bad read d = is_none (read d)

-- the number of the first bad row
abbrev pub first_bad : {A : Type 0} → (Data → Option A) → List Data → Option ℕ
first_bad read ds = first_where (λ before d. is_bad read d) ds

-- what all rows stand for, where none is bad
unfoldable pub all_of : {A : Type 0} → (Data → Option A) → List Data → Option (List A)
all_of read ds = if is_none (first_bad read ds) then Some (filter_map read ds) else None

-- the values of an array
abbrev pub rows_of : Data → Option (List Data)
rows_of (array ds) = Some (items_list ds)
rows_of _ = None

-- what the values of an array stand for, where there is an array
abbrev pub all_in : {A : Type 0} → (Data → Option A) → Option (List Data) → Option (List A)
all_in read None = None
all_in read (Some ds) = all_of read ds

-- an array whose values each stand for something
abbrev pub list_of : {A : Type 0} → (Data → Option A) → Data → Option (List A)
list_of read d = all_in read (rows_of d)

-- a list of texts in ascending order of their bytes, with one more text, where it isn't there yet
abbrev pub with_text : List ℕ → List (List ℕ) → List (List ℕ)
with_text text [] = text ∷ []
with_text text (t ∷ ts) = match_ordering (slice_cmp nat_cmp text t) (text ∷ t ∷ ts) (t ∷ ts) (t ∷ with_text text ts)

-- the texts in ascending order of their bytes, each once
abbrev pub ascending : List (List ℕ) → List (List ℕ)
ascending texts = fold (λ sorted text. with_text text sorted) [] texts

-- an array of texts, in ascending order, each once
abbrev pub labels_of : Data → Option (List (List ℕ))
labels_of d = option_map ascending (list_of text_of d)
