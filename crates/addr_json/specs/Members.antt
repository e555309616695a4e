-- Members of a JSON object: what one stands for, and nothing where it is of another kind or outside its values. Of repeated
-- members the last counts, and whole numbers are those that are written as such.
use Rattle.std.specs.Prelude.{ℕ, List, [], ◌∷◌, if◌then◌else◌, Option, Some, None, Result, Ok, Err, option_and_then, option_map}
use Rattle.std.specs.Str.{bytes_eq, is_utf8}
use Rattle.hex.specs.Hex.{decode_sized}
use Rattle.hex.specs.declared.error.FromHexError.{FromHexError}
use Rattle.serde_json.specs.Data.{Data, string, array, Items, no_items, item, Members}
use Rattle.serde_json.specs.Find.{get_member, as_number, as_u64}
use Rattle.serde_json.specs.Read.{read}
use Rattle.addr_base.specs.Ids.{hex_of}
use Rattle.addr_base.specs.declared.ids.Digest.{Digest}
use Rattle.addr_base.specs.declared.ids.Guid.{Guid}

-- the value of bytes in JSON, where they are UTF-8
abbrev pub tree_of : List ℕ → Option Data
tree_of bytes = if is_utf8 bytes then read bytes else None

-- what the member at a key stands for, which must be there
abbrev pub required : {A : Type 0} → (Data → Option A) → List ℕ → Members → Option A
required read key ms = option_and_then read (get_member key ms)

abbrev pub or_default : {A : Type 0} → (Data → Option A) → A → Option Data → Option A
or_default read default None = Some default
or_default read default (Some d) = read d

-- what the member at a key stands for, and the default where it is absent; `null` is not absent
abbrev pub optional : {A : Type 0} → (Data → Option A) → A → List ℕ → Members → Option A
optional read default key ms = or_default read default (get_member key ms)

abbrev pub joined : {A : Type 0} → Option A → Option (List A) → Option (List A)
joined (Some x) (Some xs) = Some (x ∷ xs)
joined (Some x) None = None
joined None xs = None

-- what all items of an array stand for, where each stands for something
abbrev pub all_items : {A : Type 0} → (Data → Option A) → Items → Option (List A)
all_items read no_items = Some []
all_items read (item d ds) = joined (read d) (all_items read ds)

abbrev pub list_of : {A : Type 0} → (Data → Option A) → Data → Option (List A)
list_of read (array ds) = all_items read ds
list_of read _ = None

-- bytes whose lower-case hex digits a text is
abbrev pub if_spelled : List ℕ → Result (List ℕ) FromHexError → Option (List ℕ)
if_spelled text (Ok bytes) = if bytes_eq text (hex_of bytes) then Some bytes else None
if_spelled text (Err fault) = None

-- the 16 bytes of 32 lower-case hex digits
unfoldable pub bytes_from : List ℕ → Option (List ℕ)
bytes_from text = if_spelled text (decode_sized text 16)

abbrev pub bytes_in : Data → Option (List ℕ)
bytes_in (string text) = bytes_from text
bytes_in _ = None

abbrev pub digest_in : Data → Option Digest
digest_in d = option_map (λ bytes. record { 0 = bytes }) (bytes_in d)

abbrev pub guid_in : Data → Option Guid
guid_in d = option_map (λ bytes. record { 0 = bytes }) (bytes_in d)

-- a whole number below 2 to the 64th
abbrev pub size_of : Data → Option ℕ
size_of d = option_and_then as_u64 (as_number d)
