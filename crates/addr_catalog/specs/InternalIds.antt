-- Internal ids: the whole id that a written one stands for. A written id may begin with the number of a prefix and `#`.
use Rattle.std.specs.Prelude.{ℕ, ◌==◌, ◌&&◌, nat_lt, Bool, List, length, ◌++◌, Option, Some, None, if◌then◌else◌, option_and_then, slice_get}
use Rattle.std.specs.Char.{is_ascii_digit}
use Rattle.std.specs.List.{before_last, after_last, list_all}
use Rattle.std.specs.Str.Parse.{digits_value}

-- `#`
abbrev pub is_mark : ℕ → Bool
is_mark b = b == 35

-- one decimal digit or more, and nothing else
abbrev pub is_run : List ℕ → Bool
is_run text = nat_lt 0 (length text) && list_all is_ascii_digit text

-- the number that a run of digits stands for, whatever its length
unfoldable pub number_of : List ℕ → Option ℕ
number_of text = if is_run text then Some (digits_value 10 text) else None

-- the prefix with the number that the text stands for, if there is one
abbrev pub prefix_of : List (List ℕ) → List ℕ → Option (List ℕ)
prefix_of prefixes text = option_and_then (slice_get prefixes) (number_of text)

abbrev pub prefixed_or : List ℕ → List ℕ → Option (List ℕ) → List ℕ
prefixed_or id rest None = id
prefixed_or id rest (Some prefix) = prefix ++ rest

-- the prefix that stands before the last `#` followed by what stands behind it; without such a prefix the id itself
unfoldable pub whole_id : List (List ℕ) → List ℕ → List ℕ
whole_id prefixes id = prefixed_or id (after_last is_mark id) (prefix_of prefixes (before_last is_mark id))
