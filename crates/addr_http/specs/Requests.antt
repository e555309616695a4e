-- What a request asks for.
use Rattle.std.specs.Prelude.{ℕ, ◌≡◌, ◌≤◌, ◌==◌, ◌&&◌, ◌||◌, ◌⊎◌, not, nat_lt, Bool, true, false, if◌then◌else◌, List, [], length, take, drop, map, count_by, codes, Option, Some, None, position, slice_index, ◌-◌}
use Rattle.std.specs.Char.{to_ascii_lowercase}
use Rattle.std.specs.List.{list_any}
use Rattle.std.specs.Str.{bytes_eq}
use Rattle.httparse.specs.Grammar.{Field, RequestHead, ReadsRequest}
use Rattle.addr_http.specs.Heads.{heard}
use Rattle.addr_http.specs.declared.heads.Heard.{Heard}
use Rattle.addr_http.specs.declared.heads.Heard.TheVariants.{Head, TooLong, Cut}
use Rattle.addr_http.specs.declared.requests.Asked.{Asked}
use Rattle.addr_http.specs.declared.requests.Method.{Method}
use Rattle.addr_http.specs.declared.requests.Method.TheVariants.{Get, Head as HeadOnly, Other}
use Rattle.addr_http.specs.declared.requests.Asked.TheVariants.{TooLarge, Bad, NotAllowed, Absent, Wants}

-- the two names are one, without regard to the case of ASCII letters
abbrev pub is_named : List ℕ → List ℕ → Bool
is_named name text = bytes_eq (map to_ascii_lowercase text) (map to_ascii_lowercase name)

abbrev pub is_host : List ℕ → Bool
is_host text = is_named (codes "host") text

-- how many Host fields a head has
abbrev pub host_count : List Field → ℕ
host_count fields = count_by (λ f. is_host f.name) fields

-- more than one Host, or none in HTTP/1.1
abbrev pub has_bad_hosts : ℕ → ℕ → Bool
has_bad_hosts minor hosts = nat_lt 1 hosts || (minor == 1 && hosts == 0)

-- a word that ends with a byte of ASCII
abbrev pub is_ascii_word : List ℕ → Bool
is_ascii_word word = nat_lt 0 (length word) && nat_lt (slice_index word (length word - 1)) 128

-- from the first `/` on, and `/` where there is none
abbrev pub from_slash : Option ℕ → List ℕ → List ℕ
from_slash None rest = codes "/"
from_slash (Some n) rest = drop n rest

-- a target that begins with `http://` counts from the next `/` on
abbrev pub origin_form : List ℕ → List ℕ
origin_form target =
    if bytes_eq (take 7 target) (codes "http://")
    then from_slash (position (λ b. b == 47) (drop 7 target)) (drop 7 target)
    else target

abbrev pub upto : Option ℕ → List ℕ → List ℕ
upto None bytes = bytes
upto (Some n) bytes = take n bytes

-- the path ends before the first `?`
abbrev pub path_of : List ℕ → List ℕ
path_of target = upto (position (λ b. b == 63) (origin_form target)) (origin_form target)

-- a name that isn't empty, has no `/` and is neither `.` nor `..`
abbrev pub is_plain_name : List ℕ → Bool
is_plain_name name =
    nat_lt 0 (length name) && not (list_any (λ b. b == 47) name) && not (bytes_eq name (codes "."))
    && not (bytes_eq name (codes ".."))

-- the name that stands behind `/remote/`, where it is plain
abbrev pub name_of : List ℕ → Option (List ℕ)
name_of path =
    if bytes_eq (take 8 path) (codes "/remote/") && is_plain_name (drop 8 path) then Some (drop 8 path) else None

abbrev pub wanted : Bool → Option (List ℕ) → Asked
wanted head_only None = Absent
wanted head_only (Some name) = Wants head_only name

-- methods are compared with case
abbrev pub method_of : List ℕ → Method
method_of bytes = if bytes_eq bytes (codes "GET") then Get else (if bytes_eq bytes (codes "HEAD") then HeadOnly else Other)

abbrev pub asked_for : Method → Option (List ℕ) → Asked
asked_for Get name = wanted false name
asked_for HeadOnly name = wanted true name
asked_for Other name = NotAllowed

abbrev pub asked_by : List ℕ → List ℕ → ℕ → ℕ → Asked
asked_by method target minor hosts =
    if has_bad_hosts minor hosts then Bad else asked_for (method_of method) (name_of (path_of target))

-- what a head asks for
abbrev pub asked_of : RequestHead → Asked
asked_of h = asked_by h.method h.target h.minor (host_count h.fields)

-- these bytes are a complete head, with at most 4,096 fields
pub record IsTaken (head : List ℕ) (h : RequestHead) : Type 0 where
  pub reads : ReadsRequest head h []
  pub room : length h.fields ≤ 4096

-- what exactly these bytes ask for, as a request's head
abbrev pub Judges : List ℕ → Asked → Type 0
Judges head asked =
    ((h : RequestHead) × IsTaken head h × (asked ≡ asked_of h))
    ⊎ (((h : RequestHead) → IsTaken head h → ⊥) × (asked ≡ Bad))

abbrev pub AsksAt : Heard → List ℕ → Asked → Type 0
AsksAt (Head n) request asked = Judges (take n request) asked
AsksAt TooLong request asked = asked ≡ TooLarge
AsksAt Cut request asked = asked ≡ Bad

-- what all the bytes that a connection gives ask for
abbrev pub Asks : List ℕ → Asked → Type 0
Asks request asked = AsksAt (heard request) request asked
