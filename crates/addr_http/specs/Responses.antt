-- What a request is answered: the status, the head and the body.
use Rattle.std.specs.Prelude.{ℕ, ◌≡◌, Bool, true, false, if◌then◌else◌, List, [], ◌∷◌, ◌++◌, length, take, codes, decimal, Option, Some, None, IfSome, IsNone, IsSomeAnd, MatchOption, ◌⊎◌}
use Rattle.http.specs.StatusCode.{status_text}
use Rattle.addr_base.specs.Faults.{Rose}
use Rattle.addr_base.specs.Files.{file_at}
use Rattle.addr_base.specs.declared.files.MemFile.{MemFile}
use Rattle.addr_wire.specs.Connections.{ConnNow}
use Rattle.addr_http.specs.Hearing.{HasHeard}
use Rattle.addr_http.specs.Requests.{Asks}
use Rattle.addr_http.specs.declared.heads.Heard.{Heard}
use Rattle.addr_http.specs.declared.requests.Asked.{Asked}
use Rattle.addr_http.specs.declared.requests.Asked.TheVariants.{TooLarge, Bad, NotAllowed, Absent, Wants}
use Rattle.addr_http.specs.declared.replies.Reply.{Reply}
use Rattle.addr_http.specs.declared.replies.Reply.TheVariants.{TooLarge as RefuseLarge, Bad as RefuseBad, NotAllowed as RefuseMethod, NotFound, Failed, File}
use Rattle.addr_http.specs.declared.answering.Served.{Served}
use Rattle.addr_http.specs.declared.answering.Served.TheVariants.{Answered, Broken, NoMemory}

-- the depot's name of the file that is served under a name
abbrev pub file_name : List ℕ → List ℕ → List ℕ
file_name folder name = folder ++ (codes "/remote/" ++ name)

-- the file that is wanted, if there is one
abbrev pub file_for : List ℕ → Asked → List MemFile → Option (List ℕ)
file_for folder TooLarge files = None
file_for folder Bad files = None
file_for folder NotAllowed files = None
file_for folder Absent files = None
file_for folder (Wants head_only name) files = file_at (file_name folder name) files

abbrev pub reply_with : Bool → Bool → Option (List ℕ) → Reply
reply_with head_only true found = Failed
reply_with head_only false None = NotFound
reply_with head_only false (Some bytes) = File head_only bytes

-- the reply to what was asked, by whether the depot failed and what it found
abbrev pub reply_to : Asked → Bool → Option (List ℕ) → Reply
reply_to TooLarge fault found = RefuseLarge
reply_to Bad fault found = RefuseBad
reply_to NotAllowed fault found = RefuseMethod
reply_to Absent fault found = NotFound
reply_to (Wants head_only name) fault found = reply_with head_only fault found

abbrev pub reply_status : Reply → ℕ
reply_status RefuseLarge = 431
reply_status RefuseBad = 400
reply_status RefuseMethod = 405
reply_status NotFound = 404
reply_status Failed = 500
reply_status (File head_only bytes) = 200

-- CR LF
abbrev pub line_end : List ℕ
line_end = 13 ∷ 10 ∷ []

-- the header line that a status has beside the others, with its CR LF
abbrev pub own_line : Reply → List ℕ
own_line RefuseLarge = []
own_line RefuseBad = []
own_line RefuseMethod = codes "Allow: GET, HEAD" ++ line_end
own_line NotFound = []
own_line Failed = []
own_line (File head_only bytes) = codes "Content-Type: application/octet-stream" ++ line_end

abbrev pub reply_length : Reply → ℕ
reply_length RefuseLarge = 0
reply_length RefuseBad = 0
reply_length RefuseMethod = 0
reply_length NotFound = 0
reply_length Failed = 0
reply_length (File head_only bytes) = length bytes

-- a head has the file's length and no body
abbrev pub reply_body : Reply → List ℕ
reply_body RefuseLarge = []
reply_body RefuseBad = []
reply_body RefuseMethod = []
reply_body NotFound = []
reply_body Failed = []
reply_body (File head_only bytes) = if head_only then [] else bytes

abbrev pub head_with : ℕ → ℕ → List ℕ → List ℕ
head_with status len own =
    codes "HTTP/1.1 " ++ (status_text status ++ (line_end ++ (codes "Content-Length: " ++ (decimal len ++ (line_end
    ++ (own ++ (codes "Connection: close" ++ (line_end ++ line_end))))))))

abbrev pub reply_head : Reply → List ℕ
reply_head reply = head_with (reply_status reply) (reply_length reply) (own_line reply)

abbrev pub reply_text : Reply → List ℕ
reply_text reply = reply_head reply ++ reply_body reply

-- the reply to what was asked, where the depot's files are told or not and its count was `before` and is `now`
pub record Replies (folder : List ℕ) (files : Option (List MemFile)) (before now : ℕ) (asked : Asked) (reply : Reply) : Type 0 where
  pub fault : Bool
  pub found : Option (List ℕ)
  pub rose : fault ≡ true → Rose before now
  pub looked : (fs : List MemFile) → files ≡ Some fs → fault ≡ false → found ≡ file_for folder asked fs
  pub replies : reply ≡ reply_to asked fault found

-- the one answer to all the bytes that a connection gives; `fault` says whether the depot failed
pub record Response (request folder : List ℕ) (files : Option (List MemFile)) (fault : Bool) (reply : Reply) : Type 0 where
  pub asked : Asked
  pub found : Option (List ℕ)
  pub asks : Asks request asked
  pub looked : (fs : List MemFile) → files ≡ Some fs → fault ≡ false → found ≡ file_for folder asked fs
  pub replies : reply ≡ reply_to asked fault found

-- what was put of a text: all of it with its status, a front of it, or nothing
abbrev pub Writes : List ℕ → ℕ → Served → List ℕ → List ℕ → Type 0
Writes text code (Answered status) old new = (status ≡ code) × (new ≡ old ++ text)
Writes text code Broken old new = (n : ℕ) × (new ≡ old ++ take n text)
Writes text code NoMemory old new = new ≡ old

abbrev pub AnswersWith : ℕ → Served → Type 0
AnswersWith code (Answered status) = status ≡ code
AnswersWith code Broken = Unit {0}
AnswersWith code NoMemory = Unit {0}

-- the count of the sink after a response: it stays, or where it broke it rose
abbrev pub SinkCauses : ℕ → ℕ → Served → Type 0
SinkCauses old new (Answered status) = new ≡ old
SinkCauses old new Broken = Rose old new
SinkCauses old new NoMemory = new ≡ old

-- what was written, and the status that was answered
abbrev pub Serves : List ℕ → List ℕ → Option (List MemFile) → ℕ → ℕ → List ℕ → List ℕ → Served → Type 0
Serves request folder files before now old new (Answered status) =
    (fault : Bool) × (reply : Reply) × (fault ≡ true → Rose before now) × Response request folder files fault reply
    × (status ≡ reply_status reply) × (new ≡ old ++ reply_text reply)
Serves request folder files before now old new Broken =
    (new ≡ old) ⊎ ((fault : Bool) × (reply : Reply) × (fault ≡ true → Rose before now) × Response request folder files fault reply
    × (n : ℕ) × (new ≡ old ++ take n (reply_text reply)))
Serves request folder files before now old new NoMemory = new ≡ old

-- the same of any bytes that agree with what was heard of them
abbrev pub ServesHeard : List ℕ → Heard → List ℕ → Option (List MemFile) → ℕ → ℕ → List ℕ → List ℕ → Served → Type 0
ServesHeard buffer heard folder files before now old new result =
    (request : List ℕ) → HasHeard request buffer heard → Serves request folder files before now old new result

-- the same, where the bytes that are left and those that were put are told
abbrev pub ServesIn : List ℕ → Option (List MemFile) → ℕ → ℕ → Option (List ℕ) → Option (List ℕ) → Option (List ℕ) → Served → Type 0
ServesIn folder files before now left old new result =
    IfSome left (λ l. MatchOption old (IsNone new) (λ o. IsSomeAnd new (λ n. Serves l folder files before now o n result)))

-- what `answer` tells: of the bytes that the connection gives, the response was written to it
abbrev pub Tells : List ℕ → Option (List MemFile) → ℕ → ℕ → ConnNow → ConnNow → Served → Type 0
Tells folder files before now old new result = ServesIn folder files before now old.left old.written new.written result

-- unless it broke, no side of the connection failed
abbrev pub SameCounts : ConnNow → ConnNow → Type 0
SameCounts old new = (new.source_faults ≡ old.source_faults) × (new.sink_faults ≡ old.sink_faults)

abbrev pub Causes : ConnNow → ConnNow → Served → Type 0
Causes old new (Answered status) = SameCounts old new
Causes old new Broken = Rose old.source_faults new.source_faults ⊎ Rose old.sink_faults new.sink_faults
Causes old new NoMemory = SameCounts old new
