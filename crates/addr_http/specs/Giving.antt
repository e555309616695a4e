-- What a fetcher over HTTP gives, as fetchers are seen: the answer of a fetch with the bytes that were poured.
use Rattle.std.specs.Prelude.{ℕ, ◌≡◌, ◌≤◌, List, length}
use Rattle.addr_fetch.specs.declared.fetch.Fetched.{Fetched}
use Rattle.addr_fetch.specs.declared.fetch.Fetched.TheVariants as fetched
use Rattle.addr_fetch.specs.declared.fetch.Poured.{Poured}
use Rattle.addr_fetch.specs.declared.fetch.Poured.TheVariants.{Whole, Missing, Refused, TooLong, Fault, NoMemory}
use Rattle.addr_wire.specs.Talks.{ConnectNow}
use Rattle.addr_http.specs.Fetching.{AnswersAt, CountsBy, SizesOf, http_count, http_now}
use Rattle.addr_http.specs.Targets.{address_in}
use Rattle.addr_http.specs.declared.http_fetch.HttpFetch.{HttpFetch}

-- the answer with the bytes that were poured: a whole file is given
abbrev pub given_as : Poured → List ℕ → Fetched
given_as (Whole n) bytes = fetched.Given bytes
given_as Missing bytes = fetched.Missing
given_as (Refused code) bytes = fetched.Refused code
given_as (TooLong n) bytes = fetched.TooLong n
given_as (Fault n) bytes = fetched.Fault n
given_as NoMemory bytes = fetched.NoMemory

-- what one call may give: some bytes were poured, and the answer is that of the conversation
pub record HttpGives {C : Type 0} (now : C → ConnectNow) (before : HttpFetch C) (id : List ℕ) (limit : ℕ) (answer : Fetched) (after : HttpFetch C) : Type 0 where
  pub poured : Poured
  pub bytes : List ℕ
  pub gives : answer ≡ given_as poured bytes
  pub within : length bytes ≤ limit
  pub sizes : SizesOf limit poured bytes
  pub answers : AnswersAt limit (address_in id) poured bytes (http_now now before) (http_now now after)
  pub counts : CountsBy poured (http_count (http_now now before)) (http_count (http_now now after))
