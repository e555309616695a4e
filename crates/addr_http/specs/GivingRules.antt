-- What a fetcher over HTTP gives keeps the rules of all fetchers.
use Rattle.std.proofs.Common.{ℕ, ◌≡◌, ◌≤◌, ◌+◌, ◌^◌, List, None, length, min, refl, sym, subst, arith}
use Rattle.addr_base.specs.Faults.{Rose}
use Rattle.addr_fetch.specs.Gives.{IsWithin, KeepsRules}
use Rattle.addr_fetch.specs.declared.fetch.Fetched.{Fetched}
use Rattle.addr_fetch.specs.declared.fetch.Poured.{Poured}
use Rattle.addr_fetch.specs.declared.fetch.Poured.TheVariants.{Whole, Missing, Refused, TooLong, Fault, NoMemory}
use Rattle.addr_wire.specs.Talks.{ConnectNow}
use Rattle.addr_http.specs.Fetching.{CountsBy, SizesOf, http_count, http_now, sum_of}
use Rattle.addr_http.specs.Giving.{HttpGives, given_as}
use Rattle.addr_http.specs.declared.http_fetch.HttpFetch.{HttpFetch}

within_limit : (limit : ℕ) (poured : Poured) (bytes : List ℕ) (before after : ℕ) → length bytes ≤ limit → SizesOf limit poured bytes → CountsBy poured before after → IsWithin limit before (given_as poured bytes) after
within_limit limit (Whole n) bytes before after within sizes counts = within
within_limit limit Missing bytes before after within sizes counts = tt
within_limit limit (Refused code) bytes before after within sizes counts = tt
within_limit limit (TooLong n) bytes before after within sizes counts = sizes
within_limit limit (Fault n) bytes before after within sizes counts = (counts.1, counts.0)
within_limit limit NoMemory bytes before after within sizes counts = tt

same_later : (before after : ℕ) → after ≡ before → before ≤ after
same_later before after e = omega arith

rose_later : (a b after : ℕ) → Rose (sum_of a b) after → sum_of a b ≤ after
rose_later a b after rose = omega (arith, rose)

later : (poured : Poured) (a b after : ℕ) → CountsBy poured (sum_of a b) after → sum_of a b ≤ after
later (Whole n) a b after counts = same_later _ _ counts
later Missing a b after counts = same_later _ _ counts
later (Refused code) a b after counts = same_later _ _ counts
later (TooLong n) a b after counts = same_later _ _ counts
later (Fault n) a b after counts = rose_later a b after counts.1
later NoMemory a b after counts = same_later _ _ counts

pub keeps_rules : {C : Type 0} (now : C → ConnectNow) (before after : HttpFetch C) (id : List ℕ) (limit : ℕ) (answer : Fetched) → HttpGives now before id limit answer after
    → KeepsRules (record { files = None; faults = http_count (http_now now before) }) id limit answer (record { files = None; faults = http_count (http_now now after) })
keeps_rules now before after id limit answer gave = record {
  within = subst (λ (given : Fetched). IsWithin limit (http_count (http_now now before)) given (http_count (http_now now after))) (sym gave.gives)
      (within_limit limit gave.poured gave.bytes _ _ gave.within gave.sizes gave.counts);
  later = later gave.poured (now before.conn).faults before.own _ gave.counts;
  same = refl;
  told = tt;
}
