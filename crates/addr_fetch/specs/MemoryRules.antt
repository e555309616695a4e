-- What the fetcher in memory gives keeps the rules of all fetchers.
use Rattle.std.proofs.Common.{◌≡◌, ◌≤◌, ℕ, List, Some, ap, arith}
use Rattle.addr_fetch.specs.Gives.{KeepsRules}
use Rattle.addr_fetch.specs.Memory.{MemGives, fetch_origin}
use Rattle.addr_fetch.specs.declared.fetch.Fetched.{Fetched}
use Rattle.addr_fetch.specs.declared.fetch.Fetched.TheVariants.{Given, Missing, Refused, TooLong, Fault, NoMemory}
use Rattle.addr_fetch.specs.declared.mem_fetch.MemFetch.{MemFetch}

same_count : (a b : ℕ) → b ≡ a → a ≤ b
same_count a b e = omega arith

rose : (a b n : ℕ) → b ≡ n → n ≤ b
rose a b n e = omega arith

pub keeps_rules : (before after : MemFetch) (id : List ℕ) (limit : ℕ) (answer : Fetched) → MemGives before id limit answer after → KeepsRules (fetch_origin before) id limit answer (fetch_origin after)
keeps_rules before after id limit (Given bytes) gives = record { within = gives.1.3; later = same_count _ _ gives.1.1; same = ap (λ files. Some files.items) gives.0.files; told = gives.1.2 }
keeps_rules before after id limit Missing gives = record { within = tt; later = same_count _ _ gives.1.1; same = ap (λ files. Some files.items) gives.0.files; told = gives.1.2 }
keeps_rules before after id limit (Refused code) gives = absurd gives.1
keeps_rules before after id limit (TooLong n) gives = record { within = gives.1.3; later = same_count _ _ gives.1.1; same = ap (λ files. Some files.items) gives.0.files; told = gives.1.2 }
keeps_rules before after id limit (Fault n) gives = record { within = (rose before.faults after.faults _ gives.1.1, gives.1.3); later = gives.1.2; same = ap (λ files. Some files.items) gives.0.files; told = tt }
keeps_rules before after id limit NoMemory gives = record { within = tt; later = same_count _ _ gives.1.1; same = ap (λ files. Some files.items) gives.0.files; told = tt }
