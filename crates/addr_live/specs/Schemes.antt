-- What a fetcher gives of which nothing is told but the rules.
use Rattle.std.specs.Prelude.{ℕ, ◌≤◌}
use Rattle.addr_fetch.specs.Gives.{IsWithin}
use Rattle.addr_fetch.specs.declared.fetch.Fetched.{Fetched}

abbrev pub GivesWithin : ℕ → ℕ → Fetched → ℕ → Type 0
GivesWithin before limit answer after = IsWithin limit before answer after × (before ≤ after)
