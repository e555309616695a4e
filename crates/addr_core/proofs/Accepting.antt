-- What is known of an accepted load.
use Rattle.std.proofs.Common.{◌≡◌, inl, inr, ℕ, ◌≤◌, true, false, List, length, Ok, Err, sym, ◌∙◌}
use Rattle.std.proofs.lemmas.Bool.{cases_Bool}
use Rattle.addr_base.specs.declared.ids.OpId.{OpId}
use Rattle.addr_locate.specs.Rows.{Rows, are_bundles}
use Rattle.addr_locate.proofs.FoundLemmas.{deps_of-within}
use Rattle.addr_history.specs.declared.ask.Ask.{Ask}
use Rattle.addr_history.specs.declared.error.LoadErr.TheVariants.{Closed}
use Rattle.addr_history.specs.declared.event.Event.{Event}
use Rattle.addr_history.specs.declared.event.Event.TheVariants.{Load}
use Rattle.addr_history.specs.Events.{needs_of, rows_of_ask}
use Rattle.addr_history.specs.Counts.{is_closed}
use Rattle.addr_history.specs.Answers.{load_reply}
use Rattle.addr_history.proofs.Ranges.{Sound}
use Rattle.addr_core.proofs.Preparing.{reply_closed}
use Rattle.addr_history.proofs.Members.{few_below}
use Rattle.addr_history.proofs.QueueSteps.{needs_once}

pub needs_within : (rows : Rows) → Sound rows → (ask : Ask) → are_bundles (length rows.bundles) (needs_of rows ask) ≡ true
unfolding needs_of
needs_within rows sound ask = deps_of-within (length rows.bundles) rows.assets (rows_of_ask rows ask) sound

pub needs_length : (rows : Rows) → Sound rows → (ask : Ask) → length (needs_of rows ask) ≤ length rows.bundles
needs_length rows sound ask = few_below (length rows.bundles) (needs_of rows ask) (needs_within rows sound ask) (needs_once rows (Load (record { 0 = 0 }) 0 ask))

pub accepted_open : (rows : Rows) (limit : ℕ) (h : List Event) (ask : Ask) (op : OpId) → load_reply rows limit h ask ≡ Ok op → is_closed h ≡ false
accepted_open rows limit h ask op is = elim (cases_Bool (is_closed h)) [
  | inl closed ↦ let both : Err Closed ≡ Ok op = sym (reply_closed rows limit h ask closed) ∙ is in cc
  | inr opened ↦ opened
]
