-- What is kept of an empty history.
use Rattle.std.proofs.Common.{◌≡◌, ℕ, zero, suc, false, List, [], length, replicate, Some, None, slice_get, refl, sym, ◌∙◌, ap, subst}
use Rattle.std.proofs.lemmas.Bool.{false≢true}
use Rattle.std.proofs.lemmas.List.{length-replicate}
use Rattle.std.specs.List.{count_by}
use Rattle.addr_base.specs.declared.ids.BundleNo.{BundleNo}
use Rattle.addr_base.specs.declared.ids.OpId.{OpId}
use Rattle.addr_locate.specs.Rows.{Rows}
use Rattle.addr_history.specs.Counts.{loads_of, is_unreleased, references_of, is_closed, references_in, count_of}
use Rattle.addr_history.specs.Places.{is_resident, is_fetched, is_fetched_by, is_queued, queue, bundles_of}
use Rattle.addr_history.proofs.Owed.{count_none}
use Rattle.addr_queue.specs.Queue.{Ordered}
use Rattle.addr_queue.specs.declared.slots.Slot.{Slot}
use Rattle.addr_core.specs.within.Kept.{IsSlot, Holds}
use Rattle.addr_core.specs.within.Courses.{times_in}

abbrev pub no_slot : Slot
no_slot = record { count = 0; resident = false; fetcher = None; queued = false }

first_slot : (rows : Rows) (b : BundleNo) → IsSlot rows [] b no_slot
unfolding count_of is_resident is_fetched is_fetched_by is_queued
first_slot rows b = record { count = refl; resident = refl; fetched = refl; fetcher = λ w. refl; queued = refl }

same_one : {X : Type 0} (m n : ℕ) (x y : X) → slice_get (replicate m x) n ≡ Some y → x ≡ y
same_one zero n x y is = cc
same_one (suc m) zero x y is = cc
same_one (suc m) (suc n) x y is = same_one m n x y is

none_loaded : loads_of [] ≡ 0
unfolding loads_of
none_loaded = refl

none_open : (op : OpId) → is_unreleased [] op ≡ false
unfolding is_unreleased references_of
none_open op = refl

nothing_fetched : (bs : List BundleNo) → count_by (is_fetched []) bs ≡ 0
unfolding is_fetched
nothing_fetched bs = count_none bs

nothing_open : references_in [] ≡ 0
unfolding references_in
nothing_open = refl

not_closed : is_closed [] ≡ false
unfolding is_closed
not_closed = refl

empty_queue : (rows : Rows) → queue rows [] ≡ []
unfolding queue
empty_queue rows = refl

pub holds_fresh : (rows : Rows) → Holds rows [] [] (replicate (length rows.bundles) no_slot) [] (replicate (length rows.bundles) []) (record { room = length rows.bundles; bundles = [] }) 0 0 false
holds_fresh rows = record {
  are_wanted = record { many = sym none_loaded; each = λ op bs at now. (let none : None ≡ Some bs = at in cc) };
  are_slots = record {
    many = length-replicate (length rows.bundles) no_slot;
    each = λ b s at. subst (IsSlot rows [] b) (same_one (length rows.bundles) b.0 no_slot s at) (first_slot rows b);
  };
  are_courses = record {
    many = sym none_loaded;
    references = λ op c at. (let none : None ≡ Some c = at in cc);
    failed = λ op c at now. (let none : None ≡ Some c = at in cc);
    missing = λ op c at now none. (let nothing : None ≡ Some c = at in cc);
    waiting = λ op b ws at now none. absurd (false≢true (sym (none_open op) ∙ now));
    known = λ b ws at n le. ap (times_in n) (sym (same_one (length rows.bundles) b.0 [] ws at));
  };
  all_lists = length-replicate (length rows.bundles) [];
  in_order = ap (λ (l : List BundleNo). let k : Ordered = record { room = length rows.bundles; bundles = l } in k) (sym (empty_queue rows));
  now_fetched = sym (nothing_fetched (bundles_of rows));
  now_open = sym nothing_open;
  now_closed = sym not_closed;
}
