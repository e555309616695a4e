-- A queue's two vectors after one call more.
use Rattle.std.specs.declared.alloc.Global.{Global}
use Rattle.std.proofs.Common.{◌≡◌, ℕ, ◌+◌, ◌≤◌, ◌<◌, true, false, not, cond, eqb, List, [], ◌∷◌, ◌++◌, length, filter, set, get_or, replicate, slice_index, slice_get, Some, None, Vec, vec_len, sym, ◌∙◌, ap, subst, arith, length-append, ◌-◌}
use Rattle.std.proofs.lemmas.Bool.{eq-eqb, ne_eqb}
use Rattle.std.proofs.lemmas.List.{get_or_read}
use Rattle.std.specs.Vec.{with_item}
use Rattle.addr_base.specs.declared.ids.BundleNo.{BundleNo}
use Rattle.addr_queue.specs.Queue.{is_among}
use Rattle.addr_queue.specs.within.Ring.{ordered, IsRing, IsQueue}
use Rattle.addr_history.proofs.Members.{below_at, near_all}
use Rattle.addr_queue.proofs.Members.{one_less}
use Rattle.addr_queue.proofs.Rings.{ring_queue, ring_push, ring_remove, ring_none, ring_first, near_end, near_place}

module _ (room len : ℕ) (next prev : Vec ℕ Global) (kept : IsQueue room len next prev) where
  abbrev pub last_read : ℕ → Type 0
  last_read last = last ≡ get_or prev.items 0 last

  last_is : (last : ℕ) → last ≡ get_or prev.items 0 last → last ≡ slice_index prev.items 0
  last_is last read = get_or_read prev.items 0 last (omega (arith, kept.ring.prev_length)) read 0

  pub first_none : (first : ℕ) → first ≡ get_or next.items 0 first → first ≡ 0 → None ≡ slice_get (ordered room next.items) 0
  first_none first read is =
      let at : first ≡ slice_index next.items 0 = get_or_read next.items 0 first (omega (arith, kept.ring.next_length)) read 0 in
      sym (ring_first room next.items prev.items (ordered room next.items) kept.ring ∙ ap (λ t. cond t None (Some (let r : BundleNo = record { 0 = slice_index next.items 0 - 1 } in r))) (eq-eqb (slice_index next.items 0) 0 (sym at ∙ is)))

  pub first_some : (first : ℕ) → first ≡ get_or next.items 0 first → (first ≡ 0 → ⊥) → Some (record { 0 = first - 1 }) ≡ slice_get (ordered room next.items) 0
  first_some first read is =
      let at : first ≡ slice_index next.items 0 = get_or_read next.items 0 first (omega (arith, kept.ring.next_length)) read 0 in
      sym (ring_first room next.items prev.items (ordered room next.items) kept.ring ∙ ap (λ t. cond t None (Some (let r : BundleNo = record { 0 = slice_index next.items 0 - 1 } in r))) (ne_eqb (slice_index next.items 0) 0 (λ same. is (at ∙ same))) ∙ ap (λ n. Some (let r : BundleNo = record { 0 = n - 1 } in r)) (sym at))

  pub last_within : (last : ℕ) → last ≡ get_or prev.items 0 last → last < vec_len next
  last_within last read = omega (arith, near_end room next.items prev.items (ordered room next.items) kept.ring, kept.next_len, last_is last read)

  pub push_queue : (b : BundleNo) (last : ℕ) → b.0 < room → is_among b (ordered room next.items) ≡ false → last ≡ get_or prev.items 0 last → IsQueue room (len + 1) (with_item (with_item next last (b.0 + 1)) (b.0 + 1) 0) (with_item (with_item prev (b.0 + 1) last) 0 (b.0 + 1)) × (ordered room (set (set next.items last (b.0 + 1)) (b.0 + 1) 0) ≡ ordered room next.items ++ b ∷ [])
  push_queue b last lt new read =
      let at = last_is last read in
      let ring : IsRing room (set (set next.items last (b.0 + 1)) (b.0 + 1) 0) (set (set prev.items (b.0 + 1) last) 0 (b.0 + 1)) (ordered room next.items ++ b ∷ []) =
      subst (λ n. IsRing room (set (set next.items n (b.0 + 1)) (b.0 + 1) 0) (set (set prev.items (b.0 + 1) n) 0 (b.0 + 1)) (ordered room next.items ++ b ∷ [])) (sym at) (ring_push room next.items prev.items (ordered room next.items) b kept.ring lt new) in
      let is = ring_queue room (set (set next.items last (b.0 + 1)) (b.0 + 1) 0) (set (set prev.items (b.0 + 1) last) 0 (b.0 + 1)) (ordered room next.items ++ b ∷ []) ring in (
        record {
          many = omega (arith, kept.many, ap length is, length-append (ordered room next.items) (b ∷ []));
          next_len = kept.next_len;
          prev_len = kept.prev_len;
          ring = subst (IsRing room (set (set next.items last (b.0 + 1)) (b.0 + 1) 0) (set (set prev.items (b.0 + 1) last) 0 (b.0 + 1))) (sym is) ring;
        },
        is,
      )

  pub fits_push : (b : BundleNo) → b.0 < room → is_among b (ordered room next.items) ≡ false → len + 1 ≤ room
  fits_push b lt new = omega (arith, kept.many, near_all room (ordered room next.items) b kept.ring.below kept.ring.once lt new)

  module _ (b : BundleNo) (is : is_among b (ordered room next.items) ≡ true) where
    pub place_next : b.0 + 1 < vec_len next
    place_next = omega (arith, below_at room b.0 (ordered room next.items) kept.ring.below is, kept.next_len)

    pub nonzero : 1 ≤ len
    nonzero = omega (arith, kept.many, one_less b (ordered room next.items) kept.ring.once is)

    pub place_prev : b.0 + 1 < vec_len prev
    place_prev = omega (arith, below_at room b.0 (ordered room next.items) kept.ring.below is, kept.prev_len)

    before_is : (before : ℕ) → before ≡ get_or prev.items (b.0 + 1) before → before ≡ slice_index prev.items (b.0 + 1)
    before_is before read = get_or_read prev.items (b.0 + 1) before (omega (arith, below_at room b.0 (ordered room next.items) kept.ring.below is, kept.ring.prev_length)) read 0

    after_is : (after : ℕ) → after ≡ get_or next.items (b.0 + 1) after → after ≡ slice_index next.items (b.0 + 1)
    after_is after read = get_or_read next.items (b.0 + 1) after (omega (arith, below_at room b.0 (ordered room next.items) kept.ring.below is, kept.ring.next_length)) read 0

    pub before_within : (before : ℕ) → before ≡ get_or prev.items (b.0 + 1) before → before < vec_len next
    before_within before read = omega (arith, (near_place room next.items prev.items (ordered room next.items) b kept.ring is).0, kept.next_len, before_is before read)

    pub after_within : (after : ℕ) → after ≡ get_or next.items (b.0 + 1) after → after < vec_len prev
    after_within after read = omega (arith, (near_place room next.items prev.items (ordered room next.items) b kept.ring is).1, kept.prev_len, after_is after read)

    pub remove_queue : (before after : ℕ) → before ≡ get_or prev.items (b.0 + 1) before → after ≡ get_or next.items (b.0 + 1) after → IsQueue room (len - 1) (with_item next before after) (with_item prev after before) × (ordered room (set next.items before after) ≡ filter (λ c. not (eqb c.0 b.0)) (ordered room next.items))
    remove_queue before after read_before read_after =
        let at_before = before_is before read_before in
        let at_after = after_is after read_after in
        let left = filter (λ (c : BundleNo). not (eqb c.0 b.0)) (ordered room next.items) in
        let ring : IsRing room (set next.items before after) (set prev.items after before) left =
        subst (λ n. IsRing room (set next.items n after) (set prev.items after n) left) (sym at_before)
        (subst (λ n. IsRing room (set next.items (slice_index prev.items (b.0 + 1)) n) (set prev.items n (slice_index prev.items (b.0 + 1))) left) (sym at_after) (ring_remove room next.items prev.items (ordered room next.items) b kept.ring is)) in
        let same = ring_queue room (set next.items before after) (set prev.items after before) left ring in (
          record {
            many = omega (arith, kept.many, ap length same, one_less b (ordered room next.items) kept.ring.once is);
            next_len = kept.next_len;
            prev_len = kept.prev_len;
            ring = subst (IsRing room (set next.items before after) (set prev.items after before)) (sym same) ring;
          },
          same,
        )

pub new_queue : (room : ℕ) (next prev : Vec ℕ Global) → vec_len next ≡ room + 1 → vec_len prev ≡ room + 1 → next.items ≡ replicate (room + 1) 0 → prev.items ≡ replicate (room + 1) 0 → IsQueue room 0 next prev × (ordered room next.items ≡ [])
new_queue room next prev next_len prev_len next_is prev_is =
    let ring : IsRing room next.items prev.items [] = subst (λ (l : List ℕ). IsRing room l prev.items []) (sym next_is) (subst (λ (l : List ℕ). IsRing room (replicate (room + 1) 0) l []) (sym prev_is) (ring_none room)) in
    let same = ring_queue room next.items prev.items [] ring in (
      record { many = sym (ap length same); next_len = next_len; prev_len = prev_len; ring = subst (IsRing room next.items prev.items) (sym same) ring },
      same,
    )
