-- Rings of links: what joining at the end and leaving do to them, and the queue that a ring makes.
use Rattle.std.proofs.Common.{◌≡◌, ◌⊎◌, inl, inr, ℕ, ◌+◌, ◌-◌, ◌≤◌, ◌<◌, zero, suc, Bool, true, false, ◌&&◌, ◌||◌, not, cond, eqb, ltb, List, [], ◌∷◌, ◌++◌, length, filter, set, replicate, slice_index, slice_get, Some, None, refl, sym, ◌∙◌, ap, subst, arith}
use Rattle.std.proofs.lemmas.Bool.{false≢true, and_parts, eq-eqb, ne_eqb, lt-ltb, not-true}
use Rattle.std.proofs.lemmas.List.{append-nil, length-set, length-replicate, get_or-set_same, get_or-set_other, get_or-replicate}
use Rattle.std.proofs.lemmas.List.Folds.{list_any-append, list_all-append}
use Rattle.std.specs.List.{list_all}
use Rattle.addr_base.specs.declared.ids.BundleNo.{BundleNo}
use Rattle.addr_locate.specs.Rows.{no_repeats, are_bundles}
use Rattle.addr_queue.specs.within.Ring.{walked, ordered, Linked, IsRing}
use Rattle.addr_queue.proofs.Members.{has, stands, stands_at, stands_nowhere, stands_head, stands_later, apart_two, once_cut, place_in, without, place_below}
use Rattle.addr_history.proofs.Members.{few_below}

-- the last of some places
abbrev pub last_of : ℕ → List BundleNo → ℕ
last_of a [] = a
last_of a (b ∷ bs) = last_of (b.0 + 1) bs

last_in : (b : BundleNo) (bs : List BundleNo) → stands (last_of (b.0 + 1) bs) (b ∷ bs) ≡ true
last_in b [] = stands_head b []
last_in b (c ∷ bs) = stands_later (last_of (c.0 + 1) bs) b (c ∷ bs) (last_in c bs)

last_one : (a : ℕ) (bs : List BundleNo) → (last_of a bs ≡ a) ⊎ (stands (last_of a bs) bs ≡ true)
last_one a [] = inl refl
last_one a (b ∷ bs) = inr (last_in b bs)

module _ (f g : ℕ → ℕ) where
  pub ends : (a : ℕ) (bs : List BundleNo) (z : ℕ) → Linked f g a bs z → (f (last_of a bs) ≡ z) × (g z ≡ last_of a bs)
  ends a [] z linked = linked
  ends a (b ∷ bs) z linked = ends (b.0 + 1) bs z linked.2

  pub cut : (a : ℕ) (l : List BundleNo) (b : BundleNo) (r : List BundleNo) (z : ℕ) → Linked f g a (l ++ b ∷ r) z → Linked f g a l (b.0 + 1) × Linked f g (b.0 + 1) r z
  cut a [] b r z linked = ((linked.0, linked.1), linked.2)
  cut a (c ∷ l) b r z linked = let parts = cut (c.0 + 1) l b r z linked.2 in ((linked.0, linked.1, parts.0), parts.1)

  pub joined : (a : ℕ) (l : List BundleNo) (b : BundleNo) (r : List BundleNo) (z : ℕ) → Linked f g a l (b.0 + 1) → Linked f g (b.0 + 1) r z → Linked f g a (l ++ b ∷ r) z
  joined a [] b r z one two = (one.0, one.1, two)
  joined a (c ∷ l) b r z one two = (one.0, one.1, joined (c.0 + 1) l b r z one.2 two)

module _ (f g f2 g2 : ℕ → ℕ) where
  -- the same links at the places of a piece
  kept : (a : ℕ) (bs : List BundleNo) (z : ℕ) → Linked f g a bs z → ((x : ℕ) → (x ≡ a) ⊎ (stands x bs ≡ true) → f2 x ≡ f x) → ((x : ℕ) → (x ≡ z) ⊎ (stands x bs ≡ true) → g2 x ≡ g x) → Linked f2 g2 a bs z
  kept a [] z linked same_f same_g = (same_f a (inl refl) ∙ linked.0, same_g z (inl refl) ∙ linked.1)
  kept a (b ∷ bs) z linked same_f same_g = (
    same_f a (inl refl) ∙ linked.0,
    same_g (b.0 + 1) (inr (stands_head b bs)) ∙ linked.1,
    kept (b.0 + 1) bs z linked.2 (λ x one. same_f x (inr (of x one))) (λ x one. same_g x (up x one)),
  )
    where
      of : (x : ℕ) → (x ≡ b.0 + 1) ⊎ (stands x bs ≡ true) → stands x (b ∷ bs) ≡ true
      of x one = elim one [
        | inl here ↦ subst (λ n. stands n (b ∷ bs) ≡ true) (sym here) (stands_head b bs)
        | inr later ↦ stands_later x b bs later
      ]

      up : (x : ℕ) → (x ≡ z) ⊎ (stands x bs ≡ true) → (x ≡ z) ⊎ (stands x (b ∷ bs) ≡ true)
      up x one = elim one [
        | inl here ↦ inl here
        | inr later ↦ inr (stands_later x b bs later)
      ]

  -- another place behind the last of a piece
  relinked : (a : ℕ) (bs : List BundleNo) (z y : ℕ) → Linked f g a bs z → stands a bs ≡ false → no_repeats bs ≡ true → ((x : ℕ) → (x ≡ a) ⊎ (stands x bs ≡ true) → (x ≡ last_of a bs → ⊥) → f2 x ≡ f x) → ((x : ℕ) → stands x bs ≡ true → g2 x ≡ g x) → f2 (last_of a bs) ≡ y → g2 y ≡ last_of a bs → Linked f2 g2 a bs y
  relinked a [] z y linked new once same_f same_g next prev = (next, prev)
  relinked a (b ∷ bs) z y linked new once same_f same_g next prev =
      let parts = and_parts (not (has b.0 bs)) (no_repeats bs) once in (
        same_f a (inl refl) (λ same. apart_two a (b ∷ bs) (last_of (b.0 + 1) bs) new (last_in b bs) (sym same)) ∙ linked.0,
        same_g (b.0 + 1) (stands_head b bs) ∙ linked.1,
        relinked (b.0 + 1) bs z y linked.2 (stands_at b.0 bs ∙ not-true (has b.0 bs) parts.0) parts.1 (λ x one. same_f x (inr (of x one))) (λ x is. same_g x (stands_later x b bs is)) next prev,
      )
    where
      of : (x : ℕ) → (x ≡ b.0 + 1) ⊎ (stands x bs ≡ true) → stands x (b ∷ bs) ≡ true
      of x one = elim one [
        | inl here ↦ subst (λ n. stands n (b ∷ bs) ≡ true) (sym here) (stands_head b bs)
        | inr later ↦ stands_later x b bs later
      ]

  -- one bundle more, at the end
  pub pushed : (m : ℕ) (bs : List BundleNo) (b : BundleNo) → Linked f g m bs m → stands m bs ≡ false → no_repeats bs ≡ true → stands (b.0 + 1) bs ≡ false → (b.0 + 1 ≡ m → ⊥) → ((x : ℕ) → (x ≡ g m → ⊥) → (x ≡ b.0 + 1 → ⊥) → f2 x ≡ f x) → f2 (g m) ≡ b.0 + 1 → f2 (b.0 + 1) ≡ m → ((x : ℕ) → (x ≡ m → ⊥) → (x ≡ b.0 + 1 → ⊥) → g2 x ≡ g x) → g2 (b.0 + 1) ≡ g m → g2 m ≡ b.0 + 1 → Linked f2 g2 m (bs ++ b ∷ []) m
  pushed m bs b linked out once new other same_f last_f end_f same_g last_g end_g =
      let last : g m ≡ last_of m bs = (ends f g m bs m linked).1 in
      joined f2 g2 m bs b [] m
      (relinked m bs m (b.0 + 1) linked out once
      (λ x one ne. same_f x (λ is. ne (is ∙ last)) (λ is. elim one [
        | inl here ↦ other (sym is ∙ here)
        | inr later ↦ apart_two (b.0 + 1) bs x new later is
      ]))
      (λ x is. same_g x (apart_two m bs x out is) (apart_two (b.0 + 1) bs x new is))
      (ap f2 (sym last) ∙ last_f) (last_g ∙ last))
      (end_f, end_g)

  -- one bundle less
  pub removed : (m : ℕ) (l : List BundleNo) (b : BundleNo) (r : List BundleNo) → Linked f g m (l ++ b ∷ r) m → stands m (l ++ b ∷ r) ≡ false → no_repeats (l ++ b ∷ r) ≡ true → ((x : ℕ) → (x ≡ g (b.0 + 1) → ⊥) → f2 x ≡ f x) → f2 (g (b.0 + 1)) ≡ f (b.0 + 1) → ((x : ℕ) → (x ≡ f (b.0 + 1) → ⊥) → g2 x ≡ g x) → g2 (f (b.0 + 1)) ≡ g (b.0 + 1) → Linked f2 g2 m (l ++ r) m
  removed m l b r linked out once same_f at_f same_g at_g = by r refl
    where
      parts : Linked f g m l (b.0 + 1) × Linked f g (b.0 + 1) r m
      parts = cut f g m l b r m linked

      cuts : (no_repeats l ≡ true) × (no_repeats (b ∷ r) ≡ true) × ((x : ℕ) → stands x l ≡ true → stands x (b ∷ r) ≡ false)
      cuts = once_cut l (b ∷ r) once

      last : g (b.0 + 1) ≡ last_of m l
      last = (ends f g m l (b.0 + 1) parts.0).1

      outs : (s t : Bool) → (s || t) ≡ false → (s ≡ false) × (t ≡ false)
      outs true t is = absurd (false≢true (sym is))
      outs false t is = (refl, is)

      out_of : (stands m l ≡ false) × (stands m (b ∷ r) ≡ false)
      out_of = outs (stands m l) (stands m (b ∷ r)) (sym (list_any-append (λ c. eqb (c.0 + 1) m) l (b ∷ r)) ∙ out)

      by : (s : List BundleNo) → r ≡ s → Linked f2 g2 m (l ++ r) m
      by [] is =
          let two : Linked f g (b.0 + 1) [] m = subst (λ (t : List BundleNo). Linked f g (b.0 + 1) t m) is parts.1 in
          let piece : Linked f2 g2 m l m =
          relinked m l (b.0 + 1) m parts.0 out_of.0 cuts.0 (λ x one ne. same_f x (λ same. ne (same ∙ last))) (λ x in_l. same_g x (λ same. apart_two m l x out_of.0 in_l (same ∙ two.0)))
          (ap f2 (sym last) ∙ at_f ∙ two.0) (ap g2 (sym two.0) ∙ at_g ∙ last) in
          subst (λ (t : List BundleNo). Linked f2 g2 m (l ++ t) m) (sym is) (subst (λ (t : List BundleNo). Linked f2 g2 m t m) (sym (append-nil l)) piece)
      by (c ∷ s) is =
          let two : Linked f g (b.0 + 1) (c ∷ s) m = subst (λ (t : List BundleNo). Linked f g (b.0 + 1) t m) is parts.1 in
          let cut_s : (x : ℕ) → stands x l ≡ true → stands x (b ∷ c ∷ s) ≡ false = λ x in_l. subst (λ (t : List BundleNo). stands x (b ∷ t) ≡ false) is (cuts.2 x in_l) in
          let not_l : (x : ℕ) → stands x (c ∷ s) ≡ true → stands x l ≡ true → ⊥ = λ x in_s in_l. false≢true (sym (cut_s x in_l) ∙ stands_later x b (c ∷ s) in_s) in
          let once_s : no_repeats (c ∷ s) ≡ true = subst (λ (t : List BundleNo). no_repeats t ≡ true) is (and_parts (not (has b.0 r)) (no_repeats r) cuts.1).1 in
          let once_c = and_parts (not (has c.0 s)) (no_repeats s) once_s in
          let out_s : stands m (b ∷ c ∷ s) ≡ false = subst (λ (t : List BundleNo). stands m (b ∷ t) ≡ false) is out_of.1 in
          let out_c : stands m (c ∷ s) ≡ false = (outs (eqb (b.0 + 1) m) (stands m (c ∷ s)) out_s).1 in
          let one : Linked f2 g2 m l (c.0 + 1) =
          relinked m l (b.0 + 1) (c.0 + 1) parts.0 out_of.0 cuts.0 (λ x one ne. same_f x (λ same. ne (same ∙ last))) (λ x in_l. same_g x (λ same. not_l (c.0 + 1) (stands_head c s) (subst (λ n. stands n l ≡ true) (same ∙ two.0) in_l)))
          (ap f2 (sym last) ∙ at_f ∙ two.0) (ap g2 (sym two.0) ∙ at_g ∙ last) in
          let rest : Linked f2 g2 (c.0 + 1) s m =
          kept (c.0 + 1) s m two.2
          (λ x at. let there : stands x (c ∷ s) ≡ true = of c s x at in same_f x (λ same. elim (last_one m l) [
            | inl here ↦ apart_two m (c ∷ s) x out_c there (same ∙ last ∙ here)
            | inr later ↦ not_l x there (subst (λ n. stands n l ≡ true) (sym (same ∙ last)) later)
          ]))
          (λ x at. same_g x (λ same. elim at [
            | inl here ↦ apart_two m (c ∷ s) (c.0 + 1) out_c (stands_head c s) (sym two.0 ∙ sym same ∙ here)
            | inr later ↦ apart_two (c.0 + 1) s x (stands_at c.0 s ∙ not-true (has c.0 s) once_c.0) later (same ∙ two.0)
          ])) in
          subst (λ (t : List BundleNo). Linked f2 g2 m (l ++ t) m) (sym is) (joined f2 g2 m l c s m one rest)
        where
          of : (c : BundleNo) (s : List BundleNo) (x : ℕ) → (x ≡ c.0 + 1) ⊎ (stands x s ≡ true) → stands x (c ∷ s) ≡ true
          of c s x one = elim one [
            | inl here ↦ subst (λ n. stands n (c ∷ s) ≡ true) (sym here) (stands_head c s)
            | inr later ↦ stands_later x c s later
          ]

-- the queue that a ring makes
walks : (next prev : List ℕ) (a : ℕ) (bs : List BundleNo) (steps : ℕ) → Linked (slice_index next) (slice_index prev) a bs 0 → length bs ≤ steps → walked next steps (slice_index next a) ≡ bs
walks next prev a [] zero linked le = refl
walks next prev a [] (suc steps) linked le = ap (λ t. cond t [] (record { 0 = slice_index next a - 1 } ∷ walked next steps (slice_index next (slice_index next a)))) (eq-eqb (slice_index next a) 0 linked.0)
walks next prev a (b ∷ bs) zero linked le = absurd (omega arith)
walks next prev a (b ∷ bs) (suc steps) linked le =
    ap (λ n. cond (eqb n 0) [] (let r : BundleNo = record { 0 = n - 1 } in r ∷ walked next steps (slice_index next n))) linked.0
    ∙ ap (λ t. cond t [] (let r : BundleNo = record { 0 = b.0 + 1 - 1 } in r ∷ walked next steps (slice_index next (b.0 + 1)))) (ne_eqb (b.0 + 1) 0 (λ is. omega arith))
    ∙ ap (λ n. let r : BundleNo = record { 0 = n } in r ∷ walked next steps (slice_index next (b.0 + 1))) (let back : b.0 + 1 - 1 ≡ b.0 = omega arith in back)
    ∙ ap (λ (l : List BundleNo). b ∷ l) (walks next prev (b.0 + 1) bs steps linked.2 (omega arith))

pub ring_queue : (room : ℕ) (next prev : List ℕ) (bs : List BundleNo) → IsRing room next prev bs → ordered room next ≡ bs
unfolding ordered
ring_queue room next prev bs ring = walks next prev 0 bs room ring.linked (few_below room bs ring.below ring.once)

-- what is written to links
at_set : (xs : List ℕ) (i v : ℕ) → i < length xs → slice_index (set xs i v) i ≡ v
at_set xs i v lt = get_or-set_same xs i v 0 lt

off_set : (xs : List ℕ) (i v x : ℕ) → (x ≡ i → ⊥) → slice_index (set xs i v) x ≡ slice_index xs x
off_set xs i v x ne = get_or-set_other xs i x v 0 ne

-- both neighbours of a place are places
pub near_end : (room : ℕ) (next prev : List ℕ) (bs : List BundleNo) → IsRing room next prev bs → slice_index prev 0 < room + 1
near_end room next prev bs ring =
    let last = (ends (slice_index next) (slice_index prev) 0 bs 0 ring.linked).1 in
    elim (last_one 0 bs) [
      | inl here ↦ omega arith
      | inr later ↦ omega (arith, place_below room (last_of 0 bs) bs ring.below later)
    ]

next_of : (f g : ℕ → ℕ) (a : ℕ) (bs : List BundleNo) (z : ℕ) → Linked f g a bs z → (f a ≡ z) ⊎ (stands (f a) bs ≡ true)
next_of f g a [] z linked = inl linked.0
next_of f g a (b ∷ bs) z linked = inr (subst (λ n. stands n (b ∷ bs) ≡ true) (sym linked.0) (stands_head b bs))

pub near_place : (room : ℕ) (next prev : List ℕ) (bs : List BundleNo) (b : BundleNo) → IsRing room next prev bs → has b.0 bs ≡ true → (slice_index prev (b.0 + 1) < room + 1) × (slice_index next (b.0 + 1) < room + 1)
near_place room next prev bs b ring is =
    let found = place_in b bs is in
    let l = found.0 in
    let r = found.1.0 in
    let linked : Linked (slice_index next) (slice_index prev) 0 (l ++ b ∷ r) 0 = subst (λ (t : List BundleNo). Linked (slice_index next) (slice_index prev) 0 t 0) found.1.1 ring.linked in
    let parts = cut (slice_index next) (slice_index prev) 0 l b r 0 linked in
    let all : are_bundles room (l ++ b ∷ r) ≡ true = subst (λ (t : List BundleNo). are_bundles room t ≡ true) found.1.1 ring.below in
    let halves = and_parts (are_bundles room l) (are_bundles room (b ∷ r)) (sym (list_all-append (λ c. ltb c.0 room) l (b ∷ r)) ∙ all) in
    let last = (ends (slice_index next) (slice_index prev) 0 l (b.0 + 1) parts.0).1 in (
      elim (last_one 0 l) [
        | inl here ↦ omega arith
        | inr later ↦ omega (arith, place_below room (last_of 0 l) l halves.0 later)
      ],
      elim (next_of (slice_index next) (slice_index prev) (b.0 + 1) r 0 parts.1) [
        | inl here ↦ omega arith
        | inr later ↦ omega (arith, place_below room (slice_index next (b.0 + 1)) r (and_parts (ltb b.0 room) (are_bundles room r) halves.1).1 later)
      ],
    )

pub ring_push : (room : ℕ) (next prev : List ℕ) (bs : List BundleNo) (b : BundleNo) → IsRing room next prev bs → b.0 < room → has b.0 bs ≡ false → IsRing room (set (set next (slice_index prev 0) (b.0 + 1)) (b.0 + 1) 0) (set (set prev (b.0 + 1) (slice_index prev 0)) 0 (b.0 + 1)) (bs ++ b ∷ [])
ring_push room next prev bs b ring lt new = record {
  next_length = length-set (set next last (b.0 + 1)) (b.0 + 1) 0 ∙ length-set next last (b.0 + 1) ∙ ring.next_length;
  prev_length = length-set (set prev (b.0 + 1) last) 0 (b.0 + 1) ∙ length-set prev (b.0 + 1) last ∙ ring.prev_length;
  linked =
      pushed (slice_index next) (slice_index prev) (slice_index (set (set next last (b.0 + 1)) (b.0 + 1) 0)) (slice_index (set (set prev (b.0 + 1) last) 0 (b.0 + 1))) 0 bs b ring.linked (stands_nowhere bs) ring.once (stands_at b.0 bs ∙ new) (λ same. omega arith)
      (λ x ne_last ne_b. off_set (set next last (b.0 + 1)) (b.0 + 1) 0 x ne_b ∙ off_set next last (b.0 + 1) x ne_last)
      (off_set (set next last (b.0 + 1)) (b.0 + 1) 0 last last_other ∙ at_set next last (b.0 + 1) (omega (arith, near_end room next prev bs ring, ring.next_length)))
      (at_set (set next last (b.0 + 1)) (b.0 + 1) 0 (omega (arith, length-set next last (b.0 + 1), ring.next_length)))
      (λ x ne_0 ne_b. off_set (set prev (b.0 + 1) last) 0 (b.0 + 1) x ne_0 ∙ off_set prev (b.0 + 1) last x ne_b)
      (off_set (set prev (b.0 + 1) last) 0 (b.0 + 1) (b.0 + 1) (λ same. omega arith) ∙ at_set prev (b.0 + 1) last (omega (arith, ring.prev_length)))
      (at_set (set prev (b.0 + 1) last) 0 (b.0 + 1) (omega (arith, length-set prev (b.0 + 1) last, ring.prev_length)));
  below = list_all-append (λ c. ltb c.0 room) bs (b ∷ []) ∙ both (are_bundles room bs) ring.below (ap (λ t. t && true) (lt-ltb b.0 room lt));
  once = once_push bs b new ring.once;
}
  where
    last : ℕ
    last = slice_index prev 0

    last_other : slice_index prev 0 ≡ b.0 + 1 → ⊥
    last_other same =
        let at = (ends (slice_index next) (slice_index prev) 0 bs 0 ring.linked).1 in
        elim (last_one 0 bs) [
          | inl here ↦ omega arith
          | inr later ↦ apart_two (b.0 + 1) bs (last_of 0 bs) (stands_at b.0 bs ∙ new) later (sym at ∙ same)
        ]

    both : (s : Bool) {t : Bool} → s ≡ true → t ≡ true → (s && t) ≡ true
    both true one two = two
    both false one two = one

    none_push : (c : BundleNo) (bs : List BundleNo) → has c.0 bs ≡ false → (b.0 ≡ c.0 → ⊥) → has c.0 (bs ++ b ∷ []) ≡ false
    none_push c bs none ne = list_any-append (λ d. eqb d.0 c.0) bs (b ∷ []) ∙ neither (has c.0 bs) none (ap (λ t. t || false) (ne_eqb b.0 c.0 ne))
      where
        neither : (s : Bool) {t : Bool} → s ≡ false → t ≡ false → (s || t) ≡ false
        neither true one two = one
        neither false one two = two

    once_push : (bs : List BundleNo) (b2 : BundleNo) → has b.0 bs ≡ false → no_repeats bs ≡ true → no_repeats (bs ++ b ∷ []) ≡ true
    once_push [] b2 none one = refl
    once_push (c ∷ bs) b2 none one =
        let parts = and_parts (not (has c.0 bs)) (no_repeats bs) one in
        let outs = two (eqb c.0 b.0) (has b.0 bs) none in
        both (not (has c.0 (bs ++ b ∷ []))) (ap not (none_push c bs (not-true (has c.0 bs) parts.0) (λ same. false≢true (sym outs.0 ∙ eq-eqb c.0 b.0 (sym same))))) (once_push bs b2 outs.1 parts.1)
      where
        two : (s t : Bool) → (s || t) ≡ false → (s ≡ false) × (t ≡ false)
        two true t is = absurd (false≢true (sym is))
        two false t is = (refl, is)

pub ring_remove : (room : ℕ) (next prev : List ℕ) (bs : List BundleNo) (b : BundleNo) → IsRing room next prev bs → has b.0 bs ≡ true → IsRing room (set next (slice_index prev (b.0 + 1)) (slice_index next (b.0 + 1))) (set prev (slice_index next (b.0 + 1)) (slice_index prev (b.0 + 1))) (filter (λ c. not (eqb c.0 b.0)) bs)
ring_remove room next prev bs b ring is =
    let found = place_in b bs is in
    let l = found.0 in
    let r = found.1.0 in
    let at = found.1.1 in
    let before : ℕ = slice_index prev (b.0 + 1) in
    let after : ℕ = slice_index next (b.0 + 1) in
    let once : no_repeats (l ++ b ∷ r) ≡ true = subst (λ (t : List BundleNo). no_repeats t ≡ true) at ring.once in
    let left : filter (λ c. not (eqb c.0 b.0)) bs ≡ l ++ r = ap (filter (λ (c : BundleNo). not (eqb c.0 b.0))) at ∙ without b l r once in
    let near = near_place room next prev bs b ring is in
    record {
      next_length = length-set next before after ∙ ring.next_length;
      prev_length = length-set prev after before ∙ ring.prev_length;
      linked =
          subst (λ (t : List BundleNo). Linked (slice_index (set next before after)) (slice_index (set prev after before)) 0 t 0) (sym left)
          (removed (slice_index next) (slice_index prev) (slice_index (set next before after)) (slice_index (set prev after before)) 0 l b r
          (subst (λ (t : List BundleNo). Linked (slice_index next) (slice_index prev) 0 t 0) at ring.linked)
          (stands_nowhere (l ++ b ∷ r))
          once
          (λ x ne. off_set next before after x ne)
          (at_set next before after (omega (arith, near.0, ring.next_length)))
          (λ x ne. off_set prev after before x ne)
          (at_set prev after before (omega (arith, near.1, ring.prev_length))));
      below = all_left (λ c. ltb c.0 room) (λ c. not (eqb c.0 b.0)) bs ring.below;
      once = once_left (λ c. not (eqb c.0 b.0)) bs ring.once;
    }
  where
    all_left : (q p : BundleNo → Bool) (xs : List BundleNo) → list_all q xs ≡ true → list_all q (filter p xs) ≡ true
    all_left q p [] all = refl
    all_left q p (x ∷ xs) all = let parts = and_parts (q x) (list_all q xs) all in by (p x) parts.0 (all_left q p xs parts.1)
      where
        by : (t : Bool) → q x ≡ true → list_all q (filter p xs) ≡ true → list_all q (cond t (x ∷ filter p xs) (filter p xs)) ≡ true
        by true here rest = ap (λ t. t && list_all q (filter p xs)) here ∙ rest
        by false here rest = rest

    none_left : (n : ℕ) (p : BundleNo → Bool) (xs : List BundleNo) → has n xs ≡ false → has n (filter p xs) ≡ false
    none_left n p [] none = refl
    none_left n p (x ∷ xs) none = let outs = two (eqb x.0 n) (has n xs) none in by (p x) outs.0 (none_left n p xs outs.1)
      where
        two : (s t : Bool) → (s || t) ≡ false → (s ≡ false) × (t ≡ false)
        two true t is = absurd (false≢true (sym is))
        two false t is = (refl, is)

        by : (t : Bool) → eqb x.0 n ≡ false → has n (filter p xs) ≡ false → has n (cond t (x ∷ filter p xs) (filter p xs)) ≡ false
        by true here rest = ap (λ t. t || has n (filter p xs)) here ∙ rest
        by false here rest = rest

    once_left : (p : BundleNo → Bool) (xs : List BundleNo) → no_repeats xs ≡ true → no_repeats (filter p xs) ≡ true
    once_left p [] one = refl
    once_left p (x ∷ xs) one = let parts = and_parts (not (has x.0 xs)) (no_repeats xs) one in by (p x) (none_left x.0 p xs (not-true (has x.0 xs) parts.0)) (once_left p xs parts.1)
      where
        by : (t : Bool) → has x.0 (filter p xs) ≡ false → no_repeats (filter p xs) ≡ true → no_repeats (cond t (x ∷ filter p xs) (filter p xs)) ≡ true
        by true none rest = ap (λ t. not t && no_repeats (filter p xs)) none ∙ rest
        by false none rest = rest

pub ring_none : (room : ℕ) → IsRing room (replicate (room + 1) 0) (replicate (room + 1) 0) []
ring_none room = record {
  next_length = length-replicate (room + 1) 0;
  prev_length = length-replicate (room + 1) 0;
  linked = (get_or-replicate (room + 1) 0 0 0 (omega arith), get_or-replicate (room + 1) 0 0 0 (omega arith));
  below = refl;
  once = refl;
}

-- the first of the queue
pub ring_first : (room : ℕ) (next prev : List ℕ) (bs : List BundleNo) → IsRing room next prev bs → slice_get bs 0 ≡ cond (eqb (slice_index next 0) 0) None (Some (record { 0 = slice_index next 0 - 1 }))
ring_first room next prev [] ring = sym (ap (λ t. cond t None (Some (let r : BundleNo = record { 0 = slice_index next 0 - 1 } in r))) (eq-eqb (slice_index next 0) 0 ring.linked.0))
ring_first room next prev (b ∷ bs) ring =
    sym (
    ap (λ n. cond (eqb n 0) None (Some (let r : BundleNo = record { 0 = n - 1 } in r))) ring.linked.0
    ∙ ap (λ t. cond t None (Some (let r : BundleNo = record { 0 = b.0 + 1 - 1 } in r))) (ne_eqb (b.0 + 1) 0 (λ same. omega arith))
    ∙ ap (λ n. Some (let r : BundleNo = record { 0 = n } in r)) (let back : b.0 + 1 - 1 ≡ b.0 = omega arith in back)
    )
