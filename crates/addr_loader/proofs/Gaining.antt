-- What is gained by one turn, and by calls one after the other.
use Rattle.std.proofs.Common.{◌≡◌, ℕ, Bool, true, false, cond, List, [], ◌∷◌, ◌++◌, refl, sym, ap, ◌∙◌, subst, Option, Some, None, append_assoc, length, length-append, arith}
use Rattle.std.proofs.lemmas.List.{append-nil}
use Rattle.std.proofs.lemmas.Bool.{false≢true}
use Rattle.std.proofs.lemmas.List.Elements.{filter-append}
use Rattle.addr_base.specs.declared.cause.Cause.{Cause}
use Rattle.addr_base.specs.declared.ids.BundleNo.{BundleNo}
use Rattle.addr_locate.specs.Rows.{Rows}
use Rattle.addr_history.specs.declared.event.Event.{Event}
use Rattle.addr_history.specs.declared.event.Event.TheVariants.{Load, Release, Take, Done, Fail, Close}
use Rattle.addr_history.specs.Legal.{Legal}
use Rattle.addr_history.specs.Places.{is_fetched_by}
use Rattle.addr_history.specs.Answers.{done_adds, fail_adds}
use Rattle.addr_history.specs.Events.{number_of}
use Rattle.addr_turn.specs.declared.board.Role.TheVariants.{Idle}
use Rattle.addr_turn.specs.OneHistory.{IsPrefix, own, is_number}
use Rattle.addr_turn.specs.Steps.{with_seen, recorded_as, numbered, bare_at}
use Rattle.addr_loader.specs.Turn.{Knowledge, Turn, rows_of, limit_of, after_turn}
use Rattle.addr_loader.specs.Gains.{Gains, gained}
use Rattle.addr_loader.specs.Chain.{Fetching, Chain, Fetches, events_of, end_of}
use Rattle.addr_loader.proofs.Fetchers.{still, just_taken}

-- a turn that added nothing
pub nothing_gained : (v w : Knowledge) (h : List Event) → Turn v w h [] → Gains v w []
nothing_gained v w h t =
    let seen : w.seen ≡ h = ap (λ (z : Knowledge). z.seen) t.after in
    let same : w ≡ gained v w.seen [] = t.after ∙ (ap (λ (l : List Event). with_seen v Idle l) (sym seen) ∙ ap (λ (l : List Event). let k : Knowledge = record v { role = Idle; seen = w.seen; mine = l } in k) (sym (append-nil v.mine))) in
    record { goes_on = subst (λ (l : List Event). IsPrefix v.seen l) (sym seen) t.goes_on; after = same; own_are = t.own_are; legal = t.legal }

recorded_own : (v : Knowledge) (h : List Event) (e : Event) (o : Option ℕ) → number_of e ≡ o → o ≡ Some v.number → recorded_as number_of (with_seen v Idle h) e ≡ gained v (h ++ e ∷ []) (e ∷ [])
recorded_own v h e None is own = absurd (cc)
recorded_own v h e (Some k) is own = ap (λ (z : Option ℕ). let r : Knowledge = record v { role = Idle; seen = h ++ e ∷ []; mine = v.mine ++ numbered z e; bare = v.bare ++ bare_at z (length h) } in r) is ∙ ap (λ (l : List ℕ). let r : Knowledge = record v { role = Idle; seen = h ++ e ∷ []; mine = v.mine ++ e ∷ []; bare = l } in r) (append-nil v.bare)

-- a turn that added one of the pass's events
pub one_gained : (v w : Knowledge) (h : List Event) (e : Event) → number_of e ≡ Some v.number → Turn v w h (e ∷ []) → Gains v w (e ∷ [])
one_gained v w h e own t =
    let seen : w.seen ≡ h ++ e ∷ [] = ap (λ (z : Knowledge). z.seen) t.after in
    let is : w ≡ gained v (h ++ e ∷ []) (e ∷ []) = t.after ∙ recorded_own v h e (number_of e) refl own in
    let same : w ≡ gained v w.seen (e ∷ []) = is ∙ ap (λ (l : List Event). gained v l (e ∷ [])) (sym seen) in
    let more : IsPrefix v.seen (h ++ e ∷ []) = (t.goes_on.0 ++ e ∷ [], sym (append_assoc v.seen t.goes_on.0 (e ∷ [])) ∙ ap (λ (l : List Event). l ++ e ∷ []) t.goes_on.1) in
    record { goes_on = subst (λ (l : List Event). IsPrefix v.seen l) (sym seen) more; after = same; own_are = t.own_are; legal = t.legal }

-- calls one after the other
pub gains_more : (v w u : Knowledge) (es fs : List Event) → Gains v w es → Gains w u fs → Gains v u (es ++ fs)
gains_more v w u es fs a b =
    let number : w.number ≡ v.number = ap (λ (z : Knowledge). z.number) a.after in
    let rows : rows_of w ≡ rows_of v = ap (λ (z : Knowledge). rows_of z) a.after in
    let limit : limit_of w ≡ limit_of v = ap (λ (z : Knowledge). limit_of z) a.after in
    let first : gained w u.seen fs ≡ gained (gained v w.seen es) u.seen fs = ap (λ (z : Knowledge). gained z u.seen fs) a.after in
    let last : gained (gained v w.seen es) u.seen fs ≡ gained v u.seen (es ++ fs) = ap (λ (l : List Event). let r : Knowledge = record v { role = Idle; seen = u.seen; mine = l } in r) (append_assoc v.mine es fs) in
    record {
      goes_on = (a.goes_on.0 ++ b.goes_on.0, sym (append_assoc v.seen a.goes_on.0 b.goes_on.0) ∙ (ap (λ (l : List Event). l ++ b.goes_on.0) a.goes_on.1 ∙ b.goes_on.1));
      after = b.after ∙ (first ∙ last);
      own_are = ap (λ (n : ℕ). own number_of n u.seen) (sym number) ∙ b.own_are;
      legal = subst (λ (z : Rows × ℕ). Legal z.0 z.1 u.seen) (λ i. (rows i, limit i)) b.legal;
    }

own_append : (n : ℕ) (xs ys : List Event) → own number_of n (xs ++ ys) ≡ own number_of n xs ++ own number_of n ys
unfolding own
own_append n xs ys = filter-append (λ e. is_number (number_of e) n) xs ys

none_more : (xs ys : List Event) → xs ++ ys ≡ xs → ys ≡ []
none_more xs [] is = refl
none_more xs (y ∷ ys) is = let l = length-append xs (y ∷ ys) in let s : length (xs ++ y ∷ ys) ≡ length xs = ap length is in absurd (omega (arith, l, s))

-- a worker that fetches a bundle still fetches it at its next turn, and so ends it there
pub ends_turn : (v w : Knowledge) (h : List Event) (b : BundleNo) (e : Event) → own number_of v.number v.seen ≡ v.mine → is_fetched_by v.seen b v.number ≡ true → number_of e ≡ Some v.number
    → Turn v w h (cond (is_fetched_by h b v.number) (e ∷ []) []) → Gains v w (e ∷ [])
ends_turn v w h b e mine fetched own_e t = at (is_fetched_by h b v.number) refl
  where
    at : (x : Bool) → is_fetched_by h b v.number ≡ x → Gains v w (e ∷ [])
    at true is = one_gained v w h e own_e (subst (λ (z : Bool). Turn v w h (cond z (e ∷ []) [])) is t)
    at false is =
        let same : Turn v w h [] = subst (λ (z : Bool). Turn v w h (cond z (e ∷ []) [])) is t in
        let seen : w.seen ≡ h = ap (λ (z : Knowledge). z.seen) same.after in
        let mine_is : w.mine ≡ v.mine = ap (λ (z : Knowledge). z.mine) same.after in
        let ours : own number_of v.number h ≡ v.mine = ap (own number_of v.number) (sym seen) ∙ (same.own_are ∙ mine_is) in
        let none : own number_of v.number same.goes_on.0 ≡ [] = none_more (own number_of v.number v.seen) (own number_of v.number same.goes_on.0) (sym (own_append v.number v.seen same.goes_on.0) ∙ (ap (own number_of v.number) same.goes_on.1 ∙ (ours ∙ sym mine))) in
        let legal : Legal (rows_of v) (limit_of v) (v.seen ++ same.goes_on.0) = subst (Legal (rows_of v) (limit_of v)) (sym (same.goes_on.1 ∙ sym seen)) same.legal in
        let on : is_fetched_by h b v.number ≡ true = subst (λ (l : List Event). is_fetched_by l b v.number ≡ true) same.goes_on.1 (still (rows_of v) (limit_of v) v.seen same.goes_on.0 b v.number legal none fetched) in
        absurd (false≢true (sym is ∙ on))

pub ends_done : (v w : Knowledge) (h : List Event) (b : BundleNo) → own number_of v.number v.seen ≡ v.mine → is_fetched_by v.seen b v.number ≡ true → Turn v w h (done_adds h v.number b) → Gains v w (Done b v.number ∷ [])
unfolding done_adds
ends_done v w h b mine fetched t = ends_turn v w h b (Done b v.number) mine fetched refl t

pub ends_fail : (v w : Knowledge) (h : List Event) (b : BundleNo) (cause : Cause) → own number_of v.number v.seen ≡ v.mine → is_fetched_by v.seen b v.number ≡ true → Turn v w h (fail_adds h v.number b cause) → Gains v w (Fail b v.number cause ∷ [])
unfolding fail_adds
ends_fail v w h b cause mine fetched t = ends_turn v w h b (Fail b v.number cause) mine fetched refl t

-- what a worker has just taken, it fetches
pub fetches : (v w : Knowledge) (g : List Event) (b : BundleNo) → Turn v w g (Take b v.number ∷ []) → is_fetched_by w.seen b w.number ≡ true
fetches v w g b t =
    let seen : w.seen ≡ g ++ Take b v.number ∷ [] = ap (λ (z : Knowledge). z.seen) t.after in
    let number : w.number ≡ v.number = ap (λ (z : Knowledge). z.number) t.after in
    subst (λ (z : List Event × ℕ). is_fetched_by z.0 b z.1 ≡ true) (λ i. (sym seen i, sym number i)) (just_taken (rows_of v) (limit_of v) g b v.number)

-- chains that meet in a state of the fetcher join
module _ {F : Type 0} (gives : F → List ℕ → ℕ → _ → F → Type 0) (rows : Rows) where
  pub chain_more : (f m g : F) (xs ys : List Fetching) → Chain gives rows f xs m → Chain gives rows m ys g → Chain gives rows f (xs ++ ys) g
  chain_more f m g [] ys a b = subst (λ (z : F). Chain gives rows z ys g) a b
  chain_more f m g (x ∷ xs) ys a b = (a.0, a.1, chain_more a.0 m g xs ys a.2 b)

pub events_more : (n : ℕ) (xs ys : List Fetching) → events_of n (xs ++ ys) ≡ events_of n xs ++ events_of n ys
events_more n [] ys = refl
events_more n (x ∷ xs) ys = ap (λ (l : List Event). Take x.b n ∷ end_of n x.b x.cause ∷ l) (events_more n xs ys)
