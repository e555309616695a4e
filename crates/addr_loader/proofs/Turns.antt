-- What a turn leaves, from what `enter`, `record` and `leave` say of it.
use Rattle.std.proofs.Common.{◌≡◌, ℕ, Bool, true, false, List, [], ◌∷◌, ◌++◌, refl, sym, ap, ◌∙◌, subst, Option, Some, None, Result, Ok, Err}
use Rattle.std.specs.Prelude.{unwrap_or}
use Rattle.std.proofs.lemmas.List.{append-nil}
use Rattle.addr_base.specs.declared.ids.OpId.{OpId}
use Rattle.addr_locate.specs.Rows.{Rows}
use Rattle.addr_history.specs.declared.answers.NoHandle.{NoHandle}
use Rattle.addr_history.specs.declared.event.Event.{Event}
use Rattle.addr_history.specs.declared.event.Event.TheVariants.{Load, Release, Take, Done, Fail, Close}
use Rattle.addr_history.specs.Legal.{Legal}
use Rattle.addr_history.specs.Counts.{is_unreleased}
use Rattle.addr_history.specs.Answers.{release_reply, release_adds}
use Rattle.addr_history.specs.Events.{number_of}
use Rattle.addr_core.specs.Machine.{Machine, grown}
use Rattle.addr_turn.specs.declared.board.Role.{Role}
use Rattle.addr_turn.specs.declared.board.Role.TheVariants.{Idle}
use Rattle.addr_turn.specs.OneHistory.{IsPrefix, own}
use Rattle.addr_turn.specs.Steps.{with_role, with_seen, recorded_as, numbered, IsOfPass}
use Rattle.addr_turn.proofs.Own.{own_more, own_same}
use Rattle.addr_loader.specs.Turn.{Knowledge, Turn, rows_of, limit_of, after_turn, no_rows, Adds}

part_is : (v : Knowledge) (rows : Rows) (limit : ℕ) → v.fixed ≡ Some (rows, limit) → (rows_of v ≡ rows) × (limit_of v ≡ limit)
part_is v rows limit is = (ap (λ (o : Option (Rows × ℕ)). (unwrap_or o (no_rows, 0)).0) is, ap (λ (o : Option (Rows × ℕ)). (unwrap_or o (no_rows, 0)).1) is)

pub legal_of : (v : Knowledge) (rows : Rows) (limit : ℕ) (h : List Event) → v.fixed ≡ Some (rows, limit) → Legal rows limit h → Legal (rows_of v) (limit_of v) h
legal_of v rows limit h is legal = let p = part_is v rows limit is in subst (λ (z : Rows × ℕ). Legal z.0 z.1 h) (λ i. (sym p.0 i, sym p.1 i)) legal

none_some : (o : Option ℕ) (j : ℕ) → o ≡ None → o ≡ Some j → Unit {0} ≡ Unit {0} → (A : Type 0) → A
none_some o j is has _ A = absurd (cc)

own_numbered : (n : ℕ) (h : List Event) (e : Event) (o : Option ℕ) → number_of e ≡ o → ((k : ℕ) → o ≡ Some k → k ≡ n) → own number_of n (h ++ e ∷ []) ≡ own number_of n h ++ numbered o e
own_numbered n h e None is mine = own_same number_of n h e (λ j has. none_some (number_of e) j is has refl _) ∙ sym (append-nil _)
own_numbered n h e (Some k) is mine = own_more number_of n h e (is ∙ ap (λ (z : ℕ). let s : Option ℕ = Some z in s) (mine k refl))

-- a turn began: what `enter` says
abbrev pub Began : {I : Type 0} → Knowledge → Machine I → Knowledge → Type 0
Began v m w = IsPrefix v.seen m.history × (w ≡ with_seen v w.role m.history) × (own number_of v.number m.history ≡ v.mine) × (v.fixed ≡ Some (m.rows, m.limit))

module _ {I : Type 0} (v w : Knowledge) (m : Machine I) (began : Began v m w) where
  seen_is : w.seen ≡ m.history
  seen_is = ap (λ (z : Knowledge). z.seen) began.1

  fixed_is : w.fixed ≡ Some (m.rows, m.limit)
  fixed_is = ap (λ (z : Knowledge). z.fixed) began.1 ∙ began.3

  number_is : w.number ≡ v.number
  number_is = ap (λ (z : Knowledge). z.number) began.1

  pub told_kept : (n : Machine I) → n ≡ m → (n.history ≡ w.seen) × (w.fixed ≡ Some (n.rows, n.limit))
  told_kept n same = (ap (λ (z : Machine I). z.history) same ∙ sym seen_is, fixed_is ∙ ap (λ (z : Machine I). let p : Option (Rows × ℕ) = Some (z.rows, z.limit) in p) (sym same))

  pub seen_more : (n : Machine I) (e : Event) → n ≡ grown m (e ∷ []) → n.history ≡ w.seen ++ e ∷ []
  seen_more n e more = ap (λ (z : Machine I). z.history) more ∙ ap (λ (l : List Event). l ++ e ∷ []) (sym seen_is)

  pub may_record : (n : Machine I) (e : Event) → n ≡ grown m (e ∷ []) → IsOfPass (number_of e) v → (x : Event) × (n.history ≡ w.seen ++ x ∷ []) × IsOfPass (number_of x) w
  may_record n e more ours = (e, seen_more n e more, λ k is. ours k is ∙ sym number_is)

  pub told_added : (n s : Machine I) (e : Event) (x : Knowledge) → n ≡ grown m (e ∷ []) → s ≡ n → x ≡ recorded_as number_of w e → (s.history ≡ x.seen) × (x.fixed ≡ Some (s.rows, s.limit))
  told_added n s e x more same recorded = let all : s ≡ grown m (e ∷ []) = same ∙ more in (
    ap (λ (z : Machine I). z.history) all ∙ (ap (λ (l : List Event). l ++ e ∷ []) (sym seen_is) ∙ sym (ap (λ (z : Knowledge). z.seen) recorded)),
    ap (λ (z : Knowledge). z.fixed) recorded ∙ (fixed_is ∙ ap (λ (z : Machine I). let p : Option (Rows × ℕ) = Some (z.rows, z.limit) in p) (sym all)),
  )

  pub end_kept : (n : Machine I) (u : Knowledge) → n ≡ m → Legal n.rows n.limit n.history → u ≡ with_role w Idle → Turn v u m.history []
  end_kept n u same legal after =
      let end : u ≡ with_seen v Idle m.history = after ∙ ap (λ (z : Knowledge). with_role z Idle) began.1 in
      subst (λ (z : Knowledge). Turn v z m.history []) (sym end) (record { goes_on = began.0; ours = began.2; after = refl; own_are = began.2; legal = legal_of v m.rows m.limit m.history began.3 (subst (λ (z : Machine I). Legal z.rows z.limit z.history) same legal) })

  pub end_added : (n : Machine I) (e : Event) (x u : Knowledge) → n ≡ grown m (e ∷ []) → IsOfPass (number_of e) v → Legal n.rows n.limit n.history → x ≡ recorded_as number_of w e → u ≡ with_role x Idle → Turn v u m.history (e ∷ [])
  end_added n e x u more ours legal recorded after =
      let end : u ≡ recorded_as number_of (with_seen v Idle m.history) e = after ∙ (ap (λ (z : Knowledge). with_role z Idle) recorded ∙ ap (λ (z : Knowledge). with_role (recorded_as number_of z e) Idle) began.1) in
      let mine = own_numbered v.number m.history e (number_of e) refl ours ∙ ap (λ (l : List Event). l ++ numbered (number_of e) e) began.2 in
      let legal' : Legal m.rows m.limit (m.history ++ e ∷ []) = subst (λ (z : Machine I). Legal z.rows z.limit z.history) more legal in
      subst (λ (z : Knowledge). Turn v z m.history (e ∷ [])) (sym end) (record { goes_on = began.0; ours = began.2; after = refl; own_are = mine; legal = legal_of v m.rows m.limit (m.history ++ e ∷ []) began.3 legal' })

module _ {I : Type 0} (v w : Knowledge) (m : Machine I) (began : Began v m w) where
  -- the same by what a call adds
  pub turn_added : (n : Machine I) (e : Event) (x u : Knowledge) → Adds m n (e ∷ []) → IsOfPass (number_of e) v → Legal n.rows n.limit n.history → ((d : Event) → n.history ≡ w.seen ++ d ∷ [] → x ≡ recorded_as number_of w d) → u ≡ with_role x Idle → Turn v u m.history (e ∷ [])
  turn_added n e x u adds ours legal recorded after =
      let seen : w.seen ≡ m.history = ap (λ (z : Knowledge). z.seen) began.1 in
      let is : x ≡ recorded_as number_of w e = recorded e (adds.history ∙ ap (λ (l : List Event). l ++ e ∷ []) (sym seen)) in
      let end : u ≡ recorded_as number_of (with_seen v Idle m.history) e = after ∙ (ap (λ (z : Knowledge). with_role z Idle) is ∙ ap (λ (z : Knowledge). with_role (recorded_as number_of z e) Idle) began.1) in
      let mine = own_numbered v.number m.history e (number_of e) refl ours ∙ ap (λ (l : List Event). l ++ numbered (number_of e) e) began.2 in
      let legal' : Legal m.rows m.limit (m.history ++ e ∷ []) = subst (λ (z : Rows × ℕ × List Event). Legal z.0 z.1 z.2) (λ i. (adds.rows i, adds.limit i, adds.history i)) legal in
      subst (λ (z : Knowledge). Turn v z m.history (e ∷ [])) (sym end) (record { goes_on = began.0; ours = began.2; after = refl; own_are = mine; legal = legal_of v m.rows m.limit (m.history ++ e ∷ []) began.3 legal' })

  pub turn_kept : (n : Machine I) (u : Knowledge) → Adds m n [] → Legal n.rows n.limit n.history → u ≡ with_role w Idle → Turn v u m.history []
  turn_kept n u adds legal after =
      let end : u ≡ with_seen v Idle m.history = after ∙ ap (λ (z : Knowledge). with_role z Idle) began.1 in
      let legal' : Legal m.rows m.limit m.history = subst (λ (z : Rows × ℕ × List Event). Legal z.0 z.1 z.2) (λ i. (adds.rows i, adds.limit i, (adds.history ∙ append-nil m.history) i)) legal in
      subst (λ (z : Knowledge). Turn v z m.history []) (sym end) (record { goes_on = began.0; ours = began.2; after = refl; own_are = began.2; legal = legal_of v m.rows m.limit m.history began.3 legal' })

-- what an accepted release adds, and a refused one
pub release_added : (h : List Event) (caller : ℕ) (op : OpId) (r : Unit {0}) → Ok r ≡ release_reply h op → release_adds h caller op ≡ Release op caller ∷ []
unfolding release_reply release_adds
release_added h caller op r is = at (is_unreleased h op) is
  where
    at : (b : Bool) → (let x : Result (Unit {0}) NoHandle = Ok r in x) ≡ Rattle.std.proofs.Common.cond b (Ok tt) (Err (record {})) → Rattle.std.proofs.Common.cond b (Release op caller ∷ []) [] ≡ Release op caller ∷ []
    at true is = refl
    at false is = absurd (cc)

pub release_refused : (h : List Event) (caller : ℕ) (op : OpId) (e : NoHandle) → Err e ≡ release_reply h op → release_adds h caller op ≡ []
unfolding release_reply release_adds
release_refused h caller op e is = at (is_unreleased h op) is
  where
    at : (b : Bool) → (let x : Result (Unit {0}) NoHandle = Err e in x) ≡ Rattle.std.proofs.Common.cond b (Ok tt) (Err (record {})) → Rattle.std.proofs.Common.cond b (Release op caller ∷ []) [] ≡ []
    at true is = absurd (cc)
    at false is = refl
