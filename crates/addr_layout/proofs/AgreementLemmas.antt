-- The walk through bundles and the walk through the project: each step of the one is a step of the other.
use Rattle.std.proofs.Common.{◌≡◌, ◌≢◌, ℕ, zero, suc, ◌⊎◌, inl, inr, Bool, true, false, List, [], ◌∷◌, Option, Some, None, refl, sym, ap, subst, ◌∙◌}
use Rattle.std.proofs.lemmas.Bool.{cases_eq, false≢true}
use Rattle.std.proofs.lemmas.Option.{slice_get_within}
use Rattle.std.proofs.lemmas.Slice.Eq.{bytes_eq-Decides}
use Rattle.std.specs.List.{Contains, slice_get}
use Rattle.std.specs.Str.{bytes_eq}
use Rattle.addr_base.specs.declared.ids.Guid.{Guid}
use Rattle.addr_pack.specs.declared.bundles.Plan.{Plan}
use Rattle.addr_project.specs.declared.model.Asset.{Asset}
use Rattle.addr_project.specs.declared.model.Entry.{Entry}
use Rattle.addr_project.specs.Model.{Project}
use Rattle.addr_project.specs.Reach.{Refers, Reaches}
use Rattle.addr_walks.specs.Closure.{IsDeps}
use Rattle.addr_walks.specs.Walks.{Leads}
use Rattle.addr_walks.specs.Walks.Leads.{stays, goes}
use Rattle.addr_walks.proofs.Lists.{Contains-here, Contains-later}
use Rattle.addr_walks.proofs.Walking.{kept-along}
use Rattle.addr_layout.specs.Agreement.{AgreesOver, Follows, Place, WalkAgrees, place}
use Rattle.addr_layout.specs.Members.{EachPlaced, HasEntry, IsEntry, IsNumbered, Member}
use Rattle.addr_layout.specs.Needs.{Home, Needs}
use Rattle.addr_layout.proofs.GuidLemmas.{same-guid}
use Rattle.addr_layout.proofs.RankLemmas.{same-some}

-- ---- a GUID is an entry's, or it isn't

numbered-or-not : (p : Project) (n : ℕ) (g : Guid) → IsNumbered p n g ⊎ (¬ IsNumbered p n g)
numbered-or-not p n g = by_asset (slice_get p.assets n) refl
  where
    by_test : (a : Asset) → slice_get p.assets n ≡ Some a → (t : Bool) → bytes_eq a.guid.0 g.0 ≡ t → IsNumbered p n g ⊎ (¬ IsNumbered p n g)
    by_test a at true same = inl (a, at, same-guid a.guid g ((bytes_eq-Decides a.guid.0 g.0).0 same))
    by_test a at false differs = inr (λ (other, there, is). false≢true (sym differs ∙ (bytes_eq-Decides a.guid.0 g.0).1 (ap (λ (x : Asset). x.guid.0) (same-some a other (sym at ∙ there)) ∙ ap (λ (h : Guid). h.0) is)))

    by_asset : (o : Option Asset) → slice_get p.assets n ≡ o → IsNumbered p n g ⊎ (¬ IsNumbered p n g)
    by_asset None none = inr (λ (other, there, is). absurd (cc (sym none ∙ there)))
    by_asset (Some a) at = by_test a at (bytes_eq a.guid.0 g.0) refl

some-or-none : {X : Type 0} (P : X → Type 0) → ((x : X) → P x ⊎ (¬ P x)) → (xs : List X) → ((k : ℕ) × ((x : X) × (slice_get xs k ≡ Some x) × P x)) ⊎ (¬ ((k : ℕ) × ((x : X) × (slice_get xs k ≡ Some x) × P x)))
some-or-none P decided [] = inr (λ (k, (x, at, holds)). absurd (cc at))
some-or-none {X} P decided (y ∷ ys) = by_first (decided y) (some-or-none P decided ys)
  where
    none : ¬ P y → ¬ ((k : ℕ) × ((x : X) × (slice_get ys k ≡ Some x) × P x)) → (k : ℕ) (x : X) → slice_get (y ∷ ys) k ≡ Some x → P x → ⊥
    none fails nowhere zero x at holds = let same : y ≡ x = cc at in fails (subst P (sym same) holds)
    none fails nowhere (suc k) x at holds = nowhere (k, (x, at, holds))

    by_first : P y ⊎ (¬ P y) → ((k : ℕ) × ((x : X) × (slice_get ys k ≡ Some x) × P x)) ⊎ (¬ ((k : ℕ) × ((x : X) × (slice_get ys k ≡ Some x) × P x)))
        → ((k : ℕ) × ((x : X) × (slice_get (y ∷ ys) k ≡ Some x) × P x)) ⊎ (¬ ((k : ℕ) × ((x : X) × (slice_get (y ∷ ys) k ≡ Some x) × P x)))
    by_first (inl holds) rest = inl (0, (y, refl, holds))
    by_first (inr fails) (inl (k, (x, at, holds))) = inl (suc k, (x, at, holds))
    by_first (inr fails) (inr nowhere) = inr (λ (k, (x, at, holds)). none fails nowhere k x at holds)

pub entry-or-not : (p : Project) (g : Guid) → IsEntry p g ⊎ (¬ IsEntry p g)
entry-or-not p g = some-or-none (λ (e : Entry). IsNumbered p e.asset g) (λ e. numbered-or-not p e.asset g) p.entries

-- ---- a walk of any steps

-- from where something stands: steps follow references, each reference can be followed, and leads to what stands, in a bundle that is needed
pub record LeadsOn (p : Project) (follows : Place → Place → Type 0) (stands : Place → Type 0) (needs : ℕ → ℕ → Type 0) : Type 0 where
  pub refers : (q s : Place) → stands q → follows q s → Refers p q.guid s.guid
  pub some : (b : ℕ) (x y : Guid) → stands (place b x) → Refers p x y → (c : ℕ) × follows (place b x) (place c y)
  pub kept : (q s : Place) → stands q → follows q s → stands s
  pub needed : (q s : Place) → stands q → follows q s → q.bundle ≢ s.bundle → needs q.bundle s.bundle

pub in-deps : (needs : ℕ → ℕ → Type 0) (b c : ℕ) (deps : List ℕ) → IsDeps needs b deps → Leads needs b c → Contains deps c
in-deps needs b c deps (rest, is, list) walk = by_number (cases_eq b c)
  where
    by_number : (b ≡ c) ⊎ (b ≡ c → ⊥) → Contains deps c
    by_number (inl same) = subst (λ xs. Contains xs c) (sym is) (subst (Contains (b ∷ rest)) same (Contains-here b rest))
    by_number (inr apart) = subst (λ xs. Contains xs c) (sym is) (Contains-later b rest c (list.all c (apart, walk)))

module _ (p : Project) (follows : Place → Place → Type 0) (stands : Place → Type 0) (needs : ℕ → ℕ → Type 0) (on : LeadsOn p follows stands needs) (b : ℕ) (a : Guid) (start : stands (place b a)) where
  stand : (q : Place) → Leads follows (place b a) q → stands q
  stand q walk = kept-along follows stands on.kept (place b a) q start walk

  -- each step of the project can be followed from wherever one stands
  found : (d : Guid) → Reaches p a d → (c : ℕ) × Leads follows (place b a) (place c d)
  found d stays = (b, stays)
  found d (goes {x = x} {y = y} before last) = step (found x before)
    where
      step : (c : ℕ) × Leads follows (place b a) (place c x) → (c : ℕ) × Leads follows (place b a) (place c y)
      step (c, walk) = let next = on.some c x y (stand (place c x) walk) last in (next.0, goes walk next.1)

  reached : (q : Place) → Leads follows (place b a) q → Reaches p a q.guid
  reached q stays = stays
  reached q (goes {x = x} {y = y} before last) = goes (reached x before) (on.refers x y (stand x before) last)

  needed : (q : Place) → Leads follows (place b a) q → Leads needs b q.bundle
  needed q stays = stays
  needed q (goes {x = x} {y = y} before last) = by_bundle (needed x before) (cases_eq x.bundle y.bundle)
    where
      by_bundle : Leads needs b x.bundle → (x.bundle ≡ y.bundle) ⊎ (x.bundle ≡ y.bundle → ⊥) → Leads needs b y.bundle
      by_bundle sofar (inl same) = subst (Leads needs b) same sofar
      by_bundle sofar (inr apart) = goes sofar (on.needed x y (stand x before) last apart)

  pub agrees-over : AgreesOver p follows stands needs b a
  agrees-over = record {
    found = found;
    only = λ c d walk. reached (place c d) walk;
    held = λ c d walk. stand (place c d) walk;
    needed = λ c d deps is walk. in-deps needs b c deps is (needed (place c d) walk);
  }

-- ---- by the homes of a placement

module _ (p : Project) (plan : Plan) where
  -- a reference has a home
  pub some-home : EachPlaced p plan → (b : ℕ) (y : Guid) → (c : ℕ) × Home p plan b y c
  some-home placed b y = by_entry (entry-or-not p y)
    where
      by_entry : IsEntry p y ⊎ (¬ IsEntry p y) → (c : ℕ) × Home p plan b y c
      by_entry (inl (n, entry)) = let at = placed n (slice_get_within p.entries n entry.0 entry.1) in (at.0, inl (n, at.1, entry))
      by_entry (inr none) = (b, inr (none, refl))

  pub holds-on : (q s : Place) → Member p plan q.bundle q.guid → Follows p plan q s → Member p plan s.bundle s.guid
  holds-on q s member (refers, inl has) = (s.guid, has, stays)
  holds-on q s (e, has, walk) (refers, inr (none, same)) = (e, subst (λ b. HasEntry p plan b e) same has, goes walk (refers, none))

  pub needs-on : (q s : Place) → Member p plan q.bundle q.guid → Follows p plan q s → q.bundle ≢ s.bundle → Needs p plan q.bundle s.bundle
  needs-on q s member (refers, inl has) apart = (apart, q.guid, s.guid, member, refers, has)
  needs-on q s member (refers, inr (none, same)) apart = absurd (apart same)

  leads-on : EachPlaced p plan → LeadsOn p (Follows p plan) (λ q. Member p plan q.bundle q.guid) (Needs p plan)
  leads-on placed = record {
    refers = λ q s member follows. follows.0;
    some = λ b x y member refers. (let home = some-home placed b y in (home.0, (refers, home.1)));
    kept = holds-on;
    needed = needs-on;
  }

  pub walk-agrees : WalkAgrees p plan
  walk-agrees placed b a has = agrees-over p (Follows p plan) (λ q. Member p plan q.bundle q.guid) (Needs p plan) (leads-on placed) b a (a, has, stays)
