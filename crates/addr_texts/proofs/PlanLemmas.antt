-- The block of a bundle is told as its placement and layout say, and one more block goes behind those before.
use Rattle.std.proofs.Common.{◌≡◌, ◌≢◌, ◌==◌, ◌||◌, ◌∙◌, ◌+◌, ◌<◌, ◌⊎◌, inl, inr, ℕ, zero, suc, Bool, true, false, not, List, [], ◌∷◌, ◌++◌, length, get_or, filter, drop, Some, refl, sym, ap, subst, arith, append_assoc, append-nil}
use Rattle.std.proofs.lemmas.Bool.{eqb-true, false≢true}
use Rattle.std.proofs.lemmas.Bool.Decides.{nat_tests}
use Rattle.std.proofs.lemmas.List.Elements.{Contains-get_or}
use Rattle.std.proofs.lemmas.Option.{slice_get_within}
use Rattle.std.specs.Bool.{MatchBool}
use Rattle.std.specs.List.{All, Contains, list_any, slice_get}
use Rattle.std.specs.Prelude.{slice_index_or}
use Rattle.addr_project.specs.Model.{Project}
use Rattle.addr_project.specs.declared.model.Entry.{Entry}
use Rattle.addr_pack.specs.declared.bundles.Plan.{Plan}
use Rattle.addr_pack.specs.declared.bundles.PlanBundle.{PlanBundle}
use Rattle.addr_pack.specs.Placement.{IsPlaced}
use Rattle.addr_walks.specs.Closure.{IsDeps}
use Rattle.addr_walks.specs.Walks.{IsListOf}
use Rattle.addr_walks.proofs.Lists.{Contains-here, Contains-later, Contains-cases, Contains-none, EachAt-push, IsListOf-filter, IsListOf-same}
use Rattle.std.proofs.lemmas.List.{length_push}
use Rattle.addr_layout.specs.declared.model.LayBundle.{LayBundle}
use Rattle.addr_layout.specs.declared.model.Layout.{Layout}
use Rattle.addr_layout.specs.Layout.{AreMembers, IsBare, IsFull, IsLaid, IsLayout, MemberNumber, by_guid}
use Rattle.addr_layout.specs.Needs.{Needs}
use Rattle.addr_texts.specs.Marks.{AreMarks, block_of, is_of, is_unmarked}
use Rattle.addr_texts.specs.PlanText.{Block, IsBlock, IsImplicit, TellsBlock, TellsFirst, block_text, blocks_text}

-- ---- marks

or_right : (t u : Bool) → u ≡ true → (t || u) ≡ true
or_right true u e = refl
or_right false u e = e

or_left : (t u : Bool) → t ≡ true → (t || u) ≡ true
or_left true u e = refl
or_left false u e = absurd (false≢true e)

any-here : (n : ℕ) (entries : List Entry) (e : Entry) → Contains entries e → e.asset ≡ n → list_any (is_of n) entries ≡ true
any-here n [] e here same = absurd (Contains-none e here)
any-here n (d ∷ ds) e here same = by_case (Contains-cases d ds e here) (λ later. any-here n ds e later same)
  where
    by_case : (d ≡ e) ⊎ Contains ds e → (Contains ds e → list_any (is_of n) ds ≡ true) → (is_of n d || list_any (is_of n) ds) ≡ true
    by_case (inl is) more =
        let asset : d.asset ≡ n = ap (λ (x : Entry). x.asset) is ∙ same in
        let own : (d.asset == n) ≡ true = grind (arith, nat_tests) in
        or_left (is_of n d) (list_any (is_of n) ds) own
    by_case (inr later) more = or_right (is_of n d) (list_any (is_of n) ds) (more later)

any-found : (n : ℕ) (entries : List Entry) → list_any (is_of n) entries ≡ true → (e : Entry) × Contains entries e × (e.asset ≡ n)
any-found n [] is = absurd (false≢true is)
any-found n (d ∷ ds) is = by_test (is_of n d) refl is (any-found n ds)
  where
    by_test : (t : Bool) → is_of n d ≡ t → (t || list_any (is_of n) ds) ≡ true → (list_any (is_of n) ds ≡ true → (e : Entry) × Contains ds e × (e.asset ≡ n)) → (e : Entry) × Contains (d ∷ ds) e × (e.asset ≡ n)
    by_test true own is more = (d, Contains-here d ds, eqb-true d.asset n own)
    by_test false own is more = let rest = more is in (rest.0, Contains-later d ds rest.0 rest.1, rest.2)

not_true : (t : Bool) → not t ≡ true → t ≡ false
not_true true e = absurd (false≢true e)
not_true false e = refl

unmarked-implicit : (p : Project) (count : ℕ) (marks : List Bool) → AreMarks count p.entries marks → (n : ℕ) → is_unmarked marks n ≡ true → IsImplicit p n
unmarked-implicit p count marks are n is e here same =
    false≢true (sym (not_true (slice_index_or marks n false) is) ∙ (are.set n ∙ any-here n p.entries e here same))

implicit-unmarked : (p : Project) (count : ℕ) (marks : List Bool) → AreMarks count p.entries marks → (n : ℕ) → IsImplicit p n → is_unmarked marks n ≡ true
implicit-unmarked p count marks are n implicit = by_test (list_any (is_of n) p.entries) refl
  where
    by_test : (t : Bool) → list_any (is_of n) p.entries ≡ t → not (slice_index_or marks n false) ≡ true
    by_test true is = let found = any-found n p.entries is in absurd (implicit found.0 found.1 found.2)
    by_test false is = ap not (are.set n ∙ is)

-- ---- the block of a bundle

module _ (p : Project) (plan : Plan) (placed : IsPlaced p plan) where
  pub entries-within : (b : ℕ) (bundle : PlanBundle) → slice_get plan.bundles b ≡ Some bundle → All (λ x. x < length p.entries) bundle.entries
  entries-within b bundle at = λ k d within. (let named = (placed.classes b bundle at).named (get_or bundle.entries k d) (Contains-get_or bundle.entries k d within) in slice_get_within p.entries (get_or bundle.entries k d) named.0 named.1)

  full : (b : ℕ) (lay : LayBundle) → IsLaid p plan b lay → IsFull p plan b lay
  full b lay laid = subst (λ t. MatchBool t (IsBare lay) (IsFull p plan b lay)) (placed.classes b laid.0 laid.1).new laid.2

  pub members-within : (b : ℕ) (lay : LayBundle) → IsLaid p plan b lay → All (λ n. n < length p.assets) lay.members
  members-within b lay laid = λ k d within. (let member = (full b lay laid).members.within (get_or lay.members k d) (Contains-get_or lay.members k d within) in slice_get_within p.assets (get_or lay.members k d) member.1.0 member.1.1)

  pub block-is : (count : ℕ) (marks : List Bool) → AreMarks count p.entries marks → (b : ℕ) (bundle : PlanBundle) (lay : LayBundle) (deps : List ℕ)
      → slice_get plan.bundles b ≡ Some bundle → IsLaid p plan b lay → IsDeps (Needs p plan) b deps → IsBlock p plan b (block_of marks bundle lay.members deps)
  block-is count marks are b bundle lay deps at laid closed = record {
    bundle = bundle;
    there = at;
    name = refl;
    entries = refl;
    copies = IsListOf-same (λ n. (is_unmarked marks n ≡ true) × MemberNumber p plan b n) (λ n. MemberNumber p plan b n × IsImplicit p n)
        (λ n both. (both.1, unmarked-implicit p count marks are n both.0))
        (λ n both. (implicit-unmarked p count marks are n both.1, both.0))
        (filter (is_unmarked marks) lay.members)
        (IsListOf-filter (MemberNumber p plan b) (is_unmarked marks) lay.members (full b lay laid).members);
    deps = subst (λ (rest : List ℕ). IsDeps (Needs p plan) b (b ∷ rest)) (sym (ap (drop 1) closed.1)) (subst (IsDeps (Needs p plan) b) closed.1 closed);
  }

-- ---- blocks one after the other

pub blocks-more : (p : Project) (n : ℕ) (blocks : List Block) (block : Block) → blocks_text p n (blocks ++ block ∷ []) ≡ blocks_text p n blocks ++ block_text p (n + length blocks) block
blocks-more p n [] block = let first : n ≡ n + 0 = omega arith in append-nil (block_text p n block) ∙ ap (λ k. block_text p k block) first
blocks-more p n (first ∷ blocks) block =
    let number : (n + 1) + length blocks ≡ n + length (first ∷ blocks) = omega arith in
    ap (λ more. block_text p n first ++ more) (blocks-more p (n + 1) blocks block ∙ ap (λ k. blocks_text p (n + 1) blocks ++ block_text p k block) number)
    ∙ sym (append_assoc (block_text p n first) (blocks_text p (n + 1) blocks) (block_text p (n + length (first ∷ blocks)) block))

-- one more block goes behind those of the bundles before it
pub told-more : (p : Project) (plan : Plan) (b : ℕ) (old new : List ℕ) → TellsFirst p plan b old → TellsBlock p plan b old new → TellsFirst p plan (b + 1) new
told-more p plan b old new before told =
    let blocks = before.0 in
    let block = told.0 in
    let first : 0 + length blocks ≡ b = omega (arith, before.1) in (
      blocks ++ block ∷ [],
      length_push blocks block ∙ ap (λ n. n + 1) before.1,
      EachAt-push (IsBlock p plan) blocks block before.2 (subst (λ k. IsBlock p plan k block) (sym before.1) told.1),
      told.2 ∙ (ap (λ t. t ++ block_text p b block) before.3 ∙ (ap (λ k. blocks_text p 0 blocks ++ block_text p k block) (sym first) ∙ sym (blocks-more p 0 blocks block))),
    )
