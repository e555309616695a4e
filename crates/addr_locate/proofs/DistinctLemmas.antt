-- Bundles found once: one more bundle, and the set that tells which were found.
use Rattle.std.proofs.Common.{◌≡◌, ℕ, ◌==◌, Bool, true, false, not, ◌||◌, cond, List, [], ◌∷◌, ◌++◌, refl, sym, ap, ◌∙◌, arith, append-nil}
use Rattle.std.specs.BTreeSet.{BTreeSet, contains, Updates}
use Rattle.std.specs.List.{list_any}
use Rattle.std.specs.Ordering.{nat_cmp, eq_by_cmp}
use Rattle.std.proofs.lemmas.Bool.Decides.{nat_tests}
use Rattle.std.proofs.lemmas.List.Folds.{list_any-append}
use Rattle.addr_base.specs.declared.ids.BundleNo.{BundleNo}
use Rattle.addr_locate.specs.Lookups.{HasNumbers, AreFound}
use Rattle.addr_locate.specs.Merge.{distinct}
use Rattle.addr_locate.proofs.FoundLemmas.{any-distinct, distinct-snoc}

abbrev is_listed : List BundleNo → BundleNo → Bool
is_listed bs b = list_any (λ c. c.0 == b.0) bs

listed_in_all : (all found : List BundleNo) (b : BundleNo) (known : Bool) → found ≡ distinct all → is_listed found b ≡ known → is_listed all b ≡ known
listed_in_all all found b known are is = sym (any-distinct b all) ∙ (ap (λ (bs : List BundleNo). is_listed bs b) (sym are) ∙ is)

bundle_new : (all found : List BundleNo) (b : BundleNo) → found ≡ distinct all → is_listed found b ≡ false → found ++ b ∷ [] ≡ distinct (all ++ b ∷ [])
bundle_new all found b are new = sym (distinct-snoc all b ∙ ap (λ (t : Bool). distinct all ++ cond t [] (b ∷ [])) (listed_in_all all found b false are new) ∙ ap (λ (bs : List BundleNo). bs ++ b ∷ []) (sym are))

bundle_known : (all found : List BundleNo) (b : BundleNo) → found ≡ distinct all → is_listed found b ≡ true → found ≡ distinct (all ++ b ∷ [])
bundle_known all found b are known = sym (distinct-snoc all b ∙ ap (λ (t : Bool). distinct all ++ cond t [] (b ∷ [])) (listed_in_all all found b true are known) ∙ append-nil (distinct all) ∙ sym are)

-- what the set tells of a bundle is whether it is found
told : (seen : BTreeSet ℕ) (found : List BundleNo) (b : BundleNo) (new : Bool) → HasNumbers seen found → new ≡ not (contains nat_cmp seen b.0) → (known : Bool) → new ≡ not known → is_listed found b ≡ known
unfolding HasNumbers
told seen found b new has is known same = sym (has b.0) ∙ not_twice (contains nat_cmp seen b.0) known (sym is ∙ same)
  where
    not_twice : (s t : Bool) → not s ≡ not t → s ≡ t
    not_twice true true e = refl
    not_twice true false e = sym e
    not_twice false true e = sym e
    not_twice false false e = refl

either : (t c d : Bool) → c ≡ d → cond t true c ≡ (d || (t || false))
either true c true e = refl
either true c false e = refl
either false c true e = e
either false c false e = e

tied : (m n : ℕ) → eq_by_cmp nat_cmp m n ≡ (m == n)
tied m n = grind (arith, nat_tests)

number_more : (seen new : BTreeSet ℕ) (found : List BundleNo) (b : BundleNo) → HasNumbers seen found → Updates nat_cmp seen new b.0 true → HasNumbers new (found ++ b ∷ [])
unfolding HasNumbers
number_more seen new found b has updates = λ q.
    updates.0 q ∙ ap (λ (t : Bool). cond t true (contains nat_cmp seen q)) (tied b.0 q) ∙ either (b.0 == q) (contains nat_cmp seen q) (list_any (λ c. c.0 == q) found) (has q) ∙ sym (list_any-append (λ c. c.0 == q) found (b ∷ []))

number_kept : (seen new : BTreeSet ℕ) (found : List BundleNo) → HasNumbers seen found → new.keys ≡ seen.keys → HasNumbers new found
unfolding HasNumbers
number_kept seen new found has same = λ q. ap (list_any (eq_by_cmp nat_cmp q)) same ∙ has q

-- nothing is found at first
pub AreFound-none : (seen : BTreeSet ℕ) (found : List BundleNo) → seen.keys ≡ [] → found ≡ [] → AreFound [] found seen
unfolding HasNumbers
AreFound-none seen found empty none = record { once = none; has = λ q. ap (list_any (eq_by_cmp nat_cmp q)) empty ∙ sym (ap (list_any (λ c. c.0 == q)) none) }

-- one more bundle, which the set lacks or has
pub AreFound-put : (all found more : List BundleNo) (b : BundleNo) (seen new : BTreeSet ℕ) (added : Bool) → AreFound all found seen
    → added ≡ not (contains nat_cmp seen b.0) → added ≡ true
    → Updates nat_cmp seen new b.0 true
    → more ≡ found ++ b ∷ []
    → AreFound (all ++ b ∷ []) more new
AreFound-put all found more b seen new added so_far is e updates put =
    let fresh = told seen found b added so_far.has is false e in
    record {
      once = put ∙ bundle_new all found b so_far.once fresh;
      has = rw put (number_more seen new found b so_far.has updates);
    }

pub AreFound-pass : (all found : List BundleNo) (b : BundleNo) (seen new : BTreeSet ℕ) (added : Bool) → AreFound all found seen
    → added ≡ not (contains nat_cmp seen b.0) → added ≡ false
    → new.keys ≡ seen.keys
    → AreFound (all ++ b ∷ []) found new
AreFound-pass all found b seen new added so_far is e same =
    let known = told seen found b added so_far.has is true e in
    record { once = bundle_known all found b so_far.once known; has = number_kept seen new found so_far.has same }
