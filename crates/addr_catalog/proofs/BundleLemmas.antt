-- Bundles listed once: one more bundle, and the set that tells which were there.
use Rattle.std.proofs.Common.{◌≡◌, ℕ, ◌==◌, Bool, true, false, not, ◌||◌, cond, List, [], ◌∷◌, ◌++◌, refl, sym, ap, ◌∙◌, arith, append-nil}
use Rattle.std.specs.BTreeSet.{BTreeSet, contains, Updates}
use Rattle.std.specs.List.{list_any}
use Rattle.std.specs.Ordering.{nat_cmp, eq_by_cmp}
use Rattle.std.proofs.lemmas.Bool.Decides.{nat_tests}
use Rattle.std.proofs.lemmas.List.Folds.{list_any-append}
use Rattle.addr_base.specs.declared.ids.BundleNo.{BundleNo}
use Rattle.addr_locate.specs.Merge.{distinct}
use Rattle.addr_locate.proofs.FoundLemmas.{any-distinct, distinct-snoc}
use Rattle.addr_catalog.specs.TableRows.{HasNumbers}

abbrev pub is_listed : List BundleNo → BundleNo → Bool
is_listed bs b = list_any (λ c. c.0 == b.0) bs

listed_in_all : (all found : List BundleNo) (b : BundleNo) (known : Bool) → found ≡ distinct all → is_listed found b ≡ known → is_listed all b ≡ known
listed_in_all all found b known are is = sym (any-distinct b all) ∙ (ap (λ (bs : List BundleNo). is_listed bs b) (sym are) ∙ is)

pub bundle_new : (all found : List BundleNo) (b : BundleNo) → found ≡ distinct all → is_listed found b ≡ false → found ++ b ∷ [] ≡ distinct (all ++ b ∷ [])
bundle_new all found b are new = sym (distinct-snoc all b ∙ ap (λ (t : Bool). distinct all ++ cond t [] (b ∷ [])) (listed_in_all all found b false are new) ∙ ap (λ (bs : List BundleNo). bs ++ b ∷ []) (sym are))

pub bundle_known : (all found : List BundleNo) (b : BundleNo) → found ≡ distinct all → is_listed found b ≡ true → found ≡ distinct (all ++ b ∷ [])
bundle_known all found b are known = sym (distinct-snoc all b ∙ ap (λ (t : Bool). distinct all ++ cond t [] (b ∷ [])) (listed_in_all all found b true are known) ∙ append-nil (distinct all) ∙ sym are)

-- ---- the set of numbers

pub told : (seen : BTreeSet ℕ) (found : List BundleNo) (b : BundleNo) (new : Bool) → HasNumbers seen found → new ≡ not (contains nat_cmp seen b.0) → (known : Bool) → new ≡ not known → is_listed found b ≡ known
unfolding HasNumbers
told seen found b new has is known same = sym (has b.0) ∙ not_twice (contains nat_cmp seen b.0) known (sym is ∙ same)
  where
    not_twice : (s t : Bool) → not s ≡ not t → s ≡ t
    not_twice true true e = refl
    not_twice true false e = sym e
    not_twice false true e = sym e
    not_twice false false e = refl

either : (t c d : Bool) → c ≡ d → cond t true c ≡ (d || (t || false))
either true c true e = refl
either true c false e = refl
either false c true e = e
either false c false e = e

tied : (m n : ℕ) → eq_by_cmp nat_cmp m n ≡ (m == n)
tied m n = grind (arith, nat_tests)

pub number_more : (seen new : BTreeSet ℕ) (found : List BundleNo) (b : BundleNo) → HasNumbers seen found → Updates nat_cmp seen new b.0 true → HasNumbers new (found ++ b ∷ [])
unfolding HasNumbers
number_more seen new found b has updates = λ q.
    updates.0 q ∙ ap (λ (t : Bool). cond t true (contains nat_cmp seen q)) (tied b.0 q) ∙ either (b.0 == q) (contains nat_cmp seen q) (list_any (λ c. c.0 == q) found) (has q) ∙ sym (list_any-append (λ c. c.0 == q) found (b ∷ []))

pub none_seen : (seen : BTreeSet ℕ) (found : List BundleNo) → seen.keys ≡ [] → found ≡ [] → HasNumbers seen found
unfolding HasNumbers
none_seen seen found empty none = λ q. ap (list_any (eq_by_cmp nat_cmp q)) empty ∙ sym (ap (list_any (λ c. c.0 == q)) none)
