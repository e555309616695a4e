-- The outside bundles that are found one reference after the other are those of all references.
use Rattle.std.proofs.Common.{◌≡◌, ℕ, ◌+◌, ◌<◌, List, [], ◌∷◌, ◌++◌, length, get_or, take, refl, sym, ap, ◌∙◌}
use Rattle.std.specs.List.{flat_map}
use Rattle.std.proofs.lemmas.Grind.{flat_map-append}
use Rattle.std.proofs.lemmas.List.{take_more, append-nil}
use Rattle.std.proofs.lemmas.List.Sums.{fold_more, fold-append}
use Rattle.addr_base.specs.declared.ids.Digest.{Digest}
use Rattle.addr_base.specs.declared.images.RefTo.{RefTo}
use Rattle.addr_cab.specs.Outside.{with_home, with_homes, outside_of}

pub homes-more : (names : List Digest) (refs : List RefTo) (i : ℕ) (d : RefTo) → i < length refs → with_homes names (take (i + 1) refs) ≡ with_home (with_homes names (take i refs)) (get_or refs i d).home
unfolding with_homes
homes-more names refs i d small = fold_more (λ (found : List Digest) (r : RefTo). with_home found r.home) names refs i d small

pub homes-step : (names found new : List Digest) (refs : List RefTo) (i : ℕ) (d : RefTo) → i < length refs → found ≡ with_homes names (take i refs) → new ≡ with_home found (get_or refs i d).home → new ≡ with_homes names (take (i + 1) refs)
homes-step names found new refs i d small so_far put = put ∙ (ap (λ (x : List Digest). with_home x (get_or refs i d).home) so_far ∙ sym (homes-more names refs i d small))

pub homes-append : (names : List Digest) (xs ys : List RefTo) → with_homes names (xs ++ ys) ≡ with_homes (with_homes names xs) ys
unfolding with_homes
homes-append names xs ys = fold-append (λ (found : List Digest) (q : RefTo). with_home found q.home) names xs ys

pub flat-more : {O A : Type 0} (f : O → List A) (os : List O) (i : ℕ) (o : O) → i < length os → o ≡ get_or os i o → flat_map f (take (i + 1) os) ≡ flat_map f (take i os) ++ f o
flat-more f os i o small is =
    ap (flat_map f) (take_more os i o small)
    ∙ (flat_map-append f (take i os) (get_or os i o ∷ []) ∙ ap (λ x. flat_map f (take i os) ++ x) (append-nil (f (get_or os i o)) ∙ ap f (sym is)))

pub outside-more : {O : Type 0} (refs : O → List RefTo) (os : List O) (i : ℕ) (o : O) → i < length os → o ≡ get_or os i o → outside_of (flat_map refs (take (i + 1) os)) ≡ with_homes (outside_of (flat_map refs (take i os))) (refs o)
outside-more refs os i o small is = ap outside_of (flat-more refs os i o small is) ∙ homes-append [] (flat_map refs (take i os)) (refs o)

pub homes-none : (names : List Digest) → with_homes names [] ≡ names
unfolding with_homes
homes-none names = refl
