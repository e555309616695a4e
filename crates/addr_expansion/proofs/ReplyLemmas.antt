-- Replies of expansion from what is kept of them.
use Rattle.std.proofs.Common.{◌≡◌, ℕ, ◌+◌, nat_le, nat_lt, Bool, true, false, not, cond, List, [], ◌∷◌, length, map, Some, None, refl, ap, ◌∙◌}
use Rattle.std.proofs.lemmas.List.{length-map}
use Rattle.std.specs.List.{position, position_or_len}
use Rattle.addr_base.specs.declared.var.Var.{Var}
use Rattle.addr_expansion.specs.declared.extent.Extent.{Extent}
use Rattle.addr_expansion.specs.Expansion.{Outcome, bad, circular, given, filled, outcome_of, expanded, reply_to}
use Rattle.addr_expansion.specs.Extents.{extent_of, extents, answer_of, IsExtent}
use Rattle.addr_expansion.specs.Replies.{is_bad, is_circular}
use Rattle.addr_expansion.proofs.ExpansionLemmas.{extent_is}

given_reply : (t : List ℕ) (b : Bool) → nat_le (length t) 1024 ≡ b → answer_of (extent_of (given t)) ≡ reply_to (given t)
given_reply t true short = rw short
given_reply t false long = rw long

reply_kept : (o : Outcome) → answer_of (extent_of o) ≡ reply_to o
reply_kept bad = refl
reply_kept circular = refl
reply_kept (given t) = given_reply t (nat_le (length t) 1024) refl

expanded-filled : (vs : List Var) (text : List ℕ) → reply_to (filled vs (outcome_of vs (length vs)) text) ≡ expanded vs text
unfolding expanded outcome_of
expanded-filled vs text = refl

-- the reply of a text that was filled with the table
pub reply_is : (vs : List Var) (text : List ℕ) (e : Extent) → IsExtent e (filled vs (outcome_of vs (length vs)) text) → answer_of e ≡ expanded vs text
reply_is vs text e is = ap answer_of (extent_is e (filled vs (outcome_of vs (length vs)) text) is) ∙ reply_kept (filled vs (outcome_of vs (length vs)) text) ∙ expanded-filled vs text

-- the replies of the values
pub replies_are : (vs some : List Var) → map answer_of (extents (filled vs (outcome_of vs (length vs))) some) ≡ map (λ v. expanded vs v.value) some
replies_are vs [] = refl
replies_are vs (v ∷ some) =
    λ i. (reply_kept (filled vs (outcome_of vs (length vs)) v.value) ∙ expanded-filled vs v.value) i ∷ replies_are vs some i

front-map : {X Y : Type 0} (test : Y → Bool) (f : X → Y) (xs : List X) → position_or_len test (map f xs) ≡ position_or_len (λ x. test (f x)) xs
front-map test f [] = refl
front-map test f (x ∷ xs) = ap (λ n. cond (not (test (f x))) (1 + n) 0) (front-map test f xs)

pub position-map : {X Y : Type 0} (test : Y → Bool) (f : X → Y) (xs : List X) → position test (map f xs) ≡ position (λ x. test (f x)) xs
position-map test f xs = (λ i. cond (nat_lt (front-map test f xs i) (length-map xs f i)) (Some (front-map test f xs i)) None)

pub bad_places : (es : List Extent) → position is_bad (map answer_of es) ≡ position (λ e. is_bad (answer_of e)) es
bad_places es = position-map is_bad answer_of es

pub circular_places : (es : List Extent) → position is_circular (map answer_of es) ≡ position (λ e. is_circular (answer_of e)) es
circular_places es = position-map is_circular answer_of es
