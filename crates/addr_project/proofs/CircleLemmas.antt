-- A text that leads to itself names a variable whose value does so too; so where no value does, no text does.
use Rattle.std.proofs.Common.{◌≡◌, ℕ, ◌<◌, ◌≤◌, nat_lt, Bool, true, false, cond, List, length, Option, Some, None, Result, Ok, Err, refl, sym, ap, ◌∙◌, arith}
use Rattle.std.proofs.lemmas.Bool.{false≢true, ltb-false}
use Rattle.std.proofs.lemmas.List.Folds.{find_at}
use Rattle.std.proofs.lemmas.List.Sums.{fails_before_first}
use Rattle.std.proofs.lemmas.Option.{slice_get-map, slice_get_within, get_or_from_slice_get}
use Rattle.std.specs.List.{find, position, position_or_len, slice_get}
use Rattle.std.specs.Option.{option_map}
use Rattle.std.specs.Str.{bytes_eq}
use Rattle.addr_base.specs.declared.var.Var.{Var}
use Rattle.addr_walks.specs.Walks.{Leads}
use Rattle.addr_walks.specs.Walks.Leads.{goes}
use Rattle.addr_walks.proofs.Walking.{Leads-join}
use Rattle.addr_expansion.specs.declared.error.ExpandErr.{ExpandErr}
use Rattle.addr_expansion.specs.declared.error.ExpandErr.TheVariants.{BadVariable, Cycle, TooLong, NoMemory}
use Rattle.addr_expansion.specs.Expansion.{expanded, value_of}
use Rattle.addr_expansion.specs.Meaning.{Follows}
use Rattle.addr_expansion.specs.Replies.{is_circular, replies}
use Rattle.addr_expansion.proofs.MeaningLemmas.{meant}

none_before : {X : Type 0} (p : X → Bool) (xs : List X) → position p xs ≡ None → length xs ≤ position_or_len p xs
none_before p xs none = by_test (nat_lt (position_or_len p xs) (length xs)) refl none
  where
    by_test : (t : Bool) → nat_lt (position_or_len p xs) (length xs) ≡ t → cond t (Some (position_or_len p xs)) None ≡ None → length xs ≤ position_or_len p xs
    by_test true less none = absurd (cc none)
    by_test false past none = ltb-false (position_or_len p xs) (length xs) past

fails_at : {X : Type 0} (p : X → Bool) (xs : List X) (k : ℕ) (x : X) → position p xs ≡ None → slice_get xs k ≡ Some x → p x ≡ false
fails_at p xs k x none at =
    let past = none_before p xs none in
    let within = slice_get_within xs k x at in
    let before : k < position_or_len p xs = omega arith in
    ap p (sym (get_or_from_slice_get xs k x x at)) ∙ fails_before_first p xs k x before

two_maps : (vs : List Var) (o : Option Var) → option_map (λ v. expanded vs v.value) o ≡ option_map (expanded vs) (option_map (λ v. v.value) o)
two_maps vs None = refl
two_maps vs (Some v) = refl

-- the reply of a variable's value stands among the replies
reply_stands : (vs : List Var) (name value : List ℕ) → value_of vs name ≡ Some value → (k : ℕ) × (slice_get (replies vs) k ≡ Some (expanded vs value))
reply_stands vs name value known =
    let k = position_or_len (λ (v : Var). bytes_eq v.name name) vs in (
      k,
      slice_get-map (λ v. expanded vs v.value) vs k
          ∙ ap (option_map (λ v. expanded vs v.value)) (sym (find_at (λ (v : Var). bytes_eq v.name name) vs))
          ∙ two_maps vs (find (λ (v : Var). bytes_eq v.name name) vs)
          ∙ ap (option_map (expanded vs)) known,
    )

-- a variable's value leads to itself where a text does
value_circular : (vs : List Var) (text : List ℕ) → expanded vs text ≡ Err Cycle → (name : List ℕ) × (value : List ℕ) × (value_of vs name ≡ Some value) × (expanded vs value ≡ Err Cycle)
value_circular vs text is =
    let (good, (name, (t, walk, names), (value, known, again))) = (meant vs text).cycle.0 is in
    let onward : Leads (Follows vs) text value = goes walk (name, names, known) in
    (name, value, known, (meant vs value).cycle.1 (λ bad. (let (end, further, is_bad) = bad in good (end, Leads-join (Follows vs) text value end onward further, is_bad)), (name, again, (value, known, again))))

pub never_circular : (vs : List Var) (text : List ℕ) → position is_circular (replies vs) ≡ None → is_circular (expanded vs text) ≡ false
never_circular vs text none = by_reply (expanded vs text) refl
  where
    by_reply : (r : Result (List ℕ) ExpandErr) → expanded vs text ≡ r → is_circular r ≡ false
    by_reply (Ok t) is = refl
    by_reply (Err BadVariable) is = refl
    by_reply (Err (TooLong n)) is = refl
    by_reply (Err NoMemory) is = refl
    by_reply (Err Cycle) is =
        let (name, value, known, round) = value_circular vs text is in
        let (k, at) = reply_stands vs name value known in
        absurd (false≢true (sym (fails_at is_circular (replies vs) k (expanded vs value) none at) ∙ ap is_circular round))
