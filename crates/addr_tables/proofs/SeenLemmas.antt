-- The set of written forms: what it tells of a key, and what it has once the key's form is added.
use Rattle.std.proofs.Common.{◌≡◌, ℕ, Bool, true, false, cond, List, [], ◌∷◌, ◌++◌, refl, sym, ap, ◌∙◌}
use Rattle.std.specs.Prelude.{◌||◌, bytes_eq}
use Rattle.std.specs.List.{list_any}
use Rattle.std.specs.Global.{Vec}
use Rattle.std.specs.BTreeSet.{BTreeSet, contains, Updates}
use Rattle.std.specs.BTreeMap.{is_at}
use Rattle.std.proofs.lemmas.Bool.Decides.{same_from_decides, Decides-like}
use Rattle.std.proofs.lemmas.Slice.Eq.{bytes_eq-Decides}
use Rattle.std.proofs.lemmas.Map.Text.{is_eq-slice_cmp}
use Rattle.std.proofs.lemmas.List.Folds.{list_any-append}
use Rattle.addr_keys.specs.declared.key.Key.{Key}
use Rattle.addr_keys.specs.Format.{key_text}
use Rattle.addr_tables.specs.Format.{is_same_key}
use Rattle.addr_tables.specs.Seen.{form_cmp, HasForms}

symmetric : (a b : List ℕ) → bytes_eq a b ≡ bytes_eq b a
symmetric a b = same_from_decides (bytes_eq a b) (bytes_eq b a) (bytes_eq-Decides a b) (Decides-like (bytes_eq b a) (λ (e : b ≡ a). sym e) (λ (e : a ≡ b). sym e) (bytes_eq-Decides b a))

either : (t c d : Bool) → c ≡ d → cond t true c ≡ (d || (t || false))
either true c true e = refl
either true c false e = refl
either false c true e = e
either false c false e = e

-- whether a key was there before
pub was_there : (seen : BTreeSet (Vec ℕ)) (keys : List Key) (key : Key) (form : Vec ℕ) → HasForms seen keys → form.items ≡ key_text key → contains form_cmp seen form ≡ list_any (is_same_key key) keys
unfolding HasForms is_same_key
was_there seen keys key form has is = has form ∙ ap (λ (x : List ℕ). list_any (λ k. bytes_eq x (key_text k)) keys) is

-- the set once the form of a key is added
pub form_more : (seen new : BTreeSet (Vec ℕ)) (keys : List Key) (key : Key) (form : Vec ℕ) → HasForms seen keys → form.items ≡ key_text key → Updates form_cmp seen new form true → HasForms new (keys ++ key ∷ [])
unfolding HasForms
form_more seen new keys key form has is updates = λ q.
    let test : bytes_eq form.items q.items ≡ bytes_eq q.items (key_text key) = symmetric form.items q.items ∙ ap (bytes_eq q.items) is in
    updates.0 q ∙ ap (λ (t : Bool). cond t true (contains form_cmp seen q)) (is_eq-slice_cmp form.items q.items ∙ test)
    ∙ either (bytes_eq q.items (key_text key)) (contains form_cmp seen q) (list_any (λ k. bytes_eq q.items (key_text k)) keys) (has q)
    ∙ sym (list_any-append (λ k. bytes_eq q.items (key_text k)) keys (key ∷ []))

pub none_seen : (seen : BTreeSet (Vec ℕ)) (keys : List Key) → seen.keys ≡ [] → keys ≡ [] → HasForms seen keys
unfolding HasForms
none_seen seen keys empty none = λ q. ap (list_any (λ k. is_at (form_cmp q) k)) empty ∙ sym (ap (list_any (λ k. bytes_eq q.items (key_text k))) none)
