-- Steps of reading taken apart, no want of memory among their faults, and the one answer that reading gives.
use Rattle.std.proofs.Common.{◌≡◌, ◌≢◌, inl, inr, Bool, true, false, cond, Option, Some, None, Result, Ok, Err, refl, ap}
use Rattle.std.specs.Prelude.{IfOk}
use Rattle.addr_reading.specs.Steps.{◌>>=◌, or_fault}
use Rattle.addr_reading.specs.Gives.{Gives, IsNamed, IsDecided}

-- ---- steps taken apart

pub bind_ok : {A B E : Type 0} (r : Result A E) (f : A → Result B E) (y : B) → (r >>= f) ≡ Ok y → (x : A) × (r ≡ Ok x) × (f x ≡ Ok y)
bind_ok (Ok x) f y is = (x, refl, is)
bind_ok (Err e) f y is = absurd cc

pub or_fault_ok : {A E : Type 0} (fault : E) (o : Option A) (x : A) → or_fault fault o ≡ Ok x → o ≡ Some x
or_fault_ok fault (Some y) x is = let same : y ≡ x = cc in ap Some same
or_fault_ok fault None x is = absurd cc

abbrev done : {A : Type 0} (E : Type 0) → A → Result A E
done E x = Ok x

-- the value of a last step
pub ok_is : {A E : Type 0} (x y : A) → done E x ≡ done E y → x ≡ y
ok_is x y e = cc

-- a choice that gave a value
pub chosen : {A E : Type 0} (test : Bool) (fault : E) (x y : A) → cond test (Ok x) (Err fault) ≡ Ok y → (test ≡ true) × (x ≡ y)
chosen true fault x y e = (refl, cc)
chosen false fault x y e = absurd cc

-- a step behind a test that would have failed
pub guarded : {A E : Type 0} (test : Bool) (fault : E) (r : Result A E) (y : A) → cond test (Err fault) r ≡ Ok y → (test ≡ false) × (r ≡ Ok y)
guarded true fault r y e = absurd cc
guarded false fault r y e = (refl, e)

-- a step may be another that gives the same of each value
pub then_same : {A B E : Type 0} (r : Result A E) {f g : A → Result B E} → ((x : A) → f x ≡ g x) → (r >>= f) ≡ (r >>= g)
then_same (Ok x) same = same x
then_same (Err e) same = refl

-- what holds of each value that reading gives holds of what a call answered
pub if_gives : {X Y E : Type 0} (no_memory : E) (view : X → Y) (P : Y → Type 0) (r : Result X E) (read : Result Y E) → ((y : Y) → read ≡ Ok y → P y) → Gives no_memory view r read → IfOk r (λ x. P (view x))
if_gives no_memory view P (Ok x) read each given = each (view x) given
if_gives no_memory view P (Err e) read each given = tt

-- ---- no fault is want of memory

pub ok_named : {A E : Type 0} (no_memory : E) (x : A) → IsNamed no_memory (Ok x)
ok_named no_memory x same = absurd cc

pub err_named : {A E : Type 0} (no_memory fault : E) → fault ≢ no_memory → IsNamed {A = A} no_memory (Err fault)
err_named no_memory fault other same = let memory : fault ≡ no_memory = cc in other memory

pub if_named : {A E : Type 0} (no_memory : E) (test : Bool) (r s : Result A E) → IsNamed no_memory r → IsNamed no_memory s → IsNamed no_memory (cond test r s)
if_named no_memory true r s first second = first
if_named no_memory false r s first second = second

pub fault_named : {A E : Type 0} (no_memory fault : E) (o : Option A) → fault ≢ no_memory → IsNamed no_memory (or_fault fault o)
fault_named no_memory fault (Some x) other same = absurd cc
fault_named no_memory fault None other same = let memory : fault ≡ no_memory = cc in other memory

pub then_named : {A B E : Type 0} (no_memory : E) (r : Result A E) (f : A → Result B E) → IsNamed no_memory r → ((x : A) → IsNamed no_memory (f x)) → IsNamed no_memory (r >>= f)
then_named no_memory (Ok x) f first more = more x
then_named no_memory (Err e) f first more = λ same. let memory : e ≡ no_memory = cc in first (ap Err memory)

-- ---- exactly one answer

pub one_value : {A E : Type 0} (r : Result A E) (x y : A) → r ≡ Ok x → r ≡ Ok y → x ≡ y
one_value r x y p q = cc

pub one_fault : {A E : Type 0} (r : Result A E) (e f : E) → r ≡ Err e → r ≡ Err f → e ≡ f
one_fault r e f p q = cc

pub not_both : {A E : Type 0} (r : Result A E) (x : A) (e : E) → r ≡ Ok x → r ≡ Err e → ⊥
not_both r x e p q = cc

pub is_decided : {A E : Type 0} (no_memory : E) (r : Result A E) → IsNamed no_memory r → IsDecided no_memory r
is_decided no_memory (Ok x) named = inl (x, refl)
is_decided no_memory (Err e) named = inr (e, refl, λ same. named (ap Err same))
