-- From a conversation to the answer of a fetch, and its count of faults.
use Rattle.std.proofs.Common.{◌≡◌, ℕ, List, [], Option, Some, None, Result, Ok, Err, refl, sym, ◌∙◌, ap, arith, subst}
use Rattle.addr_base.specs.Faults.{Rose}
use Rattle.addr_base.specs.declared.memory.Failed.{Failed as FailedType}
use Rattle.addr_wire.specs.Counts.{Counts}
use Rattle.addr_wire.specs.Talks.{ConnectNow}
use Rattle.addr_http.specs.Asking.{AskedAt}
use Rattle.addr_http.specs.Conversations.{Asks, Serves, Sizes}
use Rattle.addr_http.specs.Fetching.{AnsweredBy, CountsBy, Fetches, HttpNow, IfFault, SizesOf, sum_of}
use Rattle.addr_http.specs.Pours.{Pours}
use Rattle.addr_http.specs.Targets.{Address, request_text}
use Rattle.addr_http.specs.declared.outcome.Outcome.{Outcome}
use Rattle.addr_http.specs.declared.outcome.Outcome.TheVariants.{Whole as Got, Missing as NotThere, Refused as OtherStatus, TooLong as Longer, Unreadable, NoMemory as NoRoom}
use Rattle.addr_fetch.specs.declared.fetch.Poured.{Poured}
use Rattle.addr_fetch.specs.declared.fetch.Poured.TheVariants.{Missing, Fault}
use Rattle.addr_http.proofs.CollectingLemmas.{pours_none}

sizes_of : (limit : ℕ) (r : Result Outcome FailedType) (answer : Poured) (poured : List ℕ) (own now : ℕ) → AnsweredBy r answer own now → Sizes limit r poured → SizesOf limit answer poured
sizes_of limit (Ok (Got n)) answer poured own now a s = subst (λ (x : Poured). SizesOf limit x poured) (sym a.0) s
sizes_of limit (Ok NotThere) answer poured own now a s = subst (λ (x : Poured). SizesOf limit x poured) (sym a.0) tt
sizes_of limit (Ok (OtherStatus code)) answer poured own now a s = subst (λ (x : Poured). SizesOf limit x poured) (sym a.0) tt
sizes_of limit (Ok (Longer n)) answer poured own now a s = subst (λ (x : Poured). SizesOf limit x poured) (sym a.0) s
sizes_of limit (Ok Unreadable) answer poured own now a s = subst (λ (x : Poured). SizesOf limit x poured) (sym a.0.1) tt
sizes_of limit (Ok NoRoom) answer poured own now a s = subst (λ (x : Poured). SizesOf limit x poured) (sym a.0) tt
sizes_of limit (Err e) answer poured own now a s = subst (λ (x : Poured). SizesOf limit x poured) (sym a.0.1) tt

-- a conversation, answered
pub fetches : {P : Type 0} (took : P → List ℕ → Type 0) (limit : ℕ) (there : Option Address) (r : Result Outcome FailedType) (answer : Poured) (p q : P) (old new : HttpNow)
    → AskedAt took limit there (Some r) p q old.conn new.conn → AnsweredBy r answer old.own new.own → Fetches took limit there answer p q old new
fetches took limit None r answer p q old new t a = absurd (cc)
fetches took limit (Some address) r answer p q old new t a = record {
  poured = t.poured;
  pours = t.pours;
  within = t.within;
  sizes = sizes_of limit r answer t.poured old.own new.own a t.sizes;
  answers = (r, a, t.told);
}

-- an id of another form
pub not_asked : {P : Type 0} (took : P → List ℕ → Type 0) (limit : ℕ) (there : Option Address) (p q : P) (old new : ConnectNow) → AskedAt {E = FailedType} took limit there None p q old new → there ≡ None
not_asked took limit None p q old new a = refl
not_asked took limit (Some address) p q old new a = absurd a

pub fetches_none : {P : Type 0} (took : P → List ℕ → Type 0) (limit : ℕ) (there : Option Address) (p q : P) (old new : HttpNow) → there ≡ None → q ≡ p → new ≡ old → Fetches took limit there Missing p q old new
fetches_none took limit None p q old new e a b = record {
  poured = [];
  pours = subst (λ x. Pours took p x []) (sym a) (pours_none took p);
  within = omega arith;
  sizes = tt;
  answers = (refl, b);
}
fetches_none took limit (Some address) p q old new e a b = absurd (cc)

counted : (answer : Poured) (before now n : ℕ) → answer ≡ Fault n → n ≡ now → Rose before now → CountsBy answer before now
counted answer before now n e is rose = subst (λ (x : Poured). CountsBy x before now) (sym e) (is, rose)

-- the count after an answer
pub counts_by : (r : Result Outcome FailedType) (answer : Poured) (a c b d count : ℕ) → count ≡ c → Counts a r c → AnsweredBy r answer b d → IfFault answer (λ n. n ≡ sum_of count d) → CountsBy answer (sum_of a b) (sum_of c d)
counts_by (Ok (Got n)) answer a c b d count e h r f = subst (λ (x : Poured). CountsBy x (sum_of a b) (sum_of c d)) (sym r.0) (rw (h.same, r.1) refl)
counts_by (Ok NotThere) answer a c b d count e h r f = subst (λ (x : Poured). CountsBy x (sum_of a b) (sum_of c d)) (sym r.0) (rw (h.same, r.1) refl)
counts_by (Ok (OtherStatus code)) answer a c b d count e h r f = subst (λ (x : Poured). CountsBy x (sum_of a b) (sum_of c d)) (sym r.0) (rw (h.same, r.1) refl)
counts_by (Ok (Longer n)) answer a c b d count e h r f = subst (λ (x : Poured). CountsBy x (sum_of a b) (sum_of c d)) (sym r.0) (rw (h.same, r.1) refl)
counts_by (Ok NoRoom) answer a c b d count e h r f = subst (λ (x : Poured). CountsBy x (sum_of a b) (sum_of c d)) (sym r.0) (rw (h.same, r.1) refl)
counts_by (Ok Unreadable) answer a c b d count e h r f =
    let is : r.0.0 ≡ sum_of count d = subst (λ (x : Poured). IfFault x (λ n. n ≡ sum_of count d)) r.0.1 f in
    counted answer (sum_of a b) (sum_of c d) r.0.0 r.0.1 (is ∙ ap (λ (n : ℕ). sum_of n d) e) (omega (arith, h.same, r.1))
counts_by (Err x) answer a c b d count e h r f =
    let is : r.0.0 ≡ sum_of count d = subst (λ (x : Poured). IfFault x (λ n. n ≡ sum_of count d)) r.0.1 f in
    counted answer (sum_of a b) (sum_of c d) r.0.0 r.0.1 (is ∙ ap (λ (n : ℕ). sum_of n d) e) (omega (arith, h.failed, r.1))

pub asked_at : {P : Type 0} (took : P → List ℕ → Type 0) (limit : ℕ) (there : Option Address) (host path h t : List ℕ) (port : ℕ) (r : Result Outcome FailedType) (p q : P) (old mid new : ConnectNow)
    → there ≡ Some (record { host = host; port = port; path = path }) → h ≡ host → t ≡ path → new ≡ mid
    → Serves took limit r (Asks limit old.faults mid.faults (request_text (record { host = h; port = port; path = t })) r) p q old.talk mid.talk → AskedAt took limit there (Some r) p q old new
asked_at took limit None host path h t port r p q old mid new e a b s v = absurd (cc)
asked_at took limit (Some x) host path h t port r p q old mid new e a b s v =
    let x_is : x ≡ record { host = host; port = port; path = path } = cc in
    let same : record { host = h; port = port; path = t } ≡ x = ap (λ (w : List ℕ). let y : Address = record { host = w; port = port; path = t } in y) a ∙ ap (λ (w : List ℕ). let y : Address = record { host = host; port = port; path = w } in y) b ∙ sym x_is in
    let at : Serves took limit r (Asks limit old.faults mid.faults (request_text x) r) p q old.talk mid.talk = subst (λ (y : Address). Serves took limit r (Asks limit old.faults mid.faults (request_text y) r) p q old.talk mid.talk) same v in
    subst (λ (n : ConnectNow). Serves took limit r (Asks limit old.faults n.faults (request_text x) r) p q old.talk n.talk) (sym s) at
