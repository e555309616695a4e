-- Pieces of a body, one after the other.
use Rattle.std.proofs.Common.{◌≡◌, ◌<◌, ◌≤◌, ◌+◌, ◌-◌, ℕ, List, [], ◌∷◌, ◌++◌, zero, suc, Bool, true, false, Option, Some, None, Result, Ok, Err, IsNone, MatchOption, refl, sym, ◌∙◌, ap, arith, length, take, subst, append_assoc, nat_lt, ◌==◌, ◌&&◌, ◌||◌}
use Rattle.std.proofs.lemmas.Bool.Decides.{nat_tests}
use Rattle.std.proofs.lemmas.List.{append-nil, length-take, length-append}
use Rattle.addr_base.specs.declared.memory.Failed.{Failed}
use Rattle.addr_wire.specs.Talks.{Talk, heard}
use Rattle.addr_http.specs.Collecting.{Collects, Gave, IsOver, Receives}
use Rattle.addr_http.specs.Hearing.{Told}
use Rattle.addr_http.specs.Pours.{Pours}
use Rattle.addr_http.specs.declared.collecting.Collected.TheVariants.{Enough, Ended, NoMemory}
use Rattle.addr_http.specs.declared.collecting.Piece.TheVariants.{Came, Over, Refused}

-- what a receive says, where it is told
abbrev pub Heard : Result ℕ Failed → List ℕ → Option Talk → Option Talk → Type 0
Heard r into old new = MatchOption old (IsNone new) (λ o. new ≡ Some (heard o r into))

pub gave_some : (n : ℕ) (into : List ℕ) (old new : Option Talk) → Heard (Ok n) into old new → Told (Gave (take n into)) old new
gave_some n into None new h = tt
gave_some n into (Some o) None h = absurd (cc)
gave_some n into (Some o) (Some x) h =
    let same : x ≡ heard {E = Failed} o (Ok n) into = cc in
    record { given = ap (λ (t : Talk). t.given) same; sent = ap (λ (t : Talk). t.sent) same }

nothing : (o : Talk) → Gave [] o o
nothing o = record { given = sym (append-nil o.given); sent = refl }

pub gave_none : (old : Option Talk) → Told (Gave []) old old
gave_none None = tt
gave_none (Some o) = nothing o

pub gave_failed : (e : Failed) (into : List ℕ) (old new : Option Talk) → Heard (Err e) into old new → Told (Gave []) old new
gave_failed e into None new h = tt
gave_failed e into (Some o) None h = absurd (cc)
gave_failed e into (Some o) (Some x) h = let same : x ≡ o = cc in subst (λ (t : Talk). Gave [] o t) (sym same) (nothing o)

pub is_over : (n : ℕ) (into : List ℕ) (old new : Option Talk) → Heard (Ok n) into old new → n ≡ 0 → 0 < length into → IsOver new
is_over n into None None h z s = tt
is_over n into None (Some x) h z s = absurd (cc)
is_over n into (Some o) None h z s = absurd (cc)
is_over n into (Some o) (Some x) h z s =
    let same : x ≡ heard {E = Failed} o (Ok n) into = cc in
    let some : nat_lt 0 (length into) ≡ true = grind (arith, nat_tests, s) in
    let zero_is : (n == 0) ≡ true = grind (arith, nat_tests, z) in
    ap (λ (t : Talk). t.ended) same ∙ ap (λ (v : Bool). o.ended || (v && nat_lt 0 (length into))) zero_is ∙ ap (λ (v : Bool). o.ended || (true && v)) some ∙ or_true o.ended
  where
    or_true : (v : Bool) → (v || true) ≡ true
    or_true true = refl
    or_true false = refl

-- nothing more was poured
pub pours_none : {P : Type 0} (took : P → List ℕ → Type 0) (p : P) → Pours took p p []
pours_none took p fed h = subst (λ (t : List ℕ). took p t) (sym (append-nil fed)) h

pub pours_on : {P : Type 0} (took : P → List ℕ → Type 0) (p q r : P) (xs ys : List ℕ) → Pours took p q xs → Pours took q r ys → Pours took p r (xs ++ ys)
pours_on took p q r xs ys x y fed h = subst (λ (t : List ℕ). took r t) (append_assoc fed xs ys) (y (fed ++ xs) (x fed h))

pub pours_same : {P : Type 0} (took : P → List ℕ → Type 0) (p q : P) (xs ys : List ℕ) → xs ≡ ys → Pours took p q xs → Pours took p q ys
pours_same took p q xs ys e x = subst (λ (t : List ℕ). Pours took p q t) e x

pub gave_on : (xs ys : List ℕ) (old mid new : Option Talk) → Told (Gave xs) old mid → Told (Gave ys) mid new → Told (Gave (xs ++ ys)) old new
gave_on xs ys None mid new p q = tt
gave_on xs ys (Some o) None new p q = absurd p
gave_on xs ys (Some o) (Some m) None p q = absurd q
gave_on xs ys (Some o) (Some m) (Some n) p q = record {
  given = q.given ∙ ap (λ (t : List ℕ). t ++ ys) p.given ∙ append_assoc o.given xs ys;
  sent = q.sent ∙ p.sent;
}

no_front : (n : ℕ) → take {A = ℕ} n [] ≡ []
no_front zero = refl
no_front (suc n) = refl

-- the front of two pieces: that of the first, and what is left of the room of the second
pub take_both : (room : ℕ) (xs ys : List ℕ) → take room (xs ++ ys) ≡ take room xs ++ take (room - length xs) ys
take_both room [] ys =
    let same : room ≡ room - 0 = omega arith in
    let none : take room [] ≡ [] = no_front room in
    let all : take room ys ≡ take (room - 0) ys = ap (λ (n : ℕ). take n ys) same in
    all ∙ ap (λ (t : List ℕ). t ++ take (room - 0) ys) (sym none)
take_both zero (x ∷ xs) ys = let none : 0 - length (x ∷ xs) ≡ 0 = omega arith in rw none refl
take_both (suc n) (x ∷ xs) ys = let less : suc n - length (x ∷ xs) ≡ n - length xs = omega arith in rw less (ap (λ (t : List ℕ). x ∷ t) (take_both n xs ys))

-- so far these bytes came, of which the front was poured
pub record SoFar {P : Type 0} (took : P → List ℕ → Type 0) (total space left room : ℕ) (p q : P) (old new : Option Talk) : Type 0 where
  pub gave : List ℕ
  pub pours : Pours took p q (take space gave)
  pub told : Told (Gave gave) old new
  pub left_is : left ≡ total - length gave
  pub room_is : room ≡ space - length gave

pub so_far_none : {P : Type 0} (took : P → List ℕ → Type 0) (total space : ℕ) (p : P) (old : Option Talk) → SoFar took total space total space p p old old
so_far_none took total space p old = record {
  gave = [];
  pours = pours_same took p p [] (take space []) (sym (no_front space)) (pours_none took p);
  told = gave_none old;
  left_is = all total;
  room_is = all space;
}
  where
    all : (n : ℕ) → n ≡ n - length (let t : List ℕ = [] in t)
    all n = omega arith

-- the same with one more piece
pub so_far_more : {P : Type 0} (took : P → List ℕ → Type 0) (total space left room n : ℕ) (p q r : P) (old mid new : Option Talk)
    → SoFar took total space left room p q old mid → Receives {E = Failed} took room (Ok (Came n)) q r mid new → SoFar took total space (left - n) (room - n) p r old new
so_far_more took total space left room n p q r old mid new s m =
    let len : length (s.gave ++ m.gave) ≡ length s.gave + length m.gave = length-append s.gave m.gave in
    let front : take space s.gave ++ m.poured ≡ take space (s.gave ++ m.gave) =
    ap (λ (t : List ℕ). take space s.gave ++ t) (m.case.2 ∙ ap (λ (k : ℕ). take k m.gave) s.room_is) ∙ sym (take_both space s.gave m.gave) in
    record {
      gave = s.gave ++ m.gave;
      pours = pours_same took p r (take space s.gave ++ m.poured) (take space (s.gave ++ m.gave)) front (pours_on took p q r (take space s.gave) m.poured s.pours m.pours);
      told = gave_on s.gave m.gave old mid new s.told m.told;
      left_is = omega (arith, len, s.left_is, m.case.0);
      room_is = omega (arith, len, s.room_is, m.case.0);
    }

-- how it ends: all came; the conversation ended; the connector failed; or memory was refused
pub collects_enough : {P : Type 0} (took : P → List ℕ → Type 0) (total space left room : ℕ) (p q : P) (old new : Option Talk)
    → SoFar took total space left room p q old new → left ≤ 0 → Collects {E = Failed} took total space (Ok Enough) p q old new
collects_enough took total space left room p q old new s z = record {
  gave = s.gave;
  poured = take space s.gave;
  pours = s.pours;
  case = (omega (arith, s.left_is, z), refl);
  told = s.told;
  over = tt;
}

same_end : {P : Type 0} (took : P → List ℕ → Type 0) (space : ℕ) (p q r : P) (xs ys : List ℕ) → Pours took p q (take space xs) → Pours took q r ys → ys ≡ [] → Pours took p r (take space xs)
same_end took space p q r xs ys x y e =
    pours_same took p r (take space xs ++ ys) (take space xs) (ap (λ (t : List ℕ). take space xs ++ t) e ∙ append-nil (take space xs)) (pours_on took p q r (take space xs) ys x y)

same_gave : (xs ys : List ℕ) (old mid new : Option Talk) → Told (Gave xs) old mid → Told (Gave ys) mid new → ys ≡ [] → Told (Gave xs) old new
same_gave xs ys old mid new x y e =
    subst (λ (t : List ℕ). Told (Gave t) old new) (ap (λ (t : List ℕ). xs ++ t) e ∙ append-nil xs) (gave_on xs ys old mid new x y)

pub collects_ended : {P : Type 0} (took : P → List ℕ → Type 0) (total space left room : ℕ) (p q r : P) (old mid new : Option Talk)
    → SoFar took total space left room p q old mid → Receives {E = Failed} took room (Ok Over) q r mid new → 0 < left → Collects {E = Failed} took total space (Ok (Ended left)) p r old new
collects_ended took total space left room p q r old mid new s m z = record {
  gave = s.gave;
  poured = take space s.gave;
  pours = same_end took space p q r s.gave m.poured s.pours m.pours m.case.1;
  case = (s.left_is, z, refl);
  told = same_gave s.gave m.gave old mid new s.told m.told m.case.0;
  over = m.over;
}

pub collects_failed : {P : Type 0} (took : P → List ℕ → Type 0) (total space left room : ℕ) (p q r : P) (old mid new : Option Talk) (e : Failed)
    → SoFar took total space left room p q old mid → Receives {E = Failed} took room (Err e) q r mid new → 0 < left → Collects {E = Failed} took total space (Err e) p r old new
collects_failed took total space left room p q r old mid new e s m z = record {
  gave = s.gave;
  poured = take space s.gave;
  pours = same_end took space p q r s.gave m.poured s.pours m.pours m.case.1;
  case = (omega (arith, s.left_is, z), refl);
  told = same_gave s.gave m.gave old mid new s.told m.told m.case.0;
  over = tt;
}

pub collects_refused : {P : Type 0} (took : P → List ℕ → Type 0) (total space left room : ℕ) (p q r : P) (old mid new : Option Talk)
    → SoFar took total space left room p q old mid → Receives {E = Failed} took room (Ok Refused) q r mid new → Collects {E = Failed} took total space (Ok NoMemory) p r old new
collects_refused took total space left room p q r old mid new s m = record {
  gave = s.gave ++ m.gave;
  poured = take space s.gave;
  pours = same_end took space p q r s.gave m.poured s.pours m.pours m.case;
  case = omega (arith, length-take space s.gave);
  told = gave_on s.gave m.gave old mid new s.told m.told;
  over = tt;
}

-- a piece that was refused
pub pours_refused : {P : Type 0} (took : P → List ℕ → Type 0) (p q : P) → ((fed : List ℕ) → took p fed → took q fed) → Pours took p q []
pours_refused took p q refused fed h = subst (λ (t : List ℕ). took q t) (sym (append-nil fed)) (refused fed h)
