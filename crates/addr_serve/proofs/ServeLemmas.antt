-- Connections served one after the other: what each leaves, joined.
use Rattle.std.proofs.Common.{◌≡◌, ◌≤◌, ◌+◌, ◌-◌, ◌^◌, ◌==◌, Bool, true, false, cond, zero-add, ◌++◌, ◌⊎◌, ℕ, List, [], ◌∷◌, Option, Some, None, IfSome, refl, sym, ◌∙◌, ap, arith, length, map, subst, inl, inr, append_assoc}
use Rattle.std.specs.List.{count_by}
use Rattle.std.proofs.lemmas.Bool.{cases_lt, eqb-true}
use Rattle.std.proofs.lemmas.Grind.{flat_map-append}
use Rattle.std.proofs.lemmas.List.Sums.{sum_by-append}
use Rattle.std.proofs.lemmas.List.{append-nil, length-append, length-map, map-append}
use Rattle.addr_base.specs.Faults.{Rose}
use Rattle.addr_base.specs.declared.files.MemFile.{MemFile}
use Rattle.addr_wire.specs.Connections.{ConnNow}
use Rattle.addr_wire.specs.Listeners.{Conns, ListenNow}
use Rattle.addr_http.specs.Responses.{Causes, Tells}
use Rattle.addr_http.specs.declared.answering.Served.{Served}
use Rattle.addr_http.specs.declared.answering.Served.TheVariants.{Answered, Broken, NoMemory}
use Rattle.addr_serve.specs.Lines.{net_line, port_line, served_line}
use Rattle.addr_serve.specs.Loops.{IsAhead, ListenCause, NetCause, PrintsLast, PrintsLine, PrintsSo, ServesAll}
use Rattle.addr_serve.specs.Serving.{Adds, AreTurns, Follows, is_failed, Prints, Serves, Turn, Writes, lines_of}
use Rattle.addr_serve.specs.declared.serving.Ended.{Ended}
use Rattle.addr_serve.specs.declared.serving.Ended.TheVariants.{Done, Memory, Net, Sink}

-- what follows one after the other
pub followed : {T : Type 0} (P Q R : T → T → Type 0) (a b c : Option T) → Follows P a b → Follows Q b c → ((x y z : T) → P x y → Q y z → R x z) → Follows R a c
followed P Q R None None c p q step = q
followed P Q R None (Some y) c p q step = absurd (cc)
followed P Q R (Some x) None c p q step = absurd p
followed P Q R (Some x) (Some y) None p q step = q
followed P Q R (Some x) (Some y) (Some z) p q step = step x y z p q

pub same_follows : {T : Type 0} (P : T → T → Type 0) (a b : Option T) → b ≡ a → ((x : T) → P x x) → Follows P a b
same_follows P a b e p = subst (λ y. Follows P a y) (sym e) (own a)
  where
    own : (x : Option _) → Follows P x x
    own None = refl
    own (Some x) = p x

pub writes_on : (x y : List ℕ) (a b c : Option (List ℕ)) → Writes x a b → Writes y b c → Writes (x ++ y) a c
writes_on x y a b c p q = followed (λ o n. n ≡ o ++ x) (λ o n. n ≡ o ++ y) (λ o n. n ≡ o ++ (x ++ y)) a b c p q (λ o m n e f. f ∙ ap (λ (t : List ℕ). t ++ y) e ∙ append_assoc o x y)

pub writes_same : (x y : List ℕ) (a b : Option (List ℕ)) → x ≡ y → Writes x a b → Writes y a b
writes_same x y a b e w = subst (λ (t : List ℕ). Writes t a b) e w

adds_none : (c : Conns) → Adds [] c c
adds_none c = record { accepted = sym (append-nil c.accepted); finished = sym (append-nil c.finished) }

adds_join : (xs ys : List Turn) (a b c : Conns) → Adds xs a b → Adds ys b c → Adds (xs ++ ys) a c
adds_join xs ys a b c x y = record {
  accepted = y.accepted ∙ ap (λ (l : List ConnNow). l ++ map (λ t. t.accepted) ys) x.accepted ∙ append_assoc a.accepted (map (λ t. t.accepted) xs) (map (λ t. t.accepted) ys) ∙ ap (λ (l : List ConnNow). a.accepted ++ l) (sym (map-append (λ t. t.accepted) xs ys));
  finished = y.finished ∙ ap (λ (l : List ConnNow). l ++ map (λ t. t.finished) ys) x.finished ∙ append_assoc a.finished (map (λ t. t.finished) xs) (map (λ t. t.finished) ys) ∙ ap (λ (l : List ConnNow). a.finished ++ l) (sym (map-append (λ t. t.finished) xs ys));
}

turns_join : (folder : List ℕ) (files : Option (List MemFile)) (before middle now : ℕ) (xs ys : List Turn) → AreTurns folder files before middle xs → AreTurns folder files middle now ys → AreTurns folder files before now (xs ++ ys)
turns_join folder files before middle now [] ys x y = subst (λ (n : ℕ). AreTurns folder files n now ys) x y
turns_join folder files before middle now (t ∷ xs) ys x y = (x.0, x.1, turns_join folder files x.0 middle now xs ys x.2 y)

lines_join : (xs ys : List Turn) → lines_of xs ++ lines_of ys ≡ lines_of (xs ++ ys)
lines_join xs ys = sym (flat_map-append (λ (t : Turn). served_line t.served) xs ys)

prints_join : (xs ys : List Turn) (r : Ended) (a b c : Option (List ℕ)) → PrintsSo xs Done a b → PrintsSo ys r b c → PrintsSo (xs ++ ys) r a c
prints_join xs ys Done a b c x y = writes_same (lines_of xs ++ lines_of ys) (lines_of (xs ++ ys)) a c (lines_join xs ys) (writes_on (lines_of xs) (lines_of ys) a b c x y)
prints_join xs ys Net a b c x y = writes_same (lines_of xs ++ lines_of ys) (lines_of (xs ++ ys)) a c (lines_join xs ys) (writes_on (lines_of xs) (lines_of ys) a b c x y)
prints_join xs ys Memory a b c x y = tt
prints_join xs ys Sink a b c x y = tt

-- no connection yet
pub all_none : (folder : List ℕ) (files : Option (List MemFile)) (before : ℕ) (old : ListenNow) (text : Option (List ℕ)) → ServesAll folder files 0 before before Done old old text text
all_none folder files before old text = record {
  turns = [];
  are = refl;
  lists = same_follows (Adds []) old.conns old.conns refl adds_none;
  port = refl;
  count = λ e. refl;
  prints = same_follows (λ o n. n ≡ o ++ []) text text refl (λ o. sym (append-nil o));
}

-- and then more
pub all_join : (folder : List ℕ) (files later : Option (List MemFile)) (n k before middle now : ℕ) (r : Ended) (old mid new : ListenNow) (a b c : Option (List ℕ)) → later ≡ files
    → ServesAll folder files n before middle Done old mid a b → ServesAll folder later k middle now r mid new b c → ServesAll folder files (n + k) before now r old new a c
all_join folder files later n k before middle now r old mid new a b c e x y = record {
  turns = x.turns ++ y.turns;
  are = turns_join folder files before middle now x.turns y.turns x.are (subst (λ (f : Option (List MemFile)). AreTurns folder f middle now y.turns) e y.are);
  lists = followed (Adds x.turns) (Adds y.turns) (Adds (x.turns ++ y.turns)) old.conns mid.conns new.conns x.lists y.lists (λ o m z p q. adds_join x.turns y.turns o m z p q);
  port = y.port ∙ x.port;
  count = λ e. omega (arith, length-append x.turns y.turns, x.count refl, y.count e);
  prints = prints_join x.turns y.turns r a b c x.prints y.prints;
}

-- the number doesn't matter where it isn't done
pub all_stopped : (folder : List ℕ) (files : Option (List MemFile)) (n k before now : ℕ) (r : Ended) (old new : ListenNow) (a c : Option (List ℕ)) → (r ≡ Done → ⊥) → ServesAll folder files n before now r old new a c → ServesAll folder files k before now r old new a c
all_stopped folder files n k before now r old new a c e x = record { turns = x.turns; are = x.are; lists = x.lists; port = x.port; count = λ d. absurd (e d); prints = x.prints }

pub ahead_on : (turns : List Turn) (old new : Option Conns) → IsAhead old → Follows (Adds turns) old new → IsAhead new
ahead_on turns None None h f = tt
ahead_on turns None (Some n) h f = absurd (cc)
ahead_on turns (Some o) None h f = absurd f
ahead_on turns (Some o) (Some n) h f =
    let a : length n.accepted ≡ length o.accepted + length turns = ap (λ (l : List ConnNow). length l) f.accepted ∙ length-append o.accepted (map (λ t. t.accepted) turns) ∙ ap (λ (k : ℕ). length o.accepted + k) (length-map turns (λ t. t.accepted)) in
    let b : length n.finished ≡ length o.finished + length turns = ap (λ (l : List ConnNow). length l) f.finished ∙ length-append o.finished (map (λ t. t.finished) turns) ∙ ap (λ (k : ℕ). length o.finished + k) (length-map turns (λ t. t.finished)) in
    omega (arith, a, b, h)

-- one connection
abbrev pub Accepted : ConnNow → Conns → Conns → Type 0
Accepted a o m = m ≡ record { accepted = o.accepted ++ a ∷ []; finished = o.finished }

abbrev pub Finished : ConnNow → Conns → Conns → Type 0
Finished f m n = n ≡ record { accepted = m.accepted; finished = m.finished ++ f ∷ [] }

adds_one : (a f : ConnNow) (s : Served) (o m n : Conns) → Accepted a o m → Finished f m n → Adds (record { accepted = a; finished = f; served = s } ∷ []) o n
adds_one a f s o m n x y = record {
  accepted = ap (λ (c : Conns). c.accepted) y ∙ ap (λ (c : Conns). c.accepted) x;
  finished = ap (λ (c : Conns). c.finished) y ∙ ap (λ (c : Conns). c.finished ++ f ∷ []) x;
}

prints_one : (t : Turn) (r : Ended) (a b : Option (List ℕ)) → PrintsLine (served_line t.served) r a b → PrintsSo (t ∷ []) r a b
prints_one t Done a b p = writes_same (served_line t.served) (served_line t.served ++ []) a b (sym (append-nil (served_line t.served))) p
prints_one t Net a b p = absurd p
prints_one t Memory a b p = tt
prints_one t Sink a b p = tt

pub all_one : (folder : List ℕ) (files : Option (List MemFile)) (before now : ℕ) (a f : ConnNow) (s : Served) (r : Ended) (old mid new : ListenNow) (x y : Option (List ℕ))
    → before ≤ now → Tells folder files before now a f s → Causes a f s → (s ≡ Answered 500 → Rose before now)
    → Follows (Accepted a) old.conns mid.conns → Follows (Finished f) mid.conns new.conns → mid.port ≡ old.port → new.port ≡ mid.port → PrintsLine (served_line s) r x y
    → ServesAll folder files 1 before now r old new x y
all_one folder files before now a f s r old mid new x y later tells cause failed accepts finishes p q prints = record {
  turns = record { accepted = a; finished = f; served = s } ∷ [];
  are = (now, record { later = later; tells = tells; cause = cause; failed = failed }, refl);
  lists = followed (Accepted a) (Finished f) (Adds (record { accepted = a; finished = f; served = s } ∷ [])) old.conns mid.conns new.conns accepts finishes (λ o m n u v. adds_one a f s o m n u v);
  port = q ∙ p;
  count = λ e. refl;
  prints = prints_one (record { accepted = a; finished = f; served = s }) r x y prints;
}

-- what was answered 500 is at most as much as the depot's count rose by
answered : (status : ℕ) → (status == 500) ≡ true → (let s : Served = Answered status in s) ≡ Answered 500
answered status e = ap (λ (n : ℕ). let s : Served = Answered n in s) (eqb-true status 500 e)

rose_by : (t : Turn) (before middle : ℕ) → before ≤ middle → (t.served ≡ Answered 500 → Rose before middle) → (v : Bool) → is_failed t.served ≡ v → (before + cond v 1 0 ≤ middle) ⊎ (2 ^ 64 - 1 ≤ middle)
rose_by t before middle later rose false e = inl (omega (arith, later))
rose_by t before middle later rose true e = at_rise (rose (is_500 t.served e))
  where
    is_500 : (s : Served) → is_failed s ≡ true → s ≡ Answered 500
    is_500 (Answered status) h = answered status h
    is_500 Broken h = absurd (cc)
    is_500 NoMemory h = absurd (cc)

    at_rise : Rose before middle → (before + 1 ≤ middle) ⊎ (2 ^ 64 - 1 ≤ middle)
    at_rise r = elim (cases_lt before middle) [ inl less ↦ inl (omega (arith, less)) | inr more ↦ inr (omega (arith, r, more)) ]

count_cons : (p : Turn → Bool) (t : Turn) (turns : List Turn) → count_by p (t ∷ turns) ≡ cond (p t) 1 0 + count_by p turns
count_cons p t turns = sum_by-append (λ (y : Turn). cond (p y) 1 0) (t ∷ []) turns ∙ ap (λ (n : ℕ). n + count_by p turns) (zero-add _)

few_failed : (folder : List ℕ) (files : Option (List MemFile)) (before now : ℕ) (turns : List Turn) → AreTurns folder files before now turns → (before ≤ now) × ((before + count_by (λ t. is_failed t.served) turns ≤ now) ⊎ (2 ^ 64 - 1 ≤ now))
few_failed folder files before now [] a = (omega (arith, a), inl (omega (arith, a)))
few_failed folder files before now (t ∷ turns) a =
    let later = few_failed folder files a.0 now turns a.2 in
    let first = rose_by t before a.0 a.1.later a.1.failed (is_failed t.served) refl in
    let count : count_by (λ t. is_failed t.served) (t ∷ turns) ≡ cond (is_failed t.served) 1 0 + count_by (λ t. is_failed t.served) turns = count_cons (λ t. is_failed t.served) t turns in (
      omega (arith, a.1.later, later.0),
      (elim later.1 as (λ _. (before + count_by (λ t. is_failed t.served) (t ∷ turns) ≤ now) ⊎ (2 ^ 64 - 1 ≤ now)) [
        | inr top ↦ inr top
        | inl some ↦ elim first as (λ _. (before + count_by (λ t. is_failed t.served) (t ∷ turns) ≤ now) ⊎ (2 ^ 64 - 1 ≤ now)) [
          | inl x ↦ inl (omega (arith, x, some, count))
          | inr top ↦ inr (omega (arith, top, later.0))
        ]
      ]),
    )

done_of : (r result : Ended) (c d : Option (List ℕ)) → PrintsLast r result c d → result ≡ Done → r ≡ Done
done_of Done result c d p e = refl
done_of Net result c d p e = elim p as (λ _. Net ≡ Done) [ inl x ↦ absurd (let k : Net ≡ Done = sym x.0 ∙ e in cc) | inr x ↦ absurd (let k : Sink ≡ Done = sym x ∙ e in cc) ]
done_of Memory result c d p e = elim p as (λ _. Memory ≡ Done) [ inl x ↦ absurd (let k : Memory ≡ Done = sym x.0 ∙ e in cc) | inr x ↦ absurd (let k : Sink ≡ Done = sym x ∙ e in cc) ]
done_of Sink result c d p e = absurd (let k : Sink ≡ Done = sym p.0 ∙ e in cc)

-- the listener's count behind the last line
cause_at : (x result : Ended) (before now : ℕ) → result ≡ x → ListenCause x before now → ListenCause result before now
cause_at x result before now e c = subst (λ (r : Ended). ListenCause r before now) (sym e) c

pub cause_last : (r result : Ended) (c d : Option (List ℕ)) (before now : ℕ) → PrintsLast r result c d → NetCause r before now → ListenCause result before now
cause_last Done result c d before now p e = cause_at Done result before now p.0 e
cause_last Net result c d before now p e = elim p as (λ _. ListenCause result before now) [ inl x ↦ cause_at Net result before now x.0 e | inr x ↦ cause_at Sink result before now x (inr e) ]
cause_last Memory result c d before now p e = elim p as (λ _. ListenCause result before now) [ inl x ↦ cause_at Memory result before now x.0 e | inr x ↦ cause_at Sink result before now x (inl e) ]
cause_last Sink result c d before now p e = cause_at Sink result before now p.0 (inl e)

-- from where the listener was opened, and its count stayed
pub cause_opened : (result : Ended) (before middle now : ℕ) → middle ≡ before → ListenCause result middle now → ListenCause result before now
cause_opened result before middle now e c = subst (λ (n : ℕ). ListenCause result n now) e c

prints_at : (port : ℕ) (turns : List Turn) (x result : Ended) (a d : Option (List ℕ)) → result ≡ x → Prints port turns x a d → Prints port turns result a d
prints_at port turns x result a d e p = subst (λ (r : Ended). Prints port turns r a d) (sym e) p

prints_of : (port : ℕ) (turns : List Turn) (r result : Ended) (a b c d : Option (List ℕ)) → Writes (port_line port) a b → PrintsSo turns r b c → PrintsLast r result c d → Prints port turns result a d
prints_of port turns Done result a b c d w p l =
    prints_at port turns Done result a d l.0 (subst (λ (z : Option (List ℕ)). Writes (port_line port ++ lines_of turns) a z) (sym l.1) (writes_on (port_line port) (lines_of turns) a b c w p))
prints_of port turns Net result a b c d w p l = elim l as (λ _. Prints port turns result a d) [
  | inl x ↦ prints_at port turns Net result a d x.0 (inl (writes_on (port_line port) (lines_of turns ++ net_line) a b d w (writes_on (lines_of turns) net_line b c d p x.1)))
  | inr x ↦ prints_at port turns Sink result a d x tt
]
prints_of port turns Memory result a b c d w p l = elim l as (λ _. Prints port turns result a d) [
  | inl x ↦ prints_at port turns Memory result a d x.0 tt
  | inr x ↦ prints_at port turns Sink result a d x tt
]
prints_of port turns Sink result a b c d w p l = prints_at port turns Sink result a d l.0 tt

-- behind the line `serving`
pub serves_from : (folder : List ℕ) (files : Option (List MemFile)) (n before now port : ℕ) (r result : Ended) (old new : ListenNow) (a b c d : Option (List ℕ)) → IfSome old.port (λ told. told ≡ port)
    → Writes (port_line port) a b → ServesAll folder files n before now r old new b c → PrintsLast r result c d → Serves folder files n before now result old new a d
serves_from folder files n before now port r result old new a b c d bound w x l = record {
  port = port;
  turns = x.turns;
  bound = λ e. subst (λ (p : Option ℕ). IfSome p (λ told. told ≡ port)) (sym x.port) bound;
  are = x.are;
  lists = x.lists;
  few = (few_failed folder files before now x.turns x.are).1;
  count = λ e. x.count (done_of r result c d l e);
  prints = prints_of port x.turns r result a b c d w x.prints l;
}

-- no connection, and no line before the last
serves_none : (folder : List ℕ) (files : Option (List MemFile)) (n before : ℕ) (result : Ended) (old new : ListenNow) (a d : Option (List ℕ)) → new.conns ≡ old.conns → (result ≡ Done → ⊥) → Prints 0 [] result a d
    → Serves folder files n before before result old new a d
serves_none folder files n before result old new a d e stopped p = record {
  port = 0;
  turns = [];
  bound = λ x. absurd (stopped x);
  are = refl;
  lists = same_follows (Adds []) old.conns new.conns e adds_none;
  few = inl (omega arith);
  count = λ x. absurd (stopped x);
  prints = p;
}

not_done : (x result : Ended) → result ≡ x → (x ≡ Done → ⊥) → result ≡ Done → ⊥
not_done x result e f d = f (sym e ∙ d)

pub serves_refused : (folder : List ℕ) (files : Option (List MemFile)) (n before : ℕ) (result : Ended) (old : ListenNow) (a d : Option (List ℕ)) → PrintsLast Memory result a d → Serves folder files n before before result old old a d
serves_refused folder files n before result old a d l = elim l as (λ _. Serves folder files n before before result old old a d) [
  | inl x ↦ serves_none folder files n before result old old a d refl (not_done Memory result x.0 clash) (prints_at 0 [] Memory result a d x.0 tt)
  | inr x ↦ serves_none folder files n before result old old a d refl (not_done Sink result x other) (prints_at 0 [] Sink result a d x tt)
]
  where
    clash : Memory ≡ Done → ⊥
    clash e = cc

    other : Sink ≡ Done → ⊥
    other e = cc

pub serves_closed : (folder : List ℕ) (files : Option (List MemFile)) (n before : ℕ) (result : Ended) (old new : ListenNow) (a d : Option (List ℕ)) → new.conns ≡ old.conns → PrintsLast Net result a d → Serves folder files n before before result old new a d
serves_closed folder files n before result old new a d e l = elim l as (λ _. Serves folder files n before before result old new a d) [
  | inl x ↦ serves_none folder files n before result old new a d e (not_done Net result x.0 clash) (prints_at 0 [] Net result a d x.0 (inr (refl, x.1)))
  | inr x ↦ serves_none folder files n before result old new a d e (not_done Sink result x other) (prints_at 0 [] Sink result a d x tt)
]
  where
    clash : Net ≡ Done → ⊥
    clash e = cc

    other : Sink ≡ Done → ⊥
    other e = cc

-- the sink failed at the line `serving`
pub serves_broken : (folder : List ℕ) (files : Option (List MemFile)) (n before : ℕ) (old : ListenNow) (a d : Option (List ℕ)) → Serves folder files n before before Sink old old a d
serves_broken folder files n before old a d = serves_none folder files n before Sink old old a d refl clash tt
  where
    clash : Sink ≡ Done → ⊥
    clash e = cc

-- from where the listener was opened
pub serves_opened : (folder : List ℕ) (files : Option (List MemFile)) (n before now : ℕ) (result : Ended) (old mid new : ListenNow) (a d : Option (List ℕ)) → mid.conns ≡ old.conns → Serves folder files n before now result mid new a d → Serves folder files n before now result old new a d
serves_opened folder files n before now result old mid new a d e x = record {
  port = x.port;
  turns = x.turns;
  bound = x.bound;
  are = x.are;
  lists = subst (λ (c : Option Conns). Follows (Adds x.turns) c new.conns) e x.lists;
  few = x.few;
  count = x.count;
  prints = x.prints;
}
