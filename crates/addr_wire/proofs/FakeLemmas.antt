-- The fakes: a conversation goes on, and connections are handed out one after the other.
use Rattle.std.proofs.Common.{◌≡◌, ◌<◌, ◌≤◌, ◌+◌, ℕ, zero, suc, List, [], ◌∷◌, ◌++◌, Bool, Option, Some, sym, ◌∙◌, ap, arith, length, map, take, drop, add-one}
use Rattle.std.proofs.Math.Seq.{take-add}
use Rattle.std.proofs.lemmas.List.{length-map, length-take}
use Rattle.addr_wire.specs.Connections.{ConnNow}
use Rattle.addr_wire.specs.Listeners.{Conns}
use Rattle.addr_wire.specs.MemConnections.{conn_now}
use Rattle.addr_wire.specs.Talks.{Talk}
use Rattle.addr_wire.specs.declared.mem_conn.MemConn.{MemConn}

-- what was given is a front of the answer, which grows by what is copied
pub said : (sent : List ℕ) (before after : Bool) (at n : ℕ) (answer into : List ℕ) → take n into ≡ take n (drop at answer) → before ≡ after
    → (let t : Option Talk = Some (record { sent = sent; given = take (at + n) answer; ended = before }) in t)
    ≡ Some (record { sent = sent; given = take at answer ++ take n into; ended = after })
said sent before after at n answer into e b =
    let given : take (at + n) answer ≡ take at answer ++ take n into = take-add at n answer ∙ ap (λ (t : List ℕ). take at answer ++ t) (sym e) in
    ap (λ (t : List ℕ). let r : Option Talk = Some (record { sent = sent; given = t; ended = before }) in r) given
    ∙ ap (λ (v : Bool). let r : Option Talk = Some (record { sent = sent; given = take at answer ++ take n into; ended = v }) in r) b

-- the first of those that wait is the next of all: at the place `n` of the list
pub record Hands {X Y : Type 0} (f : X → Y) (n : ℕ) (xs : List X) (next : Y) (others : List Y) : Type 0 where
  pub there : n < length xs
  pub others_are : others ≡ map f (drop (suc n) xs)
  pub front : map f (take (suc n) xs) ≡ map f (take n xs) ++ next ∷ []
  pub rest : next ∷ drop (suc n) (map f xs) ≡ drop n (map f xs)

hands_suc : {X Y : Type 0} (f : X → Y) (n : ℕ) (xs : List X) (next : Y) (others : List Y) → next ∷ others ≡ map f (drop n xs) → Hands f n xs next others
hands_suc f zero [] next others e = absurd (cc)
hands_suc f zero (x ∷ xs) next others e = record { there = omega arith; others_are = cc; front = cc; rest = cc }
hands_suc f (suc n) [] next others e = absurd (cc)
hands_suc f (suc n) (x ∷ xs) next others e =
    let h : Hands f n xs next others = hands_suc f n xs next others e in
    record { there = omega (arith, h.there); others_are = h.others_are; front = ap (λ t. f x ∷ t) h.front; rest = h.rest }

pub hands : {X Y : Type 0} (f : X → Y) (n : ℕ) (xs ws : List X) (x : X) (os : List X) → ws ≡ x ∷ os → map f ws ≡ map f (drop n xs) → Hands f n xs (f x) (map f os)
hands f n xs ws x os e order = hands_suc f n xs (f x) (map f os) (ap (map f) (sym e) ∙ order)

-- a list that has fewer than those that were handed out has room
pub has_room : {X Y : Type 0} (f : X → Y) (n room : ℕ) (fs xs : List X) → length (map f fs) < length (map f (take n xs)) → length xs ≤ room → length fs < room
has_room f n room fs xs less fits = omega (arith, length-map fs f, length-map (take n xs) f, length-take n xs, less, fits)

-- the lists after a connection was handed out
pub handed : (n : ℕ) (copies : List MemConn) (next : ConnNow) (finished : List ConnNow) → map conn_now (take (suc n) copies) ≡ map conn_now (take n copies) ++ next ∷ []
    → (let c : Conns = record { accepted = map conn_now (take (n + 1) copies); finished = finished } in c)
    ≡ record { accepted = map conn_now (take n copies) ++ next ∷ []; finished = finished }
handed n copies next finished e =
    ap (λ (l : List ConnNow). let c : Conns = record { accepted = l; finished = finished } in c) (rw add-one e)
