-- A request has one response, and what a connector gave has one answer.
use Rattle.std.proofs.Common.{◌≡◌, ℕ, List, [], Bool, true, false, Option, Some, refl, ap, sym, ◌∙◌, inl, inr, take, drop, length}
use Rattle.httparse.proofs.GrammarLemmas.{request_unique, response_unique}
use Rattle.httparse.specs.Grammar.{RequestHead, ResponseHead, print_response}
use Rattle.addr_base.specs.declared.files.MemFile.{MemFile}
use Rattle.addr_http.specs.Answers.{headed_of}
use Rattle.addr_http.specs.Heads.{heard, room}
use Rattle.addr_http.specs.Received.{End, Got, Received, ReceivedWhole, received_head, told_got}
use Rattle.addr_http.specs.Received.End.{failed}
use Rattle.addr_http.specs.Requests.{Asks, AsksAt, Judges, asked_of}
use Rattle.addr_http.specs.Responses.{Response, reply_to, file_for}
use Rattle.addr_http.specs.declared.heads.Heard.{Heard}
use Rattle.addr_http.specs.declared.heads.Heard.TheVariants.{Head, TooLong, Cut}
use Rattle.addr_http.specs.declared.replies.Reply.{Reply}
use Rattle.addr_http.specs.declared.requests.Asked.{Asked}
use Rattle.addr_http.specs.declared.requests.Asked.TheVariants.{TooLarge, Bad, NotAllowed, Absent, Wants}

judges_one : (head : List ℕ) (a b : Asked) → Judges head a → Judges head b → a ≡ b
judges_one head a b (inl x) (inl y) = x.2 ∙ ap (λ (h : RequestHead). asked_of h) (request_unique head x.0 y.0 [] [] x.1.reads y.1.reads).0 ∙ sym y.2
judges_one head a b (inl x) (inr y) = absurd (y.0 x.0 x.1)
judges_one head a b (inr x) (inl y) = absurd (x.0 y.0 y.1)
judges_one head a b (inr x) (inr y) = x.1 ∙ sym y.1

at_one : (h : Heard) (request : List ℕ) (a b : Asked) → AsksAt h request a → AsksAt h request b → a ≡ b
at_one (Head n) request a b x y = judges_one (take n request) a b x y
at_one TooLong request a b x y = x ∙ sym y
at_one Cut request a b x y = x ∙ sym y

-- all the bytes of a connection ask for one thing
pub asks_one : (request : List ℕ) (a b : Asked) → Asks request a → Asks request b → a ≡ b
asks_one request a b x y = at_one (heard request) request a b x y

reply_failed : (asked : Asked) (f g : Option (List ℕ)) → reply_to asked true f ≡ reply_to asked true g
reply_failed TooLarge f g = refl
reply_failed Bad f g = refl
reply_failed NotAllowed f g = refl
reply_failed Absent f g = refl
reply_failed (Wants head_only name) f g = refl

-- and have one response, where the files are told
pub response_one : (request folder : List ℕ) (files : List MemFile) (fault : Bool) (a b : Reply) → Response request folder (Some files) fault a → Response request folder (Some files) fault b → a ≡ b
response_one request folder files true a b x y =
    x.replies ∙ reply_failed x.asked x.found y.found ∙ ap (λ (k : Asked). reply_to k true y.found) (asks_one request x.asked y.asked x.asks y.asks) ∙ sym y.replies
response_one request folder files false a b x y =
    let asked : x.asked ≡ y.asked = asks_one request x.asked y.asked x.asks y.asks in
    let found : x.found ≡ y.found = x.looked files refl refl ∙ ap (λ (k : Asked). file_for folder k files) asked ∙ sym (y.looked files refl refl) in
    x.replies ∙ ap (λ (k : Asked). reply_to k false x.found) asked ∙ ap (λ (f : Option (List ℕ)). reply_to y.asked false f) found ∙ sym y.replies

some_one : {T : Type 0} (x y : T) → Some x ≡ Some y → x ≡ y
some_one x y e = cc

whole_one : (limit : ℕ) (bytes : List ℕ) (end : End) (a b : Got) → ReceivedWhole limit bytes end a → ReceivedWhole limit bytes end b → a ≡ b
whole_one limit bytes end a b x y =
    let head : x.0 ≡ y.0 = (response_unique (take room bytes) x.0 y.0 x.1 y.1 x.2.reads y.2.reads).0 in
    some_one a b (sym x.3 ∙ ap (λ (h : ResponseHead). received_head (headed_of h) limit (drop (length (print_response h)) bytes) end) head ∙ y.3)

-- what a connector gave has one answer, where both faults are one
pub received_one : (limit : ℕ) (bytes : List ℕ) (end : End) (a b : Got) → Received limit bytes end a → Received limit bytes end b → told_got a ≡ told_got b
received_one limit bytes end a b (inl x) (inl y) = ap told_got (whole_one limit bytes end a b x y)
received_one limit bytes end a b (inl x) (inr (inl y)) = absurd (y.0 x.0 x.1 x.2)
received_one limit bytes end a b (inl x) (inr (inr y)) = absurd (y.0 x.0 x.1 x.2)
received_one limit bytes end a b (inr (inl x)) (inl y) = absurd (x.0 y.0 y.1 y.2)
received_one limit bytes end a b (inr (inr x)) (inl y) = absurd (x.0 y.0 y.1 y.2)
received_one limit bytes end a b (inr (inl x)) (inr (inl y)) = ap told_got (x.2 ∙ sym y.2)
received_one limit bytes end a b (inr (inl x)) (inr (inr y)) = ap told_got x.2 ∙ sym (ap told_got y.2)
received_one limit bytes end a b (inr (inr x)) (inr (inl y)) = ap told_got x.2 ∙ sym (ap told_got y.2)
received_one limit bytes end a b (inr (inr x)) (inr (inr y)) = ap told_got (x.2 ∙ sym y.2)

-- and exactly one where the connector didn't fail
pub received_same : (limit : ℕ) (bytes : List ℕ) (end : End) (a b : Got) → (end ≡ failed → ⊥) → Received limit bytes end a → Received limit bytes end b → a ≡ b
received_same limit bytes end a b still (inl x) (inl y) = whole_one limit bytes end a b x y
received_same limit bytes end a b still (inl x) (inr (inl y)) = absurd (y.0 x.0 x.1 x.2)
received_same limit bytes end a b still (inl x) (inr (inr y)) = absurd (y.0 x.0 x.1 x.2)
received_same limit bytes end a b still (inr (inl x)) y = absurd (still x.1)
received_same limit bytes end a b still (inr (inr x)) (inl y) = absurd (x.0 y.0 y.1 y.2)
received_same limit bytes end a b still (inr (inr x)) (inr (inl y)) = absurd (still y.1)
received_same limit bytes end a b still (inr (inr x)) (inr (inr y)) = x.2 ∙ sym y.2
