-- What the parser of heads says, as what a head asks for.
use Rattle.std.proofs.Common.{◌≡◌, ◌≤◌, ◌+◌, ℕ, List, [], sym, ◌∙◌, ap, arith, length, take, drop, map, cond, subst, inl, Result, Ok, Err, IfOk}
use Rattle.std.specs.List.{count_by}
use Rattle.std.proofs.Math.ListN.{drop_of_length-le}
use Rattle.std.proofs.lemmas.List.{length-take-le, length-map}
use Rattle.std.proofs.lemmas.List.Folds.{fold-map}
use Rattle.httparse.specs.Grammar.{Field, ReadsRequest}
use Rattle.httparse.specs.Spans.{IsRequestOf, IsRequestWithin, header_bytes, name_and_value, span_bytes}
use Rattle.httparse.specs.declared.spans.HeaderSpan.{HeaderSpan}
use Rattle.httparse.specs.declared.spans.RequestSpans.{RequestSpans}
use Rattle.addr_http.specs.Requests.{asked_by, asked_of, host_count, is_host, Judges}
use Rattle.addr_http.specs.declared.requests.Asked.{Asked}
use Rattle.addr_base.specs.declared.memory.NoMemory.{NoMemory}

hosts_same : (buf : List ℕ) (xs : List HeaderSpan) (fs : List Field) → map (header_bytes buf) xs ≡ map name_and_value fs
    → count_by (λ s. is_host (span_bytes buf s.name)) xs ≡ host_count fs
hosts_same buf xs fs e =
    sym (fold-map (λ (a : ℕ) (p : List ℕ × List ℕ). a + cond (is_host p.0) 1 0) (header_bytes buf) 0 xs)
    ∙ ap (λ (ps : List (List ℕ × List ℕ)). count_by (λ p. is_host p.0) ps) e
    ∙ fold-map (λ (a : ℕ) (p : List ℕ × List ℕ). a + cond (is_host p.0) 1 0) name_and_value 0 fs

fields_fit : (buf : List ℕ) (xs : List HeaderSpan) (count : ℕ) (fs : List Field) → map (header_bytes buf) (take count xs) ≡ map name_and_value fs → count ≤ length xs → length fs ≡ count
fields_fit buf xs count fs e h = sym (length-map fs name_and_value) ∙ ap (λ (ps : List (List ℕ × List ℕ)). length ps) (sym e) ∙ length-map (take count xs) (header_bytes buf) ∙ length-take-le count xs h

pub judged_whole : (head : List ℕ) (fields : List HeaderSpan) (parts : RequestSpans) (asked : Asked)
    → IsRequestOf head fields parts → IsRequestWithin head fields parts → length fields ≡ 4096 → parts.len ≡ length head
    → asked ≡ asked_by (span_bytes head parts.method) (span_bytes head parts.path) parts.version (count_by (λ s. is_host (span_bytes head s.name)) (take parts.headers fields))
    → Judges head asked
judged_whole head fields parts asked (h, at) within room whole is =
    let none : drop parts.len head ≡ [] = drop_of_length-le head (omega (arith, whole)) in
    let reads : ReadsRequest head h [] = subst (λ (t : List ℕ). ReadsRequest head h t) none at.reads in
    let count : length h.fields ≡ parts.headers = fields_fit head fields parts.headers h.fields at.fields within.section.count_fits in
    let fits : length h.fields ≤ 4096 = omega (arith, count, within.section.count_fits, room) in
    let same : asked ≡ asked_of h = is ∙ (ap (λ m. asked_by m (span_bytes head parts.path) parts.version (count_by (λ s. is_host (span_bytes head s.name)) (take parts.headers fields))) at.method
    ∙ ap (λ m. asked_by h.method m parts.version (count_by (λ s. is_host (span_bytes head s.name)) (take parts.headers fields))) at.path
    ∙ ap (λ m. asked_by h.method h.target m (count_by (λ s. is_host (span_bytes head s.name)) (take parts.headers fields))) at.version
    ∙ ap (λ m. asked_by h.method h.target h.minor m) (hosts_same head (take parts.headers fields) h.fields at.fields)) in
    inl (h, record { reads = reads; room = fits }, same)

pub judged_answer : (head : List ℕ) (fields : List HeaderSpan) (parts : RequestSpans) (r : Result Asked NoMemory)
    → IsRequestOf head fields parts → IsRequestWithin head fields parts → length fields ≡ 4096 → parts.len ≡ length head
    → IfOk r (λ asked. asked ≡ asked_by (span_bytes head parts.method) (span_bytes head parts.path) parts.version (count_by (λ s. is_host (span_bytes head s.name)) (take parts.headers fields)))
    → IfOk r (λ asked. Judges head asked)
judged_answer head fields parts (Ok asked) of within room whole is = judged_whole head fields parts asked of within room whole is
judged_answer head fields parts (Err e) of within room whole is = tt
