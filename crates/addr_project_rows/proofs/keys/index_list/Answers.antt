use Rattle.std.proofs.Common.{◌≡◌, ℕ, ◌<◌, [], List, true, false, None, Some, Bor, get_or, take, length, sym, ap, ◌∙◌, rules, nat_cmp}
use Rattle.std.proofs.lemmas.List.{get_or-map, length-map}
use Rattle.std.specs.BTreeMap.{get_by}
use Rattle.std.specs.Cmp.Lexicographic.{slice_cmp}
use Rattle.std.specs.Option.{is_some}
use Rattle.addr_project_rows.specs.Firsts.{first_repeat, is_among}
use Rattle.addr_project_rows.specs.Lookups.{keys_in}
use Rattle.addr_project_rows.proofs.FirstLemmas.{first_from-none, first_where-pass, first_where-found}
use Rattle.addr_project_rows.proofs.KeyLemmas.{among_place, places-more, none_from}
use Rattle.addr_project_rows.proofs.keys.index_list.Goals as goal

pub loop-i-init : goal.loop-i-init
loop-i-init c = record {
  first = first_from-none _;
  holds = λ key. (let none : get_by (λ k. slice_cmp nat_cmp key k.now) c.new-places.result ≡ None = search (rules, c.new-places.ensures.empty) in none ∙ sym (first_from-none _));
}

pub loop-i-preserved : goal.loop-i-preserved
loop-i-preserved c =
    let items = c.deref-key-items.result.now in
    let keys = keys_in items in
    let i = c.loop-i.i in
    let key : List ℕ = (get_or items i (record { ref_ptr = (0, 0); now = [] })).now in
    let small : i < length keys = rw (length-map items (λ (k : Bor (List ℕ)). k.now)) c.loop-i-test.true in
    let at : get_or keys i key ≡ key = get_or-map (λ (k : Bor (List ℕ)). k.now) items i (record { ref_ptr = (0, 0); now = [] }) key c.loop-i-test.true in
    let absent : get_by (λ k. slice_cmp nat_cmp key k.now) c.loop-i.places ≡ None = sym c.in_ok-insert.ensures.old ∙ none_from c.in_ok-insert.field-0 (sym c.is_some.ensures ∙ c.if-is_some.false) in
    let new : is_among (take i keys) (get_or keys i key) ≡ false = ap (is_among (take i keys)) at ∙ among_place (take i keys) key ∙ ap is_some (sym (c.loop-i.invariant.holds key) ∙ absent) in
    record {
      first = first_where-pass is_among keys i key small c.loop-i.invariant.first new;
      holds = places-more keys i c.in_ok-row.row key c.loop-i.places c.insert.new.self small c.in_ok-row.ensures.ok at c.loop-i.invariant.holds absent c.in_ok-insert.ensures.updates;
    }

pub returns-then-is_some : goal.returns-then-is_some
returns-then-is_some c =
    let items = c.deref-key-items.result.now in
    let keys = keys_in items in
    let i = c.loop-i.i in
    let key : List ℕ = (get_or items i (record { ref_ptr = (0, 0); now = [] })).now in
    let small : i < length keys = rw (length-map items (λ (k : Bor (List ℕ)). k.now)) c.loop-i-test.true in
    let at : get_or keys i key ≡ key = get_or-map (λ (k : Bor (List ℕ)). k.now) items i (record { ref_ptr = (0, 0); now = [] }) key c.loop-i-test.true in
    let repeated : is_among (take i keys) (get_or keys i key) ≡ true =
    ap (is_among (take i keys)) at ∙ among_place (take i keys) key ∙ ap is_some (sym (c.loop-i.invariant.holds key) ∙ sym c.in_ok-insert.ensures.old) ∙ sym c.is_some.ensures ∙ c.if-is_some.true in
    ap (λ ks. first_repeat (keys_in ks)) (sym c.deref-key-items.ensures.value)
    ∙ first_where-found is_among keys i key small c.loop-i.invariant.first repeated
    ∙ ap Some (sym c.in_ok-row.ensures.ok)
