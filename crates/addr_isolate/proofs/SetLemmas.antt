-- A member put into a table: what the table holds then, and how deep it is.
use Rattle.std.proofs.Common.{◌≡◌, ℕ, Bool, true, false, ◌&&◌, List, [], ◌∷◌, Option, Some, None, String, Global, Ordering, Less, Equal, Greater, nat_cmp, is_eq, string_bytes, refl, sym, ap, subst, ◌∙◌, arith}
use Rattle.std.proofs.lemmas.Bool.{and_parts, false≢true}
use Rattle.std.proofs.lemmas.Cmp.{nat_list_cmp_total, tied_itself}
use Rattle.std.proofs.lemmas.Map.Lookups.{exact_bytes}
use Rattle.std.specs.Cmp.Lexicographic.{bytes_decides, slice_cmp}
use Rattle.std.specs.BTreeMap.{insert_entry}
use Rattle.std.specs.Ordering.{match_ordering}
use Rattle.std.specs.Str.{bytes_eq}
use Rattle.std.specs.String.{string_cmp}
use Rattle.toml.specs.Data.{Data, Members, no_members, member, get_member, has_valid_dates, members_have_valid_dates}
use Rattle.toml.specs.View.{view, members_view}
use Rattle.toml.specs.declared.value.Value.{Value}
use Rattle.toml.proofs.Views.{Entry}
use Rattle.addr_isolate.specs.Shallow.{AreShallow, IsSet, IsShallow, with_member}

members_match : (o : Ordering) (a b c : List Entry) → members_view (match_ordering o a b c) ≡ match_ordering o (members_view a) (members_view b) (members_view c)
members_match Less a b c = refl
members_match Equal a b c = refl
members_match Greater a b c = refl

pub members-insert : (es : List Entry) (k : String Global) (v : Value) → members_view (insert_entry string_cmp es k v) ≡ with_member (string_bytes k) (view v) (members_view es)
members-insert [] k v = refl
members-insert (e ∷ es) k v = members_match (string_cmp k e.0) _ _ _ ∙ rw (members-insert es k v)

-- another key isn't found at a member
passed : (o : Ordering) (d : Data) (rest : Option Data) → is_eq o ≡ false → match_ordering o rest (Some d) rest ≡ rest
passed Less d rest is = refl
passed Equal d rest is = absurd (false≢true (sym is))
passed Greater d rest is = refl

apart : (k key : List ℕ) → bytes_eq k key ≡ false → is_eq (slice_cmp nat_cmp key k) ≡ false
apart k key other = by_order (slice_cmp nat_cmp key k) refl
  where
    by_order : (o : Ordering) → slice_cmp nat_cmp key k ≡ o → is_eq o ≡ false
    by_order Less is = refl
    by_order Equal is = absurd (false≢true (sym other ∙ (bytes_decides k key).1 (sym (exact_bytes key k is))))
    by_order Greater is = refl

elsewhere : (k key : List ℕ) (d : Data) (ms : Members) → bytes_eq k key ≡ false → get_member key (with_member k d ms) ≡ get_member key ms
elsewhere k key d no_members other = passed (slice_cmp nat_cmp key k) d None (apart k key other)
elsewhere k key d (member l e ms) other = by_order (slice_cmp nat_cmp k l) refl (elsewhere k key d ms other)
  where
    by_order : (o : Ordering) → slice_cmp nat_cmp k l ≡ o → get_member key (with_member k d ms) ≡ get_member key ms
        → get_member key (match_ordering o (member k d (member l e ms)) (member l d ms) (member l e (with_member k d ms))) ≡ get_member key (member l e ms)
    by_order Less is later = passed (slice_cmp nat_cmp key k) d (get_member key (member l e ms)) (apart k key other)
    by_order Equal is later =
        let same : k ≡ l = exact_bytes k l is in
        let fails : is_eq (slice_cmp nat_cmp key l) ≡ false = apart l key (subst (λ (m : List ℕ). bytes_eq m key ≡ false) same other) in
        passed (slice_cmp nat_cmp key l) d (get_member key ms) fails ∙ sym (passed (slice_cmp nat_cmp key l) e (get_member key ms) fails)
    by_order Greater is later = ap (λ (o : Option Data). match_ordering (slice_cmp nat_cmp key l) o (Some e) o) later

pub both : (a b : Bool) → a ≡ true → b ≡ true → (a && b) ≡ true
both true true one other = refl
both true false one other = other
both false b one other = one

shallow-member : (n : ℕ) (k : List ℕ) (d : Data) (ms : Members) → IsShallow n d → AreShallow n ms → AreShallow n (member k d ms)
shallow-member n k d ms one all = record {
  deep = (let first = one.deep in let rest = all.deep in omega (arith, first, rest));
  dates = both (has_valid_dates d) (members_have_valid_dates ms) one.dates all.dates;
}

member-parts : (n : ℕ) (k : List ℕ) (d : Data) (ms : Members) → AreShallow n (member k d ms) → IsShallow n d × AreShallow n ms
member-parts n k d ms all =
    let (first, rest) = and_parts (has_valid_dates d) (members_have_valid_dates ms) all.dates in
    let deep = all.deep in
    (record { deep = omega (arith, deep); dates = first }, record { deep = omega (arith, deep); dates = rest })

shallow-with : (n : ℕ) (k : List ℕ) (d : Data) (ms : Members) → IsShallow n d → AreShallow n ms → AreShallow n (with_member k d ms)
shallow-with n k d no_members one all = shallow-member n k d no_members one all
shallow-with n k d (member l e ms) one all = by_order (slice_cmp nat_cmp k l) (shallow-with n k d ms one parts.1)
  where
    parts : IsShallow n e × AreShallow n ms
    parts = member-parts n l e ms all

    by_order : (o : Ordering) → AreShallow n (with_member k d ms) → AreShallow n (match_ordering o (member k d (member l e ms)) (member l d ms) (member l e (with_member k d ms)))
    by_order Less later = shallow-member n k d (member l e ms) one all
    by_order Equal later = shallow-member n l d ms one parts.1
    by_order Greater later = shallow-member n l e (with_member k d ms) parts.0 later

with-here : (k : List ℕ) (d : Data) (ms : Members) → get_member k (with_member k d ms) ≡ Some d
with-here k d no_members = rw (tied_itself nat_list_cmp_total k)
with-here k d (member l e ms) = by_order (slice_cmp nat_cmp k l) refl (with-here k d ms)
  where
    by_order : (o : Ordering) → slice_cmp nat_cmp k l ≡ o → get_member k (with_member k d ms) ≡ Some d → get_member k (match_ordering o (member k d (member l e ms)) (member l d ms) (member l e (with_member k d ms))) ≡ Some d
    by_order Less is later = rw (tied_itself nat_list_cmp_total k)
    by_order Equal is later = rw is
    by_order Greater is later = rw is later

-- what a member more leaves
pub set-by : (k : List ℕ) (d : Data) (before after : Members) → after ≡ with_member k d before → IsSet k d before after
set-by k d before after is = record {
  here = ap (get_member k) is ∙ with-here k d before;
  elsewhere = λ key other. ap (get_member key) is ∙ elsewhere k key d before other;
  shallow = λ n one all. subst (AreShallow n) (sym is) (shallow-with n k d before one all);
}
