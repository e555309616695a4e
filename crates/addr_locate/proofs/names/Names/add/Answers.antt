use Rattle.std.proofs.Common.{◌≡◌, ◌∙◌, ◌++◌, ◌∷◌, [], None, ap, sym, subst, length, position, List, ℕ}
use Rattle.std.specs.Map.{lookup}
use Rattle.std.specs.Str.{bytes_eq}
use Rattle.std.specs.String.{string_bytes}
use Rattle.indexmap.specs.IndexMap.{get_by_text}
use Rattle.addr_locate.specs.Names.{FindsPlaces}
use Rattle.addr_locate.proofs.NameLemmas.{FindsPlaces-put}
use Rattle.addr_locate.proofs.names.Names.add.Goals as goal

pub invariant_of-self-2 : goal.invariant_of-self-2
invariant_of-self-2 c =
    let texts = c.self.inside.texts in
    let bytes : string_bytes c.in_ok-copy.copy ≡ c.args.text = c.in_ok-copy.ensures.ok ∙ c.as_str.ensures in
    let before : FindsPlaces texts (get_by_text c.reserve.new.self) = (λ q. ap (lookup (λ k. bytes_eq q (string_bytes k))) c.in_ok-reserve.ensures.entries ∙ c.self.invariant q) in
    let absent : get_by_text c.reserve.new.self (string_bytes c.in_ok-copy.copy) ≡ None =
    before (string_bytes c.in_ok-copy.copy)
    ∙ ap (λ t. position (λ u. bytes_eq u t) texts) bytes
    ∙ ap (position (λ u. bytes_eq u c.args.text)) c.self.view_is
    ∙ c.requires.new in
    let put = FindsPlaces-put texts c.args.place (string_bytes c.in_ok-copy.copy) c.reserve.new.self c.insert.new.self (c.requires.last ∙ ap length (sym c.self.view_is)) before absent c.in_ok-insert.ensures.updates in
    subst (λ (ts : List (List ℕ)). FindsPlaces ts (get_by_text c.insert.new.self)) (ap (λ t. texts ++ t ∷ []) bytes ∙ sym c.in_ok-push.ensures.ok) put
