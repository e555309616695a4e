-- The least of some GUIDs: one more GUID.
use Rattle.std.proofs.Common.{◌≡◌, ◌⊎◌, inl, inr, List, [], ◌∷◌, ◌++◌, Option, Some, None, Less, Equal, Greater, refl, sym, ap, subst, ◌∙◌}
use Rattle.std.proofs.lemmas.List.Elements.{Contains-append_left, Contains-push, Contains-push_cases}
use Rattle.std.specs.List.{Contains}
use Rattle.std.specs.Ordering.{ordering_reverse}
use Rattle.std.specs.declared.cmp.Ordering.{Ordering}
use Rattle.addr_base.specs.declared.ids.Guid.{Guid}
use Rattle.addr_layout.proofs.GuidLemmas.{exact-guid, guid_total}
use Rattle.addr_project.specs.Reach.{guid_cmp}
use Rattle.addr_resolve.specs.Lost.{if_less, lesser}
use Rattle.addr_walks.proofs.Lists.{Contains-none}
use Rattle.addr_moves.specs.within.Leasts.{IsLeastIn, IsLeastWhere}

pub least-none : IsLeastIn [] None
least-none d here = Contains-none d here

never-itself : (g : Guid) → guid_cmp g g ≡ Less → ⊥
never-itself g less = let turned = sym less ∙ (guid_total.antisymm g g ∙ ap ordering_reverse less) in absurd (cc turned)

pub least-more : (guids : List Guid) (g : Guid) (best : Option Guid) → IsLeastIn guids best → IsLeastIn (guids ++ g ∷ []) (lesser best (Some g))
least-more guids g None none = (Contains-push guids g, λ e here less. by_side e less (Contains-push_cases guids g e here))
  where
    by_side : (e : Guid) → guid_cmp e g ≡ Less → Contains guids e ⊎ (g ≡ e) → ⊥
    by_side e less (inl old) = none e old
    by_side e less (inr same) = never-itself g (subst (λ x. guid_cmp x g ≡ Less) (sym same) less)
least-more guids g (Some b) (here, least) = by_order (guid_cmp g b) refl
  where
    stays : (guid_cmp g b ≡ Less → ⊥) → IsLeastIn (guids ++ g ∷ []) (Some b)
    stays above = (Contains-append_left guids (g ∷ []) b here, λ e in' less. by_side e less (Contains-push_cases guids g e in'))
      where
        by_side : (e : Guid) → guid_cmp e b ≡ Less → Contains guids e ⊎ (g ≡ e) → ⊥
        by_side e less (inl old) = least e old less
        by_side e less (inr same) = above (subst (λ x. guid_cmp x b ≡ Less) (sym same) less)

    by_order : (o : Ordering) → guid_cmp g b ≡ o → IsLeastIn (guids ++ g ∷ []) (Some (if_less o b g))
    by_order Less is = (Contains-push guids g, λ e in' less. by_side e less (Contains-push_cases guids g e in'))
      where
        by_side : (e : Guid) → guid_cmp e g ≡ Less → Contains guids e ⊎ (g ≡ e) → ⊥
        by_side e less (inl old) = least e old (guid_total.trans e g b less is)
        by_side e less (inr same) = never-itself g (subst (λ x. guid_cmp x g ≡ Less) (sym same) less)
    by_order Equal is = stays (λ less. absurd (cc (sym is ∙ less)))
    by_order Greater is = stays (λ less. absurd (cc (sym is ∙ less)))

-- the least of a set is that of each other saying of the set
pub least-same : (set other : Guid → Type 0) → ((d : Guid) → set d → other d) → ((d : Guid) → other d → set d) → (o : Option Guid) → IsLeastWhere set o → IsLeastWhere other o
least-same set other to from None none = λ d is. none d (from d is)
least-same set other to from (Some g) (is, least) = (to g is, λ e also less. least e (from e also) less)
