-- Where references lead: one more reference, which leads to a place or to none.
use Rattle.std.proofs.Common.{◌≡◌, ◌<◌, ◌+◌, ℕ, List, [], ◌∷◌, ◌++◌, length, get_or, take, Option, Some, None, Less, Equal, Greater, refl, ap, subst, sym, ◌∙◌, ◌⊎◌, inl, inr}
use Rattle.std.proofs.lemmas.List.{take_more}
use Rattle.std.proofs.lemmas.List.Elements.{Contains-append_left, Contains-push, Contains-push_cases}
use Rattle.std.specs.List.{Contains}
use Rattle.std.specs.declared.cmp.Ordering.{Ordering}
use Rattle.addr_base.specs.declared.ids.Guid.{Guid}
use Rattle.addr_base.specs.declared.images.Home.TheVariants.{Own}
use Rattle.addr_base.specs.declared.images.RefTo.{RefTo}
use Rattle.addr_layout.proofs.GuidLemmas.{guid_total}
use Rattle.addr_project.specs.Reach.{guid_cmp}
use Rattle.addr_walks.proofs.Lists.{Contains-none}
use Rattle.addr_resolve.specs.within.Leading.{AreTargets, AreLinks, IsLeastUnresolved, IsUnresolved, LeadsAt}
use Rattle.addr_resolve.specs.Lost.{if_less, lesser}
use Rattle.addr_resolve.specs.declared.graph.PlaceRow.{PlaceRow}
use Rattle.addr_resolve.proofs.LostLemmas.{never-itself}

abbrev pub no-ref : RefTo
no-ref = record { guid = record { 0 = [] }; home = Own }

module _ (find : List ℕ → Option ℕ) (places : List PlaceRow) (b : ℕ) where
  pub links-none : AreLinks find places b [] [] None
  links-none = record {
    targets = record { within = λ n here. absurd (Contains-none n here); all = λ r n here leads. absurd (Contains-none r here) };
    unresolved = λ r here. absurd (Contains-none r here);
  }

  module _ (seen : List RefTo) (r : RefTo) where
    targets-found : (row : List ℕ) (n : ℕ) → LeadsAt find places b r n → AreTargets find places b seen row → AreTargets find places b (seen ++ r ∷ []) (row ++ n ∷ [])
    targets-found row n leads targets = record {
      within = λ m here. within m (Contains-push_cases row n m here);
      all = λ s m here to. all s m to (Contains-push_cases seen r s here);
    }
      where
        within : (m : ℕ) → Contains row m ⊎ (n ≡ m) → (s : RefTo) × Contains (seen ++ r ∷ []) s × LeadsAt find places b s m
        within m (inl old) = let from = targets.within m old in (from.0, Contains-append_left seen (r ∷ []) from.0 from.1, from.2)
        within m (inr same) = (r, Contains-push seen r, subst (λ k. LeadsAt find places b r k) same leads)

        all : (s : RefTo) (m : ℕ) → LeadsAt find places b s m → Contains seen s ⊎ (r ≡ s) → (k : ℕ) × Contains (row ++ n ∷ []) k × LeadsAt find places b s k
        all s m to (inl old) = let end = targets.all s m old to in (end.0, Contains-append_left row (n ∷ []) end.0 end.1, end.2)
        all s m to (inr same) = (n, Contains-push row n, subst (λ x. LeadsAt find places b x n) same leads)

    targets-unresolved : (row : List ℕ) → IsUnresolved find places b r → AreTargets find places b seen row → AreTargets find places b (seen ++ r ∷ []) row
    targets-unresolved row unresolved targets = record {
      within = λ m here. (let from = targets.within m here in (from.0, Contains-append_left seen (r ∷ []) from.0 from.1, from.2));
      all = λ s m here to. all s m to (Contains-push_cases seen r s here);
    }
      where
        all : (s : RefTo) (m : ℕ) → LeadsAt find places b s m → Contains seen s ⊎ (r ≡ s) → (k : ℕ) × Contains row k × LeadsAt find places b s k
        all s m to (inl old) = targets.all s m old to
        all s m to (inr same) = absurd (unresolved m (subst (λ x. LeadsAt find places b x m) (sym same) to))

    least-found : (n : ℕ) (lost : Option Guid) → LeadsAt find places b r n → IsLeastUnresolved find places b seen lost → IsLeastUnresolved find places b (seen ++ r ∷ []) lost
    least-found n None leads every = λ s here. by_place s (Contains-push_cases seen r s here)
      where
        by_place : (s : RefTo) → Contains seen s ⊎ (r ≡ s) → (m : ℕ) × LeadsAt find places b s m
        by_place s (inl old) = every s old
        by_place s (inr same) = (n, subst (λ x. LeadsAt find places b x n) same leads)
    least-found n (Some g) leads ((s, here, guid, unresolved), least) = (
      (s, Contains-append_left seen (r ∷ []) s here, guid, unresolved),
      λ t here' unresolved' less. by_place t (Contains-push_cases seen r t here') unresolved' less,
    )
      where
        by_place : (t : RefTo) → Contains seen t ⊎ (r ≡ t) → IsUnresolved find places b t → guid_cmp t.guid g ≡ Less → ⊥
        by_place t (inl old) unresolved' less = least t old unresolved' less
        by_place t (inr same) unresolved' less = unresolved' n (subst (λ x. LeadsAt find places b x n) same leads)

    own : (t : RefTo) → r ≡ t → guid_cmp t.guid r.guid ≡ Less → ⊥
    own t same less = never-itself r.guid (subst (λ (x : RefTo). guid_cmp x.guid r.guid ≡ Less) (sym same) less)

    least-unresolved : (lost : Option Guid) → IsUnresolved find places b r → IsLeastUnresolved find places b seen lost → IsLeastUnresolved find places b (seen ++ r ∷ []) (lesser lost (Some r.guid))
    least-unresolved None unresolved every = (
      (r, Contains-push seen r, refl, unresolved),
      λ t here unresolved' less. by_place t (Contains-push_cases seen r t here) unresolved' less,
    )
      where
        by_place : (t : RefTo) → Contains seen t ⊎ (r ≡ t) → IsUnresolved find places b t → guid_cmp t.guid r.guid ≡ Less → ⊥
        by_place t (inl old) unresolved' less = let to = every t old in unresolved' to.0 to.1
        by_place t (inr same) unresolved' less = own t same less
    least-unresolved (Some g) unresolved ((s, here, guid, unresolved-s), least) = by_order (guid_cmp r.guid g) refl
      where
        stays-least : (guid_cmp r.guid g ≡ Less → ⊥) → IsLeastUnresolved find places b (seen ++ r ∷ []) (Some g)
        stays-least above = (
          (s, Contains-append_left seen (r ∷ []) s here, guid, unresolved-s),
          λ t here' unresolved' less. by_place t (Contains-push_cases seen r t here') unresolved' less,
        )
          where
            by_place : (t : RefTo) → Contains seen t ⊎ (r ≡ t) → IsUnresolved find places b t → guid_cmp t.guid g ≡ Less → ⊥
            by_place t (inl old) unresolved' less = least t old unresolved' less
            by_place t (inr same) unresolved' less = above (subst (λ (x : RefTo). guid_cmp x.guid g ≡ Less) (sym same) less)

        by_order : (o : Ordering) → guid_cmp r.guid g ≡ o → IsLeastUnresolved find places b (seen ++ r ∷ []) (Some (if_less o g r.guid))
        by_order Less is = (
          (r, Contains-push seen r, refl, unresolved),
          λ t here' unresolved' less. by_place t (Contains-push_cases seen r t here') unresolved' less,
        )
          where
            by_place : (t : RefTo) → Contains seen t ⊎ (r ≡ t) → IsUnresolved find places b t → guid_cmp t.guid r.guid ≡ Less → ⊥
            by_place t (inl old) unresolved' less = least t old unresolved' (guid_total.trans t.guid r.guid g less is)
            by_place t (inr same) unresolved' less = own t same less
        by_order Equal is = stays-least (λ less. absurd (cc (sym is ∙ less)))
        by_order Greater is = stays-least (λ less. absurd (cc (sym is ∙ less)))

  module _ (refs : List RefTo) (k : ℕ) (r : RefTo) (within : k < length refs) (read : r ≡ get_or refs k r) where
    more : take k refs ++ r ∷ [] ≡ take (k + 1) refs
    more = sym (take_more refs k r within ∙ ap (λ z. take k refs ++ z ∷ []) (sym read))

    pub links-found : (row new : List ℕ) (lost : Option Guid) (n : ℕ) → LeadsAt find places b r n → new ≡ row ++ n ∷ [] → AreLinks find places b (take k refs) row lost → AreLinks find places b (take (k + 1) refs) new lost
    links-found row new lost n leads is links = subst (λ rs. AreLinks find places b rs new lost) more (subst (λ ns. AreLinks find places b (take k refs ++ r ∷ []) ns lost) (sym is) (record {
      targets = targets-found (take k refs) r row n leads links.targets;
      unresolved = least-found (take k refs) r n lost leads links.unresolved;
    }))

    pub links-unresolved : (row : List ℕ) (lost : Option Guid) → IsUnresolved find places b r → AreLinks find places b (take k refs) row lost → AreLinks find places b (take (k + 1) refs) row (lesser lost (Some r.guid))
    links-unresolved row lost unresolved links = subst (λ rs. AreLinks find places b rs row (lesser lost (Some r.guid))) more (record {
      targets = targets-unresolved (take k refs) r row unresolved links.targets;
      unresolved = least-unresolved (take k refs) r lost unresolved links.unresolved;
    })
