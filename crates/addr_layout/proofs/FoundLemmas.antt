-- What a search from a bundle's entries found lays the bundle out.
use Rattle.std.proofs.Common.{◌≡◌, ◌≢◌, ℕ, ◌<◌, inl, inr, Bool, true, false, ◌==◌, List, [], ◌∷◌, length, get_or, map, Option, Some, None, if◌then◌else◌, refl, sym, ap, subst, ◌∙◌, arith}
use Rattle.std.proofs.Common.{Less, Equal, Greater}
use Rattle.std.proofs.lemmas.Bool.{eqb-true, ne_eqb, eqb-false}
use Rattle.std.proofs.lemmas.Cmp.{ranked}
use Rattle.std.proofs.lemmas.List.Elements.{All-contains}
use Rattle.std.proofs.lemmas.Map.Keys.{Less-from_sorted}
use Rattle.std.proofs.lemmas.Option.{slice_get-get_or, slice_get_within, get_or_from_slice_get}
use Rattle.std.specs.Bool.{MatchBool}
use Rattle.std.specs.List.{All, AllZip, Contains, slice_get}
use Rattle.std.specs.Ordering.{MatchOrdering, nat_cmp}
use Rattle.addr_base.specs.declared.ids.Guid.{Guid}
use Rattle.addr_pack.specs.declared.bundles.Plan.{Plan}
use Rattle.addr_pack.specs.declared.bundles.PlanBundle.{PlanBundle}
use Rattle.addr_project.specs.declared.model.Asset.{Asset}
use Rattle.addr_project.specs.Kept.{IsKept, asset_guids}
use Rattle.addr_project.specs.Model.{Project}
use Rattle.addr_project.specs.Reach.{guid_cmp}
use Rattle.addr_project.proofs.OnceLemmas.{to_map}
use Rattle.addr_walks.specs.Rows.{AreBelow, Edge, LedTo}
use Rattle.addr_walks.specs.Walks.{IsListOf}
use Rattle.addr_walks.proofs.Lists.{Contains-here, Contains-later, Contains-map, map-Contains, Contains-slice_get, IsListOf-same, sorted-map}
use Rattle.addr_walks.proofs.Numbering.{walk-up, walk-down}
use Rattle.addr_walks.proofs.Walking.{kept-along}
use Rattle.addr_walks.proofs.Zips.{zip-here, zip-there, zip-map}
use Rattle.addr_layout.specs.declared.graph.Graph.{Graph}
use Rattle.addr_layout.specs.declared.model.LayBundle.{LayBundle}
use Rattle.addr_layout.specs.declared.model.RefHome.{RefHome}
use Rattle.addr_layout.specs.declared.model.RefHome.TheVariants.{Own, Bundle}
use Rattle.addr_layout.specs.Graph.{AreSeeds, IsBundleOf, IsEntryRank, IsFound, IsGraph, number_at, refs_at, seeds_at}
use Rattle.addr_layout.specs.Homes.{home_at, home_from, IsNamedIn}
use Rattle.addr_layout.specs.Layout.{AreHomes, AreMembers, IsBare, IsFull, IsLaid, MemberNumber, by_guid}
use Rattle.addr_layout.specs.Members.{HasEntry, IsNumbered, IsShared, Member, RefersWithin}
use Rattle.addr_layout.specs.Needs.{IsHome, Needs}
use Rattle.addr_layout.proofs.GraphLemmas.{bundle-at, entry-one, one-asset, refs-steps, within-steps}
use Rattle.addr_layout.proofs.PlacedLemmas.{one-bundle, one-number}
use Rattle.addr_layout.proofs.RankLemmas.{same-some}

-- what is led to is below a bound that the rows and the seeds keep
pub led-below : (rows : List (List ℕ)) (seeds : List ℕ) (n c : ℕ) → AreBelow rows n → All (λ s. s < n) seeds → LedTo rows seeds c → c < n
led-below rows seeds n c below small (s, here, walk) = kept-along (Edge rows) (λ x. x < n) (λ x y inside edge. below.each x y edge) s c (All-contains (λ x. x < n) seeds s small here) walk

module _ (p : Project) (plan : Plan) (graph : Graph) (kept : IsKept p) (shared : IsShared p plan) (is : IsGraph p plan graph) where
  -- ---- ranks and members

  -- the seeds of a bundle
  seeds-of : (b : ℕ) → b < length graph.seeds → AreSeeds p plan graph.guids b (seeds_at graph b)
  seeds-of b within = is.seeds b (seeds_at graph b) (slice_get-get_or graph.seeds b [] within)

  pub rank-member : (b r : ℕ) → b < length graph.seeds → LedTo graph.within (seeds_at graph b) r → (g : Guid) × (slice_get graph.guids r ≡ Some g) × Member p plan b g
  rank-member b r within (s, here, walk) =
      let seeds = seeds-of b within in
      let entry = zip-there (IsEntryRank p graph.guids) seeds.0.entries (seeds_at graph b) s seeds.2 here in
      let end = walk-up graph.guids (RefersWithin p) graph.within (within-steps p plan graph kept is) s r entry.2.0 entry.2.2 walk in
      (end.0, end.1, (entry.2.0, (entry.0, (seeds.0, seeds.1, entry.1), entry.2.1), end.2))

  pub rank-below : (b r : ℕ) → b < length graph.seeds → LedTo graph.within (seeds_at graph b) r → r < length graph.guids
  rank-below b r within led = let member = rank-member b r within led in slice_get_within graph.guids r member.0 member.1

  pub member-rank : (b : ℕ) (g : Guid) → b < length graph.seeds → Member p plan b g → (r : ℕ) × (slice_get graph.guids r ≡ Some g) × LedTo graph.within (seeds_at graph b) r
  member-rank b g within (e, (x, (bundle, at, here), entry), walk) =
      let seeds = seeds-of b within in
      let same = same-some bundle seeds.0 (sym at ∙ seeds.1) in
      let seed = zip-here (IsEntryRank p graph.guids) seeds.0.entries (seeds_at graph b) x seeds.2 (subst (λ (q : PlanBundle). Contains q.entries x) same here) in
      let start = seed.2.2 ∙ ap Some (entry-one p x seed.2.0 e seed.2.1 entry) in
      let end = walk-down graph.guids (RefersWithin p) graph.within (within-steps p plan graph kept is) seed.0 e g start walk in
      (end.0, end.1, (seed.0, seed.1, end.2))

  numbered : (r : ℕ) (g : Guid) → slice_get graph.guids r ≡ Some g → IsNumbered p (number_at graph r) g
  numbered r g ranked =
      let within = slice_get_within graph.guids r g ranked in
      let long = is.numbers.as_many in
      is.numbers.each r g (number_at graph r) ranked (slice_get-get_or graph.numbers r 0 (omega arith))

  guid-of : (n : ℕ) (g : Guid) → IsNumbered p n g → get_or (asset_guids p.assets) n [] ≡ g.0
  guid-of n g (asset, at, same) = get_or_from_slice_get (asset_guids p.assets) n asset.guid.0 [] (to_map (λ (a : Asset). a.guid.0) p.assets n asset at) ∙ ap (λ (h : Guid). h.0) same

  before : (r s : ℕ) → nat_cmp r s ≡ Less → r < s
  before r s less = MatchOrdering-less (nat_cmp r s) (ranked r s (nat_cmp r s) refl) less
    where
      MatchOrdering-less : (o : _) → MatchOrdering o (r < s) (r ≡ s) (s < r) → o ≡ Less → r < s
      MatchOrdering-less Less holds same = holds
      MatchOrdering-less Equal holds same = absurd (cc same)
      MatchOrdering-less Greater holds same = absurd (cc same)

  rises : (r s : ℕ) (g h : Guid) → slice_get graph.guids r ≡ Some g → slice_get graph.guids s ≡ Some h → nat_cmp r s ≡ Less → by_guid p (number_at graph r) (number_at graph s) ≡ Less
  rises r s g h at there less =
      let up = Less-from_sorted guid_cmp graph.guids r s g is.guids.list.rising (before r s less) (slice_get_within graph.guids s h there) in
      let first : get_or graph.guids r g ≡ g = get_or_from_slice_get graph.guids r g g at in
      let second : get_or graph.guids s g ≡ h = get_or_from_slice_get graph.guids s h g there in
      let compared = sym (ap (λ k. guid_cmp k (get_or graph.guids s g)) first ∙ ap (guid_cmp g) second) ∙ up in
      rw (guid-of (number_at graph r) g (numbered r g at), guid-of (number_at graph s) h (numbered s h there)) compared

  pub members-are : (b : ℕ) (found : List ℕ) → b < length graph.seeds → IsListOf nat_cmp (LedTo graph.within (seeds_at graph b)) found → AreMembers p plan b (map (number_at graph) found)
  members-are b found inside list = record { rising = sorted-map nat_cmp (by_guid p) (number_at graph) found keeps list.rising; within = within; all = all }
    where
      keeps : (r s : ℕ) → Contains found r → Contains found s → nat_cmp r s ≡ Less → by_guid p (number_at graph r) (number_at graph s) ≡ Less
      keeps r s here there less =
          let first = rank-member b r inside (list.within r here) in
          let second = rank-member b s inside (list.within s there) in
          rises r s first.0 second.0 first.1 second.1 less

      within : (n : ℕ) → Contains (map (number_at graph) found) n → MemberNumber p plan b n
      within n here =
          let from = map-Contains (number_at graph) found n here in
          let member = rank-member b from.0 inside (list.within from.0 from.1) in
          (member.0, subst (λ m. IsNumbered p m member.0) from.2 (numbered from.0 member.0 member.1), member.2)

      all : (n : ℕ) → MemberNumber p plan b n → Contains (map (number_at graph) found) n
      all n (g, named, member) =
          let rank = member-rank b g inside member in
          subst (Contains (map (number_at graph) found)) (one-number p kept (number_at graph rank.0) n g (numbered rank.0 g rank.1) named) (Contains-map (number_at graph) found rank.0 (list.all rank.0 rank.2))

  -- ---- homes

  home-is : (b : ℕ) (g : Guid) (o : Option ℕ) → IsBundleOf p plan g o → IsHome p plan b g (home_from b o)
  home-is b g None of = inr (of, refl)
  home-is b g (Some c) of = by_test (c == b) refl
    where
      by_test : (t : Bool) → (c == b) ≡ t → IsHome p plan b g (if t then Own else Bundle c)
      by_test true same = inl (subst (λ k. HasEntry p plan k g) (eqb-true c b same) of)
      by_test false differs = (λ same. eqb-false c b differs (sym same), inl of)

  refs-of : (r : ℕ) (g : Guid) → slice_get graph.guids r ≡ Some g → slice_get graph.refs r ≡ Some (refs_at graph r)
  refs-of r g ranked =
      let within = slice_get_within graph.guids r g ranked in
      let long = is.refs.as_many in
      slice_get-get_or graph.refs r [] (omega arith)

  homes-are : (b r : ℕ) (g : Guid) → slice_get graph.guids r ≡ Some g → AreHomes p plan b (number_at graph r) (map (home_at b graph.bundles) (refs_at graph r))
  homes-are b r g ranked =
      let named = numbered r g ranked in
      let refs = is.refs.each r g (refs_at graph r) ranked (refs-of r g ranked) in
      let same = one-asset p kept refs.0 named.0 refs.1 (Contains-slice_get p.assets (number_at graph r) named.0 named.1) (refs.2 ∙ sym named.2) in (
        named.0,
        named.1,
        subst (λ (a : Asset). AllZip (IsHome p plan b) a.refs (map (home_at b graph.bundles) (refs_at graph r))) same
            (zip-map (λ h s. slice_get graph.guids s ≡ Some h) (IsHome p plan b) (home_at b graph.bundles) refs.0.refs (refs_at graph r) (λ h s there. home-is b h (get_or graph.bundles s None) (bundle-at p plan graph is s h there)) refs.3),
      )

  zip-of-maps : {A : Type 0} (R : ℕ → A → Type 0) (f : ℕ → ℕ) (g : ℕ → A) (xs : List ℕ) → ((x : ℕ) → Contains xs x → R (f x) (g x)) → AllZip R (map f xs) (map g xs)
  zip-of-maps R f g [] fits = tt
  zip-of-maps R f g (x ∷ xs) fits = (fits x (Contains-here x xs), zip-of-maps R f g xs (λ y here. fits y (Contains-later x xs y here)))

  -- ---- needs

  names-other : (b c : ℕ) (o : Option ℕ) → home_from b o ≡ Bundle c → (o ≡ Some c) × (b ≢ c)
  names-other b c None named = absurd (cc named)
  names-other b c (Some d) named = by_test (d == b) refl named
    where
      by_test : (t : Bool) → (d == b) ≡ t → (if t then Own else Bundle d) ≡ Bundle c → (Some d ≡ Some c) × (b ≢ c)
      by_test true same is' = absurd (cc is')
      by_test false differs is' = let one : d ≡ c = cc is' in (ap Some one, λ same. eqb-false d b differs (one ∙ sym same))

  other-named : (b c : ℕ) → b ≢ c → home_from b (Some c) ≡ Bundle c
  other-named b c apart = ap (λ t. if t then Own else Bundle c) (ne_eqb c b (λ same. apart (sym same)))

  named-needed : (b c : ℕ) (found : List ℕ) → b < length graph.seeds → IsListOf nat_cmp (LedTo graph.within (seeds_at graph b)) found → IsNamedIn (map (λ r. map (home_at b graph.bundles) (refs_at graph r)) found) c → Needs p plan b c
  named-needed b c found inside list (row, here, names) =
      let from = map-Contains (λ r. map (home_at b graph.bundles) (refs_at graph r)) found row here in
      let member = rank-member b from.0 inside (list.within from.0 from.1) in
      let ref = map-Contains (home_at b graph.bundles) (refs_at graph from.0) (Bundle c) (subst (λ (h : List RefHome). Contains h (Bundle c)) (sym from.2) names) in
      let next = (refs-steps p plan graph kept is).up from.0 ref.0 member.0 member.1 (refs_at graph from.0, refs-of from.0 member.0 member.1, ref.1) in
      let other = names-other b c (get_or graph.bundles ref.0 None) ref.2 in
      let has = subst (IsBundleOf p plan next.0) other.0 (bundle-at p plan graph is ref.0 next.0 next.1) in
      (other.1, member.0, next.0, member.2, next.2, has)

  needed-named : (b c : ℕ) (found : List ℕ) → b < length graph.seeds → IsListOf nat_cmp (LedTo graph.within (seeds_at graph b)) found → Needs p plan b c → IsNamedIn (map (λ r. map (home_at b graph.bundles) (refs_at graph r)) found) c
  needed-named b c found inside list (apart, x, y, member, refers, has) =
      let rank = member-rank b x inside member in
      let next = (refs-steps p plan graph kept is).down rank.0 x y rank.1 refers in
      let same = same-some next.2.0 (refs_at graph rank.0) (sym next.2.1 ∙ refs-of rank.0 x rank.1) in
      let here = subst (λ (row : List ℕ). Contains row next.0) same next.2.2 in
      let bundle = owner (get_or graph.bundles next.0 None) (bundle-at p plan graph is next.0 y next.1) in
      let home : home_at b graph.bundles next.0 ≡ Bundle c = ap (home_from b) bundle ∙ other-named b c apart in (
        map (home_at b graph.bundles) (refs_at graph rank.0),
        Contains-map (λ r. map (home_at b graph.bundles) (refs_at graph r)) found rank.0 (list.all rank.0 rank.2),
        subst (Contains (map (home_at b graph.bundles) (refs_at graph rank.0))) home (Contains-map (home_at b graph.bundles) (refs_at graph rank.0) next.0 here),
      )
    where
      owner : (o : Option ℕ) → IsBundleOf p plan y o → o ≡ Some c
      owner None of = absurd (of (has.0, has.2))
      owner (Some d) of = ap Some (one-bundle p plan kept shared d c y of has)

  -- ---- the bundle

  pub found-full : (b : ℕ) (lay : LayBundle) → b < length graph.seeds → IsFound graph b lay → IsFull p plan b lay
  found-full b lay inside found = record {
    members = subst (AreMembers p plan b) (sym found.members) (members-are b found.found inside found.list);
    refs = subst (λ (members : List ℕ). AllZip (AreHomes p plan b) members lay.refs) (sym found.members) (subst (AllZip (AreHomes p plan b) (map (number_at graph) found.found)) (sym found.refs)
        (zip-of-maps (AreHomes p plan b) (number_at graph) (λ r. map (home_at b graph.bundles) (refs_at graph r)) found.found homes));
    direct = IsListOf-same (IsNamedIn lay.refs) (Needs p plan b) (λ c named. named-needed b c found.found inside found.list (subst (λ rows. IsNamedIn rows c) found.refs named))
        (λ c needs. subst (λ rows. IsNamedIn rows c) (sym found.refs) (needed-named b c found.found inside found.list needs)) lay.direct found.direct;
  }
    where
      homes : (r : ℕ) → Contains found.found r → AreHomes p plan b (number_at graph r) (map (home_at b graph.bundles) (refs_at graph r))
      homes r here = let member = rank-member b r inside (found.list.within r here) in homes-are b r member.0 member.1

  pub laid-is : (b : ℕ) (bundle : PlanBundle) (lay : LayBundle) → slice_get plan.bundles b ≡ Some bundle → MatchBool bundle.kept (IsBare lay) (IsFound graph b lay) → IsLaid p plan b lay
  laid-is b bundle lay at found = (bundle, at, by_test bundle.kept found)
    where
      inside : b < length graph.seeds
      inside = let within = slice_get_within plan.bundles b bundle at in let same = is.as_many in omega arith

      by_test : (t : Bool) → MatchBool t (IsBare lay) (IsFound graph b lay) → MatchBool t (IsBare lay) (IsFull p plan b lay)
      by_test true bare = bare
      by_test false full = found-full b lay inside full
