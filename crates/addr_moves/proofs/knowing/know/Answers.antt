use Rattle.std.proofs.Common.{◌≡◌, ◌<◌, ◌^◌, ℕ, List, All, Option, length, subst, sym, ap, ◌∙◌}
use Rattle.std.specs.List.{AllZip}
use Rattle.std.specs.List.Sorted.{IsStrictlySortedBy}
use Rattle.std.specs.Ordering.{nat_cmp}
use Rattle.addr_base.specs.declared.ids.Guid.{Guid}
use Rattle.addr_project.specs.declared.model.Asset.{Asset}
use Rattle.addr_resolve.proofs.RowLemmas.{sorted-from}
use Rattle.addr_resolve.specs.Order.{place_cmp}
use Rattle.addr_resolve.specs.declared.graph.PlaceRow.{PlaceRow}
use Rattle.addr_update.specs.Doubtful.{IsDoubtful}
use Rattle.addr_walks.specs.Walks.{IsListOf}
use Rattle.addr_moves.specs.Firsts.{number_under}
use Rattle.addr_moves.specs.declared.looks.Homes.{Homes}
use Rattle.addr_moves.specs.within.Assets.{AreFound}
use Rattle.addr_moves.specs.within.Looks.{IsAwayOf, IsSpoilsOf}
use Rattle.addr_moves.specs.within.Ways.{AreBadBelow}
use Rattle.addr_moves.proofs.GroupLemmas.{zip-long}
use Rattle.addr_moves.proofs.KnowingLemmas.{bad-below, refs-below}
use Rattle.addr_moves.proofs.knowing.know.Goals as goal

pub looks_of-requires-clause-rising : goal.looks_of-requires-clause-rising
looks_of-requires-clause-rising c = subst (IsStrictlySortedBy place_cmp) (sym c.as_slice.ensures) (sorted-from c.in_ok-places.field-0.places c.in_ok-places.ensures.ordered)

pub bad_of-requires-clause-few : goal.bad_of-requires-clause-few
bad_of-requires-clause-few c =
    let p = c.args.project.now in
    let cabs = c.args.cabs.now in
    let h : Homes = c.in_ok-homes.homes in
    let places : List PlaceRow = c.in_ok-places.field-0.places in
    let spoils : List (List Guid) = c.in_ok-spoils.field-0.spoils in
    let all-spoils : AllZip (IsSpoilsOf p cabs h places) places spoils = subst (λ (ps : List PlaceRow). AllZip (IsSpoilsOf p cabs h ps) ps spoils) c.as_slice.ensures c.in_ok-spoils.ensures.spoils in
    let many : length c.as_slice-2.result.now ≡ length places = ap length c.as_slice-2.ensures ∙ zip-long (IsSpoilsOf p cabs h places) places spoils all-spoils in
    subst (λ n. n < 2 ^ 32) (sym many) c.in_ok-places.ensures.few

pub bad_of-requires-clause-away : goal.bad_of-requires-clause-away
bad_of-requires-clause-away c =
    let p = c.args.project.now in
    let cabs = c.args.cabs.now in
    let h : Homes = c.in_ok-homes.homes in
    let places : List PlaceRow = c.in_ok-places.field-0.places in
    let spoils : List (List Guid) = c.in_ok-spoils.field-0.spoils in
    let all-spoils : AllZip (IsSpoilsOf p cabs h places) places spoils = subst (λ (ps : List PlaceRow). AllZip (IsSpoilsOf p cabs h ps) ps spoils) c.as_slice.ensures c.in_ok-spoils.ensures.spoils in
    let many : length c.as_slice-2.result.now ≡ length places = ap length c.as_slice-2.ensures ∙ zip-long (IsSpoilsOf p cabs h places) places spoils all-spoils in
    let away : List (Option Guid) = c.in_ok-spoils.field-0.away in
    let all-away : AllZip (IsAwayOf cabs h) places away = subst (λ (ps : List PlaceRow). AllZip (IsAwayOf cabs h) ps away) c.as_slice.ensures c.in_ok-spoils.ensures.away in
    ap length c.as_slice-3.ensures ∙ (zip-long (IsAwayOf cabs h) places away all-away ∙ sym many)

pub bad_of-requires-clause-lost : goal.bad_of-requires-clause-lost
bad_of-requires-clause-lost c =
    let p = c.args.project.now in
    let cabs = c.args.cabs.now in
    let h : Homes = c.in_ok-homes.homes in
    let places : List PlaceRow = c.in_ok-places.field-0.places in
    let spoils : List (List Guid) = c.in_ok-spoils.field-0.spoils in
    let all-spoils : AllZip (IsSpoilsOf p cabs h places) places spoils = subst (λ (ps : List PlaceRow). AllZip (IsSpoilsOf p cabs h ps) ps spoils) c.as_slice.ensures c.in_ok-spoils.ensures.spoils in
    let many : length c.as_slice-2.result.now ≡ length places = ap length c.as_slice-2.ensures ∙ zip-long (IsSpoilsOf p cabs h places) places spoils all-spoils in
    ap length c.as_slice-4.ensures ∙ (c.in_ok-places.ensures.lost ∙ sym many)

pub doubtful-requires-clause-bad : goal.doubtful-requires-clause-bad
doubtful-requires-clause-bad c =
    let p = c.args.project.now in
    let cabs = c.args.cabs.now in
    let h : Homes = c.in_ok-homes.homes in
    let places : List PlaceRow = c.in_ok-places.field-0.places in
    let spoils : List (List Guid) = c.in_ok-spoils.field-0.spoils in
    let all-spoils : AllZip (IsSpoilsOf p cabs h places) places spoils = subst (λ (ps : List PlaceRow). AllZip (IsSpoilsOf p cabs h ps) ps spoils) c.as_slice.ensures c.in_ok-spoils.ensures.spoils in
    let many : length c.as_slice-2.result.now ≡ length places = ap length c.as_slice-2.ensures ∙ zip-long (IsSpoilsOf p cabs h places) places spoils all-spoils in
    let same : length c.as_slice-2.result.now ≡ length c.as_slice-5.result.now = many ∙ sym (ap length c.as_slice-5.ensures ∙ c.in_ok-places.ensures.many) in
    subst (λ (ns : List ℕ). All (λ i. i < length c.as_slice-5.result.now) ns) (sym c.as_slice-6.ensures)
    (bad-below c.as_slice-2.result.now c.as_slice-3.result.now c.as_slice-4.result.now (length c.as_slice-2.result.now) (length c.as_slice-5.result.now) c.in_ok-bad.bad c.in_ok-bad.ensures same)

pub returns : goal.returns
returns c =
    let p = c.args.project.now in
    let cabs = c.args.cabs.now in
    let h : Homes = c.in_ok-homes.homes in
    let homes = c.in_ok-homes.ensures in
    let graph = c.in_ok-places.ensures in
    let places : List PlaceRow = c.in_ok-places.field-0.places in
    let rows : List (List ℕ) = c.in_ok-places.field-0.rows in
    let lost : List (Option Guid) = c.in_ok-places.field-0.lost in
    let spoils : List (List Guid) = c.in_ok-spoils.field-0.spoils in
    let away : List (Option Guid) = c.in_ok-spoils.field-0.away in
    let bad : List ℕ = c.in_ok-bad.bad in
    let refs : List (List ℕ) = c.in_ok-refs.refs in
    let R : Asset → List ℕ → Type 0 = λ asset row. AreFound (number_under h.numbers) asset.refs row in
    let all-spoils : AllZip (IsSpoilsOf p cabs h places) places spoils = subst (λ (ps : List PlaceRow). AllZip (IsSpoilsOf p cabs h ps) ps spoils) c.as_slice.ensures c.in_ok-spoils.ensures.spoils in
    let all-away : AllZip (IsAwayOf cabs h) places away = subst (λ (ps : List PlaceRow). AllZip (IsAwayOf cabs h) ps away) c.as_slice.ensures c.in_ok-spoils.ensures.away in
    let spoils-many : length spoils ≡ length places = zip-long (IsSpoilsOf p cabs h places) places spoils all-spoils in
    let away-many : length away ≡ length places = zip-long (IsAwayOf cabs h) places away all-away in
    let first : AreBadBelow spoils c.as_slice-3.result.now c.as_slice-4.result.now (length spoils) bad = subst (λ (z : List (List Guid)). AreBadBelow z c.as_slice-3.result.now c.as_slice-4.result.now (length z) bad) c.as_slice-2.ensures c.in_ok-bad.ensures in
    let second : AreBadBelow spoils away c.as_slice-4.result.now (length spoils) bad = subst (λ (z : List (Option Guid)). AreBadBelow spoils z c.as_slice-4.result.now (length spoils) bad) c.as_slice-3.ensures first in
    let third : AreBadBelow spoils away lost (length spoils) bad = subst (λ (z : List (Option Guid)). AreBadBelow spoils away z (length spoils) bad) c.as_slice-4.ensures second in
    let are-bad : AreBadBelow spoils away lost (length places) bad = subst (λ k. AreBadBelow spoils away lost k bad) spoils-many third in
    let list = subst (λ (rs : List (List ℕ)). IsListOf nat_cmp (IsDoubtful rs bad) c.in_ok-doubted.doubted) c.as_slice-5.ensures (subst (λ (ns : List ℕ). IsListOf nat_cmp (IsDoubtful c.as_slice-5.result.now ns) c.in_ok-doubted.doubted) c.as_slice-6.ensures c.in_ok-doubted.ensures) in
    record {
      sized = record {
        few = graph.few;
        rising = sorted-from places graph.ordered;
        rows = graph.many;
        spoils = spoils-many;
        away = away-many ∙ sym graph.many;
        below = graph.below;
        refs = zip-long R p.assets refs c.in_ok-refs.ensures;
        refs_below = refs-below p c.kept.ensures (number_under h.numbers) homes.numbers refs c.in_ok-refs.ensures;
        doubted = list.rising;
      };
      find = number_under h.numbers;
      numbers = homes.numbers;
      refs = c.in_ok-refs.ensures;
      homes = h;
      are_homes = homes;
      spoils = all-spoils;
      away = all-away;
      lost = lost;
      bad = bad;
      are_bad = are-bad;
      doubted = list;
      graph = λ was named shows. graph.graph was named shows;
      one = λ was shows. graph.one was shows;
    }
