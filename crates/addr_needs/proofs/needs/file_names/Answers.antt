use Rattle.std.proofs.Common.{◌≡◌, List, Some, sym, ap, subst, ◌∙◌, arith}
use Rattle.std.proofs.lemmas.Option.{slice_get-get_or, slice_get_within}
use Rattle.std.specs.Ordering.{nat_cmp}
use Rattle.addr_cab.specs.Lookup.{Held}
use Rattle.addr_cab.specs.declared.object.ObjectRow.{ObjectRow}
use Rattle.addr_layout.proofs.RankLemmas.{same-some}
use Rattle.addr_walks.specs.Walks.{IsListOf}
use Rattle.addr_needs.specs.within.Naming.{FileNames, ObjectNames}
use Rattle.addr_needs.proofs.NamingLemmas.{no-names}
use Rattle.addr_needs.proofs.RowLemmas.{file-some}
use Rattle.addr_needs.proofs.needs.file_names.Goals as goal

pub returns-in-None : goal.returns-in-None
returns-in-None c = λ plan names. no-names (FileNames plan c.args.cabs.now c.args.number c.args.b) c.new.result c.new.ensures (λ d (m, is, held, at, more). cc (sym c.in-None.is ∙ is))

pub returns-in-None-get : goal.returns-in-None-get
returns-in-None-get c = λ plan names.
    no-names (FileNames plan c.args.cabs.now c.args.number c.args.b) c.new-in-None-get.result c.new-in-None-get.ensures
    (λ d (m, is, held, at, more).
    (let same : c.in-Some.m ≡ m = same-some c.in-Some.m m (sym c.in-Some.is ∙ is) in
    let within = slice_get_within c.args.cabs.now m held at in
    let past = c.in-None-get.ensures.lookup.3 in
    omega (arith, same, within, past)))

pub returns-in_ok-row-in-Some-get : goal.returns-in_ok-row-in-Some-get
returns-in_ok-row-in-Some-get c = λ plan names.
    let row = c.in_ok-row-in-Some-get.row in
    let list = subst (λ (os : List ObjectRow). IsListOf nat_cmp (ObjectNames plan c.args.b os) row) c.objects.ensures.rows (c.in_ok-row-in-Some-get.ensures plan names) in
    let found = c.in-Some-get.ensures.lookup.3 in
    let cab : Held = c.in-Some-get.cab.now in
    let at = slice_get-get_or c.args.cabs.now c.in-Some.m cab found.0 ∙ ap Some (sym (found.1 cab)) in
    file-some plan c.args.cabs.now c.args.number c.in-Some.m c.args.b cab row c.in-Some.is at list
