use Rattle.std.proofs.Common.{Ok, ap, Some, [], ◌∷◌, ◌++◌, Bool, subst, sym}
use Rattle.addr_release.specs.Names.{digest_from, state_file, state_path}
use Rattle.addr_release.specs.Puts.{catalogue_put, hash_put, state_put}
use Rattle.addr_build.specs.Endings.{Ends, name_tests}
use Rattle.addr_build.specs.Putting.{AreListed}
use Rattle.addr_build.specs.within.FromDepot.{of_depot}
use Rattle.addr_build.proofs.EndLemmas.{ends-more, ends-some, err-is}
use Rattle.addr_build.proofs.PutLemmas.{again-state, lays-then, lays-all-then}
use Rattle.addr_build.proofs.catalogue_puts.put_state_and_catalogue.Goals as goal

pub returns-in_err-put_state-clause-ends : goal.returns-in_err-put_state-clause-ends
returns-in_err-put_state-clause-ends g c =
    let folder = c.args.folder.now in
    let first = state_put folder c.args.state.now ∷ [] in
    let later = catalogue_put folder c.args.catalogue.now ∷ hash_put folder c.args.catalogue.now ∷ [] in
    let tests = name_tests 0 (state_file (Some (digest_from c.args.state.now))) c.args.state.now in
    let old = g.D.Depot.now c.args.depot.now in
    let new = g.D.Depot.now c.put_state.new.depot in
    subst (λ r. Ends {T = Unit {0}} folder (first ++ later) 0 tests old new r) (sym (err-is c.from_residual.result c.in_err-put_state.field-0.0 c.from_residual.ensures.1))
    (ends-more Bool (Unit {0}) folder first later 0 tests old new c.in_err-put_state.field-0.0 c.in_err-put_state.ensures.ends)

pub returns-in_err-put_catalogue-clause-ends : goal.returns-in_err-put_catalogue-clause-ends
returns-in_err-put_catalogue-clause-ends g c =
    let folder = c.args.folder.now in
    let first = state_put folder c.args.state.now ∷ [] in
    let later = catalogue_put folder c.args.catalogue.now ∷ hash_put folder c.args.catalogue.now ∷ [] in
    let tests = name_tests 0 (state_file (Some (digest_from c.args.state.now))) c.args.state.now in
    let old = g.D.Depot.now c.args.depot.now in
    let mid = g.D.Depot.now c.put_state.new.depot in
    let new = g.D.Depot.now c.put_catalogue.new.depot in
    let cause = c.in_err-put_catalogue.field-0.0 in
    subst (λ r. Ends {T = Unit {0}} folder (first ++ later) 0 tests old new r) (sym (err-is c.from_residual-in_err-put_catalogue.result (of_depot cause) c.from_residual-in_err-put_catalogue.ensures.1))
    (ends-some (Unit {0}) folder (first ++ later) 0 tests old new cause (lays-then first later old mid new c.in_ok-put_state.ensures.ends.0 c.in_err-put_catalogue.ensures.puts) c.in_ok-put_state.ensures.ends.1)

pub returns-clause-ends : goal.returns-clause-ends
returns-clause-ends g c =
    let folder = c.args.folder.now in
    let first = state_put folder c.args.state.now ∷ [] in
    let later = catalogue_put folder c.args.catalogue.now ∷ hash_put folder c.args.catalogue.now ∷ [] in
    (lays-all-then first later (g.D.Depot.now c.args.depot.now) (g.D.Depot.now c.put_state.new.depot) (g.D.Depot.now c.put_catalogue.new.depot) c.in_ok-put_state.ensures.ends.0 c.in_ok-put_catalogue.ensures.puts, c.in_ok-put_state.ensures.ends.1)

pub returns-clause-again : goal.returns-clause-again
returns-clause-again g c =
    let folder = c.args.folder.now in
    let bytes = c.args.state.now in
    again-state (g.D.Depot.now c.args.depot.now) (g.D.Depot.now c.put_state.new.depot) (g.D.Depot.now c.put_catalogue.new.depot) (state_path folder (Some (digest_from bytes))) bytes c.in_ok-put_state.field-0 (AreListed folder c.args.catalogue.now)
    c.in_ok-put_state.ensures.put (λ is. c.in_ok-put_state.ensures.again (ap Ok is)) c.in_ok-put_catalogue.ensures.again
