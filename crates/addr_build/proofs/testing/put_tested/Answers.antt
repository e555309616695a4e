use Rattle.std.proofs.Common.{arith, Bool, Ok, IfSome, [], ◌∷◌, subst, sym}
use Rattle.addr_project.specs.Reading.{path}
use Rattle.addr_build.specs.Endings.{Ends, name_tests}
use Rattle.addr_build.specs.within.FromDepot.{of_depot}
use Rattle.addr_build.specs.within.Testing.{Tells}
use Rattle.addr_build.specs.Putting.{file_of}
use Rattle.addr_build.proofs.EndLemmas.{ends-refused, ends-stopped, ends-there, err-is}
use Rattle.addr_build.proofs.testing.put_tested.Goals as goal

pub returns-in_err-is_owed-clause-ends : goal.returns-in_err-is_owed-clause-ends
returns-in_err-is_owed-clause-ends g c =
    let own = path c.args.folder.now c.args.name.now in
    let tests = name_tests 0 c.args.name.now c.args.bytes.now in
    let old = g.D.Depot.now c.args.depot.now in
    let new = g.D.Depot.now c.is_owed.new.depot in
    let e = c.in_err-is_owed.field-0.0 in
    subst (λ r. Ends {T = Bool} c.args.folder.now (file_of own c.args.bytes.now ∷ []) 0 tests old new r) (sym (err-is c.from_residual.result e c.from_residual.ensures.1))
    (ends-refused Bool c.args.folder.now (file_of own c.args.bytes.now ∷ []) tests own c.args.bytes.now old new e (omega arith) c.in_err-is_owed.ensures.same c.in_err-is_owed.ensures.tests)

pub returns-else-branch-clause-ends : goal.returns-else-branch-clause-ends
returns-else-branch-clause-ends g c =
    let own = path c.args.folder.now c.args.name.now in
    let tests = name_tests 0 c.args.name.now c.args.bytes.now in
    let old = g.D.Depot.now c.args.depot.now in
    ends-there c.args.folder.now tests own c.args.bytes.now old (g.D.Depot.now c.is_owed.new.depot) c.in_ok-is_owed.ensures.same
    (subst (λ owed. IfSome old.files (λ files. Tells files c.args.folder.now tests own c.args.bytes.now (Ok owed))) c.if-branch.false c.in_ok-is_owed.ensures.tests)

pub returns-in_err-put_at-clause-ends : goal.returns-in_err-put_at-clause-ends
returns-in_err-put_at-clause-ends g c =
    let own = path c.args.folder.now c.args.name.now in
    let tests = name_tests 0 c.args.name.now c.args.bytes.now in
    let old = g.D.Depot.now c.args.depot.now in
    let mid = g.D.Depot.now c.is_owed.new.depot in
    let new = g.D.Depot.now c.put_at.new.depot in
    let cause = c.in_err-put_at.field-0.0 in
    subst (λ r. Ends {T = Bool} c.args.folder.now (file_of own c.args.bytes.now ∷ []) 0 tests old new r) (sym (err-is c.from_residual-in_err-put_at.result (of_depot cause) c.from_residual-in_err-put_at.ensures.1))
    (ends-stopped Bool c.args.folder.now tests own c.args.bytes.now old mid new cause c.in_ok-is_owed.ensures.same
    (subst (λ owed. IfSome old.files (λ files. Tells files c.args.folder.now tests own c.args.bytes.now (Ok owed))) c.if-branch.true c.in_ok-is_owed.ensures.tests) c.in_err-put_at.ensures.puts)
