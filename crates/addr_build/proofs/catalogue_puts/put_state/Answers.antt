use Rattle.std.proofs.Common.{[], ◌∷◌, Bool, Some, subst, sym}
use Rattle.addr_release.specs.Names.{digest_from, state_file}
use Rattle.addr_release.specs.Puts.{state_put}
use Rattle.addr_build.specs.Endings.{Ends, name_tests}
use Rattle.addr_build.specs.declared.error.PutErr.TheVariants.{NoMemory}
use Rattle.addr_build.proofs.EndLemmas.{ends-memory, err-is}
use Rattle.addr_build.proofs.catalogue_puts.put_state.Goals as goal

pub returns-in_err-name-clause-ends : goal.returns-in_err-name-clause-ends
returns-in_err-name-clause-ends g c =
    let folder = c.args.folder.now in
    let bytes = c.args.bytes.now in
    let tests = name_tests 0 (state_file (Some (digest_from bytes))) bytes in
    let old = g.D.Depot.now c.args.depot.now in
    subst (λ r. Ends {T = Bool} folder (state_put folder bytes ∷ []) 0 tests old old r) (sym (err-is c.from_residual.result NoMemory c.from_residual.ensures.1))
    (ends-memory Bool folder (state_put folder bytes ∷ []) tests old)
