use Rattle.std.proofs.Common.{◌≡◌, ◌∙◌, Some, IfSome, [], ◌∷◌, subst}
use Rattle.addr_base.specs.Files.{SameStore, file_at}
use Rattle.addr_base.specs.Ids.{digest_of, hex_of}
use Rattle.addr_release.specs.Names.{catalogue_path, hash_path}
use Rattle.addr_release.specs.Puts.{catalogue_put, hash_put}
use Rattle.addr_build.specs.Moments.{LaysAll, LaysSome}
use Rattle.addr_build.specs.Putting.{file_of}
use Rattle.addr_build.proofs.EndLemmas.{lays-err}
use Rattle.addr_build.proofs.PutLemmas.{again-one, again-two, lays-more, lays-then, lays-all-then}
use Rattle.addr_build.proofs.catalogue_puts.put_catalogue.Goals as goal

pub returns-in_err-put_anew-clause-puts : goal.returns-in_err-put_anew-clause-puts
returns-in_err-put_anew-clause-puts g c =
    let first = catalogue_put c.args.folder.now c.args.bytes.now ∷ [] in
    let second = hash_put c.args.folder.now c.args.bytes.now ∷ [] in
    lays-err _ _ _ c.from_residual-in_err-put_anew.result c.from_residual-in_err-put_anew.ensures.0
    (lays-more first second (g.D.Depot.now c.args.depot.now) (g.D.Depot.now c.put_anew.new.depot) c.in_err-put_anew.ensures.puts)

pub returns-in_err-put_anew-2-clause-puts : goal.returns-in_err-put_anew-2-clause-puts
returns-in_err-put_anew-2-clause-puts g c =
    let first = catalogue_put c.args.folder.now c.args.bytes.now ∷ [] in
    let second = hash_put c.args.folder.now c.args.bytes.now ∷ [] in
    let same = c.as_bytes.ensures ∙ c.in_ok-digits.ensures in
    lays-err _ _ _ c.from_residual-in_err-put_anew-2.result c.from_residual-in_err-put_anew-2.ensures.0
    (lays-then first second (g.D.Depot.now c.args.depot.now) (g.D.Depot.now c.put_anew.new.depot) (g.D.Depot.now c.put_anew-2.new.depot) c.in_ok-put_anew.ensures.puts
    (subst (λ bytes. LaysSome (file_of (hash_path c.args.folder.now) bytes ∷ []) (g.D.Depot.now c.put_anew.new.depot) (g.D.Depot.now c.put_anew-2.new.depot)) same c.in_err-put_anew-2.ensures.puts))

pub returns-clause-puts : goal.returns-clause-puts
returns-clause-puts g c =
    let first = catalogue_put c.args.folder.now c.args.bytes.now ∷ [] in
    let second = hash_put c.args.folder.now c.args.bytes.now ∷ [] in
    let same = c.as_bytes.ensures ∙ c.in_ok-digits.ensures in
    lays-all-then first second (g.D.Depot.now c.args.depot.now) (g.D.Depot.now c.put_anew.new.depot) (g.D.Depot.now c.put_anew-2.new.depot) c.in_ok-put_anew.ensures.puts
    (subst (λ bytes. LaysAll (file_of (hash_path c.args.folder.now) bytes ∷ []) (g.D.Depot.now c.put_anew.new.depot) (g.D.Depot.now c.put_anew-2.new.depot)) same c.in_ok-put_anew-2.ensures.puts)

pub returns-in_err-put_anew-clause-again : goal.returns-in_err-put_anew-clause-again
returns-in_err-put_anew-clause-again g c =
    let folder = c.args.folder.now in
    again-one (g.D.Depot.now c.args.depot.now) (g.D.Depot.now c.put_anew.new.depot) (λ files. file_at (catalogue_path folder) files ≡ Some c.args.bytes.now) (λ files. file_at (hash_path folder) files ≡ Some (hex_of (digest_of c.args.bytes.now)))
    c.in_err-put_anew.ensures.again

pub returns-in_err-put_anew-2-clause-again : goal.returns-in_err-put_anew-2-clause-again
returns-in_err-put_anew-2-clause-again g c =
    let folder = c.args.folder.now in
    let mid = g.D.Depot.now c.put_anew.new.depot in
    let new = g.D.Depot.now c.put_anew-2.new.depot in
    again-two (g.D.Depot.now c.args.depot.now) mid new (λ files. file_at (catalogue_path folder) files ≡ Some c.args.bytes.now) (λ files. file_at (hash_path folder) files ≡ Some (hex_of (digest_of c.args.bytes.now)))
    c.in_ok-put_anew.ensures.again
    (subst (λ bytes. IfSome mid.files (λ files. file_at (hash_path folder) files ≡ Some bytes → SameStore mid new)) (c.as_bytes.ensures ∙ c.in_ok-digits.ensures) c.in_err-put_anew-2.ensures.again)

pub returns-clause-again : goal.returns-clause-again
returns-clause-again g c =
    let folder = c.args.folder.now in
    let mid = g.D.Depot.now c.put_anew.new.depot in
    let new = g.D.Depot.now c.put_anew-2.new.depot in
    again-two (g.D.Depot.now c.args.depot.now) mid new (λ files. file_at (catalogue_path folder) files ≡ Some c.args.bytes.now) (λ files. file_at (hash_path folder) files ≡ Some (hex_of (digest_of c.args.bytes.now)))
    c.in_ok-put_anew.ensures.again
    (subst (λ bytes. IfSome mid.files (λ files. file_at (hash_path folder) files ≡ Some bytes → SameStore mid new)) (c.as_bytes.ensures ∙ c.in_ok-digits.ensures) c.in_ok-put_anew-2.ensures.again)
