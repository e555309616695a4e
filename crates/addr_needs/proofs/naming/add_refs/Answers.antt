use Rattle.std.proofs.Common.{get_or, refl}
use Rattle.addr_base.specs.declared.images.RefTo.{RefTo}
use Rattle.addr_needs.specs.within.Naming.{NamesOther}
use Rattle.addr_needs.proofs.NamingLemmas.{adds-all, adds-more, no-ref}
use Rattle.addr_needs.proofs.naming.add_refs.Goals as goal

pub loop-r-preserved : goal.loop-r-preserved
loop-r-preserved c = λ plan names.
    let refs = c.args.refs.now in
    let i = c.loop-r.r-index in
    adds-more (λ (r : RefTo). NamesOther plan c.args.b r.home) refs i (get_or refs i no-ref) no-ref c.args.row.now.items c.loop-r.row.items c.add_home.new.row.items c.loop-r-test.true refl (c.loop-r.invariant plan names) (c.in_ok-add_home.ensures plan names)

pub returns : goal.returns
returns c = λ plan names. adds-all (λ (r : RefTo). NamesOther plan c.args.b r.home) c.args.refs.now c.loop-r.r-index c.args.row.now.items c.loop-r.row.items c.loop-r-test.false (c.loop-r.invariant plan names)
