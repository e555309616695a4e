use Rattle.std.proofs.Common.{◌≡◌, ◌≢◌, get_or, refl}
use Rattle.addr_needs.proofs.NamingLemmas.{adds-all, adds-more}
use Rattle.addr_needs.proofs.naming.add_others.Goals as goal

pub loop-c-preserved : goal.loop-c-preserved
loop-c-preserved c =
    let numbers = c.args.numbers.now in
    let i = c.loop-c.c-index in
    adds-more (λ x d. (c.args.b ≢ d) × (x ≡ d)) numbers i (get_or numbers i 0) 0 c.args.row.now.items c.loop-c.row.items c.add_other.new.row.items c.loop-c-test.true refl c.loop-c.invariant c.in_ok-add_other.ensures

pub returns : goal.returns
returns c = adds-all (λ x d. (c.args.b ≢ d) × (x ≡ d)) c.args.numbers.now c.loop-c.c-index c.args.row.now.items c.loop-c.row.items c.loop-c-test.false c.loop-c.invariant
