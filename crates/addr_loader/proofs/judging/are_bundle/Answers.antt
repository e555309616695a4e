use Rattle.std.proofs.Common.{rules, arith}
use Rattle.addr_loader.proofs.judging.are_bundle.Goals as goal

pub returns : goal.returns
returns c = (c.bundle_laws.ensures.meant c.args.file.now c.args.bundle.now (λ i. omega (arith, c.type_inv.file i)) (search rules)).1 c.requires
