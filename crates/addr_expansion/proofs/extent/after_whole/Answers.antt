use Rattle.std.proofs.Common.{subst, arith}
use Rattle.addr_expansion.specs.Expansion.{end_of_lengths}
use Rattle.addr_expansion.specs.Extents.{IsExtent}
use Rattle.addr_expansion.proofs.ExpansionLemmas.{short_joined}
use Rattle.addr_expansion.proofs.extent.after_whole.Goals as goal

pub returns-in-Long : goal.returns-in-Long
returns-in-Long c = λ short b is.
    let (y, b_is, big, m_is) = subst (λ e. IsExtent e b) c.in-Long.is is in
    short_joined end_of_lengths c.in-Long.length c.saturating_add.result c.args.text b y b_is big m_is (omega (arith, c.saturating_add.ensures, c.len.ensures))
