use Rattle.std.proofs.Common.{length, subst, arith}
use Rattle.addr_expansion.specs.Expansion.{end_of_lengths}
use Rattle.addr_expansion.specs.Extents.{IsExtent}
use Rattle.addr_expansion.proofs.ExpansionLemmas.{long_joined}
use Rattle.addr_expansion.proofs.extent.after_long.Goals as goal

pub returns-in-Whole : goal.returns-in-Whole
returns-in-Whole c = λ a b (x, a_is, long, n_is) is.
    let (b_is, short) = subst (λ e. IsExtent e b) c.in-Whole.is is in
    long_joined end_of_lengths c.args.length (length c.in-Whole.more) c.saturating_add.result a b x a_is long n_is c.in-Whole.more b_is (omega arith) (omega (arith, c.saturating_add.ensures, c.len.ensures))

pub returns-in-Long : goal.returns-in-Long
returns-in-Long c = λ a b (x, a_is, long, n_is) is.
    let (y, b_is, big, m_is) = subst (λ e. IsExtent e b) c.in-Long.is is in
    long_joined end_of_lengths c.args.length c.in-Long.more c.saturating_add-in-Long.result a b x a_is long n_is y b_is m_is (omega (arith, c.saturating_add-in-Long.ensures))
