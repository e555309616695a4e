use Rattle.std.proofs.Common.{Result, ℕ, subst, arith}
use Rattle.addr_keys.specs.declared.key.Key.{Key}
use Rattle.addr_keys.specs.declared.error.KeyErr.{KeyErr}
use Rattle.addr_keys.specs.declared.error.KeyErr.TheVariants.{NoMemory}
use Rattle.addr_reading.specs.Gives.{Gives}
use Rattle.addr_reading.proofs.StepLaws.{if_gives}
use Rattle.addr_keys.specs.Format.{KeyAt}
use Rattle.addr_keys.proofs.KeyLemmas.{is_found, is_read}
use Rattle.addr_keys.proofs.NamedLemmas.{key_named}
use Rattle.addr_keys.proofs.reader.read_key.Goals as goal

pub returns-clause-found : goal.returns-clause-found
returns-clause-found c = if_gives NoMemory (λ x. x) (λ (x : Key × ℕ). KeyAt c.args.bytes.now c.args.at x.0 x.1) c.key_from.result _ (λ x. is_found c.args.bytes.now c.args.at x (λ i. omega (arith, c.type_inv.bytes i))) c.key_from.ensures.exact

pub returns-clause-only : goal.returns-clause-only
returns-clause-only c = λ key end is. subst (λ (x : Result (Key × ℕ) KeyErr). Gives NoMemory (λ y. y) c.key_from.result x) (is_read c.args.bytes.now c.args.at key end is) c.key_from.ensures.exact

pub returns-clause-named : goal.returns-clause-named
returns-clause-named c = key_named c.args.bytes.now c.args.at

pub returns-clause-law : goal.returns-clause-law
returns-clause-law c = λ key end. (is_read c.args.bytes.now c.args.at key end, is_found c.args.bytes.now c.args.at (key, end) (λ i. omega (arith, c.type_inv.bytes i)))
