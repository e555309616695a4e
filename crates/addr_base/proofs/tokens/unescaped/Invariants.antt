use Rattle.std.proofs.Common.{◌≡◌, ◌++◌, drop}
use Rattle.addr_base.specs.LooseTokens.{loose_text}
use Rattle.addr_base.specs.declared.tokens.Place.TheVariants.{Plain}
use Rattle.addr_base.proofs.tokens.unescaped.Given as goal

abbrev pub invariant-loop-byte : goal.invariant-loop-byte
invariant-loop-byte l = l.text.items ++ loose_text l.place (drop l.byte-index l.token) ≡ loose_text Plain l.token
