use Rattle.std.proofs.Common.{◌≡◌, take, string_bytes}
use Rattle.std.specs.List.{flat_map}
use Rattle.addr_base.specs.Tokens.{token_byte}
use Rattle.addr_base.proofs.tokens.escaped.Given as goal

abbrev pub invariant-loop-byte : goal.invariant-loop-byte
invariant-loop-byte l = string_bytes l.token ≡ flat_map token_byte (take l.byte-index l.text)
