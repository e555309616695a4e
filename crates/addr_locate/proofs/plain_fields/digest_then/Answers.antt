use Rattle.std.proofs.Common.{◌≡◌, sym, ap, List, ℕ, Some}
use Rattle.addr_base.specs.Ids.{hex_of}
use Rattle.addr_base.specs.declared.ids.Digest.{Digest}
use Rattle.addr_locate.proofs.FieldLemmas.{cut_is, hex_free_of_space}
use Rattle.addr_locate.proofs.plain_fields.digest_then.Goals as goal

pub returns-in-Some-parse_hex-clause-only : goal.returns-in-Some-parse_hex-clause-only
returns-in-Some-parse_hex-clause-only c = λ d rest is.
    let same = cut_is 32 c.args.text.now c.in-Some.digits.now c.in-Some.rest.now (hex_of d.0) rest c.in-Some.ensures (hex_free_of_space d.0) is.1 in
    let read : c.parse_hex.result ≡ Some d.0 = c.parse_hex.ensures.again d.0 is.0 same.0 in
    let own : d.0 ≡ c.in-Some-parse_hex.bytes = cc (read, c.in-Some-parse_hex.is) in
    (ap {B = Digest} (λ (x : List ℕ). record { 0 = x }) own, sym same.1)

pub returns-in-None-parse_hex-clause-found : goal.returns-in-None-parse_hex-clause-found
returns-in-None-parse_hex-clause-found c = λ d rest is.
    let same = cut_is 32 c.args.text.now c.in-Some.digits.now c.in-Some.rest.now (hex_of d.0) rest c.in-Some.ensures (hex_free_of_space d.0) is.1 in
    c.in-None-parse_hex.ensures.reads d.0 is.0 same.0
