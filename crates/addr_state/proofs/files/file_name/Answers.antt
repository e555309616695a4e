use Rattle.std.proofs.Common.{◌≡◌, ◌∙◌, ap, length, codes, refl}
use Rattle.addr_base.specs.Ids.{hex_of}
use Rattle.addr_state.specs.Files.{file_name}
use Rattle.addr_state.proofs.NameBytes.{digits_len, file_len}
use Rattle.addr_state.proofs.files.file_name.Goals as goal

pub returns-clause-len : goal.returns-clause-len
returns-clause-len c =
    let text : c.from_string.result ≡ file_name c.args.name.now c.args.digest = c.from_string.ensures ∙ c.in_ok-file.ensures.ok in
    ap length text ∙ file_len c.args.name.now (hex_of c.args.digest.0) (codes ".bundle") (digits_len c.args.digest.0 c.sixteen_bytes.ensures.sixteen) refl
