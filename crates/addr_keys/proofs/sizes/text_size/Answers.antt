use Rattle.std.proofs.Common.{◌∙◌, sym, ap, arith}
use Rattle.addr_keys.specs.Format.{is_ascii}
use Rattle.addr_keys.proofs.SizeLemmas.{ascii-size, wide-size}
use Rattle.addr_keys.proofs.sizes.text_size.Goals as goal

pub returns-then-is_ascii : goal.returns-then-is_ascii
returns-then-is_ascii c =
    let plain = sym (c.is_ascii.ensures ∙ ap is_ascii c.as_bytes.ensures.value) ∙ c.if-is_ascii.true in
    omega (arith, ascii-size c.args.text.now plain, c.saturating_add.ensures)

pub returns : goal.returns
returns c =
    let wide = sym (c.is_ascii.ensures ∙ ap is_ascii c.as_bytes.ensures.value) ∙ c.if-is_ascii.false in
    omega (arith, wide-size c.args.text.now wide, c.utf16_size.ensures, c.saturating_add-2.ensures)
