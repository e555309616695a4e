use Rattle.std.proofs.Common.{sym, ap, ◌∙◌}
use Rattle.std.specs.Option.{option_or}
use Rattle.std.specs.Prelude.{reverse}
use Rattle.addr_base.specs.Files.{file_at}
use Rattle.addr_base.proofs.FileLemmas.{file_laid}
use Rattle.addr_base.proofs.mem_depot.MemDepot.file.Goals as goal

pub returns-in-Some : goal.returns-in-Some
returns-in-Some c =
    let name = c.args.name.now in
    ap (λ found. option_or found (file_at name c.args.self.now.first.items)) (c.in-Some.ensures ∙ ap (λ puts. file_at name (reverse puts)) c.deref.ensures.value)
    ∙ sym (file_laid name c.args.self.now.first.items c.args.self.now.puts.items)

pub returns-in-None : goal.returns-in-None
returns-in-None c =
    let name = c.args.name.now in
    c.find_file.ensures ∙ ap (file_at name) c.deref-in-None.ensures.value
    ∙ ap (λ found. option_or found (file_at name c.args.self.now.first.items)) (c.in-None.ensures ∙ ap (λ puts. file_at name (reverse puts)) c.deref.ensures.value)
    ∙ sym (file_laid name c.args.self.now.first.items c.args.self.now.puts.items)
