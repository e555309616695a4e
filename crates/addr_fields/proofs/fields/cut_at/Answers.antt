use Rattle.std.proofs.Common.{◌∙◌, sym}
use Rattle.addr_fields.proofs.CutLemmas.{cut_at_place, no_place}
use Rattle.addr_fields.proofs.fields.cut_at.Goals as goal

pub returns-in-Some : goal.returns-in-Some
returns-in-Some c = cut_at_place c.args.mark c.args.text.now c.in-Some.at (sym c.place_of.ensures ∙ c.in-Some.is)

pub returns-in-None : goal.returns-in-None
returns-in-None c = no_place c.args.mark c.args.text.now (sym c.place_of.ensures ∙ c.in-None.is)
