use Rattle.std.proofs.Common.{◌∙◌, length, map, bytes_eq, unwrap_or, sym, ap}
use Rattle.std.proofs.lemmas.List.{length-map}
use Rattle.addr_locate.proofs.NumberLemmas.{place_or_end-position}
use Rattle.addr_catalog.proofs.listed.Numbered.place.Goals as goal

pub returns-in-None : goal.returns-in-None
returns-in-None g c =
    let list = g.K.Listed.list in
    let lists = map list c.args.self.now.once.items in
    let count = c.len.ensures ∙ (c.args.self.now.once.ok.0 ∙ sym (length-map c.args.self.now.once.items list)) in
    let absent = c.in-None.ensures.value ∙ c.args.self.now.holds c.args.key.now in
    count ∙ (ap (λ o. unwrap_or o (length lists)) absent ∙ place_or_end-position (λ t. bytes_eq t (list c.args.key.now)) lists)
