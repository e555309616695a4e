use Rattle.std.proofs.Common.{◌≡◌, ◌∙◌, None, position, length, rules, ap, sym}
use Rattle.std.specs.Str.{bytes_eq}
use Rattle.addr_locate.specs.Rows.{place_of}
use Rattle.addr_locate.proofs.NameLemmas.{with_text-known, with_text-new, place_of-new}
use Rattle.addr_locate.proofs.names.Names.number.Goals as goal

pub returns-in-Some-clause-texts : goal.returns-in-Some-clause-texts
returns-in-Some-clause-texts c = with_text-known c.args.self.now c.args.text c.in-Some.place (c.in-Some.ensures ∙ ap (λ t. position (λ u. bytes_eq u t) c.args.self.now) c.as_str.ensures)

pub returns-clause-texts : goal.returns-clause-texts
returns-clause-texts c =
    let absent : position (λ u. bytes_eq u c.args.text) c.args.self.now ≡ None = ap (λ t. position (λ u. bytes_eq u t) c.args.self.now) (sym c.as_str.ensures) ∙ sym c.in_default.ensures in
    c.in_ok-add.ensures ∙ sym (with_text-new c.args.self.now c.args.text absent)

pub returns-clause-place : goal.returns-clause-place
returns-clause-place c =
    let absent : position (λ u. bytes_eq u c.args.text) c.args.self.now ≡ None = ap (λ t. position (λ u. bytes_eq u t) c.args.self.now) (sym c.as_str.ensures) ∙ sym c.in_default.ensures in
    let last : c.in-Ok.place ≡ length c.args.self.now = search rules in
    last ∙ sym (ap (λ ts. place_of ts c.args.text) c.in_ok-add.ensures ∙ place_of-new c.args.self.now c.args.text absent)
