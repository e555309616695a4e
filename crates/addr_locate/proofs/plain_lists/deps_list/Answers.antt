use Rattle.std.proofs.Common.{◌≡◌, ◌∙◌, false, ap, sym}
use Rattle.std.proofs.lemmas.Bool.{false≢true}
use Rattle.addr_locate.specs.Rows.{has_sound_deps}
use Rattle.addr_locate.proofs.ElementLemmas.{sound_numbers}
use Rattle.addr_locate.proofs.plain_lists.deps_list.Goals as goal

pub returns-else-sound : goal.returns-else-sound
returns-else-sound c = λ deps sound is.
    let only = rw c.in-Some.is at c.in_ok-deps.ensures.only in
    let same : deps ≡ c.in-Some.deps = only deps (sound_numbers c.args.count c.ranges.count.fits c.args.field.now deps sound is) in
    let unsound : has_sound_deps c.args.count c.in-Some.deps ≡ false = sym (c.in_ok-sound-in-Some.ensures ∙ ap (has_sound_deps c.args.count) c.as_slice.ensures) ∙ c.if-sound.false in
    false≢true (sym unsound ∙ (ap (has_sound_deps c.args.count) (sym same) ∙ sound))

pub returns-in-None : goal.returns-in-None
returns-in-None c = λ deps sound is.
    let none = rw c.in-None.is at c.in_ok-deps.ensures.found in
    none deps (sound_numbers c.args.count c.ranges.count.fits c.args.field.now deps sound is)
