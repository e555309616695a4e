use Rattle.std.proofs.Common.{◌∙◌, sym}
use Rattle.std.specs.BTreeMap.{get}
use Rattle.addr_locate.proofs.LookupLemmas.{none_from, some_from}
use Rattle.addr_objects.specs.within.Homes.{digest_cmp}
use Rattle.addr_objects.proofs.HomeLemmas.{homes-pass, homes-put, known-name}
use Rattle.addr_objects.proofs.homes.add_name.Goals as goal

pub returns-in-None : goal.returns-in-None
returns-in-None c = λ needs homes. homes-pass c.args.bundles.now needs c.args.b c.args.by_name.now (λ name named. absurd (c.in-None.ensures name named)) homes

pub returns-then-is_some : goal.returns-then-is_some
returns-then-is_some c = λ needs homes.
    let m = c.args.by_name.now in
    let there = some_from c.get.result (get digest_cmp m c.in-Some.name) c.get.ensures.value (sym c.is_some.ensures ∙ c.if-is_some.true) in
    homes-pass c.args.bundles.now needs c.args.b m (known-name c.args.bundles.now m c.in-Some.name c.args.b c.in-Some.ensures there) homes

pub returns-in_ok-insert-in-Some : goal.returns-in_ok-insert-in-Some
returns-in_ok-insert-in-Some c = λ needs homes.
    let m = c.args.by_name.now in
    let absent = none_from c.get.result (get digest_cmp m c.in-Some.name) c.get.ensures.value (sym c.is_some.ensures ∙ c.if-is_some.false) in
    homes-put c.args.bundles.now needs c.args.b c.in-Some.name m c.insert.new.self c.in-Some.ensures absent c.in_ok-insert-in-Some.ensures.updates.0 homes
