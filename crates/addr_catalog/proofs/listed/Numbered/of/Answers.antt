use Rattle.std.proofs.Common.{◌∙◌, ap, is_some, map, take, arith}
use Rattle.std.specs.BTreeMap.{get}
use Rattle.addr_locate.proofs.LookupLemmas.{none_from, some_from}
use Rattle.addr_catalog.proofs.ListedLemmas.{HasPlaces-put, lacks, once-put, once-pass, few_once}
use Rattle.addr_catalog.proofs.listed.Numbered.of.Goals as goal
use Rattle.addr_catalog.proofs.listed.Numbered.of.Goals.{then-is_none+in_ok-insert+in_ok-push, else-is_none}

pub loop-key-preserved : goal.loop-key-preserved
loop-key-preserved g c =
    let list = g.K.Listed.list in
    let cmp = g.K.Ord.cmp in
    let before = map list (take c.loop-key.key-index c.args.keys.now) in
    let found = get cmp c.loop-key.places c.key-item.result in
    let known = lacks cmp list c.loop-key.once.items c.key-item.result c.loop-key.places before c.loop-key.invariant.places c.loop-key.invariant.once in
    elim c.if-is_none.branch [
      | then-is_none+in_ok-insert+in_ok-push w ↦
          let absent = none_from c.get.result found c.get.ensures.value w.if-is_none.ensures in
          let once = once-put list c.args.keys.now c.loop-key.once.items c.loop-key.key-index c.key-item.result c.key-item.is c.loop-key-test.true c.loop-key.invariant.once (known ∙ ap is_some absent) in
          let places = HasPlaces-put cmp list c.loop-key.once.items c.key-item.result c.loop-key.places w.insert.new.self w.len.result g.met.K.Listed.compares c.loop-key.invariant.places absent (w.len.ensures ∙ c.loop-key.once.ok.0) (w.in_ok-insert.ensures.updates.0) in
          rw (w.once-is, w.places-is, w.in_ok-push.ensures.items) (record { once = once; places = places })
      | else-is_none w ↦
          let there = some_from c.get.result found c.get.ensures.value w.if-is_none.ensures in
          let once = once-pass list c.args.keys.now c.loop-key.once.items c.loop-key.key-index c.key-item.result c.key-item.is c.loop-key-test.true c.loop-key.invariant.once (known ∙ there) in
          rw (w.once-is, w.places-is) (record { once = once; places = c.loop-key.invariant.places })
    ]

pub overflow_cast-len : goal.overflow_cast-len
overflow_cast-len g c =
    let few = few_once g.K.Listed.list c.args.keys.now c.loop-key.once.items c.loop-key.key-index c.loop-key.invariant.once in
    omega (arith, few, c.requires, c.len.ensures, c.loop-key.once.ok.0)
